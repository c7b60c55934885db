-- The terminals of AADL by name: names, reserved words, symbols, and what the grammar knows by its kind alone.
use Rattle.std.specs.Prelude.{ℕ}

abbrev pub name : ℕ
name = 0

abbrev pub package_word : ℕ
package_word = 1

abbrev pub public_word : ℕ
public_word = 2

abbrev pub with_word : ℕ
with_word = 3

abbrev pub end_word : ℕ
end_word = 4

abbrev pub system_word : ℕ
system_word = 5

abbrev pub process_word : ℕ
process_word = 6

abbrev pub thread_word : ℕ
thread_word = 7

abbrev pub device_word : ℕ
device_word = 8

abbrev pub abstract_word : ℕ
abstract_word = 9

abbrev pub data_word : ℕ
data_word = 10

abbrev pub subprogram_word : ℕ
subprogram_word = 11

abbrev pub processor_word : ℕ
processor_word = 12

abbrev pub memory_word : ℕ
memory_word = 13

abbrev pub bus_word : ℕ
bus_word = 14

abbrev pub implementation_word : ℕ
implementation_word = 15

abbrev pub features_word : ℕ
features_word = 16

abbrev pub flows_word : ℕ
flows_word = 17

abbrev pub properties_word : ℕ
properties_word = 18

abbrev pub subcomponents_word : ℕ
subcomponents_word = 19

abbrev pub connections_word : ℕ
connections_word = 20

abbrev pub annex_word : ℕ
annex_word = 21

abbrev pub in_word : ℕ
in_word = 22

abbrev pub out_word : ℕ
out_word = 23

abbrev pub event_word : ℕ
event_word = 24

abbrev pub port_word : ℕ
port_word = 25

abbrev pub requires_word : ℕ
requires_word = 26

abbrev pub provides_word : ℕ
provides_word = 27

abbrev pub parameter_word : ℕ
parameter_word = 28

abbrev pub none_word : ℕ
none_word = 29

abbrev pub other_word : ℕ
other_word = 30

abbrev pub colons : ℕ
colons = 31

abbrev pub comma : ℕ
comma = 32

abbrev pub semicolon : ℕ
semicolon = 33

abbrev pub colon : ℕ
colon = 34

abbrev pub dot : ℕ
dot = 35

abbrev pub arrow : ℕ
arrow = 36

abbrev pub gives : ℕ
gives = 37

abbrev pub open_paren : ℕ
open_paren = 38

abbrev pub close_paren : ℕ
close_paren = 39

abbrev pub open_bracket : ℕ
open_bracket = 40

abbrev pub close_bracket : ℕ
close_bracket = 41

abbrev pub open_brace : ℕ
open_brace = 42

abbrev pub close_brace : ℕ
close_brace = 43

abbrev pub annex_text : ℕ
annex_text = 44

abbrev pub other_token : ℕ
other_token = 45
