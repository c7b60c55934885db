-- The terminals of an `agree` annex by name: what the grammar knows by its kind, reserved words, and symbols.
use Rattle.std.specs.Prelude.{ℕ}

abbrev pub name : ℕ
name = 0

abbrev pub number : ℕ
number = 1

abbrev pub text : ℕ
text = 2

abbrev pub assume_word : ℕ
assume_word = 3

abbrev pub guarantee_word : ℕ
guarantee_word = 4

abbrev pub lemma_word : ℕ
lemma_word = 5

abbrev pub eq_word : ℕ
eq_word = 6

abbrev pub assign_word : ℕ
assign_word = 7

abbrev pub const_word : ℕ
const_word = 8

abbrev pub node_word : ℕ
node_word = 9

abbrev pub returns_word : ℕ
returns_word = 10

abbrev pub var_word : ℕ
var_word = 11

abbrev pub let_word : ℕ
let_word = 12

abbrev pub tel_word : ℕ
tel_word = 13

abbrev pub int_word : ℕ
int_word = 14

abbrev pub bool_word : ℕ
bool_word = 15

abbrev pub true_word : ℕ
true_word = 16

abbrev pub false_word : ℕ
false_word = 17

abbrev pub pre_word : ℕ
pre_word = 18

abbrev pub prev_word : ℕ
prev_word = 19

abbrev pub if_word : ℕ
if_word = 20

abbrev pub then_word : ℕ
then_word = 21

abbrev pub else_word : ℕ
else_word = 22

abbrev pub and_word : ℕ
and_word = 23

abbrev pub or_word : ℕ
or_word = 24

abbrev pub not_word : ℕ
not_word = 25

abbrev pub div_word : ℕ
div_word = 26

abbrev pub mod_word : ℕ
mod_word = 27

abbrev pub other_word : ℕ
other_word = 28

abbrev pub colons : ℕ
colons = 29

abbrev pub comma : ℕ
comma = 30

abbrev pub semicolon : ℕ
semicolon = 31

abbrev pub colon : ℕ
colon = 32

abbrev pub dot : ℕ
dot = 33

abbrev pub open_paren : ℕ
open_paren = 34

abbrev pub close_paren : ℕ
close_paren = 35

abbrev pub arrow : ℕ
arrow = 36

abbrev pub implies : ℕ
implies = 37

abbrev pub iff : ℕ
iff = 38

abbrev pub less : ℕ
less = 39

abbrev pub at_most : ℕ
at_most = 40

abbrev pub more : ℕ
more = 41

abbrev pub at_least : ℕ
at_least = 42

abbrev pub equals : ℕ
equals = 43

abbrev pub differs : ℕ
differs = 44

abbrev pub plus : ℕ
plus = 45

abbrev pub minus : ℕ
minus = 46

abbrev pub times : ℕ
times = 47

abbrev pub other_token : ℕ
other_token = 48
