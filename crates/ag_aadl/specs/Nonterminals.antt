-- The nonterminals of the grammar by name.
use Rattle.std.specs.Prelude.{ℕ}

abbrev pub packages : ℕ
packages = 0

abbrev pub package_unit : ℕ
package_unit = 1

abbrev pub pname : ℕ
pname = 2

abbrev pub more_names : ℕ
more_names = 3

abbrev pub withs : ℕ
withs = 4

abbrev pub more_imports : ℕ
more_imports = 5

abbrev pub declarations : ℕ
declarations = 6

abbrev pub package_properties : ℕ
package_properties = 7

abbrev pub category : ℕ
category = 8

abbrev pub component : ℕ
component = 9

abbrev pub frame_or_body : ℕ
frame_or_body = 10

abbrev pub frame_sections : ℕ
frame_sections = 11

abbrev pub body_sections : ℕ
body_sections = 12

abbrev pub features : ℕ
features = 13

abbrev pub feature_list : ℕ
feature_list = 14

abbrev pub feature_items : ℕ
feature_items = 15

abbrev pub feature : ℕ
feature = 16

abbrev pub direction : ℕ
direction = 17

abbrev pub port : ℕ
port = 18

abbrev pub event_port : ℕ
event_port = 19

abbrev pub data_port : ℕ
data_port = 20

abbrev pub some_class : ℕ
some_class = 21

abbrev pub some_body : ℕ
some_body = 22

abbrev pub some_braces : ℕ
some_braces = 23

abbrev pub subcomponents : ℕ
subcomponents = 24

abbrev pub sub_list : ℕ
sub_list = 25

abbrev pub sub_items : ℕ
sub_items = 26

abbrev pub sub : ℕ
sub = 27

abbrev pub sub_category : ℕ
sub_category = 28

abbrev pub connections : ℕ
connections = 29

abbrev pub wire_list : ℕ
wire_list = 30

abbrev pub wire_items : ℕ
wire_items = 31

abbrev pub wire : ℕ
wire = 32

abbrev pub place : ℕ
place = 33

abbrev pub some_port : ℕ
some_port = 34

abbrev pub annex : ℕ
annex = 35

abbrev pub flows : ℕ
flows = 36

abbrev pub properties : ℕ
properties = 37

abbrev pub skipped_list : ℕ
skipped_list = 38

abbrev pub skipped_items : ℕ
skipped_items = 39

abbrev pub other : ℕ
other = 40

abbrev pub skip : ℕ
skip = 41

abbrev pub group : ℕ
group = 42

abbrev pub braces : ℕ
braces = 43

abbrev pub inside : ℕ
inside = 44

abbrev pub plain : ℕ
plain = 45

abbrev pub quiet : ℕ
quiet = 46

abbrev pub bracket : ℕ
bracket = 47

abbrev pub foreign : ℕ
foreign = 48

abbrev pub behind_end : ℕ
behind_end = 49

abbrev pub behind_name : ℕ
behind_name = 50

abbrev pub behind_colons : ℕ
behind_colons = 51

abbrev pub behind_dot : ℕ
behind_dot = 52

abbrev pub behind_body : ℕ
behind_body = 53
