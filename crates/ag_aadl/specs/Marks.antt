-- The marks that the grammar gives its terminals: they say what a token is where it stands.
use Rattle.std.specs.Prelude.{ℕ}

-- what no rule and no package speaks of
abbrev pub unmarked : ℕ
unmarked = 0

-- the word `package`
abbrev pub package_mark : ℕ
package_mark = 1

-- a name of a package's name, or of a classifier's but for the one behind the dot
abbrev pub part_mark : ℕ
part_mark = 2

-- `::` between such names
abbrev pub join_mark : ℕ
join_mark = 3

-- `with`, and `,` in its list
abbrev pub import_mark : ℕ
import_mark = 4

-- the word that a declaration begins with, but a foreign one
abbrev pub item_mark : ℕ
item_mark = 5

-- in the head of an implementation the type's name
abbrev pub owner_mark : ℕ
owner_mark = 6

-- the name that a declaration declares: of an implementation the one behind the dot
abbrev pub declared_mark : ℕ
declared_mark = 7

-- a feature's name
abbrev pub feature_mark : ℕ
feature_mark = 8

-- `in` or `out` of a port
abbrev pub direction_mark : ℕ
direction_mark = 9

-- `event` of a port
abbrev pub event_mark : ℕ
event_mark = 10

-- `data` of a port
abbrev pub data_mark : ℕ
data_mark = 11

-- the name behind the dot of a classifier
abbrev pub class_body_mark : ℕ
class_body_mark = 12

-- a subcomponent's name
abbrev pub sub_mark : ℕ
sub_mark = 13

-- the category of a subcomponent
abbrev pub kind_mark : ℕ
kind_mark = 14

-- a connection's name
abbrev pub connection_mark : ℕ
connection_mark = 15

-- the first name of a connection's end
abbrev pub spot_mark : ℕ
spot_mark = 16

-- the name behind the dot of a connection's end
abbrev pub spot_port_mark : ℕ
spot_port_mark = 17

-- the name behind `annex`
abbrev pub annex_name_mark : ℕ
annex_name_mark = 18

-- an annex's text
abbrev pub annex_text_mark : ℕ
annex_text_mark = 19

-- `end` of a package
abbrev pub end_mark : ℕ
end_mark = 20

-- behind `end` of an implementation the type's name
abbrev pub end_owner_mark : ℕ
end_owner_mark = 21

-- behind `end` of a declaration its own name
abbrev pub end_name_mark : ℕ
end_name_mark = 22

-- `;` behind the name at a package's end
abbrev pub close_mark : ℕ
close_mark = 23

-- the word `features`
abbrev pub features_mark : ℕ
features_mark = 24

-- the word `flows`
abbrev pub flows_mark : ℕ
flows_mark = 25

-- the word `properties`
abbrev pub properties_mark : ℕ
properties_mark = 26

-- the word `subcomponents`
abbrev pub subcomponents_mark : ℕ
subcomponents_mark = 27

-- the word `connections`
abbrev pub connections_mark : ℕ
connections_mark = 28
