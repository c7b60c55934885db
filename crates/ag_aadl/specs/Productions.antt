-- The productions of the grammar by name.
use Rattle.std.specs.Prelude.{ℕ}

abbrev pub one_package : ℕ
one_package = 0

abbrev pub no_package : ℕ
no_package = 1

abbrev pub package_whole : ℕ
package_whole = 2

abbrev pub pname_whole : ℕ
pname_whole = 3

abbrev pub one_more_name : ℕ
one_more_name = 4

abbrev pub no_more_name : ℕ
no_more_name = 5

abbrev pub one_with : ℕ
one_with = 6

abbrev pub no_with : ℕ
no_with = 7

abbrev pub one_import : ℕ
one_import = 8

abbrev pub no_import : ℕ
no_import = 9

abbrev pub one_component : ℕ
one_component = 10

abbrev pub one_foreign : ℕ
one_foreign = 11

abbrev pub one_annex : ℕ
one_annex = 12

abbrev pub no_declaration : ℕ
no_declaration = 13

abbrev pub some_properties : ℕ
some_properties = 14

abbrev pub no_properties : ℕ
no_properties = 15

abbrev pub a_system : ℕ
a_system = 16

abbrev pub a_process : ℕ
a_process = 17

abbrev pub a_thread : ℕ
a_thread = 18

abbrev pub a_device : ℕ
a_device = 19

abbrev pub a_abstract : ℕ
a_abstract = 20

abbrev pub component_whole : ℕ
component_whole = 21

abbrev pub frame : ℕ
frame = 22

abbrev pub body : ℕ
body = 23

abbrev pub frame_features : ℕ
frame_features = 24

abbrev pub frame_flows : ℕ
frame_flows = 25

abbrev pub frame_properties : ℕ
frame_properties = 26

abbrev pub frame_annex : ℕ
frame_annex = 27

abbrev pub frame_end : ℕ
frame_end = 28

abbrev pub body_subcomponents : ℕ
body_subcomponents = 29

abbrev pub body_connections : ℕ
body_connections = 30

abbrev pub body_flows : ℕ
body_flows = 31

abbrev pub body_properties : ℕ
body_properties = 32

abbrev pub body_annex : ℕ
body_annex = 33

abbrev pub body_end : ℕ
body_end = 34

abbrev pub features_whole : ℕ
features_whole = 35

abbrev pub features_none : ℕ
features_none = 36

abbrev pub features_some : ℕ
features_some = 37

abbrev pub one_feature : ℕ
one_feature = 38

abbrev pub no_feature : ℕ
no_feature = 39

abbrev pub a_port : ℕ
a_port = 40

abbrev pub required : ℕ
required = 41

abbrev pub provided : ℕ
provided = 42

abbrev pub inward : ℕ
inward = 43

abbrev pub outward : ℕ
outward = 44

abbrev pub with_event : ℕ
with_event = 45

abbrev pub without_event : ℕ
without_event = 46

abbrev pub event_data : ℕ
event_data = 47

abbrev pub event_alone : ℕ
event_alone = 48

abbrev pub data_port_whole : ℕ
data_port_whole = 49

abbrev pub a_class : ℕ
a_class = 50

abbrev pub no_class : ℕ
no_class = 51

abbrev pub a_body : ℕ
a_body = 52

abbrev pub no_body : ℕ
no_body = 53

abbrev pub a_braces : ℕ
a_braces = 54

abbrev pub no_braces : ℕ
no_braces = 55

abbrev pub subcomponents_whole : ℕ
subcomponents_whole = 56

abbrev pub subs_none : ℕ
subs_none = 57

abbrev pub subs_some : ℕ
subs_some = 58

abbrev pub one_sub : ℕ
one_sub = 59

abbrev pub no_sub : ℕ
no_sub = 60

abbrev pub a_sub : ℕ
a_sub = 61

abbrev pub another_sub : ℕ
another_sub = 62

abbrev pub sub_system : ℕ
sub_system = 63

abbrev pub sub_process : ℕ
sub_process = 64

abbrev pub sub_thread : ℕ
sub_thread = 65

abbrev pub sub_device : ℕ
sub_device = 66

abbrev pub sub_abstract : ℕ
sub_abstract = 67

abbrev pub connections_whole : ℕ
connections_whole = 68

abbrev pub wires_none : ℕ
wires_none = 69

abbrev pub wires_some : ℕ
wires_some = 70

abbrev pub one_wire : ℕ
one_wire = 71

abbrev pub no_wire : ℕ
no_wire = 72

abbrev pub a_wire : ℕ
a_wire = 73

abbrev pub a_bus_wire : ℕ
a_bus_wire = 74

abbrev pub a_data_wire : ℕ
a_data_wire = 75

abbrev pub a_subprogram_wire : ℕ
a_subprogram_wire = 76

abbrev pub a_parameter_wire : ℕ
a_parameter_wire = 77

abbrev pub place_whole : ℕ
place_whole = 78

abbrev pub a_spot_port : ℕ
a_spot_port = 79

abbrev pub no_spot_port : ℕ
no_spot_port = 80

abbrev pub annex_whole : ℕ
annex_whole = 81

abbrev pub flows_whole : ℕ
flows_whole = 82

abbrev pub properties_whole : ℕ
properties_whole = 83

abbrev pub skipped_none : ℕ
skipped_none = 84

abbrev pub skipped_some : ℕ
skipped_some = 85

abbrev pub one_skipped : ℕ
one_skipped = 86

abbrev pub no_skipped : ℕ
no_skipped = 87

abbrev pub other_data : ℕ
other_data = 88

abbrev pub other_subprogram : ℕ
other_subprogram = 89

abbrev pub other_processor : ℕ
other_processor = 90

abbrev pub other_memory : ℕ
other_memory = 91

abbrev pub other_bus : ℕ
other_bus = 92

abbrev pub skip_end : ℕ
skip_end = 93

abbrev pub skip_token : ℕ
skip_token = 94

abbrev pub skip_group : ℕ
skip_group = 95

abbrev pub parens : ℕ
parens = 96

abbrev pub brackets : ℕ
brackets = 97

abbrev pub braces_group : ℕ
braces_group = 98

abbrev pub braces_whole : ℕ
braces_whole = 99

abbrev pub inside_token : ℕ
inside_token = 100

abbrev pub inside_semicolon : ℕ
inside_semicolon = 101

abbrev pub inside_group : ℕ
inside_group = 102

abbrev pub inside_end : ℕ
inside_end = 103

abbrev pub plain_name : ℕ
plain_name = 104

abbrev pub plain_end : ℕ
plain_end = 105

abbrev pub plain_colons : ℕ
plain_colons = 106

abbrev pub plain_dot : ℕ
plain_dot = 107

abbrev pub plain_quiet : ℕ
plain_quiet = 108

abbrev pub quiet_package_word : ℕ
quiet_package_word = 109

abbrev pub quiet_public_word : ℕ
quiet_public_word = 110

abbrev pub quiet_with_word : ℕ
quiet_with_word = 111

abbrev pub quiet_system_word : ℕ
quiet_system_word = 112

abbrev pub quiet_process_word : ℕ
quiet_process_word = 113

abbrev pub quiet_thread_word : ℕ
quiet_thread_word = 114

abbrev pub quiet_device_word : ℕ
quiet_device_word = 115

abbrev pub quiet_abstract_word : ℕ
quiet_abstract_word = 116

abbrev pub quiet_data_word : ℕ
quiet_data_word = 117

abbrev pub quiet_subprogram_word : ℕ
quiet_subprogram_word = 118

abbrev pub quiet_processor_word : ℕ
quiet_processor_word = 119

abbrev pub quiet_memory_word : ℕ
quiet_memory_word = 120

abbrev pub quiet_bus_word : ℕ
quiet_bus_word = 121

abbrev pub quiet_implementation_word : ℕ
quiet_implementation_word = 122

abbrev pub quiet_features_word : ℕ
quiet_features_word = 123

abbrev pub quiet_flows_word : ℕ
quiet_flows_word = 124

abbrev pub quiet_properties_word : ℕ
quiet_properties_word = 125

abbrev pub quiet_subcomponents_word : ℕ
quiet_subcomponents_word = 126

abbrev pub quiet_connections_word : ℕ
quiet_connections_word = 127

abbrev pub quiet_annex_word : ℕ
quiet_annex_word = 128

abbrev pub quiet_in_word : ℕ
quiet_in_word = 129

abbrev pub quiet_out_word : ℕ
quiet_out_word = 130

abbrev pub quiet_event_word : ℕ
quiet_event_word = 131

abbrev pub quiet_port_word : ℕ
quiet_port_word = 132

abbrev pub quiet_requires_word : ℕ
quiet_requires_word = 133

abbrev pub quiet_provides_word : ℕ
quiet_provides_word = 134

abbrev pub quiet_parameter_word : ℕ
quiet_parameter_word = 135

abbrev pub quiet_none_word : ℕ
quiet_none_word = 136

abbrev pub quiet_other_word : ℕ
quiet_other_word = 137

abbrev pub quiet_comma : ℕ
quiet_comma = 138

abbrev pub quiet_colon : ℕ
quiet_colon = 139

abbrev pub quiet_arrow : ℕ
quiet_arrow = 140

abbrev pub quiet_gives : ℕ
quiet_gives = 141

abbrev pub quiet_annex_text : ℕ
quiet_annex_text = 142

abbrev pub quiet_other_token : ℕ
quiet_other_token = 143

abbrev pub bracket_open_paren : ℕ
bracket_open_paren = 144

abbrev pub bracket_close_paren : ℕ
bracket_close_paren = 145

abbrev pub bracket_open_bracket : ℕ
bracket_open_bracket = 146

abbrev pub bracket_close_bracket : ℕ
bracket_close_bracket = 147

abbrev pub bracket_open_brace : ℕ
bracket_open_brace = 148

abbrev pub bracket_close_brace : ℕ
bracket_close_brace = 149

abbrev pub foreign_quiet : ℕ
foreign_quiet = 150

abbrev pub foreign_bracket : ℕ
foreign_bracket = 151

abbrev pub foreign_name : ℕ
foreign_name = 152

abbrev pub foreign_colons : ℕ
foreign_colons = 153

abbrev pub foreign_dot : ℕ
foreign_dot = 154

abbrev pub foreign_semicolon : ℕ
foreign_semicolon = 155

abbrev pub foreign_end : ℕ
foreign_end = 156

abbrev pub behind_end_quiet : ℕ
behind_end_quiet = 157

abbrev pub behind_end_bracket : ℕ
behind_end_bracket = 158

abbrev pub behind_end_name : ℕ
behind_end_name = 159

abbrev pub behind_end_colons : ℕ
behind_end_colons = 160

abbrev pub behind_end_dot : ℕ
behind_end_dot = 161

abbrev pub behind_end_semicolon : ℕ
behind_end_semicolon = 162

abbrev pub behind_end_end : ℕ
behind_end_end = 163

abbrev pub behind_name_quiet : ℕ
behind_name_quiet = 164

abbrev pub behind_name_bracket : ℕ
behind_name_bracket = 165

abbrev pub behind_name_name : ℕ
behind_name_name = 166

abbrev pub behind_name_colons : ℕ
behind_name_colons = 167

abbrev pub behind_name_dot : ℕ
behind_name_dot = 168

abbrev pub behind_name_semicolon : ℕ
behind_name_semicolon = 169

abbrev pub behind_name_end : ℕ
behind_name_end = 170

abbrev pub behind_colons_quiet : ℕ
behind_colons_quiet = 171

abbrev pub behind_colons_bracket : ℕ
behind_colons_bracket = 172

abbrev pub behind_colons_name : ℕ
behind_colons_name = 173

abbrev pub behind_colons_colons : ℕ
behind_colons_colons = 174

abbrev pub behind_colons_dot : ℕ
behind_colons_dot = 175

abbrev pub behind_colons_semicolon : ℕ
behind_colons_semicolon = 176

abbrev pub behind_colons_end : ℕ
behind_colons_end = 177

abbrev pub behind_dot_quiet : ℕ
behind_dot_quiet = 178

abbrev pub behind_dot_bracket : ℕ
behind_dot_bracket = 179

abbrev pub behind_dot_name : ℕ
behind_dot_name = 180

abbrev pub behind_dot_colons : ℕ
behind_dot_colons = 181

abbrev pub behind_dot_dot : ℕ
behind_dot_dot = 182

abbrev pub behind_dot_semicolon : ℕ
behind_dot_semicolon = 183

abbrev pub behind_dot_end : ℕ
behind_dot_end = 184

abbrev pub behind_body_quiet : ℕ
behind_body_quiet = 185

abbrev pub behind_body_bracket : ℕ
behind_body_bracket = 186

abbrev pub behind_body_name : ℕ
behind_body_name = 187

abbrev pub behind_body_colons : ℕ
behind_body_colons = 188

abbrev pub behind_body_dot : ℕ
behind_body_dot = 189

abbrev pub behind_body_semicolon : ℕ
behind_body_semicolon = 190

abbrev pub behind_body_end : ℕ
behind_body_end = 191
