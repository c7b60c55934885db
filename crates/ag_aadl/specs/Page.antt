-- The grammar of packages (SAE AS5506), in the part that is read: each line of it, and below it its productions.
use Rattle.std.specs.Prelude.{ℕ, List, [], ◌∷◌}
use Rattle.ag_grammar.specs.declared.grammar.Symbol.{Symbol}
use Rattle.ag_grammar.specs.declared.grammar.Symbol.TheVariants.{Terminal, Nonterminal}
use Rattle.ag_aadl.specs.Terminals.{name, package_word, public_word, with_word, end_word, system_word, process_word, thread_word, device_word, abstract_word, data_word, subprogram_word, processor_word, memory_word, bus_word, implementation_word, features_word, flows_word, properties_word, subcomponents_word, connections_word, annex_word, in_word, out_word, event_word, port_word, requires_word, provides_word, parameter_word, none_word, other_word, colons, comma, semicolon, colon, dot, arrow, gives, open_paren, close_paren, open_bracket, close_bracket, open_brace, close_brace, annex_text, other_token}
use Rattle.ag_aadl.specs.Nonterminals.{packages, package_unit, pname, more_names, withs, more_imports, declarations, package_properties, category, component, frame_or_body, frame_sections, body_sections, features, feature_list, feature_items, feature, direction, port, event_port, data_port, some_class, some_body, some_braces, subcomponents, sub_list, sub_items, sub, sub_category, connections, wire_list, wire_items, wire, place, some_port, annex, flows, properties, skipped_list, skipped_items, other, skip, group, braces, inside, plain, quiet, bracket, foreign, behind_end, behind_name, behind_colons, behind_dot, behind_body}
use Rattle.ag_aadl.specs.Productions.{one_package, no_package, package_whole, pname_whole, one_more_name, no_more_name, one_with, no_with, one_import, no_import, one_component, one_foreign, one_annex, no_declaration, some_properties, no_properties, a_system, a_process, a_thread, a_device, a_abstract, component_whole, frame, body, frame_features, frame_flows, frame_properties, frame_annex, frame_end, body_subcomponents, body_connections, body_flows, body_properties, body_annex, body_end, features_whole, features_none, features_some, one_feature, no_feature, a_port, required, provided, inward, outward, with_event, without_event, event_data, event_alone, data_port_whole, a_class, no_class, a_body, no_body, a_braces, no_braces, subcomponents_whole, subs_none, subs_some, one_sub, no_sub, a_sub, another_sub, sub_system, sub_process, sub_thread, sub_device, sub_abstract, connections_whole, wires_none, wires_some, one_wire, no_wire, a_wire, a_bus_wire, a_data_wire, a_subprogram_wire, a_parameter_wire, place_whole, a_spot_port, no_spot_port, annex_whole, flows_whole, properties_whole, skipped_none, skipped_some, one_skipped, no_skipped, other_data, other_subprogram, other_processor, other_memory, other_bus, skip_end, skip_token, skip_group, parens, brackets, braces_group, braces_whole, inside_token, inside_semicolon, inside_group, inside_end, plain_name, plain_end, plain_colons, plain_dot, plain_quiet, quiet_package_word, quiet_public_word, quiet_with_word, quiet_system_word, quiet_process_word, quiet_thread_word, quiet_device_word, quiet_abstract_word, quiet_data_word, quiet_subprogram_word, quiet_processor_word, quiet_memory_word, quiet_bus_word, quiet_implementation_word, quiet_features_word, quiet_flows_word, quiet_properties_word, quiet_subcomponents_word, quiet_connections_word, quiet_annex_word, quiet_in_word, quiet_out_word, quiet_event_word, quiet_port_word, quiet_requires_word, quiet_provides_word, quiet_parameter_word, quiet_none_word, quiet_other_word, quiet_comma, quiet_colon, quiet_arrow, quiet_gives, quiet_annex_text, quiet_other_token, bracket_open_paren, bracket_close_paren, bracket_open_bracket, bracket_close_bracket, bracket_open_brace, bracket_close_brace, foreign_quiet, foreign_bracket, foreign_name, foreign_colons, foreign_dot, foreign_semicolon, foreign_end, behind_end_quiet, behind_end_bracket, behind_end_name, behind_end_colons, behind_end_dot, behind_end_semicolon, behind_end_end, behind_name_quiet, behind_name_bracket, behind_name_name, behind_name_colons, behind_name_dot, behind_name_semicolon, behind_name_end, behind_colons_quiet, behind_colons_bracket, behind_colons_name, behind_colons_colons, behind_colons_dot, behind_colons_semicolon, behind_colons_end, behind_dot_quiet, behind_dot_bracket, behind_dot_name, behind_dot_colons, behind_dot_dot, behind_dot_semicolon, behind_dot_end, behind_body_quiet, behind_body_bracket, behind_body_name, behind_body_colons, behind_body_dot, behind_body_semicolon, behind_body_end}
use Rattle.ag_aadl.specs.Marks.{unmarked, package_mark, part_mark, join_mark, import_mark, item_mark, owner_mark, declared_mark, feature_mark, direction_mark, event_mark, data_mark, class_body_mark, sub_mark, kind_mark, connection_mark, spot_mark, spot_port_mark, annex_name_mark, annex_text_mark, end_mark, end_owner_mark, end_name_mark, close_mark, features_mark, flows_mark, properties_mark, subcomponents_mark, connections_mark}

-- a production by its name, and what it puts in its nonterminal's place
pub record Line : Type 0 where
  pub name : ℕ
  pub right : List Symbol

abbrev pub line : ℕ → List Symbol → Line
line name right = record { name = name; right = right }

-- a terminal without a mark, one with a mark, and a nonterminal
abbrev pub t : ℕ → Symbol
t x = Terminal x unmarked

abbrev pub m : ℕ → ℕ → Symbol
m x mark = Terminal x mark

abbrev pub n : ℕ → Symbol
n x = Nonterminal x

abbrev pub lines : List (List Line)
lines =
    -- packages = { package_unit }
    (line one_package (n package_unit ∷ n packages ∷ [])
    ∷ line no_package [] ∷ [])
    -- package_unit = "package" pname "public" withs declarations [ properties ] "end" pname ";"
    ∷ (line package_whole (m package_word package_mark ∷ n pname ∷ t public_word ∷ n withs ∷ n declarations ∷ n package_properties ∷ m end_word end_mark ∷ n pname ∷ m semicolon close_mark ∷ []) ∷ [])
    -- pname = name { "::" name }
    ∷ (line pname_whole (m name part_mark ∷ n more_names ∷ []) ∷ [])
    -- more_names = { "::" name }
    ∷ (line one_more_name (m colons join_mark ∷ m name part_mark ∷ n more_names ∷ [])
    ∷ line no_more_name [] ∷ [])
    -- withs = { "with" pname { "," pname } ";" }
    ∷ (line one_with (m with_word import_mark ∷ n pname ∷ n more_imports ∷ t semicolon ∷ n withs ∷ [])
    ∷ line no_with [] ∷ [])
    -- more_imports = { "," pname }
    ∷ (line one_import (m comma import_mark ∷ n pname ∷ n more_imports ∷ [])
    ∷ line no_import [] ∷ [])
    -- declarations = { component | other foreign | "annex" name Annex ";" }
    ∷ (line one_component (n component ∷ n declarations ∷ [])
    ∷ line one_foreign (n other ∷ n foreign ∷ n declarations ∷ [])
    ∷ line one_annex (m annex_word item_mark ∷ m name annex_name_mark ∷ m annex_text annex_text_mark ∷ t semicolon ∷ n declarations ∷ [])
    ∷ line no_declaration [] ∷ [])
    -- package_properties = [ properties ]
    ∷ (line some_properties (n properties ∷ [])
    ∷ line no_properties [] ∷ [])
    -- category = "system" | "process" | "thread" | "device" | "abstract"
    ∷ (line a_system (m system_word item_mark ∷ [])
    ∷ line a_process (m process_word item_mark ∷ [])
    ∷ line a_thread (m thread_word item_mark ∷ [])
    ∷ line a_device (m device_word item_mark ∷ [])
    ∷ line a_abstract (m abstract_word item_mark ∷ []) ∷ [])
    -- component = category ( frame | body )
    ∷ (line component_whole (n category ∷ n frame_or_body ∷ []) ∷ [])
    -- frame_or_body = name frame_sections "end" name ";" | "implementation" name "." name body_sections "end" name "." name ";"
    ∷ (line frame (m name declared_mark ∷ n frame_sections ∷ t end_word ∷ m name end_name_mark ∷ t semicolon ∷ [])
    ∷ line body (t implementation_word ∷ m name owner_mark ∷ t dot ∷ m name declared_mark ∷ n body_sections ∷ t end_word ∷ m name end_owner_mark ∷ t dot ∷ m name end_name_mark ∷ t semicolon ∷ []) ∷ [])
    -- frame_sections = { features | flows | properties | annex }
    ∷ (line frame_features (n features ∷ n frame_sections ∷ [])
    ∷ line frame_flows (n flows ∷ n frame_sections ∷ [])
    ∷ line frame_properties (n properties ∷ n frame_sections ∷ [])
    ∷ line frame_annex (n annex ∷ n frame_sections ∷ [])
    ∷ line frame_end [] ∷ [])
    -- body_sections = { subcomponents | connections | flows | properties | annex }
    ∷ (line body_subcomponents (n subcomponents ∷ n body_sections ∷ [])
    ∷ line body_connections (n connections ∷ n body_sections ∷ [])
    ∷ line body_flows (n flows ∷ n body_sections ∷ [])
    ∷ line body_properties (n properties ∷ n body_sections ∷ [])
    ∷ line body_annex (n annex ∷ n body_sections ∷ [])
    ∷ line body_end [] ∷ [])
    -- features = "features" ( "none" ";" | { name ":" feature } )
    ∷ (line features_whole (m features_word features_mark ∷ n feature_list ∷ []) ∷ [])
    -- feature_list = "none" ";" | { name ":" feature }
    ∷ (line features_none (t none_word ∷ t semicolon ∷ [])
    ∷ line features_some (n feature_items ∷ []) ∷ [])
    -- feature_items = { name ":" feature }
    ∷ (line one_feature (m name feature_mark ∷ t colon ∷ n feature ∷ n feature_items ∷ [])
    ∷ line no_feature [] ∷ [])
    -- feature = direction port | ( "requires" | "provides" ) skip
    ∷ (line a_port (n direction ∷ n port ∷ [])
    ∷ line required (t requires_word ∷ n skip ∷ [])
    ∷ line provided (t provides_word ∷ n skip ∷ []) ∷ [])
    -- direction = "in" | "out"
    ∷ (line inward (m in_word direction_mark ∷ [])
    ∷ line outward (m out_word direction_mark ∷ []) ∷ [])
    -- port = "event" event_port | data_port
    ∷ (line with_event (m event_word event_mark ∷ n event_port ∷ [])
    ∷ line without_event (n data_port ∷ []) ∷ [])
    -- event_port = data_port | "port" [ braces ] ";"
    ∷ (line event_data (n data_port ∷ [])
    ∷ line event_alone (t port_word ∷ n some_braces ∷ t semicolon ∷ []) ∷ [])
    -- data_port = "data" "port" [ class ] [ braces ] ";"
    ∷ (line data_port_whole (m data_word data_mark ∷ t port_word ∷ n some_class ∷ n some_braces ∷ t semicolon ∷ []) ∷ [])
    -- some_class = [ class ], where class = pname [ "." name ]
    ∷ (line a_class (n pname ∷ n some_body ∷ [])
    ∷ line no_class [] ∷ [])
    -- some_body = [ "." name ]
    ∷ (line a_body (t dot ∷ m name class_body_mark ∷ [])
    ∷ line no_body [] ∷ [])
    -- some_braces = [ braces ]
    ∷ (line a_braces (n braces ∷ [])
    ∷ line no_braces [] ∷ [])
    -- subcomponents = "subcomponents" ( "none" ";" | { name ":" sub } )
    ∷ (line subcomponents_whole (m subcomponents_word subcomponents_mark ∷ n sub_list ∷ []) ∷ [])
    -- sub_list = "none" ";" | { name ":" sub }
    ∷ (line subs_none (t none_word ∷ t semicolon ∷ [])
    ∷ line subs_some (n sub_items ∷ []) ∷ [])
    -- sub_items = { name ":" sub }
    ∷ (line one_sub (m name sub_mark ∷ t colon ∷ n sub ∷ n sub_items ∷ [])
    ∷ line no_sub [] ∷ [])
    -- sub = sub_category [ class ] [ braces ] ";" | other skip
    ∷ (line a_sub (n sub_category ∷ n some_class ∷ n some_braces ∷ t semicolon ∷ [])
    ∷ line another_sub (n other ∷ n skip ∷ []) ∷ [])
    -- sub_category = "system" | "process" | "thread" | "device" | "abstract"
    ∷ (line sub_system (m system_word kind_mark ∷ [])
    ∷ line sub_process (m process_word kind_mark ∷ [])
    ∷ line sub_thread (m thread_word kind_mark ∷ [])
    ∷ line sub_device (m device_word kind_mark ∷ [])
    ∷ line sub_abstract (m abstract_word kind_mark ∷ []) ∷ [])
    -- connections = "connections" ( "none" ";" | { name ":" wire } )
    ∷ (line connections_whole (m connections_word connections_mark ∷ n wire_list ∷ []) ∷ [])
    -- wire_list = "none" ";" | { name ":" wire }
    ∷ (line wires_none (t none_word ∷ t semicolon ∷ [])
    ∷ line wires_some (n wire_items ∷ []) ∷ [])
    -- wire_items = { name ":" wire }
    ∷ (line one_wire (m name connection_mark ∷ t colon ∷ n wire ∷ n wire_items ∷ [])
    ∷ line no_wire [] ∷ [])
    -- wire = "port" place "->" place [ braces ] ";" | ( "bus" | "data" | "subprogram" | "parameter" ) skip
    ∷ (line a_wire (t port_word ∷ n place ∷ t arrow ∷ n place ∷ n some_braces ∷ t semicolon ∷ [])
    ∷ line a_bus_wire (t bus_word ∷ n skip ∷ [])
    ∷ line a_data_wire (t data_word ∷ n skip ∷ [])
    ∷ line a_subprogram_wire (t subprogram_word ∷ n skip ∷ [])
    ∷ line a_parameter_wire (t parameter_word ∷ n skip ∷ []) ∷ [])
    -- place = name [ "." name ]
    ∷ (line place_whole (m name spot_mark ∷ n some_port ∷ []) ∷ [])
    -- some_port = [ "." name ]
    ∷ (line a_spot_port (t dot ∷ m name spot_port_mark ∷ [])
    ∷ line no_spot_port [] ∷ [])
    -- annex = "annex" name Annex ";"
    ∷ (line annex_whole (t annex_word ∷ m name annex_name_mark ∷ m annex_text annex_text_mark ∷ t semicolon ∷ []) ∷ [])
    -- flows = "flows" ( "none" ";" | { name skip } )
    ∷ (line flows_whole (m flows_word flows_mark ∷ n skipped_list ∷ []) ∷ [])
    -- properties = "properties" ( "none" ";" | { name skip } )
    ∷ (line properties_whole (m properties_word properties_mark ∷ n skipped_list ∷ []) ∷ [])
    -- skipped_list = "none" ";" | { name skip }
    ∷ (line skipped_none (t none_word ∷ t semicolon ∷ [])
    ∷ line skipped_some (n skipped_items ∷ []) ∷ [])
    -- skipped_items = { name skip }
    ∷ (line one_skipped (t name ∷ n skip ∷ n skipped_items ∷ [])
    ∷ line no_skipped [] ∷ [])
    -- other = "data" | "subprogram" | "processor" | "memory" | "bus"
    ∷ (line other_data (t data_word ∷ [])
    ∷ line other_subprogram (t subprogram_word ∷ [])
    ∷ line other_processor (t processor_word ∷ [])
    ∷ line other_memory (t memory_word ∷ [])
    ∷ line other_bus (t bus_word ∷ []) ∷ [])
    -- skip = tokens up to and with the first ";" outside brackets
    ∷ (line skip_end (t semicolon ∷ [])
    ∷ line skip_token (n plain ∷ n skip ∷ [])
    ∷ line skip_group (n group ∷ n skip ∷ []) ∷ [])
    -- group = tokens between brackets that pair
    ∷ (line parens (t open_paren ∷ n inside ∷ t close_paren ∷ [])
    ∷ line brackets (t open_bracket ∷ n inside ∷ t close_bracket ∷ [])
    ∷ line braces_group (n braces ∷ []) ∷ [])
    -- braces = "{" tokens "}" with brackets in pairs
    ∷ (line braces_whole (t open_brace ∷ n inside ∷ t close_brace ∷ []) ∷ [])
    -- inside = tokens with brackets in pairs
    ∷ (line inside_token (n plain ∷ n inside ∷ [])
    ∷ line inside_semicolon (t semicolon ∷ n inside ∷ [])
    ∷ line inside_group (n group ∷ n inside ∷ [])
    ∷ line inside_end [] ∷ [])
    -- plain = a token but brackets and ";"
    ∷ (line plain_name (t name ∷ [])
    ∷ line plain_end (t end_word ∷ [])
    ∷ line plain_colons (t colons ∷ [])
    ∷ line plain_dot (t dot ∷ [])
    ∷ line plain_quiet (n quiet ∷ []) ∷ [])
    -- quiet = a token that neither begins nor goes on with the end of a foreign declaration, and no bracket
    ∷ (line quiet_package_word (t package_word ∷ [])
    ∷ line quiet_public_word (t public_word ∷ [])
    ∷ line quiet_with_word (t with_word ∷ [])
    ∷ line quiet_system_word (t system_word ∷ [])
    ∷ line quiet_process_word (t process_word ∷ [])
    ∷ line quiet_thread_word (t thread_word ∷ [])
    ∷ line quiet_device_word (t device_word ∷ [])
    ∷ line quiet_abstract_word (t abstract_word ∷ [])
    ∷ line quiet_data_word (t data_word ∷ [])
    ∷ line quiet_subprogram_word (t subprogram_word ∷ [])
    ∷ line quiet_processor_word (t processor_word ∷ [])
    ∷ line quiet_memory_word (t memory_word ∷ [])
    ∷ line quiet_bus_word (t bus_word ∷ [])
    ∷ line quiet_implementation_word (t implementation_word ∷ [])
    ∷ line quiet_features_word (t features_word ∷ [])
    ∷ line quiet_flows_word (t flows_word ∷ [])
    ∷ line quiet_properties_word (t properties_word ∷ [])
    ∷ line quiet_subcomponents_word (t subcomponents_word ∷ [])
    ∷ line quiet_connections_word (t connections_word ∷ [])
    ∷ line quiet_annex_word (t annex_word ∷ [])
    ∷ line quiet_in_word (t in_word ∷ [])
    ∷ line quiet_out_word (t out_word ∷ [])
    ∷ line quiet_event_word (t event_word ∷ [])
    ∷ line quiet_port_word (t port_word ∷ [])
    ∷ line quiet_requires_word (t requires_word ∷ [])
    ∷ line quiet_provides_word (t provides_word ∷ [])
    ∷ line quiet_parameter_word (t parameter_word ∷ [])
    ∷ line quiet_none_word (t none_word ∷ [])
    ∷ line quiet_other_word (t other_word ∷ [])
    ∷ line quiet_comma (t comma ∷ [])
    ∷ line quiet_colon (t colon ∷ [])
    ∷ line quiet_arrow (t arrow ∷ [])
    ∷ line quiet_gives (t gives ∷ [])
    ∷ line quiet_annex_text (t annex_text ∷ [])
    ∷ line quiet_other_token (t other_token ∷ []) ∷ [])
    -- bracket = a bracket
    ∷ (line bracket_open_paren (t open_paren ∷ [])
    ∷ line bracket_close_paren (t close_paren ∷ [])
    ∷ line bracket_open_bracket (t open_bracket ∷ [])
    ∷ line bracket_close_bracket (t close_bracket ∷ [])
    ∷ line bracket_open_brace (t open_brace ∷ [])
    ∷ line bracket_close_brace (t close_brace ∷ []) ∷ [])
    -- foreign = tokens up to and with the first "end" pname [ "." name ] ";"
    ∷ (line foreign_quiet (n quiet ∷ n foreign ∷ [])
    ∷ line foreign_bracket (n bracket ∷ n foreign ∷ [])
    ∷ line foreign_name (t name ∷ n foreign ∷ [])
    ∷ line foreign_colons (t colons ∷ n foreign ∷ [])
    ∷ line foreign_dot (t dot ∷ n foreign ∷ [])
    ∷ line foreign_semicolon (t semicolon ∷ n foreign ∷ [])
    ∷ line foreign_end (t end_word ∷ n behind_end ∷ []) ∷ [])
    -- behind_end = the same behind "end"
    ∷ (line behind_end_quiet (n quiet ∷ n foreign ∷ [])
    ∷ line behind_end_bracket (n bracket ∷ n foreign ∷ [])
    ∷ line behind_end_name (t name ∷ n behind_name ∷ [])
    ∷ line behind_end_colons (t colons ∷ n foreign ∷ [])
    ∷ line behind_end_dot (t dot ∷ n foreign ∷ [])
    ∷ line behind_end_semicolon (t semicolon ∷ n foreign ∷ [])
    ∷ line behind_end_end (t end_word ∷ n behind_end ∷ []) ∷ [])
    -- behind_name = the same behind "end" pname
    ∷ (line behind_name_quiet (n quiet ∷ n foreign ∷ [])
    ∷ line behind_name_bracket (n bracket ∷ n foreign ∷ [])
    ∷ line behind_name_name (t name ∷ n foreign ∷ [])
    ∷ line behind_name_colons (t colons ∷ n behind_colons ∷ [])
    ∷ line behind_name_dot (t dot ∷ n behind_dot ∷ [])
    ∷ line behind_name_semicolon (t semicolon ∷ [])
    ∷ line behind_name_end (t end_word ∷ n behind_end ∷ []) ∷ [])
    -- behind_colons = the same behind "end" pname "::"
    ∷ (line behind_colons_quiet (n quiet ∷ n foreign ∷ [])
    ∷ line behind_colons_bracket (n bracket ∷ n foreign ∷ [])
    ∷ line behind_colons_name (t name ∷ n behind_name ∷ [])
    ∷ line behind_colons_colons (t colons ∷ n foreign ∷ [])
    ∷ line behind_colons_dot (t dot ∷ n foreign ∷ [])
    ∷ line behind_colons_semicolon (t semicolon ∷ n foreign ∷ [])
    ∷ line behind_colons_end (t end_word ∷ n behind_end ∷ []) ∷ [])
    -- behind_dot = the same behind "end" pname "."
    ∷ (line behind_dot_quiet (n quiet ∷ n foreign ∷ [])
    ∷ line behind_dot_bracket (n bracket ∷ n foreign ∷ [])
    ∷ line behind_dot_name (t name ∷ n behind_body ∷ [])
    ∷ line behind_dot_colons (t colons ∷ n foreign ∷ [])
    ∷ line behind_dot_dot (t dot ∷ n foreign ∷ [])
    ∷ line behind_dot_semicolon (t semicolon ∷ n foreign ∷ [])
    ∷ line behind_dot_end (t end_word ∷ n behind_end ∷ []) ∷ [])
    -- behind_body = the same behind "end" pname "." name
    ∷ (line behind_body_quiet (n quiet ∷ n foreign ∷ [])
    ∷ line behind_body_bracket (n bracket ∷ n foreign ∷ [])
    ∷ line behind_body_name (t name ∷ n foreign ∷ [])
    ∷ line behind_body_colons (t colons ∷ n foreign ∷ [])
    ∷ line behind_body_dot (t dot ∷ n foreign ∷ [])
    ∷ line behind_body_semicolon (t semicolon ∷ [])
    ∷ line behind_body_end (t end_word ∷ n behind_end ∷ []) ∷ [])
    ∷ []
