-- What each nonterminal of the grammar may begin with and be followed by.
use Rattle.std.specs.Prelude.{true, false, [], ◌∷◌}
use Rattle.ag_grammar.specs.Deterministic.{the_end, Certificate}
use Rattle.ag_aadl.specs.Terminals.{name, package_word, public_word, with_word, end_word, system_word, process_word, thread_word, device_word, abstract_word, data_word, subprogram_word, processor_word, memory_word, bus_word, implementation_word, features_word, flows_word, properties_word, subcomponents_word, connections_word, annex_word, in_word, out_word, event_word, port_word, requires_word, provides_word, parameter_word, none_word, other_word, colons, comma, semicolon, colon, dot, arrow, gives, open_paren, close_paren, open_bracket, close_bracket, open_brace, close_brace, annex_text, other_token}
use Rattle.ag_aadl.specs.Nonterminals.{packages, package_unit, pname, more_names, withs, more_imports, declarations, package_properties, category, component, frame_or_body, frame_sections, body_sections, features, feature_list, feature_items, feature, direction, port, event_port, data_port, some_class, some_body, some_braces, subcomponents, sub_list, sub_items, sub, sub_category, connections, wire_list, wire_items, wire, place, some_port, annex, flows, properties, skipped_list, skipped_items, other, skip, group, braces, inside, plain, quiet, bracket, foreign, behind_end, behind_name, behind_colons, behind_dot, behind_body}

abbrev pub certificate : Certificate
certificate = record {
  first =
      -- packages
      (package_word ∷ [])
      -- package_unit
      ∷ (package_word ∷ [])
      -- pname
      ∷ (name ∷ [])
      -- more_names
      ∷ (colons ∷ [])
      -- withs
      ∷ (with_word ∷ [])
      -- more_imports
      ∷ (comma ∷ [])
      -- declarations
      ∷ (system_word ∷ process_word ∷ thread_word ∷ device_word ∷ abstract_word ∷ data_word ∷ subprogram_word ∷ processor_word ∷ memory_word ∷ bus_word ∷ annex_word ∷ [])
      -- package_properties
      ∷ (properties_word ∷ [])
      -- category
      ∷ (system_word ∷ process_word ∷ thread_word ∷ device_word ∷ abstract_word ∷ [])
      -- component
      ∷ (system_word ∷ process_word ∷ thread_word ∷ device_word ∷ abstract_word ∷ [])
      -- frame_or_body
      ∷ (name ∷ implementation_word ∷ [])
      -- frame_sections
      ∷ (features_word ∷ flows_word ∷ properties_word ∷ annex_word ∷ [])
      -- body_sections
      ∷ (flows_word ∷ properties_word ∷ subcomponents_word ∷ connections_word ∷ annex_word ∷ [])
      -- features
      ∷ (features_word ∷ [])
      -- feature_list
      ∷ (name ∷ none_word ∷ [])
      -- feature_items
      ∷ (name ∷ [])
      -- feature
      ∷ (in_word ∷ out_word ∷ requires_word ∷ provides_word ∷ [])
      -- direction
      ∷ (in_word ∷ out_word ∷ [])
      -- port
      ∷ (data_word ∷ event_word ∷ [])
      -- event_port
      ∷ (data_word ∷ port_word ∷ [])
      -- data_port
      ∷ (data_word ∷ [])
      -- some_class
      ∷ (name ∷ [])
      -- some_body
      ∷ (dot ∷ [])
      -- some_braces
      ∷ (open_brace ∷ [])
      -- subcomponents
      ∷ (subcomponents_word ∷ [])
      -- sub_list
      ∷ (name ∷ none_word ∷ [])
      -- sub_items
      ∷ (name ∷ [])
      -- sub
      ∷ (system_word ∷ process_word ∷ thread_word ∷ device_word ∷ abstract_word ∷ data_word ∷ subprogram_word ∷ processor_word ∷ memory_word ∷ bus_word ∷ [])
      -- sub_category
      ∷ (system_word ∷ process_word ∷ thread_word ∷ device_word ∷ abstract_word ∷ [])
      -- connections
      ∷ (connections_word ∷ [])
      -- wire_list
      ∷ (name ∷ none_word ∷ [])
      -- wire_items
      ∷ (name ∷ [])
      -- wire
      ∷ (data_word ∷ subprogram_word ∷ bus_word ∷ port_word ∷ parameter_word ∷ [])
      -- place
      ∷ (name ∷ [])
      -- some_port
      ∷ (dot ∷ [])
      -- annex
      ∷ (annex_word ∷ [])
      -- flows
      ∷ (flows_word ∷ [])
      -- properties
      ∷ (properties_word ∷ [])
      -- skipped_list
      ∷ (name ∷ none_word ∷ [])
      -- skipped_items
      ∷ (name ∷ [])
      -- other
      ∷ (data_word ∷ subprogram_word ∷ processor_word ∷ memory_word ∷ bus_word ∷ [])
      -- skip
      ∷ (name ∷ package_word ∷ public_word ∷ with_word ∷ end_word ∷ system_word ∷ process_word ∷ thread_word ∷ device_word ∷ abstract_word ∷ data_word ∷ subprogram_word ∷ processor_word ∷ memory_word ∷ bus_word ∷ implementation_word ∷ features_word ∷ flows_word ∷ properties_word ∷ subcomponents_word ∷ connections_word ∷ annex_word ∷ in_word ∷ out_word ∷ event_word ∷ port_word ∷ requires_word ∷ provides_word ∷ parameter_word ∷ none_word ∷ other_word ∷ colons ∷ comma ∷ semicolon ∷ colon ∷ dot ∷ arrow ∷ gives ∷ open_paren ∷ open_bracket ∷ open_brace ∷ annex_text ∷ other_token ∷ [])
      -- group
      ∷ (open_paren ∷ open_bracket ∷ open_brace ∷ [])
      -- braces
      ∷ (open_brace ∷ [])
      -- inside
      ∷ (name ∷ package_word ∷ public_word ∷ with_word ∷ end_word ∷ system_word ∷ process_word ∷ thread_word ∷ device_word ∷ abstract_word ∷ data_word ∷ subprogram_word ∷ processor_word ∷ memory_word ∷ bus_word ∷ implementation_word ∷ features_word ∷ flows_word ∷ properties_word ∷ subcomponents_word ∷ connections_word ∷ annex_word ∷ in_word ∷ out_word ∷ event_word ∷ port_word ∷ requires_word ∷ provides_word ∷ parameter_word ∷ none_word ∷ other_word ∷ colons ∷ comma ∷ semicolon ∷ colon ∷ dot ∷ arrow ∷ gives ∷ open_paren ∷ open_bracket ∷ open_brace ∷ annex_text ∷ other_token ∷ [])
      -- plain
      ∷ (name ∷ package_word ∷ public_word ∷ with_word ∷ end_word ∷ system_word ∷ process_word ∷ thread_word ∷ device_word ∷ abstract_word ∷ data_word ∷ subprogram_word ∷ processor_word ∷ memory_word ∷ bus_word ∷ implementation_word ∷ features_word ∷ flows_word ∷ properties_word ∷ subcomponents_word ∷ connections_word ∷ annex_word ∷ in_word ∷ out_word ∷ event_word ∷ port_word ∷ requires_word ∷ provides_word ∷ parameter_word ∷ none_word ∷ other_word ∷ colons ∷ comma ∷ colon ∷ dot ∷ arrow ∷ gives ∷ annex_text ∷ other_token ∷ [])
      -- quiet
      ∷ (package_word ∷ public_word ∷ with_word ∷ system_word ∷ process_word ∷ thread_word ∷ device_word ∷ abstract_word ∷ data_word ∷ subprogram_word ∷ processor_word ∷ memory_word ∷ bus_word ∷ implementation_word ∷ features_word ∷ flows_word ∷ properties_word ∷ subcomponents_word ∷ connections_word ∷ annex_word ∷ in_word ∷ out_word ∷ event_word ∷ port_word ∷ requires_word ∷ provides_word ∷ parameter_word ∷ none_word ∷ other_word ∷ comma ∷ colon ∷ arrow ∷ gives ∷ annex_text ∷ other_token ∷ [])
      -- bracket
      ∷ (open_paren ∷ close_paren ∷ open_bracket ∷ close_bracket ∷ open_brace ∷ close_brace ∷ [])
      -- foreign
      ∷ (name ∷ package_word ∷ public_word ∷ with_word ∷ end_word ∷ system_word ∷ process_word ∷ thread_word ∷ device_word ∷ abstract_word ∷ data_word ∷ subprogram_word ∷ processor_word ∷ memory_word ∷ bus_word ∷ implementation_word ∷ features_word ∷ flows_word ∷ properties_word ∷ subcomponents_word ∷ connections_word ∷ annex_word ∷ in_word ∷ out_word ∷ event_word ∷ port_word ∷ requires_word ∷ provides_word ∷ parameter_word ∷ none_word ∷ other_word ∷ colons ∷ comma ∷ semicolon ∷ colon ∷ dot ∷ arrow ∷ gives ∷ open_paren ∷ close_paren ∷ open_bracket ∷ close_bracket ∷ open_brace ∷ close_brace ∷ annex_text ∷ other_token ∷ [])
      -- behind_end
      ∷ (name ∷ package_word ∷ public_word ∷ with_word ∷ end_word ∷ system_word ∷ process_word ∷ thread_word ∷ device_word ∷ abstract_word ∷ data_word ∷ subprogram_word ∷ processor_word ∷ memory_word ∷ bus_word ∷ implementation_word ∷ features_word ∷ flows_word ∷ properties_word ∷ subcomponents_word ∷ connections_word ∷ annex_word ∷ in_word ∷ out_word ∷ event_word ∷ port_word ∷ requires_word ∷ provides_word ∷ parameter_word ∷ none_word ∷ other_word ∷ colons ∷ comma ∷ semicolon ∷ colon ∷ dot ∷ arrow ∷ gives ∷ open_paren ∷ close_paren ∷ open_bracket ∷ close_bracket ∷ open_brace ∷ close_brace ∷ annex_text ∷ other_token ∷ [])
      -- behind_name
      ∷ (name ∷ package_word ∷ public_word ∷ with_word ∷ end_word ∷ system_word ∷ process_word ∷ thread_word ∷ device_word ∷ abstract_word ∷ data_word ∷ subprogram_word ∷ processor_word ∷ memory_word ∷ bus_word ∷ implementation_word ∷ features_word ∷ flows_word ∷ properties_word ∷ subcomponents_word ∷ connections_word ∷ annex_word ∷ in_word ∷ out_word ∷ event_word ∷ port_word ∷ requires_word ∷ provides_word ∷ parameter_word ∷ none_word ∷ other_word ∷ colons ∷ comma ∷ semicolon ∷ colon ∷ dot ∷ arrow ∷ gives ∷ open_paren ∷ close_paren ∷ open_bracket ∷ close_bracket ∷ open_brace ∷ close_brace ∷ annex_text ∷ other_token ∷ [])
      -- behind_colons
      ∷ (name ∷ package_word ∷ public_word ∷ with_word ∷ end_word ∷ system_word ∷ process_word ∷ thread_word ∷ device_word ∷ abstract_word ∷ data_word ∷ subprogram_word ∷ processor_word ∷ memory_word ∷ bus_word ∷ implementation_word ∷ features_word ∷ flows_word ∷ properties_word ∷ subcomponents_word ∷ connections_word ∷ annex_word ∷ in_word ∷ out_word ∷ event_word ∷ port_word ∷ requires_word ∷ provides_word ∷ parameter_word ∷ none_word ∷ other_word ∷ colons ∷ comma ∷ semicolon ∷ colon ∷ dot ∷ arrow ∷ gives ∷ open_paren ∷ close_paren ∷ open_bracket ∷ close_bracket ∷ open_brace ∷ close_brace ∷ annex_text ∷ other_token ∷ [])
      -- behind_dot
      ∷ (name ∷ package_word ∷ public_word ∷ with_word ∷ end_word ∷ system_word ∷ process_word ∷ thread_word ∷ device_word ∷ abstract_word ∷ data_word ∷ subprogram_word ∷ processor_word ∷ memory_word ∷ bus_word ∷ implementation_word ∷ features_word ∷ flows_word ∷ properties_word ∷ subcomponents_word ∷ connections_word ∷ annex_word ∷ in_word ∷ out_word ∷ event_word ∷ port_word ∷ requires_word ∷ provides_word ∷ parameter_word ∷ none_word ∷ other_word ∷ colons ∷ comma ∷ semicolon ∷ colon ∷ dot ∷ arrow ∷ gives ∷ open_paren ∷ close_paren ∷ open_bracket ∷ close_bracket ∷ open_brace ∷ close_brace ∷ annex_text ∷ other_token ∷ [])
      -- behind_body
      ∷ (name ∷ package_word ∷ public_word ∷ with_word ∷ end_word ∷ system_word ∷ process_word ∷ thread_word ∷ device_word ∷ abstract_word ∷ data_word ∷ subprogram_word ∷ processor_word ∷ memory_word ∷ bus_word ∷ implementation_word ∷ features_word ∷ flows_word ∷ properties_word ∷ subcomponents_word ∷ connections_word ∷ annex_word ∷ in_word ∷ out_word ∷ event_word ∷ port_word ∷ requires_word ∷ provides_word ∷ parameter_word ∷ none_word ∷ other_word ∷ colons ∷ comma ∷ semicolon ∷ colon ∷ dot ∷ arrow ∷ gives ∷ open_paren ∷ close_paren ∷ open_bracket ∷ close_bracket ∷ open_brace ∷ close_brace ∷ annex_text ∷ other_token ∷ [])
      ∷ [];
  follow =
      -- packages
      (the_end ∷ [])
      -- package_unit
      ∷ (package_word ∷ the_end ∷ [])
      -- pname
      ∷ (public_word ∷ comma ∷ semicolon ∷ dot ∷ open_brace ∷ [])
      -- more_names
      ∷ (public_word ∷ comma ∷ semicolon ∷ dot ∷ open_brace ∷ [])
      -- withs
      ∷ (end_word ∷ system_word ∷ process_word ∷ thread_word ∷ device_word ∷ abstract_word ∷ data_word ∷ subprogram_word ∷ processor_word ∷ memory_word ∷ bus_word ∷ properties_word ∷ annex_word ∷ [])
      -- more_imports
      ∷ (semicolon ∷ [])
      -- declarations
      ∷ (end_word ∷ properties_word ∷ [])
      -- package_properties
      ∷ (end_word ∷ [])
      -- category
      ∷ (name ∷ implementation_word ∷ [])
      -- component
      ∷ (end_word ∷ system_word ∷ process_word ∷ thread_word ∷ device_word ∷ abstract_word ∷ data_word ∷ subprogram_word ∷ processor_word ∷ memory_word ∷ bus_word ∷ properties_word ∷ annex_word ∷ [])
      -- frame_or_body
      ∷ (end_word ∷ system_word ∷ process_word ∷ thread_word ∷ device_word ∷ abstract_word ∷ data_word ∷ subprogram_word ∷ processor_word ∷ memory_word ∷ bus_word ∷ properties_word ∷ annex_word ∷ [])
      -- frame_sections
      ∷ (end_word ∷ [])
      -- body_sections
      ∷ (end_word ∷ [])
      -- features
      ∷ (end_word ∷ features_word ∷ flows_word ∷ properties_word ∷ annex_word ∷ [])
      -- feature_list
      ∷ (end_word ∷ features_word ∷ flows_word ∷ properties_word ∷ annex_word ∷ [])
      -- feature_items
      ∷ (end_word ∷ features_word ∷ flows_word ∷ properties_word ∷ annex_word ∷ [])
      -- feature
      ∷ (name ∷ end_word ∷ features_word ∷ flows_word ∷ properties_word ∷ annex_word ∷ [])
      -- direction
      ∷ (data_word ∷ event_word ∷ [])
      -- port
      ∷ (name ∷ end_word ∷ features_word ∷ flows_word ∷ properties_word ∷ annex_word ∷ [])
      -- event_port
      ∷ (name ∷ end_word ∷ features_word ∷ flows_word ∷ properties_word ∷ annex_word ∷ [])
      -- data_port
      ∷ (name ∷ end_word ∷ features_word ∷ flows_word ∷ properties_word ∷ annex_word ∷ [])
      -- some_class
      ∷ (semicolon ∷ open_brace ∷ [])
      -- some_body
      ∷ (semicolon ∷ open_brace ∷ [])
      -- some_braces
      ∷ (semicolon ∷ [])
      -- subcomponents
      ∷ (end_word ∷ flows_word ∷ properties_word ∷ subcomponents_word ∷ connections_word ∷ annex_word ∷ [])
      -- sub_list
      ∷ (end_word ∷ flows_word ∷ properties_word ∷ subcomponents_word ∷ connections_word ∷ annex_word ∷ [])
      -- sub_items
      ∷ (end_word ∷ flows_word ∷ properties_word ∷ subcomponents_word ∷ connections_word ∷ annex_word ∷ [])
      -- sub
      ∷ (name ∷ end_word ∷ flows_word ∷ properties_word ∷ subcomponents_word ∷ connections_word ∷ annex_word ∷ [])
      -- sub_category
      ∷ (name ∷ semicolon ∷ open_brace ∷ [])
      -- connections
      ∷ (end_word ∷ flows_word ∷ properties_word ∷ subcomponents_word ∷ connections_word ∷ annex_word ∷ [])
      -- wire_list
      ∷ (end_word ∷ flows_word ∷ properties_word ∷ subcomponents_word ∷ connections_word ∷ annex_word ∷ [])
      -- wire_items
      ∷ (end_word ∷ flows_word ∷ properties_word ∷ subcomponents_word ∷ connections_word ∷ annex_word ∷ [])
      -- wire
      ∷ (name ∷ end_word ∷ flows_word ∷ properties_word ∷ subcomponents_word ∷ connections_word ∷ annex_word ∷ [])
      -- place
      ∷ (semicolon ∷ arrow ∷ open_brace ∷ [])
      -- some_port
      ∷ (semicolon ∷ arrow ∷ open_brace ∷ [])
      -- annex
      ∷ (end_word ∷ features_word ∷ flows_word ∷ properties_word ∷ subcomponents_word ∷ connections_word ∷ annex_word ∷ [])
      -- flows
      ∷ (end_word ∷ features_word ∷ flows_word ∷ properties_word ∷ subcomponents_word ∷ connections_word ∷ annex_word ∷ [])
      -- properties
      ∷ (end_word ∷ features_word ∷ flows_word ∷ properties_word ∷ subcomponents_word ∷ connections_word ∷ annex_word ∷ [])
      -- skipped_list
      ∷ (end_word ∷ features_word ∷ flows_word ∷ properties_word ∷ subcomponents_word ∷ connections_word ∷ annex_word ∷ [])
      -- skipped_items
      ∷ (end_word ∷ features_word ∷ flows_word ∷ properties_word ∷ subcomponents_word ∷ connections_word ∷ annex_word ∷ [])
      -- other
      ∷ (name ∷ package_word ∷ public_word ∷ with_word ∷ end_word ∷ system_word ∷ process_word ∷ thread_word ∷ device_word ∷ abstract_word ∷ data_word ∷ subprogram_word ∷ processor_word ∷ memory_word ∷ bus_word ∷ implementation_word ∷ features_word ∷ flows_word ∷ properties_word ∷ subcomponents_word ∷ connections_word ∷ annex_word ∷ in_word ∷ out_word ∷ event_word ∷ port_word ∷ requires_word ∷ provides_word ∷ parameter_word ∷ none_word ∷ other_word ∷ colons ∷ comma ∷ semicolon ∷ colon ∷ dot ∷ arrow ∷ gives ∷ open_paren ∷ close_paren ∷ open_bracket ∷ close_bracket ∷ open_brace ∷ close_brace ∷ annex_text ∷ other_token ∷ [])
      -- skip
      ∷ (name ∷ end_word ∷ features_word ∷ flows_word ∷ properties_word ∷ subcomponents_word ∷ connections_word ∷ annex_word ∷ [])
      -- group
      ∷ (name ∷ package_word ∷ public_word ∷ with_word ∷ end_word ∷ system_word ∷ process_word ∷ thread_word ∷ device_word ∷ abstract_word ∷ data_word ∷ subprogram_word ∷ processor_word ∷ memory_word ∷ bus_word ∷ implementation_word ∷ features_word ∷ flows_word ∷ properties_word ∷ subcomponents_word ∷ connections_word ∷ annex_word ∷ in_word ∷ out_word ∷ event_word ∷ port_word ∷ requires_word ∷ provides_word ∷ parameter_word ∷ none_word ∷ other_word ∷ colons ∷ comma ∷ semicolon ∷ colon ∷ dot ∷ arrow ∷ gives ∷ open_paren ∷ close_paren ∷ open_bracket ∷ close_bracket ∷ open_brace ∷ close_brace ∷ annex_text ∷ other_token ∷ [])
      -- braces
      ∷ (name ∷ package_word ∷ public_word ∷ with_word ∷ end_word ∷ system_word ∷ process_word ∷ thread_word ∷ device_word ∷ abstract_word ∷ data_word ∷ subprogram_word ∷ processor_word ∷ memory_word ∷ bus_word ∷ implementation_word ∷ features_word ∷ flows_word ∷ properties_word ∷ subcomponents_word ∷ connections_word ∷ annex_word ∷ in_word ∷ out_word ∷ event_word ∷ port_word ∷ requires_word ∷ provides_word ∷ parameter_word ∷ none_word ∷ other_word ∷ colons ∷ comma ∷ semicolon ∷ colon ∷ dot ∷ arrow ∷ gives ∷ open_paren ∷ close_paren ∷ open_bracket ∷ close_bracket ∷ open_brace ∷ close_brace ∷ annex_text ∷ other_token ∷ [])
      -- inside
      ∷ (close_paren ∷ close_bracket ∷ close_brace ∷ [])
      -- plain
      ∷ (name ∷ package_word ∷ public_word ∷ with_word ∷ end_word ∷ system_word ∷ process_word ∷ thread_word ∷ device_word ∷ abstract_word ∷ data_word ∷ subprogram_word ∷ processor_word ∷ memory_word ∷ bus_word ∷ implementation_word ∷ features_word ∷ flows_word ∷ properties_word ∷ subcomponents_word ∷ connections_word ∷ annex_word ∷ in_word ∷ out_word ∷ event_word ∷ port_word ∷ requires_word ∷ provides_word ∷ parameter_word ∷ none_word ∷ other_word ∷ colons ∷ comma ∷ semicolon ∷ colon ∷ dot ∷ arrow ∷ gives ∷ open_paren ∷ close_paren ∷ open_bracket ∷ close_bracket ∷ open_brace ∷ close_brace ∷ annex_text ∷ other_token ∷ [])
      -- quiet
      ∷ (name ∷ package_word ∷ public_word ∷ with_word ∷ end_word ∷ system_word ∷ process_word ∷ thread_word ∷ device_word ∷ abstract_word ∷ data_word ∷ subprogram_word ∷ processor_word ∷ memory_word ∷ bus_word ∷ implementation_word ∷ features_word ∷ flows_word ∷ properties_word ∷ subcomponents_word ∷ connections_word ∷ annex_word ∷ in_word ∷ out_word ∷ event_word ∷ port_word ∷ requires_word ∷ provides_word ∷ parameter_word ∷ none_word ∷ other_word ∷ colons ∷ comma ∷ semicolon ∷ colon ∷ dot ∷ arrow ∷ gives ∷ open_paren ∷ close_paren ∷ open_bracket ∷ close_bracket ∷ open_brace ∷ close_brace ∷ annex_text ∷ other_token ∷ [])
      -- bracket
      ∷ (name ∷ package_word ∷ public_word ∷ with_word ∷ end_word ∷ system_word ∷ process_word ∷ thread_word ∷ device_word ∷ abstract_word ∷ data_word ∷ subprogram_word ∷ processor_word ∷ memory_word ∷ bus_word ∷ implementation_word ∷ features_word ∷ flows_word ∷ properties_word ∷ subcomponents_word ∷ connections_word ∷ annex_word ∷ in_word ∷ out_word ∷ event_word ∷ port_word ∷ requires_word ∷ provides_word ∷ parameter_word ∷ none_word ∷ other_word ∷ colons ∷ comma ∷ semicolon ∷ colon ∷ dot ∷ arrow ∷ gives ∷ open_paren ∷ close_paren ∷ open_bracket ∷ close_bracket ∷ open_brace ∷ close_brace ∷ annex_text ∷ other_token ∷ [])
      -- foreign
      ∷ (end_word ∷ system_word ∷ process_word ∷ thread_word ∷ device_word ∷ abstract_word ∷ data_word ∷ subprogram_word ∷ processor_word ∷ memory_word ∷ bus_word ∷ properties_word ∷ annex_word ∷ [])
      -- behind_end
      ∷ (end_word ∷ system_word ∷ process_word ∷ thread_word ∷ device_word ∷ abstract_word ∷ data_word ∷ subprogram_word ∷ processor_word ∷ memory_word ∷ bus_word ∷ properties_word ∷ annex_word ∷ [])
      -- behind_name
      ∷ (end_word ∷ system_word ∷ process_word ∷ thread_word ∷ device_word ∷ abstract_word ∷ data_word ∷ subprogram_word ∷ processor_word ∷ memory_word ∷ bus_word ∷ properties_word ∷ annex_word ∷ [])
      -- behind_colons
      ∷ (end_word ∷ system_word ∷ process_word ∷ thread_word ∷ device_word ∷ abstract_word ∷ data_word ∷ subprogram_word ∷ processor_word ∷ memory_word ∷ bus_word ∷ properties_word ∷ annex_word ∷ [])
      -- behind_dot
      ∷ (end_word ∷ system_word ∷ process_word ∷ thread_word ∷ device_word ∷ abstract_word ∷ data_word ∷ subprogram_word ∷ processor_word ∷ memory_word ∷ bus_word ∷ properties_word ∷ annex_word ∷ [])
      -- behind_body
      ∷ (end_word ∷ system_word ∷ process_word ∷ thread_word ∷ device_word ∷ abstract_word ∷ data_word ∷ subprogram_word ∷ processor_word ∷ memory_word ∷ bus_word ∷ properties_word ∷ annex_word ∷ [])
      ∷ [];
  empty = true ∷ false ∷ false ∷ true ∷ true ∷ true ∷ true ∷ true ∷ false ∷ false ∷ false ∷ true ∷ true ∷ false ∷ true ∷ true ∷ false ∷ false ∷ false ∷ false ∷ false ∷ true ∷ true ∷ true ∷ false ∷ true ∷ true ∷ false ∷ false ∷ false ∷ true ∷ true ∷ false ∷ false ∷ true ∷ false ∷ false ∷ false ∷ true ∷ true ∷ false ∷ false ∷ false ∷ false ∷ true ∷ false ∷ false ∷ false ∷ false ∷ false ∷ false ∷ false ∷ false ∷ false ∷ [];
  order = packages ∷ more_names ∷ withs ∷ more_imports ∷ declarations ∷ package_properties ∷ category ∷ frame_sections ∷ body_sections ∷ feature_list ∷ feature_items ∷ direction ∷ some_class ∷ some_body ∷ some_braces ∷ sub_list ∷ sub_items ∷ sub_category ∷ wire_list ∷ wire_items ∷ some_port ∷ annex ∷ skipped_list ∷ skipped_items ∷ other ∷ skip ∷ inside ∷ plain ∷ quiet ∷ bracket ∷ behind_name ∷ behind_colons ∷ behind_body ∷ pname ∷ frame_or_body ∷ features ∷ feature ∷ event_port ∷ data_port ∷ subcomponents ∷ sub ∷ connections ∷ wire ∷ place ∷ flows ∷ properties ∷ group ∷ braces ∷ behind_end ∷ behind_dot ∷ package_unit ∷ component ∷ port ∷ foreign ∷ [];
}
