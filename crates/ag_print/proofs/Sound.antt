-- Canonical lines are sound: each word is a name, an annex or a symbol of packages, and no two symbols stand side by side.
use Rattle.std.proofs.Common.{◌≡◌, ℕ, Bool, true, false, not, ◌&&◌, ◌||◌, ◌==◌, List, [], ◌∷◌, ◌++◌, map, length, Option, Some, None, refl, sym, subst, codes, IsTrue, nat_le, leb-true, append_assoc}
use Rattle.std.specs.List.{All, AllZip, list_all, list_any}
use Rattle.std.specs.Str.{bytes_eq}
use Rattle.std.proofs.lemmas.Bool.{and_parts, and_from, and_right, not_from_false}
use Rattle.std.proofs.lemmas.List.{append-nil}
use Rattle.std.proofs.lemmas.List.Elements.{All-nil, All-cons}
use Rattle.ag_lex.specs.declared.token.Token.{Token}
use Rattle.ag_lex.specs.declared.token.TokenKind.TheVariants.{Name, Annex, Symbol}
use Rattle.ag_lex.specs.Spelling.{is_name}
use Rattle.ag_terms.specs.declared.names.Path.{Path}
use Rattle.ag_aadl.specs.declared.packages.Category.{Category}
use Rattle.ag_aadl.specs.declared.packages.Category.TheVariants.{System, Process, Thread, Device, Abstract}
use Rattle.ag_terms.specs.declared.names.Ident.{Ident}
use Rattle.ag_aadl.specs.declared.packages.PortKind.{PortKind}
use Rattle.ag_aadl.specs.declared.packages.PortKind.TheVariants as port_kind
use Rattle.ag_aadl.specs.declared.packages.Port.{Port}
use Rattle.ag_aadl.specs.declared.packages.Frame.{Frame}
use Rattle.ag_aadl.specs.declared.packages.Sub.{Sub}
use Rattle.ag_aadl.specs.declared.packages.Wire.{Wire}
use Rattle.ag_aadl.specs.declared.packages.Body.{Body}
use Rattle.ag_aadl.specs.declared.packages.Item.{Item}
use Rattle.ag_aadl.specs.declared.packages.Item.TheVariants as item
use Rattle.ag_aadl.specs.declared.packages.Package.{Package}
use Rattle.ag_aadl.specs.Marks.{unmarked, package_mark, part_mark, join_mark, import_mark, item_mark, owner_mark, declared_mark, feature_mark, direction_mark, event_mark, data_mark, class_body_mark, sub_mark, kind_mark, connection_mark, spot_mark, spot_port_mark, annex_name_mark, end_mark, end_owner_mark, end_name_mark, close_mark, features_mark, subcomponents_mark, connections_mark}
use Rattle.ag_aadl.specs.Terminals.{name}
use Rattle.ag_aadl.specs.Words.{terminal_of}
use Rattle.ag_aadl.specs.Names.{name_parts}
use Rattle.ag_terms.specs.declared.clauses.Clause.{Clause}
use Rattle.ag_unparse.specs.Printable.{are_printable_clauses, AreLabelsText}
use Rattle.ag_print.specs.Annexes.{Stated}
use Rattle.ag_print.specs.Canonical.{Spelled, name_at, sign_at, word, sign, more_parts, parts_words, pname_words, body_words, package_parts, class_words, category_word, semicolon, section, direction_word, kind_words, port_line, sub_line, spot_words, wire_line, annex_bytes, annex_word, annex_line, annex_lines, frame_lines, body_lines, item_lines, items_lines, import_line, package_lines, canonical_lines}
use Rattle.ag_print.specs.Layout.{Word, package_symbols, IsSpelled, joins_before, joins_behind, runs_on, IsSoundLine}
use Rattle.ag_print.specs.Printable.{is_plain_name, is_printable_ident, is_printable_option, is_printable_package_name, is_printable_owner, is_printable_class, may_carry, is_printable_port, is_printable_sub, is_printable_end, is_printable_wire, is_printable_frame, is_printable_body, is_printable_item, is_printable_package, are_printable, ItemMayState, PackageMayState, StatedMayBePrinted}
use Rattle.ag_print.specs.Spelling.{plain_words}
use Rattle.ag_print.proofs.Names.{path_parts}

-- the words on a line, without their marks
record IsSound (ws : List Spelled) : Type 0 where
  line : IsSoundLine (plain_words ws)

-- ---- words

-- a name of at most 255 bytes
abbrev is_fit : List ℕ → Bool
is_fit own = is_name own && nat_le (length own) 255

fit : (own : List ℕ) → is_plain_name own ≡ true → is_fit own ≡ true
fit own h =
    let parts = and_parts (is_name own) (nat_le (length own) 255 && terminal_of Name own == name) h in
    let last = and_parts (nat_le (length own) 255) (terminal_of Name own == name) parts.1 in
    and_from (is_name own) (nat_le (length own) 255) parts.0 last.0

apart : (b c : Bool) → c ≡ false → not (b && c) ≡ true
apart b c e = not_from_false (b && c) (and_right b c e)

-- a name stands apart from whatever comes behind it
name_apart : (own : List ℕ) (ws : List Word) → IsTrue (not (runs_on (record { kind = Name; own = own }) ws))
name_apart own [] = refl
name_apart own (v ∷ vs) = apart (joins_behind (record { kind = Name; own = own }) || joins_before v) false refl

fit_name : (mark : ℕ) (own : List ℕ) {ws : List Spelled} → is_fit own ≡ true → IsSound ws → IsSound (name_at mark own ∷ ws)
fit_name mark own {ws} h s =
    let both = and_parts (is_name own) (nat_le (length own) 255) h in
    record { line = ((both.0, leb-true (length own) 255 both.1), name_apart own (plain_words ws), s.line) }

plain_name : (mark : ℕ) (own : List ℕ) {ws : List Spelled} → is_plain_name own ≡ true → IsSound ws → IsSound (name_at mark own ∷ ws)
plain_name mark own h s = fit_name mark own (fit own h) s

-- a symbol before a name, and a symbol at the line's end
sign_before : (mark : ℕ) (own : List ℕ) {m : ℕ} {next : List ℕ} {ws : List Spelled} → list_any (bytes_eq own) package_symbols ≡ true → IsSound (name_at m next ∷ ws)
    → IsSound (sign_at mark own ∷ name_at m next ∷ ws)
sign_before mark own {next = next} h s =
    record { line = (h, apart (joins_behind (record { kind = Symbol; own = own }) || joins_before (record { kind = Name; own = next })) false refl, s.line) }

sign_last : (mark : ℕ) (own : List ℕ) → list_any (bytes_eq own) package_symbols ≡ true → IsSound (sign_at mark own ∷ [])
sign_last mark own h = record { line = (h, refl, tt) }

are_colons : list_any (bytes_eq (codes "::")) package_symbols ≡ true
unfolding package_symbols
are_colons = refl

is_dot : list_any (bytes_eq (codes ".")) package_symbols ≡ true
unfolding package_symbols
is_dot = refl

is_semicolon : list_any (bytes_eq (codes ";")) package_symbols ≡ true
unfolding package_symbols
is_semicolon = refl

is_colon : list_any (bytes_eq (codes ":")) package_symbols ≡ true
unfolding package_symbols
is_colon = refl

is_arrow : list_any (bytes_eq (codes "->")) package_symbols ≡ true
unfolding package_symbols
is_arrow = refl

sound_end : IsSound semicolon
sound_end = sign_last unmarked (codes ";") is_semicolon

-- ---- names and classifiers

sound_more : (parts : List (List ℕ)) {ws : List Spelled} → list_all is_plain_name parts ≡ true → IsSound ws → IsSound (more_parts parts ++ ws)
sound_more [] h s = s
sound_more (part ∷ parts) h s =
    let both = and_parts (is_plain_name part) (list_all is_plain_name parts) h in
    sign_before join_mark (codes "::") are_colons (plain_name part_mark part both.0 (sound_more parts both.1 s))

sound_parts : (parts : List (List ℕ)) {ws : List Spelled} → list_all is_plain_name parts ≡ true → IsSound ws → IsSound (parts_words parts ++ ws)
sound_parts [] h s = s
sound_parts (part ∷ parts) h s =
    let both = and_parts (is_plain_name part) (list_all is_plain_name parts) h in
    plain_name part_mark part both.0 (sound_more parts both.1 s)

sound_body : (o : Option Ident) {ws : List Spelled} → is_printable_option o ≡ true → IsSound ws → IsSound (body_words o ++ ws)
sound_body None h s = s
sound_body (Some i) h s = sign_before unmarked (codes ".") is_dot (plain_name class_body_mark i.text h s)

sound_class : (o : Option Path) {ws : List Spelled} → is_printable_class o ≡ true → IsSound ws → IsSound (class_words o ++ ws)
sound_class None h s = s
sound_class (Some p) {ws} h s =
    let both = and_parts (is_printable_owner p.«package») (is_printable_ident p.name && is_printable_option p.body) h in
    let named = and_parts (is_printable_ident p.name) (is_printable_option p.body) both.1 in
    let parts = package_parts p.«package» ++ p.name.text ∷ [] in
    subst (λ (z : List Spelled). IsSound z) (sym (append_assoc (parts_words parts) (body_words p.body) ws)) (sound_parts parts (path_parts p h) (sound_body p.body named.1 s))

fit_category : (c : Category) → is_fit (category_word c) ≡ true
fit_category System = refl
fit_category Process = refl
fit_category Thread = refl
fit_category Device = refl
fit_category Abstract = refl

-- ---- lines

fit_direction : (outward : Bool) → is_fit (direction_word outward) ≡ true
fit_direction true = refl
fit_direction false = refl

carried : (k : PortKind) (o : Option Path) → may_carry k o ≡ true → is_printable_class o ≡ true
carried port_kind.Plain o h = h
carried port_kind.EventPlain o h = h
carried port_kind.Event None h = refl
carried port_kind.Event (Some p) h = absurd cc

sound_kind : (k : PortKind) {ws : List Spelled} → IsSound ws → IsSound (kind_words k ++ ws)
sound_kind port_kind.Plain s = fit_name data_mark (codes "data") refl s
sound_kind port_kind.EventPlain s = fit_name event_mark (codes "event") refl (fit_name data_mark (codes "data") refl s)
sound_kind port_kind.Event s = fit_name event_mark (codes "event") refl s

sound_port : (p : Port) → is_printable_port p ≡ true → IsSound (port_line p)
sound_port p h =
    let both = and_parts (is_printable_ident p.name) (may_carry p.kind p.carries) h in
    let rest = fit_name unmarked (codes "port") refl (sound_class p.carries (carried p.kind p.carries both.1) sound_end) in
    plain_name feature_mark p.name.text both.0 (sign_before unmarked (codes ":") is_colon (fit_name direction_mark (direction_word p.outward) (fit_direction p.outward) (sound_kind p.kind rest)))

sound_sub : (s : Sub) → is_printable_sub s ≡ true → IsSound (sub_line s)
sound_sub s h =
    let both = and_parts (is_printable_ident s.name) (is_printable_class s.of) h in
    plain_name sub_mark s.name.text both.0
    (sign_before unmarked (codes ":") is_colon (fit_name kind_mark (category_word s.category) (fit_category s.category) (sound_class s.of both.1 sound_end)))

sound_spot : (o : Option Ident) (p : Ident) {ws : List Spelled} → is_printable_option o ≡ true → is_printable_ident p ≡ true → IsSound ws → IsSound (spot_words o p ++ ws)
sound_spot None p h k s = plain_name spot_mark p.text k s
sound_spot (Some sub) p h k s = plain_name spot_mark sub.text h (sign_before unmarked (codes ".") is_dot (plain_name spot_port_mark p.text k s))

arrow_before : (o : Option Ident) (p : Ident) (ws : List Spelled) → IsSound (spot_words o p ++ ws) → IsSound (sign (codes "->") ∷ (spot_words o p ++ ws))
arrow_before None p ws s = sign_before unmarked (codes "->") is_arrow s
arrow_before (Some sub) p ws s = sign_before unmarked (codes "->") is_arrow s

sound_wire : (w : Wire) → is_printable_wire w ≡ true → IsSound (wire_line w)
sound_wire w h =
    let both = and_parts (is_printable_ident w.name) (is_printable_end w.from && is_printable_end w.to) h in
    let ends = and_parts (is_printable_end w.from) (is_printable_end w.to) both.1 in
    let from = and_parts (is_printable_option w.from.sub) (is_printable_ident w.from.port) ends.0 in
    let to = and_parts (is_printable_option w.to.sub) (is_printable_ident w.to.port) ends.1 in
    let rest = arrow_before w.to.sub w.to.port semicolon (sound_spot w.to.sub w.to.port to.0 to.1 sound_end) in
    plain_name connection_mark w.name.text both.0
    (sign_before unmarked (codes ":") is_colon (fit_name unmarked (codes "port") refl (sound_spot w.from.sub w.from.port from.0 from.1 rest)))

-- ---- lines behind lines

abbrev AreSound : List (List Spelled) → Type 0
AreSound [] = Unit {0}
AreSound (line ∷ lines) = IsSound line × AreSound lines

sound_lines : (lines more : List (List Spelled)) → AreSound lines → AreSound more → AreSound (lines ++ more)
sound_lines [] more a b = b
sound_lines (line ∷ lines) more a b = (a.0, sound_lines lines more a.1 b)

sound_each : {A : Type 0} (f : A → List Spelled) (test : A → Bool) → ((x : A) → test x ≡ true → IsSound (f x)) → (xs : List A) → list_all test xs ≡ true → AreSound (map f xs)
sound_each f test each [] h = tt
sound_each f test each (x ∷ xs) h =
    let both = and_parts (test x) (list_all test xs) h in
    (each x both.0, sound_each f test each xs both.1)

sound_section : (head : Spelled) (lines : List (List Spelled)) → IsSound (head ∷ []) → AreSound lines → AreSound (section head lines)
sound_section head [] s a = tt
sound_section head (line ∷ lines) s a = (s, a)

nothing_sound : IsSound []
nothing_sound = record { line = tt }

alone : (mark : ℕ) (own : List ℕ) → is_fit own ≡ true → IsSound (name_at mark own ∷ [])
alone mark own h = fit_name mark own h nothing_sound

-- ---- annexes

-- what the laws of clauses say: an annex that states printable clauses, whose labels are text, is spelled
abbrev pub AnnexesSpelled : Type 0
AnnexesSpelled = (clauses : List Clause) → IsTrue (are_printable_clauses clauses) → AreLabelsText clauses → IsSpelled Annex (annex_bytes clauses)

sound_annex : AnnexesSpelled → (mark : ℕ) (clauses : List Clause) → IsTrue (are_printable_clauses clauses) → AreLabelsText clauses → IsSound (annex_line mark clauses)
sound_annex spelled mark clauses h labels =
    let text : IsSound (annex_word clauses ∷ semicolon) = record { line = (spelled clauses h labels, refl, sound_end.line) } in
    fit_name mark (codes "annex") refl (fit_name annex_name_mark (codes "agree") refl text)

sound_annexes : AnnexesSpelled → (ts : List Token) (clauses : List Clause) → IsTrue (are_printable_clauses clauses) → AreLabelsText clauses → AreSound (annex_lines ts clauses)
sound_annexes spelled [] clauses h labels = tt
sound_annexes spelled (t ∷ ts) clauses h labels = (sound_annex spelled unmarked clauses h labels, tt)

-- ---- declarations

sound_frame : AnnexesSpelled → (f : Frame) (clauses : List Clause) → is_printable_frame f ≡ true → ItemMayState (item.Frame f) clauses → AreSound (frame_lines f clauses)
sound_frame spelled f clauses h may =
    let both = and_parts (is_printable_ident f.name) (list_all is_printable_port f.ports) h in
    let head = fit_name item_mark (category_word f.category) (fit_category f.category) (plain_name declared_mark f.name.text both.0 nothing_sound) in
    let last = fit_name unmarked (codes "end") refl (plain_name end_name_mark f.name.text both.0 sound_end) in
    let heading = name_at features_mark (codes "features") in
    let features = sound_section heading (map port_line f.ports) (alone features_mark (codes "features") refl) (sound_each port_line is_printable_port sound_port f.ports both.1) in
    let annexes = sound_annexes spelled f.annexes clauses may.printable.printable may.labels in
    let ending = (word (codes "end") ∷ name_at end_name_mark f.name.text ∷ semicolon) ∷ [] in
    (head, sound_lines (section heading (map port_line f.ports)) (annex_lines f.annexes clauses ++ ending) features (sound_lines (annex_lines f.annexes clauses) ending annexes (last, tt)))

sound_body_lines : AnnexesSpelled → (b : Body) (clauses : List Clause) → is_printable_body b ≡ true → ItemMayState (item.Body b) clauses → AreSound (body_lines b clauses)
sound_body_lines spelled b clauses h may =
    let framed = and_parts (is_printable_ident b.frame) (is_printable_ident b.name && (list_all is_printable_sub b.subs && list_all is_printable_wire b.wires)) h in
    let named = and_parts (is_printable_ident b.name) (list_all is_printable_sub b.subs && list_all is_printable_wire b.wires) framed.1 in
    let parts = and_parts (list_all is_printable_sub b.subs) (list_all is_printable_wire b.wires) named.1 in
    let own = sign_before unmarked (codes ".") is_dot (plain_name declared_mark b.name.text named.0 nothing_sound) in
    let head = fit_name item_mark (category_word b.category) (fit_category b.category) (fit_name unmarked (codes "implementation") refl (plain_name owner_mark b.frame.text framed.0 own)) in
    let dotted = sign_before unmarked (codes ".") is_dot (plain_name end_name_mark b.name.text named.0 sound_end) in
    let last = fit_name unmarked (codes "end") refl (plain_name end_owner_mark b.frame.text framed.0 dotted) in
    let subs_heading = name_at subcomponents_mark (codes "subcomponents") in
    let subs = sound_section subs_heading (map sub_line b.subs) (alone subcomponents_mark (codes "subcomponents") refl) (sound_each sub_line is_printable_sub sound_sub b.subs parts.0) in
    let wires_heading = name_at connections_mark (codes "connections") in
    let wires = sound_section wires_heading (map wire_line b.wires) (alone connections_mark (codes "connections") refl) (sound_each wire_line is_printable_wire sound_wire b.wires parts.1) in
    let annexes = sound_annexes spelled b.annexes clauses may.printable.printable may.labels in
    let ending = (word (codes "end") ∷ name_at end_owner_mark b.frame.text ∷ sign (codes ".") ∷ name_at end_name_mark b.name.text ∷ semicolon) ∷ [] in
    let behind = sound_lines (annex_lines b.annexes clauses) ending annexes (last, tt) in
    let connected = sound_lines (section wires_heading (map wire_line b.wires)) (annex_lines b.annexes clauses ++ ending) wires behind in
    (head, sound_lines (section subs_heading (map sub_line b.subs)) (section wires_heading (map wire_line b.wires) ++ (annex_lines b.annexes clauses ++ ending)) subs connected)

sound_item : AnnexesSpelled → (i : Item) (clauses : List Clause) → is_printable_item i ≡ true → ItemMayState i clauses → AreSound (item_lines i clauses)
sound_item spelled (item.Frame f) clauses h may = sound_frame spelled f clauses h may
sound_item spelled (item.Body b) clauses h may = sound_body_lines spelled b clauses h may
sound_item spelled (item.Library t) clauses h may = (sound_annex spelled item_mark clauses may.printable.printable may.labels, tt)

sound_items : AnnexesSpelled → (items : List Item) (stated : List (List Clause)) → list_all is_printable_item items ≡ true → AllZip ItemMayState items stated → AreSound (items_lines items stated)
sound_items spelled [] [] h may = tt
sound_items spelled [] (c ∷ stated) h may = absurd may
sound_items spelled (i ∷ items) [] h may = absurd may
sound_items spelled (i ∷ items) (c ∷ stated) h may =
    let both = and_parts (is_printable_item i) (list_all is_printable_item items) h in
    sound_lines (item_lines i c) (items_lines items stated) (sound_item spelled i c both.0 may.0) (sound_items spelled items stated both.1 may.1)

sound_import : (i : Ident) → is_printable_package_name i ≡ true → IsSound (import_line i)
sound_import i h = fit_name import_mark (codes "with") refl (sound_parts (name_parts i.text) h sound_end)

-- ---- packages

sound_package : AnnexesSpelled → (p : Package) (stated : List (List Clause)) → is_printable_package p ≡ true → PackageMayState p stated → AreSound (package_lines p stated)
sound_package spelled p stated h may =
    let named = and_parts (is_printable_package_name p.name) (list_all is_printable_package_name p.imports && list_all is_printable_item p.items) h in
    let parts = and_parts (list_all is_printable_package_name p.imports) (list_all is_printable_item p.items) named.1 in
    let whole = subst (λ (z : List Spelled). IsSound z) (append-nil (pname_words p.name)) (sound_parts (name_parts p.name.text) named.0 nothing_sound) in
    let head = fit_name package_mark (codes "package") refl whole in
    let last = fit_name end_mark (codes "end") refl (sound_parts (name_parts p.name.text) named.0 (sign_last close_mark (codes ";") is_semicolon)) in
    let ending = (name_at end_mark (codes "end") ∷ (pname_words p.name ++ sign_at close_mark (codes ";") ∷ [])) ∷ [] in
    let imports = sound_each import_line is_printable_package_name sound_import p.imports parts.0 in
    let items = sound_items spelled p.items stated parts.1 may in
    (head, (alone unmarked (codes "public") refl, sound_lines (map import_line p.imports) (items_lines p.items stated ++ ending) imports (sound_lines (items_lines p.items stated) ending items (last, tt))))

sound_packages : AnnexesSpelled → (ps : List Package) (stated : Stated) → are_printable ps ≡ true → StatedMayBePrinted ps stated → AreSound (canonical_lines ps stated)
sound_packages spelled [] [] h may = tt
sound_packages spelled [] (s ∷ stated) h may = absurd may
sound_packages spelled (p ∷ ps) [] h may = absurd may
sound_packages spelled (p ∷ ps) (s ∷ stated) h may =
    let both = and_parts (is_printable_package p) (are_printable ps) h in
    sound_lines (package_lines p s) (canonical_lines ps stated) (sound_package spelled p s both.0 may.0) (sound_packages spelled ps stated both.1 may.1)

-- ---- the law

all_sound : (lines : List (List Spelled)) → AreSound lines → All IsSoundLine (map plain_words lines)
all_sound [] a = All-nil IsSoundLine
all_sound (line ∷ lines) a = All-cons IsSoundLine (plain_words line) (map plain_words lines) a.0.line (all_sound lines a.1)

pub lines_sound : AnnexesSpelled → (ps : List Package) (stated : Stated) → IsTrue (are_printable ps) → StatedMayBePrinted ps stated → All IsSoundLine (map plain_words (canonical_lines ps stated))
lines_sound spelled ps stated h may = all_sound (canonical_lines ps stated) (sound_packages spelled ps stated h may)
