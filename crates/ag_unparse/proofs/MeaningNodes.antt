-- The words of nodes state them, but for places.
use Rattle.std.proofs.Common.{◌≡◌, ℕ, Bool, true, false, ◌&&◌, ◌==◌, List, [], ◌∷◌, ◌++◌, map, refl, sym, ap, ap₂, subst, ◌∙◌, codes, if◌then◌else◌}
use Rattle.std.specs.List.{list_all, flat_map}
use Rattle.std.proofs.lemmas.Bool.{and_parts}
use Rattle.std.proofs.lemmas.List.{append_assoc}
use Rattle.ag_lex.specs.declared.token.Token.{Token}
use Rattle.ag_aadl.specs.declared.marked.Marked.{Marked}
use Rattle.ag_terms.specs.declared.names.Ident.{Ident}
use Rattle.ag_aadl.specs.Marked.{own, segments}
use Rattle.ag_aadl.specs.Meaning.{begins_with}
use Rattle.ag_terms.specs.declared.clauses.Equal.{Equal}
use Rattle.ag_terms.specs.declared.clauses.NodeDef.{NodeDef}
use Rattle.ag_terms.specs.declared.clauses.Var.{Var}
use Rattle.ag_annex.specs.Clauses.{parts_of_node, part_under, node_of}
use Rattle.ag_annex.specs.Marks.{node_mark, returns_mark, locals_mark, let_mark, tel_mark, node_name_mark}
use Rattle.ag_unparse.specs.Canonical.{name_at, sign, equal_words, vars_words, local_words, locals_words, node_words}
use Rattle.ag_unparse.specs.Layout.{Spelled}
use Rattle.ag_unparse.specs.Printable.{is_plain_ident, is_printable_var, is_printable_equal, is_printable_node, are_some_vars}
use Rattle.ag_unparse.specs.Same.{bare_ident, bare_var, bare_equal, bare_node, nowhere}
use Rattle.ag_unparse.specs.Spelling.{StandAs}
use Rattle.ag_unparse.proofs.MeaningPlaced.{placed, split}
use Rattle.ag_unparse.proofs.MeaningMarks.{var_set, vars_marks, locals_marks}
use Rattle.ag_unparse.proofs.MeaningSegments.{free, free_join, within_free, heads, starts, segment_split, segment_alone}
use Rattle.ag_unparse.proofs.MeaningValues.{behind_free, equations_in, equations_told, vars_in, vars_told, locals_told}

-- ---- the four parts

abbrev marks : List ℕ
marks = node_mark ∷ returns_mark ∷ locals_mark ∷ let_mark ∷ []

abbrev head_words : NodeDef → List Spelled
head_words n = name_at node_mark (codes "node") ∷ name_at node_name_mark n.name.text ∷ sign (codes "(") ∷ (vars_words n.inputs ++ sign (codes ")") ∷ [])

abbrev returns_words : NodeDef → List Spelled
returns_words n = name_at returns_mark (codes "returns") ∷ sign (codes "(") ∷ (vars_words n.outputs ++ sign (codes ")") ∷ sign (codes ";") ∷ [])

abbrev tel_words : List Spelled
tel_words = name_at tel_mark (codes "tel") ∷ sign (codes ";") ∷ []

abbrev body_words : NodeDef → List Spelled
body_words n = name_at let_mark (codes "let") ∷ (flat_map equal_words n.equations ++ tel_words)

abbrev parted_words : NodeDef → List Spelled
parted_words n = head_words n ++ (returns_words n ++ (locals_words n.locals ++ body_words n))

regrouped : (n : NodeDef) → node_words n ≡ parted_words n
regrouped n =
    let last = locals_words n.locals ++ body_words n in
    let first = λ (z : List Spelled). name_at node_mark (codes "node") ∷ name_at node_name_mark n.name.text ∷ sign (codes "(") ∷ z in
    let second = λ (z : List Spelled). name_at returns_mark (codes "returns") ∷ sign (codes "(") ∷ z in
    ap (λ (z : List Spelled). first (vars_words n.inputs ++ sign (codes ")") ∷ second z)) (sym (append_assoc (vars_words n.outputs) (sign (codes ")") ∷ sign (codes ";") ∷ []) last))
    ∙ ap first (sym (append_assoc (vars_words n.inputs) (sign (codes ")") ∷ []) (returns_words n ++ last)))

vars_free : (vs : List Var) → free marks (vars_words vs) ≡ true
vars_free vs = within_free var_set marks (vars_words vs) refl (vars_marks vs)

head_heads : (n : NodeDef) → heads marks (head_words n) ≡ true
head_heads n = free_join marks (vars_words n.inputs) (sign (codes ")") ∷ []) (vars_free n.inputs) refl

returns_heads : (n : NodeDef) → heads marks (returns_words n) ≡ true
returns_heads n = free_join marks (vars_words n.outputs) (sign (codes ")") ∷ sign (codes ";") ∷ []) (vars_free n.outputs) refl

pub equations_free : (ks : List ℕ) (es : List Equal) → ((e : Equal) → free ks (equal_words e) ≡ true) → free ks (flat_map equal_words es) ≡ true
equations_free ks [] h = refl
equations_free ks (e ∷ es) h = free_join ks (equal_words e) (flat_map equal_words es) (h e) (equations_free ks es h)

body_heads : (n : NodeDef) → heads marks (body_words n) ≡ true
body_heads n =
    free_join marks (flat_map equal_words n.equations) tel_words (equations_free marks n.equations (λ (e : Equal). behind_free marks e.value refl refl)) refl

locals_heads : (v : Var) (vs : List Var) → heads marks (locals_words (v ∷ vs)) ≡ true
locals_heads v vs = within_free var_set marks (flat_map local_words (v ∷ vs)) refl (locals_marks (v ∷ vs))

next_starts : (vs : List Var) (n : NodeDef) → starts marks (locals_words vs ++ body_words n) ≡ true
next_starts [] n = refl
next_starts (v ∷ vs) n = refl

-- ---- finding a part

begins : (bytes : List ℕ) (k : ℕ) (w : Spelled) (ws : List Spelled) (ts : List Token) → StandAs bytes ts (w ∷ ws) → begins_with k (placed bytes (w ∷ ws) ts) ≡ (w.mark == k)
begins bytes k w ws [] s = absurd s
begins bytes k w ws (t ∷ ts) s = refl

part_here : (bytes : List ℕ) (k : ℕ) (w : Spelled) (ws : List Spelled) (ts : List Token) (parts : List (List Marked)) → StandAs bytes ts (w ∷ ws) → (w.mark == k) ≡ true
    → part_under k (placed bytes (w ∷ ws) ts ∷ parts) ≡ placed bytes (w ∷ ws) ts
part_here bytes k w ws ts parts s h = ap (λ (c : Bool). if c then placed bytes (w ∷ ws) ts else part_under k parts) (begins bytes k w ws ts s ∙ h)

part_past : (bytes : List ℕ) (k : ℕ) (w : Spelled) (ws : List Spelled) (ts : List Token) (parts : List (List Marked)) → StandAs bytes ts (w ∷ ws) → (w.mark == k) ≡ false
    → part_under k (placed bytes (w ∷ ws) ts ∷ parts) ≡ part_under k parts
part_past bytes k w ws ts parts s h = ap (λ (c : Bool). if c then placed bytes (w ∷ ws) ts else part_under k parts) (begins bytes k w ws ts s ∙ h)

-- ---- what each part states

inputs_told : (bytes : List ℕ) (n : NodeDef) (ts : List Token) → StandAs bytes ts (head_words n) → vars_in bytes (placed bytes (head_words n) ts) ≡ map bare_var n.inputs
inputs_told bytes n [] s = absurd s
inputs_told bytes n (a ∷ []) s = absurd s.2
inputs_told bytes n (a ∷ b ∷ []) s = absurd s.2.2
inputs_told bytes n (a ∷ b ∷ c ∷ ts) s = vars_told bytes n.inputs (sign (codes ")") ∷ []) (refl, refl) ts s.2.2.2

outputs_told : (bytes : List ℕ) (n : NodeDef) (ts : List Token) → StandAs bytes ts (returns_words n) → vars_in bytes (placed bytes (returns_words n) ts) ≡ map bare_var n.outputs
outputs_told bytes n [] s = absurd s
outputs_told bytes n (a ∷ []) s = absurd s.2
outputs_told bytes n (a ∷ b ∷ ts) s = vars_told bytes n.outputs (sign (codes ")") ∷ sign (codes ";") ∷ []) (refl, refl) ts s.2.2

some_locals_told : (bytes : List ℕ) (v : Var) (vs : List Var) (ts : List Token) → StandAs bytes ts (locals_words (v ∷ vs)) → vars_in bytes (placed bytes (locals_words (v ∷ vs)) ts) ≡ map bare_var (v ∷ vs)
some_locals_told bytes v vs [] s = absurd s
some_locals_told bytes v vs (a ∷ ts) s = (locals_told bytes (v ∷ vs) ts s.2).told

body_told : (bytes : List ℕ) (n : NodeDef) → list_all is_printable_equal n.equations ≡ true → (ts : List Token) → StandAs bytes ts (body_words n) → equations_in bytes (placed bytes (body_words n) ts) ≡ map bare_equal n.equations
body_told bytes n h [] s = absurd s
body_told bytes n h (a ∷ ts) s = equations_told bytes n.equations tel_words h refl ts s.2

-- ---- the node

-- the locals and the equations that the last parts of a node state
record LastTold (bytes : List ℕ) (n : NodeDef) (vs : List Var) (parts : List (List Marked)) : Type 0 where
  locals : vars_in bytes (part_under locals_mark parts) ≡ map bare_var vs
  equations : equations_in bytes (part_under let_mark parts) ≡ map bare_equal n.equations

last_told : (bytes : List ℕ) (n : NodeDef) (vs : List Var) → list_all is_printable_equal n.equations ≡ true → (ts : List Token) → StandAs bytes ts (locals_words vs ++ body_words n)
    → LastTold bytes n vs (segments marks (placed bytes (locals_words vs ++ body_words n) ts))
last_told bytes n [] h ts s =
    let let_word = name_at let_mark (codes "let") in
    let inner = flat_map equal_words n.equations ++ tel_words in
    let alone = segment_alone bytes marks (body_words n) ts s (body_heads n) in
    record {
      locals = ap (λ (z : List (List Marked)). vars_in bytes (part_under locals_mark z)) alone ∙ ap (vars_in bytes) (part_past bytes locals_mark let_word inner ts [] s refl);
      equations = ap (λ (z : List (List Marked)). equations_in bytes (part_under let_mark z)) alone ∙ ap (equations_in bytes) (part_here bytes let_mark let_word inner ts [] s refl) ∙ body_told bytes n h ts s;
    }
last_told bytes n (v ∷ vs) h ts s =
    let let_word = name_at let_mark (codes "let") in
    let var_word = name_at locals_mark (codes "var") in
    let inner = flat_map equal_words n.equations ++ tel_words in
    let names = flat_map local_words (v ∷ vs) in
    let c = split bytes (locals_words (v ∷ vs)) (body_words n) ts s in
    let rest = placed bytes (body_words n) c.rest ∷ [] in
    let both : segments marks (placed bytes (locals_words (v ∷ vs) ++ body_words n) ts) ≡ placed bytes (locals_words (v ∷ vs)) c.front ∷ rest =
    segment_split bytes marks (locals_words (v ∷ vs)) (body_words n) ts c (locals_heads v vs) refl
    ∙ ap (λ (z : List (List Marked)). placed bytes (locals_words (v ∷ vs)) c.front ∷ z) (segment_alone bytes marks (body_words n) c.rest c.second (body_heads n)) in
    record {
      locals = ap (λ (z : List (List Marked)). vars_in bytes (part_under locals_mark z)) both ∙ ap (vars_in bytes) (part_here bytes locals_mark var_word names c.front rest c.first refl) ∙ some_locals_told bytes v vs c.front c.first;
      equations =
          ap (λ (z : List (List Marked)). equations_in bytes (part_under let_mark z)) both
          ∙ ap (equations_in bytes) (part_past bytes let_mark var_word names c.front rest c.first refl ∙ part_here bytes let_mark let_word inner c.rest [] c.second refl)
          ∙ body_told bytes n h c.rest c.second;
    }

-- all parts
record PartsTold (bytes : List ℕ) (n : NodeDef) (parts : List (List Marked)) : Type 0 where
  inputs : vars_in bytes (part_under node_mark parts) ≡ map bare_var n.inputs
  outputs : vars_in bytes (part_under returns_mark parts) ≡ map bare_var n.outputs
  locals : vars_in bytes (part_under locals_mark parts) ≡ map bare_var n.locals
  equations : equations_in bytes (part_under let_mark parts) ≡ map bare_equal n.equations

three_parts : (bytes : List ℕ) (n : NodeDef) (f g : List Token) (parts : List (List Marked)) → StandAs bytes f (head_words n) → StandAs bytes g (returns_words n) → LastTold bytes n n.locals parts
    → PartsTold bytes n (placed bytes (head_words n) f ∷ placed bytes (returns_words n) g ∷ parts)
three_parts bytes n f g parts s r l =
    let one = name_at node_mark (codes "node") in
    let inside = name_at node_name_mark n.name.text ∷ sign (codes "(") ∷ (vars_words n.inputs ++ sign (codes ")") ∷ []) in
    let two = name_at returns_mark (codes "returns") in
    let outside = sign (codes "(") ∷ (vars_words n.outputs ++ sign (codes ")") ∷ sign (codes ";") ∷ []) in
    let more = placed bytes (returns_words n) g ∷ parts in
    record {
      inputs = ap (vars_in bytes) (part_here bytes node_mark one inside f more s refl) ∙ inputs_told bytes n f s;
      outputs = ap (vars_in bytes) (part_past bytes returns_mark one inside f more s refl ∙ part_here bytes returns_mark two outside g parts r refl) ∙ outputs_told bytes n g r;
      locals = ap (vars_in bytes) (part_past bytes locals_mark one inside f more s refl ∙ part_past bytes locals_mark two outside g parts r refl) ∙ l.locals;
      equations = ap (equations_in bytes) (part_past bytes let_mark one inside f more s refl ∙ part_past bytes let_mark two outside g parts r refl) ∙ l.equations;
    }

parts_told : (bytes : List ℕ) (n : NodeDef) → list_all is_printable_equal n.equations ≡ true → (ts : List Token) → StandAs bytes ts (parted_words n) → PartsTold bytes n (segments marks (placed bytes (parted_words n) ts))
parts_told bytes n h ts s =
    let last = locals_words n.locals ++ body_words n in
    let c = split bytes (head_words n) (returns_words n ++ last) ts s in
    let d = split bytes (returns_words n) last c.rest c.second in
    let both : segments marks (placed bytes (parted_words n) ts) ≡ placed bytes (head_words n) c.front ∷ placed bytes (returns_words n) d.front ∷ segments marks (placed bytes last d.rest) =
    segment_split bytes marks (head_words n) (returns_words n ++ last) ts c (head_heads n) refl
    ∙ ap (λ (z : List (List Marked)). placed bytes (head_words n) c.front ∷ z) (segment_split bytes marks (returns_words n) last c.rest d (returns_heads n) (next_starts n.locals n)) in
    subst (PartsTold bytes n) (sym both) (three_parts bytes n c.front d.front (segments marks (placed bytes last d.rest)) c.first d.first (last_told bytes n n.locals h d.rest d.second))

same_node : (bytes : List ℕ) (n : NodeDef) (name : Ident) (inputs outputs locals : List Var) (equations : List Equal) → bare_ident name ≡ bare_ident n.name → inputs ≡ map bare_var n.inputs → outputs ≡ map bare_var n.outputs
    → locals ≡ map bare_var n.locals → equations ≡ map bare_equal n.equations → record { name = bare_ident name; inputs = inputs; outputs = outputs; locals = locals; equations = equations } ≡ bare_node n
same_node bytes n name inputs outputs locals equations a b c d e =
    ap (λ (z : Ident). record { name = z; inputs = inputs; outputs = outputs; locals = locals; equations = equations }) a
    ∙ ap₂ (λ (x y : List Var). record { name = bare_ident n.name; inputs = x; outputs = y; locals = locals; equations = equations }) b c
    ∙ ap₂ (λ (x : List Var) (y : List Equal). record { name = bare_ident n.name; inputs = map bare_var n.inputs; outputs = map bare_var n.outputs; locals = x; equations = y }) d e

pub node_told : (bytes : List ℕ) (n : NodeDef) → is_printable_node n ≡ true → (ts : List Token) → StandAs bytes ts (node_words n) → bare_node (node_of bytes (placed bytes (node_words n) ts)) ≡ bare_node n
node_told bytes n h [] s = absurd s
node_told bytes n h (a ∷ []) s = absurd s.2
node_told bytes n h (a ∷ b ∷ ts) s =
    let one = and_parts (is_plain_ident n.name) (list_all is_printable_var n.inputs && (are_some_vars n.outputs && (list_all is_printable_var n.locals && list_all is_printable_equal n.equations))) h in
    let two = and_parts (list_all is_printable_var n.inputs) (are_some_vars n.outputs && (list_all is_printable_var n.locals && list_all is_printable_equal n.equations)) one.1 in
    let three = and_parts (are_some_vars n.outputs) (list_all is_printable_var n.locals && list_all is_printable_equal n.equations) two.1 in
    let four = and_parts (list_all is_printable_var n.locals) (list_all is_printable_equal n.equations) three.1 in
    let all = a ∷ b ∷ ts in
    let told = parts_told bytes n four.1 all (subst (λ (z : List Spelled). StandAs bytes all z) (regrouped n) s) in
    let p = subst (λ (z : List Spelled). PartsTold bytes n (segments marks (placed bytes z all))) (sym (regrouped n)) told in
    let ms = placed bytes (node_words n) all in
    let parts = parts_of_node ms in
    same_node bytes n (record { text = own bytes b; place = b.place }) (vars_in bytes (part_under node_mark parts)) (vars_in bytes (part_under returns_mark parts)) (vars_in bytes (part_under locals_mark parts))
    (equations_in bytes (part_under let_mark parts)) (ap (λ (z : List ℕ). record { text = z; place = nowhere }) s.2.1) p.inputs p.outputs p.locals p.equations
