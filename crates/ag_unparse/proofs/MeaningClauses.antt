-- The words of clauses state them, but for places.
use Rattle.std.proofs.Common.{◌≡◌, ◌≤◌, ℕ, Bool, true, false, not, ◌==◌, List, [], ◌∷◌, ◌++◌, map, length, Option, Some, None, refl, sym, ap, ap₂, subst, ◌∙◌, codes, if◌then◌else◌}
use Rattle.std.specs.List.{list_all, flat_map}
use Rattle.std.proofs.lemmas.Bool.{and_parts}
use Rattle.std.proofs.lemmas.List.{append-nil}
use Rattle.ag_lex.specs.declared.token.Token.{Token}
use Rattle.ag_aadl.specs.declared.marked.Marked.{Marked}
use Rattle.ag_aadl.specs.Marked.{own, has_mark, up_to}
use Rattle.ag_terms.specs.declared.clauses.Clause.{Clause}
use Rattle.ag_terms.specs.declared.clauses.Clause.TheVariants as clause
use Rattle.ag_terms.specs.declared.clauses.Equal.{Equal}
use Rattle.ag_terms.specs.declared.clauses.Labelled.{Labelled}
use Rattle.ag_terms.specs.declared.clauses.NodeDef.{NodeDef}
use Rattle.ag_terms.specs.declared.clauses.Ty.{Ty}
use Rattle.ag_terms.specs.declared.clauses.Ty.TheVariants as ty
use Rattle.ag_terms.specs.declared.clauses.Var.{Var}
use Rattle.ag_terms.specs.declared.terms.Term.{Term}
use Rattle.ag_annex.specs.Clauses.{value_of, some_value, label_of, equal_of, clause_marks, clause_of, clauses_of}
use Rattle.ag_annex.specs.Marks.{returns_mark, let_mark, tel_mark, variable_mark, bool_mark, value_mark, end_mark}
use Rattle.ag_annex.specs.Expressions.{term_of}
use Rattle.ag_unparse.specs.Canonical.{name_at, sign, term_words, value_words, some_value_words, equal_words, var_words, vars_words, type_word, local_words, locals_words, node_words, clause_words}
use Rattle.ag_unparse.specs.Layout.{Spelled}
use Rattle.ag_unparse.specs.Printable.{is_label, is_printable_term, is_printable_var, is_printable_value, is_printable_equal, is_printable_labelled, is_printable_clause, are_some_vars}
use Rattle.ag_unparse.specs.Rereading.{AreWithin}
use Rattle.ag_unparse.specs.Same.{bare_term, bare_value, bare_equal, bare_labelled, bare_clause, nowhere}
use Rattle.ag_unparse.specs.Spelling.{StandAs, clauses_words}
use Rattle.ag_unparse.proofs.MeaningPlaced.{placed, placed_all, split, placed_join}
use Rattle.ag_unparse.proofs.MeaningReads.{at_word}
use Rattle.ag_unparse.proofs.MeaningNodes.{equations_free, node_told}
use Rattle.ag_unparse.proofs.MeaningLabels.{label_told}
use Rattle.ag_unparse.proofs.MeaningMarks.{term_set, term_marks, var_set, var_marks, vars_marks, locals_marks}
use Rattle.ag_unparse.proofs.MeaningSegments.{free, free_join, within_free, within_passes, after_free, mark_behind, no_mark, heads, starts, segment_split}
use Rattle.ag_unparse.proofs.MeaningValues.{end_word, whole_value, behind_free, equal_told, vars_told, NoVar, lacks, constant_told}

-- ---- labelled clauses

claim_told : (bytes : List ℕ) (l : Labelled) → is_printable_labelled l ≡ true → (b : Token) (ts : List Token) → own bytes b ≡ codes "\"" ++ (l.label ++ codes "\"") → b.end ≤ length bytes → StandAs bytes ts (value_words (codes ":") l.claim)
    → record { label = label_of bytes b; claim = bare_term (value_of bytes (placed bytes (value_words (codes ":") l.claim) ts)); place = nowhere } ≡ bare_labelled l
claim_told bytes l h b ts e fits s =
    let parts = and_parts (is_label l.label) (is_printable_term l.claim) h in
    ap₂ (λ (x : List ℕ) (y : Term). record { label = x; claim = y; place = nowhere }) (label_told bytes l.label b e fits) (whole_value bytes (codes ":") l.claim parts.1 ts s)

-- ---- names and a value

lacks_join : (k : ℕ) (ws vs : List Spelled) → lacks k ws ≡ true → lacks k vs ≡ true → lacks k (ws ++ vs) ≡ true
lacks_join k [] vs g h = h
lacks_join k (w ∷ ws) vs g h =
    let parts = and_parts (not (w.mark == k)) (lacks k ws) g in
    rw parts.0 (lacks_join k ws vs parts.1 h)

term_lacks : (k : ℕ) (t : Term) → list_all (λ j. not (j == k)) term_set ≡ true → lacks k (end_word ∷ []) ≡ true → lacks k (term_words t ++ end_word ∷ []) ≡ true
term_lacks k t all last = lacks_join k (term_words t) (end_word ∷ []) (within_passes term_set (λ (j : ℕ). not (j == k)) (term_words t) all (term_marks t)) last

value_no_var : (value : Option Term) → NoVar (some_value_words value)
value_no_var None = (refl, refl)
value_no_var (Some t) = (behind_free (variable_mark ∷ []) t refl refl, term_lacks bool_mark t refl refl)

-- the value behind declared names
value_behind : (bytes : List ℕ) (vs : List Var) (value : Option Term) → is_printable_value value ≡ true → (ts : List Token) → StandAs bytes ts (vars_words vs ++ some_value_words value)
    → bare_value (some_value bytes (placed bytes (vars_words vs ++ some_value_words value) ts)) ≡ bare_value value
value_behind bytes vs value h ts s =
    let c = split bytes (vars_words vs) (some_value_words value) ts s in
    let front = placed bytes (vars_words vs) c.front in
    let behind = placed bytes (some_value_words value) c.rest in
    let whole : placed bytes (vars_words vs ++ some_value_words value) ts ≡ front ++ behind = ap (placed bytes (vars_words vs ++ some_value_words value)) c.whole ∙ placed_join bytes (vars_words vs) (some_value_words value) c.front c.rest c.first in
    let none = placed_all bytes (λ (k : ℕ). not (k == value_mark)) (vars_words vs) c.front (within_passes var_set (λ (k : ℕ). not (k == value_mark)) (vars_words vs) refl (vars_marks vs)) in
    ap (λ (z : List Marked). bare_value (some_value bytes z)) whole
    ∙ ap₂ (λ (x : Bool) (y : List Marked). bare_value (if x then Some (term_of bytes (up_to (end_mark ∷ []) y)) else None)) (mark_behind value_mark front behind none) (after_free value_mark front behind none)
    ∙ last value c.rest h c.second
  where
    last : (v : Option Term) (us : List Token) → is_printable_value v ≡ true → StandAs bytes us (some_value_words v) → bare_value (some_value bytes (placed bytes (some_value_words v) us)) ≡ bare_value v
    last None [] g e = absurd e
    last None (u ∷ []) g e = refl
    last None (u ∷ w ∷ us) g e = absurd e.2
    last (Some t) [] g e = absurd e
    last (Some t) (u ∷ us) g e = ap (λ (z : Term). Some z) (whole_value bytes (codes "=") t g (u ∷ us) e)

-- ---- one clause

type_past : (bytes : List ℕ) (type : Ty) (t : Token) (ms : List Marked) → value_of bytes (at_word bytes (type_word type) t ∷ ms) ≡ value_of bytes ms
type_past bytes ty.Int t ms = refl
type_past bytes ty.Bool t ms = refl

assign_told : (bytes : List ℕ) (e : Equal) → is_printable_equal e ≡ true → (ts : List Token) → StandAs bytes ts (equal_words e) → bare_equal (equal_of bytes (placed bytes (equal_words e) ts)) ≡ bare_equal e
assign_told bytes e h ts s = ap (λ (z : List Marked). bare_equal (equal_of bytes z)) (sym (append-nil (placed bytes (equal_words e) ts))) ∙ equal_told bytes e h ts s []

clause_told : (bytes : List ℕ) (c : Clause) → is_printable_clause c ≡ true → (ts : List Token) → StandAs bytes ts (clause_words c) → AreWithin bytes ts → bare_clause (clause_of bytes (placed bytes (clause_words c) ts)) ≡ bare_clause c
clause_told bytes (clause.Assume l) h [] s f = absurd s
clause_told bytes (clause.Assume l) h (a ∷ []) s f = absurd s.2
clause_told bytes (clause.Assume l) h (a ∷ b ∷ ts) s f = ap clause.Assume (claim_told bytes l h b ts s.2.1 f.1.0 s.2.2)
clause_told bytes (clause.Guarantee l) h [] s f = absurd s
clause_told bytes (clause.Guarantee l) h (a ∷ []) s f = absurd s.2
clause_told bytes (clause.Guarantee l) h (a ∷ b ∷ ts) s f = ap clause.Guarantee (claim_told bytes l h b ts s.2.1 f.1.0 s.2.2)
clause_told bytes (clause.Lemma l) h [] s f = absurd s
clause_told bytes (clause.Lemma l) h (a ∷ []) s f = absurd s.2
clause_told bytes (clause.Lemma l) h (a ∷ b ∷ ts) s f = ap clause.Lemma (claim_told bytes l h b ts s.2.1 f.1.0 s.2.2)
clause_told bytes (clause.Eq names value) h [] s f = absurd s
clause_told bytes (clause.Eq names value) h (a ∷ ts) s f =
    let parts = and_parts (are_some_vars names) (is_printable_value value) h in
    ap₂ clause.Eq (vars_told bytes names (some_value_words value) (value_no_var value) ts s.2) (value_behind bytes names value parts.1 ts s.2)
clause_told bytes (clause.Assign e) h [] s f = absurd s
clause_told bytes (clause.Assign e) h (a ∷ ts) s f = ap clause.Assign (assign_told bytes e h ts s.2)
clause_told bytes (clause.Const name value) h [] s f = absurd s
clause_told bytes (clause.Const name value) h (a ∷ []) s f = absurd s.2
clause_told bytes (clause.Const name value) h (a ∷ b ∷ []) s f = absurd s.2.2
clause_told bytes (clause.Const name value) h (a ∷ b ∷ c ∷ []) s f = absurd s.2.2.2
clause_told bytes (clause.Const name value) h (a ∷ b ∷ c ∷ d ∷ ts) s f =
    let parts = and_parts (is_printable_var name) (is_printable_term value) h in
    let behind = placed bytes (value_words (codes "=") value) ts in
    let none : has_mark bool_mark behind ≡ false = no_mark bool_mark behind (placed_all bytes (λ (k : ℕ). not (k == bool_mark)) (value_words (codes "=") value) ts (term_lacks bool_mark value refl refl)) in
    ap₂ clause.Const (constant_told bytes name b c d behind s.2.1 none) (ap bare_term (type_past bytes name.ty d behind) ∙ whole_value bytes (codes "=") value parts.1 ts s.2.2.2.2)
clause_told bytes (clause.Node n) h [] s f = absurd s
clause_told bytes (clause.Node n) h (a ∷ ts) s f = ap clause.Node (node_told bytes n h (a ∷ ts) s)

-- ---- all clauses

some_value_free : (value : Option Term) → free clause_marks (some_value_words value) ≡ true
some_value_free None = refl
some_value_free (Some t) = behind_free clause_marks t refl refl

names_free : (vs : List Var) → free clause_marks (vars_words vs) ≡ true
names_free vs = within_free var_set clause_marks (vars_words vs) refl (vars_marks vs)

some_locals_free : (vs : List Var) → free clause_marks (locals_words vs) ≡ true
some_locals_free [] = refl
some_locals_free (v ∷ vs) = within_free var_set clause_marks (flat_map local_words (v ∷ vs)) refl (locals_marks (v ∷ vs))

node_free : (n : NodeDef) → heads clause_marks (node_words n) ≡ true
node_free n =
    let tel_words = name_at tel_mark (codes "tel") ∷ sign (codes ";") ∷ [] in
    let body = flat_map equal_words n.equations ++ tel_words in
    let last = locals_words n.locals ++ name_at let_mark (codes "let") ∷ body in
    let returned = vars_words n.outputs ++ sign (codes ")") ∷ sign (codes ";") ∷ last in
    free_join clause_marks (vars_words n.inputs) (sign (codes ")") ∷ name_at returns_mark (codes "returns") ∷ sign (codes "(") ∷ returned) (names_free n.inputs)
    (free_join clause_marks (vars_words n.outputs) (sign (codes ")") ∷ sign (codes ";") ∷ last) (names_free n.outputs)
    (free_join clause_marks (locals_words n.locals) (name_at let_mark (codes "let") ∷ body) (some_locals_free n.locals)
    (free_join clause_marks (flat_map equal_words n.equations) tel_words (equations_free clause_marks n.equations (λ (e : Equal). behind_free clause_marks e.value refl refl)) refl)))

clause_heads : (c : Clause) → heads clause_marks (clause_words c) ≡ true
clause_heads (clause.Assume l) = behind_free clause_marks l.claim refl refl
clause_heads (clause.Guarantee l) = behind_free clause_marks l.claim refl refl
clause_heads (clause.Lemma l) = behind_free clause_marks l.claim refl refl
clause_heads (clause.Eq names value) = free_join clause_marks (vars_words names) (some_value_words value) (names_free names) (some_value_free value)
clause_heads (clause.Assign e) = behind_free clause_marks e.value refl refl
clause_heads (clause.Const name value) =
    free_join clause_marks (var_words name) (value_words (codes "=") value) (within_free var_set clause_marks (var_words name) refl (var_marks name)) (behind_free clause_marks value refl refl)
clause_heads (clause.Node n) = node_free n

clause_starts : (c : Clause) (ws : List Spelled) → starts clause_marks (clause_words c ++ ws) ≡ true
clause_starts (clause.Assume l) ws = refl
clause_starts (clause.Guarantee l) ws = refl
clause_starts (clause.Lemma l) ws = refl
clause_starts (clause.Eq names value) ws = refl
clause_starts (clause.Assign e) ws = refl
clause_starts (clause.Const name value) ws = refl
clause_starts (clause.Node n) ws = refl

clauses_start : (cs : List Clause) → starts clause_marks (clauses_words cs) ≡ true
clauses_start [] = refl
clauses_start (c ∷ cs) = clause_starts c (clauses_words cs)

both_within : (bytes : List ℕ) (front rest : List Token) → AreWithin bytes (front ++ rest) → AreWithin bytes front × AreWithin bytes rest
both_within bytes [] rest h = (tt, h)
both_within bytes (t ∷ front) rest h =
    let more = both_within bytes front rest h.1 in
    ((h.0, more.0), more.1)

pub clauses_told : (bytes : List ℕ) (cs : List Clause) → list_all is_printable_clause cs ≡ true → (ts : List Token) → StandAs bytes ts (clauses_words cs) → AreWithin bytes ts → map bare_clause (clauses_of bytes (placed bytes (clauses_words cs) ts)) ≡ map bare_clause cs
clauses_told bytes [] h ts s f = refl
clauses_told bytes (c ∷ cs) h ts s f =
    let parts = and_parts (is_printable_clause c) (list_all is_printable_clause cs) h in
    let d = split bytes (clause_words c) (clauses_words cs) ts s in
    let fits = both_within bytes d.front d.rest (subst (AreWithin bytes) d.whole f) in
    ap (λ (z : List (List Marked)). map bare_clause (map (clause_of bytes) z)) (segment_split bytes clause_marks (clause_words c) (clauses_words cs) ts d (clause_heads c) (clauses_start cs))
    ∙ ap₂ (λ (x : Clause) (y : List Clause). x ∷ y) (clause_told bytes c parts.0 d.front d.first fits.0) (clauses_told bytes cs parts.1 d.rest d.second fits.1)
