-- The words of printable clauses are sound lines, so their text reads again.
use Rattle.std.proofs.Common.{◌≡◌, ℕ, Bool, true, false, not, ◌&&◌, ◌||◌, List, [], ◌∷◌, ◌++◌, map, Option, Some, None, refl, sym, ap, subst, codes, IsTrue, append_assoc}
use Rattle.std.specs.List.{list_all, flat_map}
use Rattle.std.proofs.lemmas.Bool.{and_parts, and_right}
use Rattle.std.proofs.lemmas.List.{append-nil}
use Rattle.ag_lex.specs.declared.token.Token.{Token}
use Rattle.ag_lex.specs.Characters.{is_text_byte}
use Rattle.ag_lex.specs.Spelling.{has_close}
use Rattle.ag_terms.specs.declared.clauses.Clause.{Clause}
use Rattle.ag_terms.specs.declared.clauses.Clause.TheVariants as clause
use Rattle.ag_terms.specs.declared.clauses.Equal.{Equal}
use Rattle.ag_terms.specs.declared.clauses.Labelled.{Labelled}
use Rattle.ag_terms.specs.declared.clauses.NodeDef.{NodeDef}
use Rattle.ag_terms.specs.declared.clauses.Ty.{Ty}
use Rattle.ag_terms.specs.declared.clauses.Ty.TheVariants as ty
use Rattle.ag_terms.specs.declared.clauses.Var.{Var}
use Rattle.ag_terms.specs.declared.terms.Term.{Term}
use Rattle.ag_annex.specs.Marks.{assume_mark, guarantee_mark, lemma_mark, eq_mark, assign_mark, const_mark, node_mark, variable_mark, int_mark, bool_mark, target_mark, node_name_mark, returns_mark, locals_mark, let_mark, tel_mark, value_mark, end_mark}
use Rattle.ag_unparse.specs.Layout.{Spelled, joins_before, joins_behind}
use Rattle.ag_unparse.specs.Canonical.{name_at, sign_at, sign, label_word, term_words, type_word, var_words, more_var_words, vars_words, value_words, some_value_words, equal_words, labelled_words, local_words, locals_words, node_words, clause_words}
use Rattle.ag_unparse.specs.Printable.{is_plain_ident, is_printable_term, is_label, is_printable_var, are_some_vars, is_printable_value, is_printable_equal, is_printable_labelled, is_printable_node, is_printable_clause, are_printable_clauses}
use Rattle.ag_unparse.specs.Rereading.{AreRead}
use Rattle.ag_unparse.specs.Spelling.{StandAs, clauses_words}
use Rattle.ag_unparse.proofs.TokensEnds.{TokensEnd, runs_on}
use Rattle.ag_unparse.proofs.TokensLines.{PiecesKeep, AreSound, words_of, lines_read}
use Rattle.ag_unparse.proofs.TokensSound.{IsSound, IsBegun, IsAfter, begun_of, after_of, behind_of, is_fit, fit, put_name, put_open, put_close, put_comma, put_semicolon, put_colon, put_equals, after_sound, begun_regrouped, sound_term}

nothing : IsAfter []
nothing = record { line = tt; ends = refl }

-- the end of a line
abbrev whole : (xs : List Spelled) → IsAfter (xs ++ []) → IsAfter xs
whole xs a = subst (λ (z : List Spelled). IsAfter z) (append-nil xs) a

after_regrouped : (xs ys ws : List Spelled) → IsAfter (xs ++ (ys ++ ws)) → IsAfter ((xs ++ ys) ++ ws)
after_regrouped xs ys ws a = subst (λ (z : List Spelled). IsAfter z) (sym (append_assoc xs ys ws)) a

-- ---- names with types

sound_type : (t : Ty) {ws : List Spelled} → IsAfter ws → IsBegun (type_word t ∷ ws)
sound_type ty.Int a = begun_of (put_name int_mark (codes "int") refl a) refl
sound_type ty.Bool a = begun_of (put_name bool_mark (codes "bool") refl a) refl

sound_var : (v : Var) {ws : List Spelled} → is_printable_var v ≡ true → IsAfter ws → IsAfter (var_words v ++ ws)
sound_var v h a =
    let typed = put_colon 0 (sound_type v.ty a) in
    after_of (put_name variable_mark v.name.text (fit v.name.text h) (after_of typed refl)) refl

sound_more_vars : (vs : List Var) {ws : List Spelled} → list_all is_printable_var vs ≡ true → IsAfter ws → IsAfter (more_var_words vs ++ ws)
sound_more_vars [] h a = a
sound_more_vars (v ∷ vs) h a =
    let both = and_parts (is_printable_var v) (list_all is_printable_var vs) h in
    after_of (put_comma 0 (after_sound (sound_var v both.0 (sound_more_vars vs both.1 a)))) refl

sound_vars : (vs : List Var) {ws : List Spelled} → list_all is_printable_var vs ≡ true → IsAfter ws → IsAfter (vars_words vs ++ ws)
sound_vars [] h a = a
sound_vars (v ∷ vs) h a =
    let both = and_parts (is_printable_var v) (list_all is_printable_var vs) h in
    sound_var v both.0 (sound_more_vars vs both.1 a)

some_vars : (vs : List Var) → are_some_vars vs ≡ true → list_all is_printable_var vs ≡ true
some_vars [] h = absurd cc
some_vars (v ∷ vs) h = h

-- ---- values

-- an expression and the `;` behind it
sound_ended : (t : Term) (ws : List Spelled) → is_printable_term t ≡ true → IsAfter ws → IsBegun ((term_words t ++ sign_at end_mark (codes ";") ∷ []) ++ ws)
sound_ended t ws h a =
    begun_regrouped (term_words t) (sign_at end_mark (codes ";") ∷ []) ws
    (sound_term t (sign_at end_mark (codes ";") ∷ ws) h (behind_of (put_semicolon end_mark (after_sound a)) refl))

sound_value : (t : Term) {ws : List Spelled} → is_printable_term t ≡ true → IsAfter ws → IsAfter (value_words (codes "=") t ++ ws)
sound_value t {ws} h a = after_of (put_equals value_mark (sound_ended t ws h a)) refl

sound_claim : (t : Term) → is_printable_term t ≡ true → IsSound (value_words (codes ":") t)
sound_claim t h =
    let ended = subst (λ (z : List Spelled). IsBegun z) (append-nil (term_words t ++ sign_at end_mark (codes ";") ∷ [])) (sound_ended t [] h nothing) in
    put_colon value_mark ended

sound_some_value : (value : Option Term) → is_printable_value value ≡ true → IsAfter (some_value_words value)
sound_some_value None h = after_of (put_semicolon 0 (after_sound nothing)) refl
sound_some_value (Some t) h = whole (value_words (codes "=") t) (sound_value t h nothing)

sound_equal : (e : Equal) {ws : List Spelled} → is_printable_equal e ≡ true → IsAfter ws → IsAfter (equal_words e ++ ws)
sound_equal e h a =
    let both = and_parts (is_plain_ident e.name) (is_printable_term e.value) h in
    after_of (put_name target_mark e.name.text (fit e.name.text both.0) (sound_value e.value both.1 a)) refl

text_runs : (label : List ℕ) (ws : List Spelled) → runs_on (label_word label) ws ≡ false
text_runs label [] = refl
text_runs label (v ∷ vs) = and_right (joins_behind (label_word label) || joins_before v) false refl

put_label : (label : List ℕ) {ws : List Spelled} → is_label label ≡ true → IsSound ws → IsAfter (label_word label ∷ ws)
put_label label {ws} h s =
    let both = and_parts (list_all is_text_byte label) (not (has_close label)) h in
    record { line = (record { text = label; is = refl; fits = both.0 }, text_runs label ws, s.line); ends = refl }

sound_labelled : (mark : ℕ) (own : List ℕ) (l : Labelled) → is_fit own ≡ true → is_printable_labelled l ≡ true → IsSound (labelled_words (name_at mark own) l)
sound_labelled mark own l f h =
    let both = and_parts (is_label l.label) (is_printable_term l.claim) h in
    put_name mark own f (put_label l.label both.0 (sound_claim l.claim both.1))

-- ---- nodes

sound_each : {A : Type 0} (f : A → List Spelled) (test : A → Bool) → ((x : A) (ws : List Spelled) → test x ≡ true → IsAfter ws → IsAfter (f x ++ ws)) → (xs : List A) (ws : List Spelled) → list_all test xs ≡ true → IsAfter ws
    → IsAfter (flat_map f xs ++ ws)
sound_each f test each [] ws h a = a
sound_each f test each (x ∷ xs) ws h a =
    let both = and_parts (test x) (list_all test xs) h in
    after_regrouped (f x) (flat_map f xs) ws (each x (flat_map f xs ++ ws) both.0 (sound_each f test each xs ws both.1 a))

sound_local : (v : Var) (ws : List Spelled) → is_printable_var v ≡ true → IsAfter ws → IsAfter (local_words v ++ ws)
sound_local v ws h a = sound_var v h (after_of (put_semicolon 0 (after_sound a)) refl)

sound_locals : (vs : List Var) {ws : List Spelled} → list_all is_printable_var vs ≡ true → IsAfter ws → IsAfter (locals_words vs ++ ws)
sound_locals [] h a = a
sound_locals (v ∷ vs) {ws} h a =
    after_of (put_name locals_mark (codes "var") refl (sound_each local_words is_printable_var sound_local (v ∷ vs) ws h a)) refl

-- a node's equations and its end
sound_equations : (es : List Equal) → list_all is_printable_equal es ≡ true → IsAfter (name_at let_mark (codes "let") ∷ (flat_map equal_words es ++ name_at tel_mark (codes "tel") ∷ sign (codes ";") ∷ []))
sound_equations es h =
    let last : IsAfter (sign (codes ";") ∷ []) = after_of (put_semicolon 0 (after_sound nothing)) refl in
    let end : IsAfter (name_at tel_mark (codes "tel") ∷ sign (codes ";") ∷ []) = after_of (put_name tel_mark (codes "tel") refl last) refl in
    let all = sound_each equal_words is_printable_equal (λ e ws. sound_equal e {ws = ws}) es (name_at tel_mark (codes "tel") ∷ sign (codes ";") ∷ []) h end in
    after_of (put_name let_mark (codes "let") refl all) refl

sound_node : (n : NodeDef) → is_printable_node n ≡ true → IsSound (node_words n)
sound_node n h =
    let named = and_parts (is_plain_ident n.name) (list_all is_printable_var n.inputs && (are_some_vars n.outputs && (list_all is_printable_var n.locals && list_all is_printable_equal n.equations))) h in
    let given = and_parts (list_all is_printable_var n.inputs) (are_some_vars n.outputs && (list_all is_printable_var n.locals && list_all is_printable_equal n.equations)) named.1 in
    let made = and_parts (are_some_vars n.outputs) (list_all is_printable_var n.locals && list_all is_printable_equal n.equations) given.1 in
    let inner = and_parts (list_all is_printable_var n.locals) (list_all is_printable_equal n.equations) made.1 in
    let locals = sound_locals n.locals inner.0 (sound_equations n.equations inner.1) in
    let heading = put_close 0 (put_semicolon 0 (after_sound locals)) in
    let outputs = put_open 0 (after_sound (sound_vars n.outputs (some_vars n.outputs made.0) (after_of heading refl))) in
    let returned = put_name returns_mark (codes "returns") refl (after_of outputs refl) in
    let closed = put_close 0 returned in
    let inputs = put_open 0 (after_sound (sound_vars n.inputs given.0 (after_of closed refl))) in
    let name = put_name node_name_mark n.name.text (fit n.name.text named.0) (after_of inputs refl) in
    put_name node_mark (codes "node") refl (after_of name refl)

-- ---- clauses

pub sound_clause : (c : Clause) → is_printable_clause c ≡ true → IsSound (clause_words c)
sound_clause (clause.Assume l) h = sound_labelled assume_mark (codes "assume") l refl h
sound_clause (clause.Guarantee l) h = sound_labelled guarantee_mark (codes "guarantee") l refl h
sound_clause (clause.Lemma l) h = sound_labelled lemma_mark (codes "lemma") l refl h
sound_clause (clause.Eq names value) h =
    let both = and_parts (are_some_vars names) (is_printable_value value) h in
    put_name eq_mark (codes "eq") refl (sound_vars names (some_vars names both.0) (sound_some_value value both.1))
sound_clause (clause.Assign e) h = put_name assign_mark (codes "assign") refl (whole (equal_words e) (sound_equal e h nothing))
sound_clause (clause.Const name value) h =
    let both = and_parts (is_printable_var name) (is_printable_term value) h in
    put_name const_mark (codes "const") refl (sound_var name both.0 (whole (value_words (codes "=") value) (sound_value value both.1 nothing)))
sound_clause (clause.Node n) h = sound_node n h

sound_clauses : (cs : List Clause) → are_printable_clauses cs ≡ true → AreSound (map clause_words cs)
sound_clauses [] h = tt
sound_clauses (c ∷ cs) h =
    let both = and_parts (is_printable_clause c) (are_printable_clauses cs) h in
    ((sound_clause c both.0).line, sound_clauses cs both.1)

all_words : (cs : List Clause) → words_of (map clause_words cs) ≡ clauses_words cs
all_words [] = refl
all_words (c ∷ cs) = ap (λ (z : List Spelled). clause_words c ++ z) (all_words cs)

-- ---- the law

pub clauses_read : TokensEnd → PiecesKeep → (file : ℕ) (before after : List ℕ) (clauses : List Clause) → IsTrue (are_printable_clauses clauses) → (tokens : List Token) × AreRead file before after clauses tokens
clauses_read laws keep file before after clauses h =
    let r = lines_read laws keep file before after (map clause_words clauses) (sound_clauses clauses h) in
    (r.tokens, record { kept = r.kept; words = subst (StandAs _ r.tokens) (all_words clauses) r.words })
