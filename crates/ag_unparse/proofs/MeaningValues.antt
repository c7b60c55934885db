-- Values, equations and declared names read back from their words.
use Rattle.std.proofs.Common.{◌≡◌, ℕ, Bool, true, false, not, ◌==◌, List, [], ◌∷◌, ◌++◌, map, refl, sym, ap, ap₂, subst, ◌∙◌, codes, if◌then◌else◌}
use Rattle.std.specs.List.{list_all, flat_map}
use Rattle.std.proofs.lemmas.Bool.{and_parts}
use Rattle.std.proofs.lemmas.List.{append_assoc, append-nil}
use Rattle.ag_lex.specs.declared.token.Token.{Token}
use Rattle.ag_aadl.specs.declared.marked.Marked.{Marked}
use Rattle.ag_aadl.specs.Marked.{own, has_mark, is_among, up_to, segments}
use Rattle.ag_terms.specs.declared.clauses.Equal.{Equal}
use Rattle.ag_terms.specs.declared.clauses.Ty.{Ty}
use Rattle.ag_terms.specs.declared.clauses.Ty.TheVariants as ty
use Rattle.ag_terms.specs.declared.clauses.Var.{Var}
use Rattle.ag_annex.specs.declared.frames.Reading.{Reading}
use Rattle.ag_terms.specs.declared.terms.Term.{Term}
use Rattle.ag_annex.specs.Clauses.{value_of, var_of, equal_of, vars_of}
use Rattle.ag_annex.specs.Expressions.{finished, term_of}
use Rattle.ag_annex.specs.Marks.{variable_mark, bool_mark, target_mark, end_mark}
use Rattle.ag_unparse.specs.Canonical.{name_at, sign_at, sign, term_words, value_words, equal_words, type_word, more_var_words, vars_words, local_words}
use Rattle.ag_unparse.specs.Layout.{Spelled}
use Rattle.ag_unparse.specs.Printable.{is_plain_ident, is_printable_term, is_printable_equal}
use Rattle.ag_unparse.specs.Same.{bare_term, bare_ident, bare_var, bare_equal, nowhere}
use Rattle.ag_unparse.specs.Spelling.{StandAs}
use Rattle.ag_unparse.proofs.MeaningPlaced.{placed, placed_all, split, placed_join}
use Rattle.ag_unparse.proofs.MeaningReads.{at_word}
use Rattle.ag_unparse.proofs.MeaningExpressions.{term_reads}
use Rattle.ag_unparse.proofs.MeaningSegments.{free, free_join, within_free, placed_free, up_to_free, segments_free, no_mark, segment_front}
use Rattle.ag_unparse.proofs.MeaningMarks.{term_set, term_marks}

-- ---- values

abbrev pub end_word : Spelled
end_word = sign_at end_mark (codes ";")

-- the tokens of an expression alone
pub term_told : (bytes : List ℕ) (t : Term) → is_printable_term t ≡ true → (ts : List Token) → StandAs bytes ts (term_words t) → bare_term (term_of bytes (placed bytes (term_words t) ts)) ≡ bare_term t
term_told bytes t h ts s =
    let r = term_reads bytes t h ts s in
    ap (λ (z : Reading). bare_term (finished bytes z)) (r.read []) ∙ r.known.same

end_stops : (bytes : List ℕ) (ts : List Token) (extra : List Marked) → StandAs bytes ts (end_word ∷ []) → up_to (end_mark ∷ []) (placed bytes (end_word ∷ []) ts ++ extra) ≡ []
end_stops bytes [] extra h = absurd h
end_stops bytes (t ∷ ts) extra h = refl

-- a value, and whatever stands behind it
pub value_told : (bytes before : List ℕ) (t : Term) → is_printable_term t ≡ true → (ts : List Token) → StandAs bytes ts (value_words before t) → (extra : List Marked)
    → bare_term (value_of bytes (placed bytes (value_words before t) ts ++ extra)) ≡ bare_term t
value_told bytes before t h [] s extra = absurd s
value_told bytes before t h (a ∷ ts) s extra =
    let c = split bytes (term_words t) (end_word ∷ []) ts s.2 in
    let inner = placed bytes (term_words t) c.front in
    let last = placed bytes (end_word ∷ []) c.rest in
    let none = placed_free bytes (end_mark ∷ []) (term_words t) c.front (within_free term_set (end_mark ∷ []) (term_words t) refl (term_marks t)) in
    let whole : placed bytes (term_words t ++ end_word ∷ []) ts ≡ inner ++ last = ap (placed bytes (term_words t ++ end_word ∷ [])) c.whole ∙ placed_join bytes (term_words t) (end_word ∷ []) c.front c.rest c.first in
    let cut : up_to (end_mark ∷ []) (placed bytes (term_words t ++ end_word ∷ []) ts ++ extra) ≡ inner =
    ap (λ (z : List Marked). up_to (end_mark ∷ []) (z ++ extra)) whole
    ∙ ap (up_to (end_mark ∷ [])) (append_assoc inner last extra)
    ∙ up_to_free (end_mark ∷ []) inner (last ++ extra) none
    ∙ ap (λ (z : List Marked). inner ++ z) (end_stops bytes c.rest extra c.second)
    ∙ append-nil inner in
    ap (λ (z : List Marked). bare_term (term_of bytes z)) cut ∙ term_told bytes t h c.front c.first

pub whole_value : (bytes before : List ℕ) (t : Term) → is_printable_term t ≡ true → (ts : List Token) → StandAs bytes ts (value_words before t) → bare_term (value_of bytes (placed bytes (value_words before t) ts)) ≡ bare_term t
whole_value bytes before t h ts s = ap (λ (z : List Marked). bare_term (value_of bytes z)) (sym (append-nil (placed bytes (value_words before t) ts))) ∙ value_told bytes before t h ts s []

-- the words of an expression and the `;`
pub behind_free : (ks : List ℕ) (t : Term) → list_all (λ k. not (is_among ks k)) term_set ≡ true → free ks (end_word ∷ []) ≡ true → free ks (term_words t ++ end_word ∷ []) ≡ true
behind_free ks t all last = free_join ks (term_words t) (end_word ∷ []) (within_free term_set ks (term_words t) all (term_marks t)) last

segments_none : (ks : List ℕ) (ms : List Marked) → list_all (λ m. not (is_among ks m.mark)) ms ≡ true → segments ks ms ≡ []
segments_none ks ms h = ap (segments ks) (sym (append-nil ms)) ∙ segments_free ks ms [] h

-- ---- equations

pub equal_told : (bytes : List ℕ) (e : Equal) → is_printable_equal e ≡ true → (ts : List Token) → StandAs bytes ts (equal_words e) → (extra : List Marked)
    → bare_equal (equal_of bytes (placed bytes (equal_words e) ts ++ extra)) ≡ bare_equal e
equal_told bytes e h [] s extra = absurd s
equal_told bytes e h (a ∷ ts) s extra =
    let parts = and_parts (is_plain_ident e.name) (is_printable_term e.value) h in
    ap₂ (λ (x : List ℕ) (y : Term). record { name = record { text = x; place = nowhere }; value = y }) s.1 (value_told bytes (codes "=") e.value parts.1 ts s.2 extra)

abbrev pub equations_in : List ℕ → List Marked → List Equal
equations_in bytes ms = map bare_equal (map (equal_of bytes) (segments (target_mark ∷ []) ms))

pub equations_told : (bytes : List ℕ) (es : List Equal) (tail : List Spelled) → list_all is_printable_equal es ≡ true → free (target_mark ∷ []) tail ≡ true → (ts : List Token) → StandAs bytes ts (flat_map equal_words es ++ tail)
    → equations_in bytes (placed bytes (flat_map equal_words es ++ tail) ts) ≡ map bare_equal es
equations_told bytes [] tail h none ts s =
    ap (λ (z : List (List Marked)). map bare_equal (map (equal_of bytes) z)) (segments_none (target_mark ∷ []) (placed bytes tail ts) (placed_free bytes (target_mark ∷ []) tail ts none))
equations_told bytes (e ∷ es) tail h none ts s =
    let parts = and_parts (is_printable_equal e) (list_all is_printable_equal es) h in
    let behind = flat_map equal_words es ++ tail in
    let group : flat_map equal_words (e ∷ es) ++ tail ≡ equal_words e ++ behind = append_assoc (equal_words e) (flat_map equal_words es) tail in
    let c = split bytes (equal_words e) behind ts (subst (λ (z : List Spelled). StandAs bytes ts z) group s) in
    let one = placed bytes (equal_words e) c.front in
    let more = placed bytes behind c.rest in
    let whole : placed bytes (flat_map equal_words (e ∷ es) ++ tail) ts ≡ one ++ more =
    ap (λ (z : List Spelled). placed bytes z ts) group ∙ ap (placed bytes (equal_words e ++ behind)) c.whole ∙ placed_join bytes (equal_words e) behind c.front c.rest c.first in
    ap (equations_in bytes) whole
    ∙ ap (λ (z : List (List Marked)). map bare_equal (map (equal_of bytes) z)) (segment_front bytes (target_mark ∷ []) (equal_words e) c.front more c.first (behind_free (target_mark ∷ []) e.value refl refl))
    ∙ ap₂ (λ (x : Equal) (y : List Equal). x ∷ y) (equal_told bytes e parts.0 c.front c.first (up_to (target_mark ∷ []) more)) (equations_told bytes es tail parts.1 none c.rest c.second)

-- ---- declared names

abbrev pub vars_in : List ℕ → List Marked → List Var
vars_in bytes ms = map bare_var (vars_of bytes ms)

-- a declared name, and what stands behind it up to the next one
var_told : (bytes text : List ℕ) (type : Ty) (a b c : Token) (rest : List Marked) → own bytes a ≡ text → has_mark bool_mark (up_to (variable_mark ∷ []) rest) ≡ false
    → vars_in bytes (at_word bytes (name_at variable_mark text) a ∷ at_word bytes (sign (codes ":")) b ∷ at_word bytes (type_word type) c ∷ rest) ≡ record { name = record { text = text; place = nowhere }; ty = type } ∷ vars_in bytes rest
var_told bytes text ty.Int a b c rest e none =
    ap₂ (λ (x : List ℕ) (y : Bool). record { name = record { text = x; place = nowhere }; ty = if y then ty.Bool else ty.Int } ∷ vars_in bytes rest) e none
var_told bytes text ty.Bool a b c rest e none = ap (λ (x : List ℕ). record { name = record { text = x; place = nowhere }; ty = ty.Bool } ∷ vars_in bytes rest) e

-- no word has the mark
abbrev pub lacks : ℕ → List Spelled → Bool
lacks k ws = list_all (λ w. not (w.mark == k)) ws

-- no declared name, and no type, is among the words
abbrev pub NoVar : List Spelled → Type 0
NoVar ws = (free (variable_mark ∷ []) ws ≡ true) × (lacks bool_mark ws ≡ true)

-- the names, and no type before the first one
pub record VarsTold (bytes : List ℕ) (ms : List Marked) (vs : List Var) : Type 0 where
  pub told : vars_in bytes ms ≡ map bare_var vs
  pub apart : has_mark bool_mark (up_to (variable_mark ∷ []) ms) ≡ false

no_var : (bytes : List ℕ) (tail : List Spelled) (ts : List Token) → NoVar tail → VarsTold bytes (placed bytes tail ts) []
no_var bytes tail ts h =
    let ms = placed bytes tail ts in
    let vars : list_all (λ m. not (is_among (variable_mark ∷ []) m.mark)) ms ≡ true = placed_free bytes (variable_mark ∷ []) tail ts h.0 in
    let bools : list_all (λ m. not (m.mark == bool_mark)) ms ≡ true = placed_all bytes (λ (k : ℕ). not (k == bool_mark)) tail ts h.1 in
    let all : up_to (variable_mark ∷ []) ms ≡ ms = ap (up_to (variable_mark ∷ [])) (sym (append-nil ms)) ∙ up_to_free (variable_mark ∷ []) ms [] vars ∙ append-nil ms in
    record {
      told = ap (λ (z : List (List Marked)). map bare_var (map (var_of bytes) z)) (segments_none (variable_mark ∷ []) ms vars);
      apart = ap (has_mark bool_mark) all ∙ no_mark bool_mark ms bools;
    }

pub more_vars_told : (bytes : List ℕ) (vs : List Var) (tail : List Spelled) → NoVar tail → (ts : List Token) → StandAs bytes ts (more_var_words vs ++ tail) → VarsTold bytes (placed bytes (more_var_words vs ++ tail) ts) vs
more_vars_told bytes [] tail h ts s = no_var bytes tail ts h
more_vars_told bytes (v ∷ vs) tail h [] s = absurd s
more_vars_told bytes (v ∷ vs) tail h (x ∷ []) s = absurd s.2
more_vars_told bytes (v ∷ vs) tail h (x ∷ a ∷ []) s = absurd s.2.2
more_vars_told bytes (v ∷ vs) tail h (x ∷ a ∷ b ∷ []) s = absurd s.2.2.2
more_vars_told bytes (v ∷ vs) tail h (x ∷ a ∷ b ∷ c ∷ ts) s =
    let more = more_vars_told bytes vs tail h ts s.2.2.2.2 in
    record {
      told = var_told bytes v.name.text v.ty a b c (placed bytes (more_var_words vs ++ tail) ts) s.2.1 more.apart ∙ ap (λ (z : List Var). bare_var v ∷ z) more.told;
      apart = refl;
    }

pub vars_told : (bytes : List ℕ) (vs : List Var) (tail : List Spelled) → NoVar tail → (ts : List Token) → StandAs bytes ts (vars_words vs ++ tail) → vars_in bytes (placed bytes (vars_words vs ++ tail) ts) ≡ map bare_var vs
vars_told bytes [] tail h ts s = (no_var bytes tail ts h).told
vars_told bytes (v ∷ vs) tail h [] s = absurd s
vars_told bytes (v ∷ vs) tail h (a ∷ []) s = absurd s.2
vars_told bytes (v ∷ vs) tail h (a ∷ b ∷ []) s = absurd s.2.2
vars_told bytes (v ∷ vs) tail h (a ∷ b ∷ c ∷ ts) s =
    let more = more_vars_told bytes vs tail h ts s.2.2.2 in
    var_told bytes v.name.text v.ty a b c (placed bytes (more_var_words vs ++ tail) ts) s.1 more.apart ∙ ap (λ (z : List Var). bare_var v ∷ z) more.told

-- the one declared name of a constant
pub constant_told : (bytes : List ℕ) (v : Var) (a b c : Token) (rest : List Marked) → own bytes a ≡ v.name.text → has_mark bool_mark rest ≡ false
    → bare_var (var_of bytes (at_word bytes (name_at variable_mark v.name.text) a ∷ at_word bytes (sign (codes ":")) b ∷ at_word bytes (type_word v.ty) c ∷ rest)) ≡ bare_var v
constant_told bytes v a b c rest e none = go v.ty
  where
    go : (type : Ty) → bare_var (var_of bytes (at_word bytes (name_at variable_mark v.name.text) a ∷ at_word bytes (sign (codes ":")) b ∷ at_word bytes (type_word type) c ∷ rest)) ≡ record { name = bare_ident v.name; ty = type }
    go ty.Int = ap₂ (λ (x : List ℕ) (y : Bool). record { name = record { text = x; place = nowhere }; ty = if y then ty.Bool else ty.Int }) e none
    go ty.Bool = ap (λ (x : List ℕ). record { name = record { text = x; place = nowhere }; ty = ty.Bool }) e

-- a node's locals
pub locals_told : (bytes : List ℕ) (vs : List Var) (ts : List Token) → StandAs bytes ts (flat_map local_words vs) → VarsTold bytes (placed bytes (flat_map local_words vs) ts) vs
locals_told bytes [] ts s = record { told = refl; apart = refl }
locals_told bytes (v ∷ vs) [] s = absurd s
locals_told bytes (v ∷ vs) (a ∷ []) s = absurd s.2
locals_told bytes (v ∷ vs) (a ∷ b ∷ []) s = absurd s.2.2
locals_told bytes (v ∷ vs) (a ∷ b ∷ c ∷ []) s = absurd s.2.2.2
locals_told bytes (v ∷ vs) (a ∷ b ∷ c ∷ d ∷ ts) s =
    let more = locals_told bytes vs ts s.2.2.2.2 in
    record {
      told = var_told bytes v.name.text v.ty a b c (at_word bytes (sign (codes ";")) d ∷ placed bytes (flat_map local_words vs) ts) s.1 more.apart ∙ ap (λ (z : List Var). bare_var v ∷ z) more.told;
      apart = refl;
    }
