-- Whether an expression is a sum, by its parts.
use denote.Hole.Carrier.{hidden}
use Rattle.std.proofs.Common.{◌≡◌, Bool, true, false, not, ◌&&◌, ◌||◌, refl, sym, ◌∙◌}
use Rattle.ag_base.specs.declared.place.Place.{Place}
use Rattle.ag_terms.specs.declared.terms.Binary.{Binary}
use Rattle.ag_terms.specs.declared.terms.Unary.TheVariants as unary
use Rattle.ag_terms.specs.declared.terms.Term.{Term, Number, Truth, Named, Unary', Binary', Choice', Call', end_of-Term, more_of-Term}
use Rattle.ag_terms.specs.declared.terms.Term.TheBlock.{hidden-the_row-Term-0}
use Rattle.ag_terms.specs.declared.terms.Term.TheViews as term
use Rattle.ag_symbols.specs.Seen.{Names}
use Rattle.ag_types.specs.ClauseFirsts.{is_arrow}
use Rattle.ag_types.specs.Constants.{is_varying}
use Rattle.ag_types.specs.Sums.{adds, is_named_stream, is_sum}
use Rattle.ag_types.proofs.Claiming.{varying_binary}

pub sum_pre : (names : Names) (place : Place) (t : Term) → is_sum names (term.Unary unary.Pre place t) ≡ is_named_stream names t
unfolding hidden-the_row-Term-0 hidden
sum_pre names place t = refl

pub sum_minus : (names : Names) (place : Place) (t : Term) → is_sum names (term.Unary unary.Minus place t) ≡ is_sum names t
unfolding hidden-the_row-Term-0 hidden
sum_minus names place t = refl

pub sum_not : (names : Names) (place : Place) (t : Term) → is_sum names (term.Unary unary.Not place t) ≡ is_sum names t
unfolding hidden-the_row-Term-0 hidden
sum_not names place t = refl

sum_binary : (names : Names) (op : Binary) (place : Place) (t u : Term) →
    is_sum names (term.Binary op place t u) ≡ (not (is_varying names (term.Binary op place t u)) || (adds op && (is_sum names t && is_sum names u)))
unfolding hidden-the_row-Term-0 hidden
sum_binary names op place t u = refl

-- ---- a constant is a sum

opposite : (b : Bool) → b ≡ false → (c : Bool) → (not b || c) ≡ true
opposite b e c = rw e refl

of_constant_parts : (a b c : Bool) → (a || (b || c)) ≡ false → (b ≡ false) × (c ≡ false)
of_constant_parts true b c e = cc
of_constant_parts false true c e = cc
of_constant_parts false false c e = (refl, e)

pub constant_is_sum : (names : Names) (t : Term) → is_varying names t ≡ false → is_sum names t ≡ true
constant_is_sum names (Number z place) e = refl
constant_is_sum names (Truth b place) e = refl
constant_is_sum names (Named path) e = refl
constant_is_sum names (Unary' unary.Pre place _ (more_of-Term t end_of-Term)) e = cc
constant_is_sum names (Unary' unary.Minus place _ (more_of-Term t end_of-Term)) e = constant_is_sum names t e
constant_is_sum names (Unary' unary.Not place _ (more_of-Term t end_of-Term)) e = constant_is_sum names t e
constant_is_sum names (Binary' op place m (more_of-Term left end_of-Term) n (more_of-Term right end_of-Term)) e = opposite _ e _
constant_is_sum names (Choice' place l test m chosen n other) e = rw e refl
constant_is_sum names (Call' path _ args) e = cc

-- ---- operators

by_parts : (v s t : Bool) → (v ≡ false → (s ≡ true) × (t ≡ true)) → (not v || (true && (s && t))) ≡ (s && t)
by_parts true s t h = refl
by_parts false s t h = let parts = h refl in rw (parts.0, parts.1) refl

by_itself : (v s : Bool) → (not v || (false && s)) ≡ not v
by_itself true s = refl
by_itself false s = refl

both_are_sums : (names : Names) (op : Binary) (place : Place) (t u : Term) → is_varying names (term.Binary op place t u) ≡ false → (is_sum names t ≡ true) × (is_sum names u ≡ true)
both_are_sums names op place t u e =
    let parts = of_constant_parts (is_arrow op) (is_varying names t) (is_varying names u) (sym (varying_binary names op place t u) ∙ e) in
    (constant_is_sum names t parts.0, constant_is_sum names u parts.1)

sum_added : (names : Names) (op : Binary) (place : Place) (t u : Term) → adds op ≡ true → is_sum names (term.Binary op place t u) ≡ (is_sum names t && is_sum names u)
sum_added names op place t u e =
    sum_binary names op place t u
    ∙ rw e (by_parts (is_varying names (term.Binary op place t u)) (is_sum names t) (is_sum names u) (both_are_sums names op place t u))

pub sum_both : (names : Names) (op : Binary) (place : Place) (t u : Term) → adds op ≡ true → is_sum names t ≡ true → is_sum names (term.Binary op place t u) ≡ is_sum names u
sum_both names op place t u e f = sum_added names op place t u e ∙ rw f refl

pub sum_not_both : (names : Names) (op : Binary) (place : Place) (t u : Term) → adds op ≡ true → is_sum names t ≡ false → is_sum names (term.Binary op place t u) ≡ false
sum_not_both names op place t u e f = sum_added names op place t u e ∙ rw f refl

pub sum_other : (names : Names) (op : Binary) (place : Place) (t u : Term) → adds op ≡ false → is_sum names (term.Binary op place t u) ≡ not (is_varying names (term.Binary op place t u))
sum_other names op place t u e =
    sum_binary names op place t u ∙ rw e (by_itself (is_varying names (term.Binary op place t u)) (is_sum names t && is_sum names u))
