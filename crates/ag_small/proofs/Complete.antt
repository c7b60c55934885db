-- A formula that stands there, grouped as its operators bind and within the levels, is read.
use Rattle.std.proofs.Common.{◌≡◌, ℕ, zero, suc, ◌+◌, ◌-◌, ◌≤◌, Bool, true, false, ◌&&◌, leb, List, [], ◌∷◌, length, Option, Some, None, refl, subst, ◌∙◌, arith}
use Rattle.std.specs.Prelude.{codes}
use Rattle.std.proofs.lemmas.Bool.{and_parts, leb-true, le-leb}
use Rattle.std.proofs.lemmas.List.{length-append}
use Rattle.ag_small.specs.declared.formulas.Operator.TheVariants as operator
use Rattle.ag_small.specs.Expressions.{Expression, Truth, Named, Group, Not, And, Or, Implies}
use Rattle.ag_small.specs.Grammar.{Fixed, Stands, Spells, formula_text, tightness, is_grouped}
use Rattle.ag_small.specs.Rules.{and_count, or_count, depth}
use Rattle.ag_small.specs.Reading.{fixed_at, Counted, Readers, few, joined_of, negated_of, grouped_of, atom_at, unary_with, and_rest_with, conjunction_with, or_rest_with, disjunction_with, expression_with, readers_above, below}
use Rattle.ag_small.proofs.Terminals.{fixed_found, fixed_apart, name_found, not_true, not_false, not_not, not_open}
use Rattle.ag_small.proofs.Spelled.{spells_split, one_fixed, one_name}
use Rattle.ag_small.proofs.Sound.{no_and, no_or}

abbrev pub size : Expression → ℕ
size f = length (formula_text f)

-- a formula with its number of tokens
abbrev pub whole : Expression → Counted
whole f = (f, size f)

-- a formula that may be read from b up to r
pub record Fits (f : Expression) (n : ℕ) (b r : List ℕ) : Type 0 where
  pub grouped : is_grouped f ≡ true
  pub deep : depth f ≤ n
  pub few : size f ≤ 1000
  pub spelled : Spells (formula_text f) b r

-- no operator stands here
pub record Ends (r : List ℕ) : Type 0 where
  pub no_and : fixed_at (codes "and") r ≡ None
  pub no_or : fixed_at (codes "or") r ≡ None
  pub no_implies : fixed_at (codes "=>") r ≡ None

ends_close : (r m : List ℕ) → Stands (Fixed (codes ")")) r m → Ends r
ends_close r m s = record {
  no_and = fixed_apart (codes ")") (codes "and") r m s refl refl refl;
  no_or = fixed_apart (codes ")") (codes "or") r m s refl refl refl;
  no_implies = fixed_apart (codes ")") (codes "=>") r m s refl refl refl;
}

pub ends_semicolon : (r m : List ℕ) → Stands (Fixed (codes ";")) r m → Ends r
ends_semicolon r m s = record {
  no_and = fixed_apart (codes ";") (codes "and") r m s refl refl refl;
  no_or = fixed_apart (codes ";") (codes "or") r m s refl refl refl;
  no_implies = fixed_apart (codes ";") (codes "=>") r m s refl refl refl;
}

-- ---- steps of the readers

below_suc : (n : ℕ) → below (suc n) ≡ Some (readers_above (below n))
unfolding below
below_suc n = refl

module _ (lower : Option Readers) where
  unary_not : (readers : Readers) (b m : List ℕ) (g h : Counted) (r : List ℕ) → fixed_at (codes "not") b ≡ Some m → lower ≡ Some readers
      → readers.unary m ≡ Some (g, r) → negated_of g ≡ Some h → unary_with lower b ≡ Some (h, r)
  unfolding unary_with
  unary_not readers b m g h r here level inner made = rw (here, level, inner, made) refl

  unary_group : (readers : Readers) (b m : List ℕ) (g h : Counted) (e r : List ℕ) → fixed_at (codes "not") b ≡ None → fixed_at (codes "(") b ≡ Some m → lower ≡ Some readers
      → readers.expression m ≡ Some (g, e) → fixed_at (codes ")") e ≡ Some r → grouped_of g ≡ Some h → unary_with lower b ≡ Some (h, r)
  unfolding unary_with
  unary_group readers b m g h e r bare here level inner close made = rw (bare, here, level, inner, close, made) refl

  unary_atom : (b : List ℕ) → fixed_at (codes "not") b ≡ None → fixed_at (codes "(") b ≡ None → unary_with lower b ≡ atom_at b
  unfolding unary_with
  unary_atom b bare none = rw (bare, none) refl

  and_step : (readers : Readers) (left : Counted) (m next : List ℕ) (g h : Counted) (r : List ℕ) → fixed_at (codes "and") m ≡ Some next → lower ≡ Some readers
      → readers.unary next ≡ Some (g, r) → joined_of operator.And left g ≡ Some h → and_rest_with lower left m ≡ readers.and_rest h r
  unfolding and_rest_with
  and_step readers left m next g h r here level inner made = rw (here, level, inner, made) refl

  and_stops : (left : Counted) (r : List ℕ) → fixed_at (codes "and") r ≡ None → and_rest_with lower left r ≡ Some (left, r)
  unfolding and_rest_with
  and_stops left r none = rw none refl

  and_starts : (b : List ℕ) (f : Counted) (m : List ℕ) → unary_with lower b ≡ Some (f, m) → conjunction_with lower b ≡ and_rest_with lower f m
  unfolding conjunction_with
  and_starts b f m e = rw e refl

  or_step : (readers : Readers) (left : Counted) (m next : List ℕ) (g h : Counted) (r : List ℕ) → fixed_at (codes "or") m ≡ Some next → lower ≡ Some readers
      → readers.conjunction next ≡ Some (g, r) → joined_of operator.Or left g ≡ Some h → or_rest_with lower left m ≡ readers.or_rest h r
  unfolding or_rest_with
  or_step readers left m next g h r here level inner made = rw (here, level, inner, made) refl

  or_stops : (left : Counted) (r : List ℕ) → fixed_at (codes "or") r ≡ None → or_rest_with lower left r ≡ Some (left, r)
  unfolding or_rest_with
  or_stops left r none = rw none refl

  or_starts : (b : List ℕ) (f : Counted) (m : List ℕ) → conjunction_with lower b ≡ Some (f, m) → disjunction_with lower b ≡ or_rest_with lower f m
  unfolding disjunction_with
  or_starts b f m e = rw e refl

  implies_step : (readers : Readers) (left : Counted) (b m next : List ℕ) (g h : Counted) (r : List ℕ) → disjunction_with lower b ≡ Some (left, m) → fixed_at (codes "=>") m ≡ Some next
      → lower ≡ Some readers → readers.expression next ≡ Some (g, r) → joined_of operator.Implies left g ≡ Some h → expression_with lower b ≡ Some (h, r)
  unfolding expression_with
  implies_step readers left b m next g h r start here level inner made = rw (start, here, level, inner, made) refl

  implies_stops : (b : List ℕ) (f : Counted) (r : List ℕ) → disjunction_with lower b ≡ Some (f, r) → fixed_at (codes "=>") r ≡ None → expression_with lower b ≡ Some (f, r)
  unfolding expression_with
  implies_stops b f r start none = rw (start, none) refl

-- ---- numbers of tokens

few_is : (n : ℕ) → n ≤ 1000 → few n ≡ Some n
unfolding few
few_is n le = rw (le-leb n 1000 le) refl

negated_whole : (f : Expression) → size (Not f) ≤ 1000 → negated_of (whole f) ≡ Some (whole (Not f))
unfolding negated_of
negated_whole f le =
    let e : size f + 1 ≡ size (Not f) = omega arith in
    rw (e, few_is (size (Not f)) le) refl

grouped_whole : (f : Expression) → size (Group f) ≤ 1000 → grouped_of (whole f) ≡ Some (whole (Group f))
unfolding grouped_of
grouped_whole f le =
    let e : size f + 2 ≡ size (Group f) = omega (arith, length-append (formula_text f) (Fixed (codes ")") ∷ [])) in
    rw (e, few_is (size (Group f)) le) refl

and_size : (f g : Expression) → size f + size g + 1 ≡ size (And f g)
and_size f g = omega (arith, length-append (formula_text f) (Fixed (codes "and") ∷ formula_text g))

or_size : (f g : Expression) → size f + size g + 1 ≡ size (Or f g)
or_size f g = omega (arith, length-append (formula_text f) (Fixed (codes "or") ∷ formula_text g))

implies_size : (f g : Expression) → size f + size g + 1 ≡ size (Implies f g)
implies_size f g = omega (arith, length-append (formula_text f) (Fixed (codes "=>") ∷ formula_text g))

and_whole : (f g : Expression) → size (And f g) ≤ 1000 → joined_of operator.And (whole f) (whole g) ≡ Some (whole (And f g))
unfolding joined_of
and_whole f g le = rw (and_size f g, few_is (size (And f g)) le) refl

or_whole : (f g : Expression) → size (Or f g) ≤ 1000 → joined_of operator.Or (whole f) (whole g) ≡ Some (whole (Or f g))
unfolding joined_of
or_whole f g le = rw (or_size f g, few_is (size (Or f g)) le) refl

implies_whole : (f g : Expression) → size (Implies f g) ≤ 1000 → joined_of operator.Implies (whole f) (whole g) ≡ Some (whole (Implies f g))
unfolding joined_of
implies_whole f g le = rw (implies_size f g, few_is (size (Implies f g)) le) refl

-- ---- what a formula's readers give

-- by each reader that is to give it, where its outermost operator binds tightly enough
pub record IsFound (f : Expression) : Type 0 where
  unary : 3 ≤ tightness f → (n : ℕ) (b r : List ℕ) → Fits f n b r → unary_with (below n) b ≡ Some (whole f, r)
  conjunction : 2 ≤ tightness f → (n k : ℕ) (b r : List ℕ) → Fits f n b r → k + and_count f ≡ n → conjunction_with (below n) b ≡ and_rest_with (below k) (whole f) r
  disjunction : 1 ≤ tightness f → (n k : ℕ) (b r : List ℕ) → Fits f n b r → fixed_at (codes "and") r ≡ None → k + or_count f ≡ n
      → disjunction_with (below n) b ≡ or_rest_with (below k) (whole f) r
  pub expression : (n : ℕ) (b r : List ℕ) → Fits f n b r → Ends r → expression_with (below n) b ≡ Some (whole f, r)

and_within : (f : Expression) → and_count f ≤ depth f
and_within (Truth holds) = omega arith
and_within (Named name) = omega arith
and_within (Group f) = omega arith
and_within (Not f) = omega arith
and_within (And f g) = omega arith
and_within (Or f g) = omega arith
and_within (Implies f g) = omega arith

or_within : (f : Expression) → or_count f ≤ depth f
or_within (Truth holds) = omega arith
or_within (Named name) = omega arith
or_within (Group f) = omega arith
or_within (Not f) = omega arith
or_within (And f g) = omega arith
or_within (Or f g) = omega arith
or_within (Implies f g) = omega arith

abbrev InDisjunction : Expression → Type 0
InDisjunction f =
    (n k : ℕ) (b r : List ℕ) → Fits f n b r → fixed_at (codes "and") r ≡ None → k + or_count f ≡ n → disjunction_with (below n) b ≡ or_rest_with (below k) (whole f) r

abbrev InConjunction : Expression → Type 0
InConjunction f = (n k : ℕ) (b r : List ℕ) → Fits f n b r → k + and_count f ≡ n → conjunction_with (below n) b ≡ and_rest_with (below k) (whole f) r

abbrev InUnary : Expression → Type 0
InUnary f = (n : ℕ) (b r : List ℕ) → Fits f n b r → unary_with (below n) b ≡ Some (whole f, r)

-- a formula that stands where a looser one may
as_conjunction : (f : Expression) → 3 ≤ tightness f → InUnary f → InConjunction f
as_conjunction f tight unary n k b r fits count =
    let e : n ≡ k = omega (arith, count, no_and f tight) in
    subst (λ (m : ℕ). conjunction_with (below n) b ≡ and_rest_with (below m) (whole f) r) e (and_starts (below n) b (whole f) r (unary n b r fits))

as_disjunction : (f : Expression) → 2 ≤ tightness f → InConjunction f → InDisjunction f
as_disjunction f tight conjunction n k b r fits none count =
    let e : n ≡ k = omega (arith, count, no_or f tight) in
    let left : (n - and_count f) + and_count f ≡ n = omega (arith, fits.deep, and_within f) in
    let found = conjunction n (n - and_count f) b r fits left ∙ and_stops (below (n - and_count f)) (whole f) r none in
    subst (λ (m : ℕ). disjunction_with (below n) b ≡ or_rest_with (below m) (whole f) r) e (or_starts (below n) b (whole f) r found)

as_expression : (f : Expression) → InDisjunction f → (n : ℕ) (b r : List ℕ) → Fits f n b r → Ends r → expression_with (below n) b ≡ Some (whole f, r)
as_expression f disjunction n b r fits ends =
    let left : (n - or_count f) + or_count f ≡ n = omega (arith, fits.deep, or_within f) in
    let found = disjunction n (n - or_count f) b r fits ends.no_and left ∙ or_stops (below (n - or_count f)) (whole f) r ends.no_or in
    implies_stops (below n) b (whole f) r found ends.no_implies

from_unary : (f : Expression) → 3 ≤ tightness f → InUnary f → IsFound f
from_unary f tight unary =
    let conjunction = as_conjunction f tight unary in
    let disjunction = as_disjunction f (omega (arith, tight)) conjunction in
    record {
      unary = λ t. unary;
      conjunction = λ t. conjunction;
      disjunction = λ t. disjunction;
      expression = as_expression f disjunction;
    }

from_conjunction : (f : Expression) → tightness f ≡ 2 → InConjunction f → IsFound f
from_conjunction f tight conjunction =
    let disjunction = as_disjunction f (omega (arith, tight)) conjunction in
    record {
      unary = λ t. absurd (omega (arith, t, tight));
      conjunction = λ t. conjunction;
      disjunction = λ t. disjunction;
      expression = as_expression f disjunction;
    }

from_disjunction : (f : Expression) → tightness f ≡ 1 → InDisjunction f → IsFound f
from_disjunction f tight disjunction = record {
  unary = λ t. absurd (omega (arith, t, tight));
  conjunction = λ t. absurd (omega (arith, t, tight));
  disjunction = λ t. disjunction;
  expression = as_expression f disjunction;
}

-- ---- atoms, `not` and parentheses

truth_found : (holds : Bool) → InUnary (Truth holds)
unfolding atom_at
truth_found true n b r fits =
    let s = one_fixed (codes "true") b r fits.spelled in
    unary_atom (below n) b (fixed_apart (codes "true") (codes "not") b r s refl refl refl) (fixed_apart (codes "true") (codes "(") b r s refl refl refl)
    ∙ rw (fixed_found (codes "true") b r refl s) refl
truth_found false n b r fits =
    let s = one_fixed (codes "false") b r fits.spelled in
    unary_atom (below n) b (fixed_apart (codes "false") (codes "not") b r s refl refl refl) (fixed_apart (codes "false") (codes "(") b r s refl refl refl)
    ∙ rw (fixed_apart (codes "false") (codes "true") b r s refl refl refl, fixed_found (codes "false") b r refl s) refl

name_found_as : (name : List ℕ) → InUnary (Named name)
unfolding atom_at
name_found_as name n b r fits =
    let s = one_name name b r fits.spelled in
    unary_atom (below n) b (not_not name b r s) (not_open name b r s)
    ∙ rw (not_true name b r s, not_false name b r s, name_found name b r s) refl

not_found : (f : Expression) → IsFound f → InUnary (Not f)
not_found f found zero b r fits = absurd (omega (arith, fits.deep))
not_found f found (suc n) b r fits =
    let s = fits.spelled in
    let parts = and_parts (leb 3 (tightness f)) (is_grouped f) fits.grouped in
    let inner : Fits f n s.0 r = record { grouped = parts.1; deep = omega (arith, fits.deep); few = omega (arith, fits.few); spelled = s.2 } in
    unary_not (below (suc n)) (readers_above (below n)) b s.0 (whole f) (whole (Not f)) r (fixed_found (codes "not") b s.0 refl s.1) (below_suc n)
    (found.unary (leb-true 3 (tightness f) parts.0) n s.0 r inner) (negated_whole f fits.few)

group_found : (f : Expression) → IsFound f → InUnary (Group f)
group_found f found zero b r fits = absurd (omega (arith, fits.deep))
group_found f found (suc n) b r fits =
    let s = fits.spelled in
    let parts = spells_split (formula_text f) (Fixed (codes ")") ∷ []) s.0 r s.2 in
    let close = one_fixed (codes ")") parts.0 r parts.2 in
    let length' = length-append (formula_text f) (Fixed (codes ")") ∷ []) in
    let inner : Fits f n s.0 parts.0 = record { grouped = fits.grouped; deep = omega (arith, fits.deep); few = omega (arith, fits.few, length'); spelled = parts.1 } in
    unary_group (below (suc n)) (readers_above (below n)) b s.0 (whole f) (whole (Group f)) parts.0 r
    (fixed_apart (codes "(") (codes "not") b s.0 s.1 refl refl refl) (fixed_found (codes "(") b s.0 refl s.1) (below_suc n)
    (found.expression n s.0 parts.0 inner (ends_close parts.0 r close)) (fixed_found (codes ")") parts.0 r refl close) (grouped_whole f fits.few)

-- ---- operators between two operands

record Grouped (j k : ℕ) (f g : Expression) : Type 0 where
  left_tight : j ≤ tightness f
  right_tight : k ≤ tightness g
  left : is_grouped f ≡ true
  right : is_grouped g ≡ true

grouped_parts : (j k : ℕ) (f g : Expression) → leb j (tightness f) && leb k (tightness g) && is_grouped f && is_grouped g ≡ true → Grouped j k f g
grouped_parts j k f g h =
    let a = and_parts (leb j (tightness f) && leb k (tightness g) && is_grouped f) (is_grouped g) h in
    let b = and_parts (leb j (tightness f) && leb k (tightness g)) (is_grouped f) a.0 in
    let c = and_parts (leb j (tightness f)) (leb k (tightness g)) b.0 in
    record { left_tight = leb-true j (tightness f) c.0; right_tight = leb-true k (tightness g) c.1; left = b.1; right = a.1 }

and_found : (f g : Expression) → IsFound f → IsFound g → InConjunction (And f g)
and_found f g left right n k b r fits count =
    let s = spells_split (formula_text f) (Fixed (codes "and") ∷ formula_text g) b r fits.spelled in
    let op = s.2 in
    let tight = grouped_parts 2 3 f g fits.grouped in
    let size' = and_size f g in
    let of_left : Fits f n b s.0 = record { grouped = tight.left; deep = omega (arith, fits.deep); few = omega (arith, fits.few, size'); spelled = s.1 } in
    let of_right : Fits g k op.0 r = record { grouped = tight.right; deep = omega (arith, fits.deep, count); few = omega (arith, fits.few, size'); spelled = op.2 } in
    left.conjunction tight.left_tight n (suc k) b s.0 of_left (omega (arith, count))
    ∙ and_step (below (suc k)) (readers_above (below k)) (whole f) s.0 op.0 (whole g) (whole (And f g)) r (fixed_found (codes "and") s.0 op.0 refl op.1) (below_suc k)
    (right.unary tight.right_tight k op.0 r of_right) (and_whole f g fits.few)

or_found : (f g : Expression) → IsFound f → IsFound g → InDisjunction (Or f g)
or_found f g left right n k b r fits none count =
    let s = spells_split (formula_text f) (Fixed (codes "or") ∷ formula_text g) b r fits.spelled in
    let op = s.2 in
    let tight = grouped_parts 1 2 f g fits.grouped in
    let size' = or_size f g in
    let of_left : Fits f n b s.0 = record { grouped = tight.left; deep = omega (arith, fits.deep); few = omega (arith, fits.few, size'); spelled = s.1 } in
    let of_right : Fits g k op.0 r = record { grouped = tight.right; deep = omega (arith, fits.deep, count); few = omega (arith, fits.few, size'); spelled = op.2 } in
    let left_levels : (k - and_count g) + and_count g ≡ k = omega (arith, of_right.deep, and_within g) in
    let no_and_here = fixed_apart (codes "or") (codes "and") s.0 op.0 op.1 refl refl refl in
    let conjunct = right.conjunction tight.right_tight k (k - and_count g) op.0 r of_right left_levels ∙ and_stops (below (k - and_count g)) (whole g) r none in
    left.disjunction tight.left_tight n (suc k) b s.0 of_left no_and_here (omega (arith, count))
    ∙ or_step (below (suc k)) (readers_above (below k)) (whole f) s.0 op.0 (whole g) (whole (Or f g)) r (fixed_found (codes "or") s.0 op.0 refl op.1) (below_suc k)
    conjunct (or_whole f g fits.few)

implies_found : (f g : Expression) → IsFound f → IsFound g → (n : ℕ) (b r : List ℕ) → Fits (Implies f g) n b r → Ends r → expression_with (below n) b ≡ Some (whole (Implies f g), r)
implies_found f g left right zero b r fits ends = absurd (omega (arith, fits.deep))
implies_found f g left right (suc n) b r fits ends =
    let s = spells_split (formula_text f) (Fixed (codes "=>") ∷ formula_text g) b r fits.spelled in
    let op = s.2 in
    let all = and_parts (leb 1 (tightness f) && is_grouped f) (is_grouped g) fits.grouped in
    let front = and_parts (leb 1 (tightness f)) (is_grouped f) all.0 in
    let size' = implies_size f g in
    let of_left : Fits f (suc n) b s.0 = record { grouped = front.1; deep = omega (arith, fits.deep); few = omega (arith, fits.few, size'); spelled = s.1 } in
    let of_right : Fits g n op.0 r = record { grouped = all.1; deep = omega (arith, fits.deep); few = omega (arith, fits.few, size'); spelled = op.2 } in
    let left_levels : (suc n - or_count f) + or_count f ≡ suc n = omega (arith, of_left.deep, or_within f) in
    let no_and_here = fixed_apart (codes "=>") (codes "and") s.0 op.0 op.1 refl refl refl in
    let no_or_here = fixed_apart (codes "=>") (codes "or") s.0 op.0 op.1 refl refl refl in
    let disjunct =
    left.disjunction (leb-true 1 (tightness f) front.0) (suc n) (suc n - or_count f) b s.0 of_left no_and_here left_levels ∙ or_stops (below (suc n - or_count f)) (whole f) s.0 no_or_here in
    implies_step (below (suc n)) (readers_above (below n)) (whole f) b s.0 op.0 (whole g) (whole (Implies f g)) r disjunct (fixed_found (codes "=>") s.0 op.0 refl op.1) (below_suc n)
    (right.expression n op.0 r of_right ends) (implies_whole f g fits.few)

from_expression : (f : Expression) → tightness f ≡ 0 → ((n : ℕ) (b r : List ℕ) → Fits f n b r → Ends r → expression_with (below n) b ≡ Some (whole f, r)) → IsFound f
from_expression f tight expression = record {
  unary = λ t. absurd (omega (arith, t, tight));
  conjunction = λ t. absurd (omega (arith, t, tight));
  disjunction = λ t. absurd (omega (arith, t, tight));
  expression = expression;
}

pub is_found : (f : Expression) → IsFound f
is_found (Truth holds) = from_unary (Truth holds) (omega arith) (truth_found holds)
is_found (Named name) = from_unary (Named name) (omega arith) (name_found_as name)
is_found (Group f) = from_unary (Group f) (omega arith) (group_found f (is_found f))
is_found (Not f) = from_unary (Not f) (omega arith) (not_found f (is_found f))
is_found (And f g) = from_conjunction (And f g) refl (and_found f g (is_found f) (is_found g))
is_found (Or f g) = from_disjunction (Or f g) refl (or_found f g (is_found f) (is_found g))
is_found (Implies f g) = from_expression (Implies f g) refl (implies_found f g (is_found f) (is_found g))
