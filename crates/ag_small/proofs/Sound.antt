-- A formula that is read stands there, grouped as its operators bind and within the levels.
use Rattle.std.proofs.Common.{◌≡◌, ℕ, zero, suc, ◌+◌, ◌<◌, ◌≤◌, true, false, ◌⊎◌, List, [], ◌∷◌, Option, Some, None, refl, ap, subst, inl, inr, arith}
use Rattle.std.specs.Prelude.{codes}
use Rattle.std.proofs.lemmas.Bool.{le-leb}
use Rattle.ag_small.specs.declared.formulas.Operator.{Operator}
use Rattle.ag_small.specs.declared.formulas.Operator.TheVariants as operator
use Rattle.ag_small.specs.Expressions.{Expression, Truth, Named, Group, Not, And, Or, Implies}
use Rattle.ag_small.specs.Grammar.{Fixed, Spells, formula_text, tightness, is_grouped}
use Rattle.ag_small.specs.Rules.{and_count, or_count, depth}
use Rattle.ag_small.specs.Reading.{where_found, fixed_at, name_at, Counted, Readers, few, applied, joined_of, negated_of, grouped_of, atom_at, unary_with, and_rest_with, conjunction_with, or_rest_with, disjunction_with, expression_with, readers_above, below}
use Rattle.ag_small.proofs.Tools.{bind_some, some_is}
use Rattle.ag_small.proofs.Terminals.{fixed_stands, name_stands}
use Rattle.ag_small.proofs.Spelled.{spells_joined}

-- a formula stands at b, binds at least so tightly, and stays below so many levels
pub record IsPart (k n : ℕ) (b : List ℕ) (f : Expression) (r : List ℕ) : Type 0 where
  pub spelled : Spells (formula_text f) b r
  pub tight : k ≤ tightness f
  pub grouped : is_grouped f ≡ true
  pub deep : depth f < n

pub record AreSound (n : ℕ) (readers : Readers) : Type 0 where
  unary : (b : List ℕ) (x : Counted × List ℕ) → readers.unary b ≡ Some x → IsPart 3 n b x.0.0 x.1
  conjunction : (b : List ℕ) (x : Counted × List ℕ) → readers.conjunction b ≡ Some x → IsPart 2 n b x.0.0 x.1
  pub expression : (b : List ℕ) (x : Counted × List ℕ) → readers.expression b ≡ Some x → IsPart 0 n b x.0.0 x.1
  and_rest : (all : ℕ) (b : List ℕ) (left : Counted) (m : List ℕ) (x : Counted × List ℕ) → IsPart 2 all b left.0 m → n + and_count left.0 ≡ all
      → readers.and_rest left m ≡ Some x → IsPart 2 all b x.0.0 x.1
  or_rest : (all : ℕ) (b : List ℕ) (left : Counted) (m : List ℕ) (x : Counted × List ℕ) → IsPart 1 all b left.0 m → n + or_count left.0 ≡ all
      → readers.or_rest left m ≡ Some x → IsPart 1 all b x.0.0 x.1

-- ---- steps

where_cases : {A B : Type 0} (o : Option A) (f : A → Option B) (other : Option B) (y : B) → where_found o f other ≡ Some y
    → ((x : A) × (o ≡ Some x) × (f x ≡ Some y)) ⊎ ((o ≡ None) × (other ≡ Some y))
where_cases (Some x) f other y e = inl (x, refl, e)
where_cases None f other y e = inr (refl, e)

joined_is : (o : Operator) (f g h : Counted) → joined_of o f g ≡ Some h → applied o f.0 g.0 ≡ h.0
unfolding joined_of
joined_is o f g h e = let a = bind_some (few (f.1 + g.1 + 1)) _ h e in ap (λ (c : Counted). c.0) (some_is (applied o f.0 g.0, a.0) h a.2)

negated_is : (f h : Counted) → negated_of f ≡ Some h → Not f.0 ≡ h.0
unfolding negated_of
negated_is f h e = let a = bind_some (few (f.1 + 1)) _ h e in ap (λ (c : Counted). c.0) (some_is (Not f.0, a.0) h a.2)

grouped_is : (f h : Counted) → grouped_of f ≡ Some h → Group f.0 ≡ h.0
unfolding grouped_of
grouped_is f h e = let a = bind_some (few (f.1 + 2)) _ h e in ap (λ (c : Counted). c.0) (some_is (Group f.0, a.0) h a.2)

-- the part that was answered
answered : (k n : ℕ) (b : List ℕ) (c : Counted) (r : List ℕ) (x : Counted × List ℕ) → Some (c, r) ≡ Some x → IsPart k n b c.0 r → IsPart k n b x.0.0 x.1
answered k n b c r x e p = subst (λ (y : Counted × List ℕ). IsPart k n b y.0.0 y.1) (some_is (c, r) x e) p

renamed : (k n : ℕ) (b : List ℕ) (f g : Expression) (r : List ℕ) → f ≡ g → IsPart k n b f r → IsPart k n b g r
renamed k n b f g r e p = subst (λ (h : Expression). IsPart k n b h r) e p

looser : (j k n : ℕ) (b : List ℕ) (f : Expression) (r : List ℕ) → j ≤ k → IsPart k n b f r → IsPart j n b f r
looser j k n b f r le p = record { spelled = p.spelled; tight = omega (arith, p.tight); grouped = p.grouped; deep = p.deep }

pub no_and : (f : Expression) → 3 ≤ tightness f → and_count f ≡ 0
no_and (Truth holds) h = refl
no_and (Named name) h = refl
no_and (Group f) h = refl
no_and (Not f) h = refl
no_and (And f g) h = absurd (omega (arith, h))
no_and (Or f g) h = refl
no_and (Implies f g) h = refl

pub no_or : (f : Expression) → 2 ≤ tightness f → or_count f ≡ 0
no_or (Truth holds) h = refl
no_or (Named name) h = refl
no_or (Group f) h = refl
no_or (Not f) h = refl
no_or (And f g) h = refl
no_or (Or f g) h = absurd (omega (arith, h))
no_or (Implies f g) h = refl

-- ---- each form from its operands

atom_sound : (n : ℕ) (b : List ℕ) (x : Counted × List ℕ) → atom_at b ≡ Some x → IsPart 3 (suc n) b x.0.0 x.1
unfolding atom_at
atom_sound n b x e =
    elim (where_cases (fixed_at (codes "true") b) _ _ x e) [
      | inl yes' ↦
          answered 3 (suc n) b (Truth true, 1) yes'.0 x yes'.2
          (record { spelled = (yes'.0, fixed_stands (codes "true") b yes'.0 yes'.1, refl); tight = omega arith; grouped = refl; deep = omega arith })
      | inr other ↦
          elim (where_cases (fixed_at (codes "false") b) _ _ x other.1) [
            | inl no' ↦
                answered 3 (suc n) b (Truth false, 1) no'.0 x no'.2
                (record { spelled = (no'.0, fixed_stands (codes "false") b no'.0 no'.1, refl); tight = omega arith; grouped = refl; deep = omega arith })
            | inr last ↦
                let a = bind_some (name_at b) _ x last.1 in
                answered 3 (suc n) b (Named a.0.0, 1) a.0.1 x a.2
                (record { spelled = (a.0.1, name_stands b a.0 a.1, refl); tight = omega arith; grouped = refl; deep = omega arith })
          ]
    ]

not_part : (n : ℕ) (b m : List ℕ) (f : Expression) (r : List ℕ) → fixed_at (codes "not") b ≡ Some m → IsPart 3 n m f r → IsPart 3 (suc n) b (Not f) r
not_part n b m f r e p =
    let tight = le-leb 3 (tightness f) p.tight in
    record {
      spelled = (m, fixed_stands (codes "not") b m e, p.spelled);
      tight = omega arith;
      grouped = rw (tight, p.grouped) refl;
      deep = omega (arith, p.deep);
    }

group_part : (n : ℕ) (b m : List ℕ) (f : Expression) (e r : List ℕ) → fixed_at (codes "(") b ≡ Some m → IsPart 0 n m f e → fixed_at (codes ")") e ≡ Some r → IsPart 3 (suc n) b (Group f) r
group_part n b m f e r open' p close = record {
  spelled = (m, fixed_stands (codes "(") b m open', spells_joined (formula_text f) (Fixed (codes ")") ∷ []) m e r p.spelled (r, fixed_stands (codes ")") e r close, refl));
  tight = omega arith;
  grouped = p.grouped;
  deep = omega (arith, p.deep);
}

and_part : (n all : ℕ) (b : List ℕ) (f : Expression) (m next : List ℕ) (g : Expression) (r : List ℕ) → IsPart 2 all b f m → fixed_at (codes "and") m ≡ Some next
    → IsPart 3 n next g r → suc n + and_count f ≡ all → IsPart 2 all b (And f g) r
and_part n all b f m next g r p e q count =
    let left = le-leb 2 (tightness f) p.tight in
    let right = le-leb 3 (tightness g) q.tight in
    record {
      spelled = spells_joined (formula_text f) (Fixed (codes "and") ∷ formula_text g) b m r p.spelled (next, fixed_stands (codes "and") m next e, q.spelled);
      tight = omega arith;
      grouped = rw (left, right, p.grouped, q.grouped) refl;
      deep = omega (arith, p.deep, q.deep, count);
    }

or_part : (n all : ℕ) (b : List ℕ) (f : Expression) (m next : List ℕ) (g : Expression) (r : List ℕ) → IsPart 1 all b f m → fixed_at (codes "or") m ≡ Some next
    → IsPart 2 n next g r → suc n + or_count f ≡ all → IsPart 1 all b (Or f g) r
or_part n all b f m next g r p e q count =
    let left = le-leb 1 (tightness f) p.tight in
    let right = le-leb 2 (tightness g) q.tight in
    record {
      spelled = spells_joined (formula_text f) (Fixed (codes "or") ∷ formula_text g) b m r p.spelled (next, fixed_stands (codes "or") m next e, q.spelled);
      tight = omega arith;
      grouped = rw (left, right, p.grouped, q.grouped) refl;
      deep = omega (arith, p.deep, q.deep, count);
    }

implies_part : (n : ℕ) (b : List ℕ) (f : Expression) (m next : List ℕ) (g : Expression) (r : List ℕ) → IsPart 1 (suc n) b f m → fixed_at (codes "=>") m ≡ Some next
    → IsPart 0 n next g r → IsPart 0 (suc n) b (Implies f g) r
implies_part n b f m next g r p e q =
    let left = le-leb 1 (tightness f) p.tight in
    record {
      spelled = spells_joined (formula_text f) (Fixed (codes "=>") ∷ formula_text g) b m r p.spelled (next, fixed_stands (codes "=>") m next e, q.spelled);
      tight = omega arith;
      grouped = rw (left, p.grouped, q.grouped) refl;
      deep = omega (arith, p.deep, q.deep);
    }

-- ---- the readers of a level, from those one level deeper

module _ (n : ℕ) (lower : Option Readers) (sound : (readers : Readers) → lower ≡ Some readers → AreSound n readers) where
  unary_sound : (b : List ℕ) (x : Counted × List ℕ) → unary_with lower b ≡ Some x → IsPart 3 (suc n) b x.0.0 x.1
  unfolding unary_with
  unary_sound b x e =
      elim (where_cases (fixed_at (codes "not") b) _ _ x e) [
        | inl here ↦
            let l = bind_some lower _ x here.2 in
            let y = bind_some (l.0.unary here.0) _ x l.2 in
            let h = bind_some (negated_of y.0.0) _ x y.2 in
            answered 3 (suc n) b h.0 y.0.1 x h.2
            (renamed 3 (suc n) b (Not y.0.0.0) h.0.0 y.0.1 (negated_is y.0.0 h.0 h.1) (not_part n b here.0 y.0.0.0 y.0.1 here.1 ((sound l.0 l.1).unary here.0 y.0 y.1)))
        | inr other ↦
            elim (where_cases (fixed_at (codes "(") b) _ _ x other.1) [
              | inl here ↦
                  let l = bind_some lower _ x here.2 in
                  let y = bind_some (l.0.expression here.0) _ x l.2 in
                  let z = bind_some (fixed_at (codes ")") y.0.1) _ x y.2 in
                  let h = bind_some (grouped_of y.0.0) _ x z.2 in
                  answered 3 (suc n) b h.0 z.0 x h.2
                  (renamed 3 (suc n) b (Group y.0.0.0) h.0.0 z.0 (grouped_is y.0.0 h.0 h.1) (group_part n b here.0 y.0.0.0 y.0.1 z.0 here.1 ((sound l.0 l.1).expression here.0 y.0 y.1) z.1))
              | inr last ↦ atom_sound n b x last.1
            ]
      ]

  and_rest_sound : (all : ℕ) (b : List ℕ) (left : Counted) (m : List ℕ) (x : Counted × List ℕ) → IsPart 2 all b left.0 m → suc n + and_count left.0 ≡ all
      → and_rest_with lower left m ≡ Some x → IsPart 2 all b x.0.0 x.1
  unfolding and_rest_with
  and_rest_sound all b left m x p count e =
      elim (where_cases (fixed_at (codes "and") m) _ _ x e) [
        | inl here ↦
            let l = bind_some lower _ x here.2 in
            let y = bind_some (l.0.unary here.0) _ x l.2 in
            let h = bind_some (joined_of operator.And left y.0.0) _ x y.2 in
            let is = joined_is operator.And left y.0.0 h.0 h.1 in
            let counted' : n + and_count h.0.0 ≡ all = subst (λ (f : Expression). n + and_count f ≡ all) is (omega (arith, count)) in
            (sound l.0 l.1).and_rest all b h.0 y.0.1 x
            (renamed 2 all b (And left.0 y.0.0.0) h.0.0 y.0.1 is (and_part n all b left.0 m here.0 y.0.0.0 y.0.1 p here.1 ((sound l.0 l.1).unary here.0 y.0 y.1) count))
            counted' h.2
        | inr last ↦ answered 2 all b left m x last.1 p
      ]

  conjunction_sound : (b : List ℕ) (x : Counted × List ℕ) → conjunction_with lower b ≡ Some x → IsPart 2 (suc n) b x.0.0 x.1
  unfolding conjunction_with
  conjunction_sound b x e =
      let y = bind_some (unary_with lower b) _ x e in
      let p = unary_sound b y.0 y.1 in
      and_rest_sound (suc n) b y.0.0 y.0.1 x (looser 2 3 (suc n) b y.0.0.0 y.0.1 (omega arith) p) (omega (arith, no_and y.0.0.0 p.tight)) y.2

  or_rest_sound : (all : ℕ) (b : List ℕ) (left : Counted) (m : List ℕ) (x : Counted × List ℕ) → IsPart 1 all b left.0 m → suc n + or_count left.0 ≡ all
      → or_rest_with lower left m ≡ Some x → IsPart 1 all b x.0.0 x.1
  unfolding or_rest_with
  or_rest_sound all b left m x p count e =
      elim (where_cases (fixed_at (codes "or") m) _ _ x e) [
        | inl here ↦
            let l = bind_some lower _ x here.2 in
            let y = bind_some (l.0.conjunction here.0) _ x l.2 in
            let h = bind_some (joined_of operator.Or left y.0.0) _ x y.2 in
            let is = joined_is operator.Or left y.0.0 h.0 h.1 in
            let counted' : n + or_count h.0.0 ≡ all = subst (λ (f : Expression). n + or_count f ≡ all) is (omega (arith, count)) in
            (sound l.0 l.1).or_rest all b h.0 y.0.1 x
            (renamed 1 all b (Or left.0 y.0.0.0) h.0.0 y.0.1 is (or_part n all b left.0 m here.0 y.0.0.0 y.0.1 p here.1 ((sound l.0 l.1).conjunction here.0 y.0 y.1) count))
            counted' h.2
        | inr last ↦ answered 1 all b left m x last.1 p
      ]

  disjunction_sound : (b : List ℕ) (x : Counted × List ℕ) → disjunction_with lower b ≡ Some x → IsPart 1 (suc n) b x.0.0 x.1
  unfolding disjunction_with
  disjunction_sound b x e =
      let y = bind_some (conjunction_with lower b) _ x e in
      let p = conjunction_sound b y.0 y.1 in
      or_rest_sound (suc n) b y.0.0 y.0.1 x (looser 1 2 (suc n) b y.0.0.0 y.0.1 (omega arith) p) (omega (arith, no_or y.0.0.0 p.tight)) y.2

  pub expression_sound : (b : List ℕ) (x : Counted × List ℕ) → expression_with lower b ≡ Some x → IsPart 0 (suc n) b x.0.0 x.1
  unfolding expression_with
  expression_sound b x e =
      let d = bind_some (disjunction_with lower b) _ x e in
      let p = disjunction_sound b d.0 d.1 in
      elim (where_cases (fixed_at (codes "=>") d.0.1) _ _ x d.2) [
        | inl here ↦
            let l = bind_some lower _ x here.2 in
            let y = bind_some (l.0.expression here.0) _ x l.2 in
            let h = bind_some (joined_of operator.Implies d.0.0 y.0.0) _ x y.2 in
            answered 0 (suc n) b h.0 y.0.1 x h.2
            (renamed 0 (suc n) b (Implies d.0.0.0 y.0.0.0) h.0.0 y.0.1 (joined_is operator.Implies d.0.0 y.0.0 h.0 h.1)
            (implies_part n b d.0.0.0 d.0.1 here.0 y.0.0.0 y.0.1 p here.1 ((sound l.0 l.1).expression here.0 y.0 y.1)))
        | inr last ↦ answered 0 (suc n) b d.0.0 d.0.1 x last.1 (looser 0 1 (suc n) b d.0.0.0 d.0.1 (omega arith) p)
      ]

  level_sound : AreSound (suc n) (readers_above lower)
  level_sound = record {
    unary = unary_sound;
    conjunction = conjunction_sound;
    expression = expression_sound;
    and_rest = and_rest_sound;
    or_rest = or_rest_sound;
  }

pub below_sound : (n : ℕ) (readers : Readers) → below n ≡ Some readers → AreSound n readers
unfolding below
below_sound zero readers e = absurd cc
below_sound (suc n) readers e = subst (λ (r : Readers). AreSound (suc n) r) (some_is (readers_above (below n)) readers e) (level_sound n (below n) (below_sound n))
