-- What the parts of formulas are, which parts they serve, and that none serves two.
use Rattle.std.proofs.Common.{◌≡◌, ℕ, zero, suc, ◌+◌, ◌<◌, ◌≤◌, Bool, true, false, List, [], ◌∷◌, ◌++◌, length, Some, refl, sym, ap, subst, ◌∙◌, append_assoc, arith}
use Rattle.std.specs.Prelude.{◌≢◌, slice_get, nat_eq}
use Rattle.std.specs.List.{flat_map, AllByRecursion, IsDistinct}
use Rattle.std.proofs.lemmas.Bool.{and_parts, ne_eqb}
use Rattle.ag_stream.specs.declared.problem.Part.{Part}
use Rattle.ag_stream.specs.declared.problem.Part.TheVariants as parts
use Rattle.ag_stream.specs.Forms.{operands}
use Rattle.ag_small.specs.declared.package.Port.{Port}
use Rattle.ag_small.specs.declared.package.Formula.{Formula}
use Rattle.ag_small.specs.Expressions.{Truth, Named, Group, Not, And, Or, Implies}
use Rattle.ag_small.specs.Rules.{all_names}
use Rattle.ag_small.specs.Numbered.{stream_of, part_count, own_part, parts_of, all_parts}
use Rattle.ag_small.proofs.Numbering.{some_parts, length-parts_of}

-- ---- lists of parts by number

-- each part, numbered on, is so
abbrev pub AllFrom : (ℕ → Part → Type 0) → ℕ → List Part → Type 0
AllFrom P n [] = Unit {0}
AllFrom P n (p ∷ ps) = P n p × AllFrom P (n + 1) ps

pub from_append : (P : ℕ → Part → Type 0) (n : ℕ) (ps qs : List Part) → AllFrom P n ps → AllFrom P (n + length ps) qs → AllFrom P n (ps ++ qs)
from_append P n [] qs h k = subst (λ (m : ℕ). AllFrom P m qs) (omega arith) k
from_append P n (p ∷ ps) qs h k = (h.0, from_append P (n + 1) ps qs h.1 (subst (λ (m : ℕ). AllFrom P m qs) (omega arith) k))

pub from_weaker : (P Q : ℕ → Part → Type 0) → ((n : ℕ) (p : Part) → P n p → Q n p) → (n : ℕ) (ps : List Part) → AllFrom P n ps → AllFrom Q n ps
from_weaker P Q w n [] h = tt
from_weaker P Q w n (p ∷ ps) h = (w n p h.0, from_weaker P Q w (n + 1) ps h.1)

pub from_at : (P : ℕ → Part → Type 0) (n : ℕ) (ps : List Part) (k : ℕ) (p : Part) → AllFrom P n ps → slice_get ps k ≡ Some p → P (n + k) p
from_at P n [] k p h e = absurd cc
from_at P n (q ∷ ps) zero p h e = let same : q ≡ p = cc in subst (λ (x : Part). P (n + 0) x) same (subst (λ (m : ℕ). P m q) (omega arith) h.0)
from_at P n (q ∷ ps) (suc k) p h e = subst (λ (m : ℕ). P m p) (omega arith) (from_at P (n + 1) ps k p h.1 e)

-- ---- one formula

-- the formula names this: whatever test its names pass, this passes
abbrev pub IsNamedIn : Formula → List ℕ → Type 0
IsNamedIn f name = (test : List ℕ → Bool) → all_names test f ≡ true → test name ≡ true

-- an operand of the n-th part, which stands before it and not before the first
pub record IsOperand (first n a : ℕ) : Type 0 where
  pub from : first ≤ a
  pub below : a < n

-- the n-th part, among those of a formula whose first part has this number
abbrev pub IsOf : List Port → Formula → ℕ → ℕ → Part → Type 0
IsOf ports f first n (parts.Truth b) = Unit {0}
IsOf ports f first n (parts.Flag stream before) = (name : List ℕ) × IsNamedIn f name × (before ≡ false) × (stream ≡ stream_of ports name)
IsOf ports f first n (parts.Not a) = IsOperand first n a
IsOf ports f first n (parts.And a b) = IsOperand first n a × IsOperand first n b
IsOf ports f first n (parts.Or a b) = IsOperand first n a × IsOperand first n b
IsOf ports f first n (parts.Compare row) = ⊥
IsOf ports f first n (parts.Same a b) = ⊥
IsOf ports f first n (parts.Choice a b c) = ⊥
IsOf ports f first n (parts.Arrow a b) = ⊥

later_operand : (first low n a : ℕ) → low ≤ first → IsOperand first n a → IsOperand low n a
later_operand first low n a le h = record { from = omega (arith, le, h.from); below = h.below }

-- it is one of a formula that holds this one, and begins no later
of_larger : (ports : List Port) (f g : Formula) (first low : ℕ) → low ≤ first → ((name : List ℕ) → IsNamedIn f name → IsNamedIn g name) → (n : ℕ) (p : Part) → IsOf ports f first n p → IsOf ports g low n p
of_larger ports f g first low le w n (parts.Truth b) h = tt
of_larger ports f g first low le w n (parts.Flag stream before) h = (h.0, w h.0 h.1, h.2, h.3)
of_larger ports f g first low le w n (parts.Not a) h = later_operand first low n a le h
of_larger ports f g first low le w n (parts.And a b) h = (later_operand first low n a le h.0, later_operand first low n b le h.1)
of_larger ports f g first low le w n (parts.Or a b) h = (later_operand first low n a le h.0, later_operand first low n b le h.1)
of_larger ports f g first low le w n (parts.Compare row) h = absurd h
of_larger ports f g first low le w n (parts.Same a b) h = absurd h
of_larger ports f g first low le w n (parts.Choice a b c) h = absurd h
of_larger ports f g first low le w n (parts.Arrow a b) h = absurd h

own_operand : (first low : ℕ) (f : Formula) (n : ℕ) → low ≤ first → first + part_count f ≤ n → IsOperand low n (own_part first f)
own_operand first low f n le more = record { from = omega (arith, le, some_parts f); below = omega (arith, more, some_parts f) }

-- two operands, and what serves them
operands_are : (ports : List Port) (first : ℕ) (f g h : Formula) (tail : List Part)
    → ((name : List ℕ) → IsNamedIn f name → IsNamedIn h name) → ((name : List ℕ) → IsNamedIn g name → IsNamedIn h name)
    → AllFrom (IsOf ports f first) first (parts_of ports first f) → AllFrom (IsOf ports g (first + part_count f)) (first + part_count f) (parts_of ports (first + part_count f) g)
    → AllFrom (IsOf ports h first) (first + part_count f + part_count g) tail
    → AllFrom (IsOf ports h first) first (parts_of ports first f ++ (parts_of ports (first + part_count f) g ++ tail))
operands_are ports first f g h tail wf wg one other last =
    let second = first + part_count f in
    let lf = length-parts_of ports first f in
    let lg = length-parts_of ports second g in
    from_append (IsOf ports h first) first (parts_of ports first f) (parts_of ports second g ++ tail)
    (from_weaker (IsOf ports f first) (IsOf ports h first) (of_larger ports f h first first (omega arith) wf) first (parts_of ports first f) one)
    (subst (λ (m : ℕ). AllFrom (IsOf ports h first) m (parts_of ports second g ++ tail)) (omega (arith, lf))
    (from_append (IsOf ports h first) second (parts_of ports second g) tail
    (from_weaker (IsOf ports g second) (IsOf ports h first) (of_larger ports g h second first (omega arith) wg) second (parts_of ports second g) other)
    (subst (λ (m : ℕ). AllFrom (IsOf ports h first) m tail) (omega (arith, lg)) last)))

pub parts_are : (ports : List Port) (first : ℕ) (f : Formula) → AllFrom (IsOf ports f first) first (parts_of ports first f)
parts_are ports first (Truth b) = (tt, tt)
parts_are ports first (Named name) = ((name, λ test h. h, refl, refl), tt)
parts_are ports first (Group f) = from_weaker (IsOf ports f first) (IsOf ports (Group f) first) (of_larger ports f (Group f) first first (omega arith) (λ name h. h)) first (parts_of ports first f) (parts_are ports first f)
parts_are ports first (Not f) =
    from_append (IsOf ports (Not f) first) first (parts_of ports first f) (parts.Not (own_part first f) ∷ [])
    (from_weaker (IsOf ports f first) (IsOf ports (Not f) first) (of_larger ports f (Not f) first first (omega arith) (λ name h. h)) first (parts_of ports first f) (parts_are ports first f))
    (own_operand first first f (first + length (parts_of ports first f)) (omega arith) (omega (arith, length-parts_of ports first f)), tt)
parts_are ports first (And f g) =
    operands_are ports first f g (And f g) (parts.And (own_part first f) (own_part (first + part_count f) g) ∷ [])
    (λ name h test k. h test (and_parts (all_names test f) (all_names test g) k).0) (λ name h test k. h test (and_parts (all_names test f) (all_names test g) k).1)
    (parts_are ports first f) (parts_are ports (first + part_count f) g)
    ((own_operand first first f (first + part_count f + part_count g) (omega arith) (omega arith), own_operand (first + part_count f) first g (first + part_count f + part_count g) (omega arith) (omega arith)), tt)
parts_are ports first (Or f g) =
    operands_are ports first f g (Or f g) (parts.Or (own_part first f) (own_part (first + part_count f) g) ∷ [])
    (λ name h test k. h test (and_parts (all_names test f) (all_names test g) k).0) (λ name h test k. h test (and_parts (all_names test f) (all_names test g) k).1)
    (parts_are ports first f) (parts_are ports (first + part_count f) g)
    ((own_operand first first f (first + part_count f + part_count g) (omega arith) (omega arith), own_operand (first + part_count f) first g (first + part_count f + part_count g) (omega arith) (omega arith)), tt)
parts_are ports first (Implies f g) =
    operands_are ports first f g (Implies f g) (parts.Not (own_part first f) ∷ parts.Or (first + part_count f + part_count g) (own_part (first + part_count f) g) ∷ [])
    (λ name h test k. h test (and_parts (all_names test f) (all_names test g) k).0) (λ name h test k. h test (and_parts (all_names test f) (all_names test g) k).1)
    (parts_are ports first f) (parts_are ports (first + part_count f) g) (
      own_operand first first f (first + part_count f + part_count g) (omega arith) (omega arith),
      (
        (
          record { from = omega arith; below = omega arith },
          own_operand (first + part_count f) first g (first + part_count f + part_count g + 1) (omega arith) (omega arith),
        ),
        tt,
      ),
    )

-- ---- no part serves two

-- none is met again
abbrev Differ : List ℕ → Type 0
Differ [] = Unit {0}
Differ (x ∷ xs) = AllByRecursion (λ y. x ≢ y) xs × Differ xs

pub distinct_of : (xs : List ℕ) → Differ xs → IsDistinct nat_eq xs
unfolding IsDistinct
distinct_of [] h = tt
distinct_of (x ∷ xs) h = (apart x xs h.0, distinct_of xs h.1)
  where
    apart : (x : ℕ) (xs : List ℕ) → AllByRecursion (λ y. x ≢ y) xs → AllByRecursion (λ y. nat_eq x y ≡ false) xs
    apart x [] h = tt
    apart x (y ∷ ys) h = (ne_eqb x y h.0, apart x ys h.1)

module _ (P Q : ℕ → Type 0) where
  all_join : (xs ys : List ℕ) → AllByRecursion P xs → AllByRecursion P ys → AllByRecursion P (xs ++ ys)
  all_join [] ys h k = k
  all_join (x ∷ xs) ys h k = (h.0, all_join xs ys h.1 k)

  all_weaker : ((x : ℕ) → P x → Q x) → (xs : List ℕ) → AllByRecursion P xs → AllByRecursion Q xs
  all_weaker w [] h = tt
  all_weaker w (x ∷ xs) h = (w x h.0, all_weaker w xs h.1)

differ_join : (xs ys : List ℕ) → Differ xs → Differ ys → AllByRecursion (λ x. AllByRecursion (λ y. x ≢ y) ys) xs → Differ (xs ++ ys)
differ_join [] ys h k apart = k
differ_join (x ∷ xs) ys h k apart = (all_join (λ y. x ≢ y) (λ y. x ≢ y) xs ys h.0 apart.0, differ_join xs ys h.1 k apart.1)

-- those of the one are below a number, and those of the other aren't
differ_below : (c : ℕ) (xs ys : List ℕ) → Differ xs → Differ ys → AllByRecursion (λ x. x < c) xs → AllByRecursion (λ y. c ≤ y) ys → Differ (xs ++ ys)
differ_below c xs ys h k low high =
    differ_join xs ys h k (all_weaker (λ x. x < c) (λ x. AllByRecursion (λ y. x ≢ y) ys) (λ x lt. all_weaker (λ y. c ≤ y) (λ y. x ≢ y) (λ y le e. omega (arith, lt, le, e)) ys high) xs low)

operands_join : (ps qs : List Part) → flat_map operands (ps ++ qs) ≡ flat_map operands ps ++ flat_map operands qs
operands_join [] qs = refl
operands_join (p ∷ ps) qs = ap (λ (xs : List ℕ). operands p ++ xs) (operands_join ps qs) ∙ sym (append_assoc (operands p) (flat_map operands ps) (flat_map operands qs))

-- the operands of a formula's parts: each of its parts but its own, once
record AreServed (first own : ℕ) (xs : List ℕ) : Type 0 where
  pub from : AllByRecursion (λ a. first ≤ a) xs
  pub below : AllByRecursion (λ a. a < own) xs
  pub differ : Differ xs

-- what serves an operand, behind the operand's own
serve_one : (first own : ℕ) (xs : List ℕ) → first ≤ own → AreServed first own xs → AreServed first (own + 1) (xs ++ own ∷ [])
serve_one first own xs le h = record {
  from = all_join (λ a. first ≤ a) (λ a. first ≤ a) xs (own ∷ []) h.from (le, tt);
  below = all_join (λ a. a < own + 1) (λ a. a < own + 1) xs (own ∷ []) (all_weaker (λ a. a < own) (λ a. a < own + 1) (λ a lt. omega (arith, lt)) xs h.below) (omega arith, tt);
  differ = differ_below own xs (own ∷ []) h.differ (tt, tt) h.below (omega arith, tt);
}

-- what serves two operands, and then others behind them
serve_two : (first a second b : ℕ) (xs ys more : List ℕ) → first ≤ a → a < second → second ≤ b → AreServed first a xs → AreServed second b ys
    → AllByRecursion (λ n. b < n) more → Differ more → (own : ℕ) → b < own → AllByRecursion (λ n. n < own) more
    → AreServed first own (xs ++ (ys ++ (a ∷ (more ++ b ∷ []))))
serve_two first a second b xs ys more fa al sb one other above differ own bo within =
    let tail = a ∷ (more ++ b ∷ []) in
    let more_apart : Differ (more ++ b ∷ []) = differ_join more (b ∷ []) differ (tt, tt) (all_weaker (λ n. b < n) (λ n. AllByRecursion (λ y. n ≢ y) (b ∷ [])) (λ n lt. (λ e. omega (arith, lt, e), tt)) more above) in
    let tail_above : AllByRecursion (λ n. a ≢ n) (more ++ b ∷ []) = all_join (λ n. a ≢ n) (λ n. a ≢ n) more (b ∷ []) (all_weaker (λ n. b < n) (λ n. a ≢ n) (λ n lt e. omega (arith, lt, e, al, sb)) more above) (λ e. omega (arith, e, al, sb), tt) in
    let tail_differ : Differ tail = (tail_above, more_apart) in
    let ys_apart : AllByRecursion (λ y. AllByRecursion (λ n. y ≢ n) tail) ys =
    both_from a second b more al above ys other.from other.below in
    let rest : Differ (ys ++ tail) = differ_join ys tail other.differ tail_differ ys_apart in
    let rest_from : AllByRecursion (λ n. a ≤ n) (ys ++ tail) =
    all_join (λ n. a ≤ n) (λ n. a ≤ n) ys tail (all_weaker (λ n. second ≤ n) (λ n. a ≤ n) (λ n le. omega (arith, le, al)) ys other.from)
    (omega arith, all_join (λ n. a ≤ n) (λ n. a ≤ n) more (b ∷ []) (all_weaker (λ n. b < n) (λ n. a ≤ n) (λ n lt. omega (arith, lt, al, sb)) more above) (omega (arith, al, sb), tt)) in
    let rest_below : AllByRecursion (λ n. n < own) (ys ++ tail) =
    all_join (λ n. n < own) (λ n. n < own) ys tail (all_weaker (λ n. n < b) (λ n. n < own) (λ n lt. omega (arith, lt, bo)) ys other.below)
    (omega (arith, al, sb, bo), all_join (λ n. n < own) (λ n. n < own) more (b ∷ []) within (bo, tt)) in
    record {
      from = all_join (λ n. first ≤ n) (λ n. first ≤ n) xs (ys ++ tail) one.from (all_weaker (λ n. a ≤ n) (λ n. first ≤ n) (λ n le. omega (arith, le, fa)) (ys ++ tail) rest_from);
      below = all_join (λ n. n < own) (λ n. n < own) xs (ys ++ tail) (all_weaker (λ n. n < a) (λ n. n < own) (λ n lt. omega (arith, lt, al, sb, bo)) xs one.below) rest_below;
      differ = differ_below a xs (ys ++ tail) one.differ rest one.below rest_from;
    }
  where
    both_from : (a second b : ℕ) (more : List ℕ) → a < second → AllByRecursion (λ n. b < n) more → (ys : List ℕ) → AllByRecursion (λ n. second ≤ n) ys → AllByRecursion (λ n. n < b) ys
        → AllByRecursion (λ y. AllByRecursion (λ n. y ≢ n) (a ∷ (more ++ b ∷ []))) ys
    both_from a second b more al above [] h k = tt
    both_from a second b more al above (y ∷ ys) h k = (
      (
        λ e. omega (arith, e, h.0, al),
        all_join (λ n. y ≢ n) (λ n. y ≢ n) more (b ∷ []) (all_weaker (λ n. b < n) (λ n. y ≢ n) (λ n lt e. omega (arith, lt, e, k.0)) more above) (λ e. omega (arith, e, k.0), tt),
      ),
      both_from a second b more al above ys h.1 k.1,
    )

served_by : (first own : ℕ) (xs ys : List ℕ) → xs ≡ ys → AreServed first own ys → AreServed first own xs
served_by first own xs ys e h = subst (λ (zs : List ℕ). AreServed first own zs) (sym e) h

two_join : (pf pg tail : List Part) → flat_map operands (pf ++ (pg ++ tail)) ≡ flat_map operands pf ++ (flat_map operands pg ++ flat_map operands tail)
two_join pf pg tail = operands_join pf (pg ++ tail) ∙ ap (λ (xs : List ℕ). flat_map operands pf ++ xs) (operands_join pg tail)

served_at : (first own other : ℕ) (xs : List ℕ) → own ≡ other → AreServed first own xs → AreServed first other xs
served_at first own other xs e h = subst (λ (n : ℕ). AreServed first n xs) e h

parts_served : (ports : List Port) (first : ℕ) (f : Formula) → AreServed first (own_part first f) (flat_map operands (parts_of ports first f))
parts_served ports first (Truth b) = record { from = tt; below = tt; differ = tt }
parts_served ports first (Named name) = record { from = tt; below = tt; differ = tt }
parts_served ports first (Group f) = parts_served ports first f
parts_served ports first (Not f) =
    served_by first (own_part first (Not f)) (flat_map operands (parts_of ports first (Not f))) (flat_map operands (parts_of ports first f) ++ own_part first f ∷ [])
    (operands_join (parts_of ports first f) (parts.Not (own_part first f) ∷ []))
    (served_at first (own_part first f + 1) (own_part first (Not f)) (flat_map operands (parts_of ports first f) ++ own_part first f ∷ []) (omega (arith, some_parts f))
    (serve_one first (own_part first f) (flat_map operands (parts_of ports first f)) (omega (arith, some_parts f)) (parts_served ports first f)))
parts_served ports first (And f g) =
    let a = own_part first f in
    let b = own_part (first + part_count f) g in
    let xs = flat_map operands (parts_of ports first f) in
    let ys = flat_map operands (parts_of ports (first + part_count f) g) in
    served_by first (own_part first (And f g)) (flat_map operands (parts_of ports first (And f g))) (xs ++ (ys ++ (a ∷ b ∷ [])))
    (two_join (parts_of ports first f) (parts_of ports (first + part_count f) g) (parts.And a b ∷ []))
    (serve_two first a (first + part_count f) b xs ys [] (omega (arith, some_parts f)) (omega (arith, some_parts f)) (omega (arith, some_parts g)) (parts_served ports first f) (parts_served ports (first + part_count f) g)
    tt tt (own_part first (And f g)) (omega (arith, some_parts g)) tt)
parts_served ports first (Or f g) =
    let a = own_part first f in
    let b = own_part (first + part_count f) g in
    let xs = flat_map operands (parts_of ports first f) in
    let ys = flat_map operands (parts_of ports (first + part_count f) g) in
    served_by first (own_part first (Or f g)) (flat_map operands (parts_of ports first (Or f g))) (xs ++ (ys ++ (a ∷ b ∷ [])))
    (two_join (parts_of ports first f) (parts_of ports (first + part_count f) g) (parts.Or a b ∷ []))
    (serve_two first a (first + part_count f) b xs ys [] (omega (arith, some_parts f)) (omega (arith, some_parts f)) (omega (arith, some_parts g)) (parts_served ports first f) (parts_served ports (first + part_count f) g)
    tt tt (own_part first (Or f g)) (omega (arith, some_parts g)) tt)
parts_served ports first (Implies f g) =
    let a = own_part first f in
    let b = own_part (first + part_count f) g in
    let n = first + part_count f + part_count g in
    let xs = flat_map operands (parts_of ports first f) in
    let ys = flat_map operands (parts_of ports (first + part_count f) g) in
    served_by first (own_part first (Implies f g)) (flat_map operands (parts_of ports first (Implies f g))) (xs ++ (ys ++ (a ∷ n ∷ b ∷ [])))
    (two_join (parts_of ports first f) (parts_of ports (first + part_count f) g) (parts.Not a ∷ parts.Or n b ∷ []))
    (serve_two first a (first + part_count f) b xs ys (n ∷ []) (omega (arith, some_parts f)) (omega (arith, some_parts f)) (omega (arith, some_parts g)) (parts_served ports first f) (parts_served ports (first + part_count f) g)
    (omega (arith, some_parts g), tt) (tt, tt) (own_part first (Implies f g)) (omega (arith, some_parts g)) (omega (arith, some_parts g), tt))

all_served : (ports : List Port) (first : ℕ) (fs : List Formula) → AllByRecursion (λ a. first ≤ a) (flat_map operands (all_parts ports first fs)) × Differ (flat_map operands (all_parts ports first fs))
all_served ports first [] = (tt, tt)
all_served ports first (f ∷ fs) =
    let k = all_served ports (first + part_count f) fs in
    let s = parts_served ports first f in
    let xs = flat_map operands (parts_of ports first f) in
    let ys = flat_map operands (all_parts ports (first + part_count f) fs) in
    let e = operands_join (parts_of ports first f) (all_parts ports (first + part_count f) fs) in (
      subst (AllByRecursion (λ a. first ≤ a)) (sym e) (all_join (λ a. first ≤ a) (λ a. first ≤ a) xs ys s.from (all_weaker (λ a. first + part_count f ≤ a) (λ a. first ≤ a) (λ a le. omega (arith, le)) ys k.0)),
      subst Differ (sym e) (differ_below (first + part_count f) xs ys s.differ k.1 (all_weaker (λ a. a < own_part first f) (λ a. a < first + part_count f) (λ a lt. omega (arith, lt)) xs s.below) k.0),
    )

pub none_twice : (ports : List Port) (fs : List Formula) → IsDistinct nat_eq (flat_map operands (all_parts ports 0 fs))
none_twice ports fs = distinct_of (flat_map operands (all_parts ports 0 fs)) (all_served ports 0 fs).1
