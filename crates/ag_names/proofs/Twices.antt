-- The first name declared a second time, found among names in order.
use Rattle.std.proofs.Common.{◌≡◌, ℕ, ◌+◌, ◌<◌, ◌≤◌, true, false, List, [], length, get_or, Option, Some, None, refl, ap, sym, subst, ◌∙◌, arith}
use Rattle.std.specs.List.Sorted.{IsPermutation, IsSortedBy}
use Rattle.std.proofs.lemmas.Bool.{false≢true}
use Rattle.std.proofs.lemmas.List.{get_or_default}
use Rattle.std.proofs.lemmas.List.Sorted.{Contains-permutation, IsPermutation-sym}
use Rattle.ag_base.specs.declared.place.Place.{Place}
use Rattle.ag_base.specs.declared.place.Refusal.{Refusal}
use Rattle.ag_base.specs.declared.place.Rule.TheVariants.{Twice}
use Rattle.ag_base.specs.Rules.{is_before}
use Rattle.ag_names.specs.Declaring.{is_behind, is_in_front}
use Rattle.ag_names.specs.Order.{IsFirst, earlier}
use Rattle.ag_names.specs.Twice.{Declared, IsTwice, same_name}
use Rattle.ag_names.proofs.First.{Below, earlier_none, first_below_more, first_only, first_same}
use Rattle.ag_names.proofs.Neighbours.{IsBehindAt, ahead, neighbour, part_one, part_other}

abbrev pub refused_at : Place → Refusal
refused_at place = record { place = place; rule = Twice }

-- the name at a position is behind its neighbour in front of it
pub record IsBehindThere (names : List Declared) (at : ℕ) (r : Refusal) : Type 0 where
  pub front : ℕ
  pub next : front + 1 ≡ at
  pub within : at < length names
  pub behind : (e : Declared) → is_behind (get_or names front e) (get_or names at e) ≡ true
  pub refusal : (e : Declared) → r ≡ refused_at (get_or names at e).place

-- ---- a step of the loop

module _ (names : List Declared) (at : ℕ) (p d : Declared) (front : ℕ) (next : front + 1 ≡ at) (within : at < length names)
    (is_front : p ≡ get_or names front p) (is_at : d ≡ get_or names at d) where
  at_front : (e : Declared) → get_or names front e ≡ p
  at_front e = get_or_default names front e p (omega arith) ∙ sym is_front

  at_place : (e : Declared) → get_or names at e ≡ d
  at_place e = get_or_default names at e d within ∙ sym is_at

  is_there : is_behind p d ≡ true → IsBehindThere names at (refused_at d.place)
  is_there b = record {
    front = front;
    next = next;
    within = within;
    behind = λ e. rw (at_front e) (rw (at_place e) b);
    refusal = λ e. rw (at_place e) refl;
  }

  behind_then : (r : Refusal) → IsBehindThere names at r → is_behind p d ≡ true
  behind_then r t =
      let same : t.front ≡ front = omega (arith, t.next, next) in
      sym (ap (λ (z : Declared). is_behind z (get_or names at d)) (at_front d) ∙ ap (is_behind p) (at_place d)) ∙ subst (λ (n : ℕ). is_behind (get_or names n d) (get_or names at d) ≡ true) same (t.behind d)

  pub first_more_behind : (old new : Option Refusal) → is_behind p d ≡ true → new ≡ earlier old (Some (refused_at d.place))
      → IsFirst (Below (IsBehindThere names) at) old → IsFirst (Below (IsBehindThere names) (at + 1)) new
  first_more_behind old new b e h =
      subst (IsFirst (Below (IsBehindThere names) (at + 1))) (sym e)
      (first_below_more (IsBehindThere names) at old (Some (refused_at d.place)) h
      (first_only (IsBehindThere names at) (refused_at d.place) (is_there b) (λ q t. t.refusal d ∙ ap (λ (z : Declared). refused_at z.place) (at_place d))))

  pub first_more_other : (old new : Option Refusal) → is_behind p d ≡ false → new ≡ old
      → IsFirst (Below (IsBehindThere names) at) old → IsFirst (Below (IsBehindThere names) (at + 1)) new
  first_more_other old new b e h =
      subst (IsFirst (Below (IsBehindThere names) (at + 1))) (earlier_none old ∙ sym e)
      (first_below_more (IsBehindThere names) at old None h (λ q t. absurd (false≢true (sym b ∙ behind_then q t))))

pub first_at_start : (names : List Declared) → IsFirst (Below (IsBehindThere names) 1) None
first_at_start names = λ q m. let t = m.2 in let l : m.0 < 1 = m.1 in absurd (omega (arith, t.next))

-- ---- the end of the loop

-- what stands past the end of a list
nameless : Declared
nameless = record { type_name = []; name = []; place = record { file = 0; line = 0; column = 0 } }

twice_from : (names : List Declared) (r : Refusal) (i j : ℕ) → i < length names → j < length names → ((e : Declared) → is_behind (get_or names i e) (get_or names j e) ≡ true)
    → ((e : Declared) → r ≡ refused_at (get_or names j e).place) → (e : Declared) → IsTwice names r
twice_from names r i j hi hj b f e =
    let a : Declared = get_or names i e in
    let d : Declared = get_or names j e in
    record {
      first = a;
      second = d;
      one = (i, hi, get_or_default names i a e hi);
      other = (j, hj, get_or_default names j d e hj);
      same = part_one (same_name a d) (is_before a.place d.place) (b e);
      later = part_other (same_name a d) (is_before a.place d.place) (b e);
      refusal = f e;
    }

to_twice : (names : List Declared) (n : ℕ) (e : Declared) (r : Refusal) → Below (IsBehindThere names) n r → IsTwice names r
to_twice names n e r m =
    let t = m.2 in
    let next : t.front + 1 ≡ m.0 = t.next in
    let within : m.0 < length names = t.within in
    twice_from names r t.front m.0 (omega arith) within t.behind t.refusal e

behind_at : (names : List Declared) (n : ℕ) (e : Declared) (place : Place) (r : Refusal) → length names ≤ n → r ≡ refused_at place → IsBehindAt names e place → Below (IsBehindThere names) n r
behind_at names n e place r l f b =
    let within : b.front + 1 < length names = b.within in (
      b.front + 1,
      omega arith,
      record {
        front = b.front;
        next = refl;
        within = within;
        behind = λ z. rw (get_or_default names b.front z e (omega arith)) (rw (get_or_default names (b.front + 1) z e within) b.behind);
        refusal = λ z. f ∙ ap refused_at (sym b.placed) ∙ ap (λ (x : Declared). refused_at x.place) (sym (get_or_default names (b.front + 1) z e within));
      },
    )

from_twice : (names : List Declared) (n : ℕ) → IsSortedBy is_in_front names → length names ≤ n → (r : Refusal) → IsTwice names r → Below (IsBehindThere names) n r
from_twice names n sorted l r t =
    let e : Declared = t.second in
    let i = t.one.0 in
    let j = t.other.0 in
    let a : get_or names i e ≡ t.first = get_or_default names i e t.first t.one.1 ∙ t.one.2 in
    let d : get_or names j e ≡ t.second = t.other.2 in
    let alike : same_name (get_or names i e) (get_or names j e) ≡ true = rw a (rw d t.same) in
    let later : is_before (get_or names i e).place (get_or names j e).place ≡ true = rw a (rw d t.later) in
    behind_at names n e (get_or names j e).place r l (t.refusal ∙ ap (λ (x : Declared). refused_at x.place) (sym d))
    (neighbour names sorted e i j (ahead names sorted e i j t.one.1 t.other.1 alike later) t.other.1 alike later)

pub first_of_names : (names : List Declared) (n : ℕ) (a : Option Refusal) → IsSortedBy is_in_front names → length names ≤ n
    → IsFirst (Below (IsBehindThere names) n) a → IsFirst (IsTwice names) a
first_of_names names n a sorted l h =
    first_same (Below (IsBehindThere names) n) (IsTwice names) a (to_twice names n nameless) (from_twice names n sorted l) h

-- ---- names in another order

twice_moved : (xs ys : List Declared) → IsPermutation xs ys → (r : Refusal) → IsTwice xs r → IsTwice ys r
twice_moved xs ys p r t = record {
  first = t.first;
  second = t.second;
  one = Contains-permutation xs ys t.first p t.one;
  other = Contains-permutation xs ys t.second p t.other;
  same = t.same;
  later = t.later;
  refusal = t.refusal;
}

pub first_moved : (xs ys : List Declared) (a : Option Refusal) → IsPermutation xs ys → IsFirst (IsTwice ys) a → IsFirst (IsTwice xs) a
first_moved xs ys a p h = first_same (IsTwice ys) (IsTwice xs) a (twice_moved ys xs (IsPermutation-sym xs ys p)) (twice_moved xs ys p) h
