-- What is open allows each comparison that something else allows, where it is that and choices which still go on.
use Rattle.std.proofs.Common.{◌≡◌, ◌<◌, ℕ, Bool, true, false, not, ◌+◌, ◌==◌, ◌||◌, if◌then◌else◌, List, [], ◌∷◌, ◌++◌, Some, refl, sym, ap, subst, ◌∙◌, append_assoc, arith}
use Rattle.std.specs.Prelude.{nat_lt}
use Rattle.std.proofs.lemmas.Bool.{lt-ltb, le-ltb, ltb-true, eqb-true, ne_eqb}
use Rattle.ag_annex.specs.declared.nesting.Open.{Open}
use Rattle.ag_annex.specs.declared.nesting.Open.TheVariants.{Bracket, Test, Yes, No, Prefix, Chain}
use Rattle.ag_annex.specs.Nesting.{behind_operator, behind_comparison, behind_choice}
use Rattle.ag_annex.specs.Operators.{comparison}
use Rattle.ag_lines.proofs.Reaching.{AreInner}

-- a comparison waits for its right operand, with nothing looser in it
abbrev pub is_compared : List Open → Bool
is_compared [] = false
is_compared (Prefix ∷ opens) = is_compared opens
is_compared (Chain q count ∷ opens) = if nat_lt comparison q then is_compared opens else q == comparison
is_compared (o ∷ opens) = false

-- what is open outside operators
abbrev pub outer_of : List Open → List Open
outer_of [] = []
outer_of (Prefix ∷ opens) = outer_of opens
outer_of (Chain q count ∷ opens) = outer_of opens
outer_of (o ∷ opens) = o ∷ opens

-- The first are the second and further choices, at any place; `free` where in the innermost bracket of the second, or in one of the
-- choices that were put into it, no comparison waits.
pub data IsOver : Bool → List Open → List Open → Type 0 where
  over_all : (more less : List Open) → outer_of more ≡ [] → outer_of less ≡ [] → IsOver (not (is_compared more)) more less
  over_one : (o : Open) (more less above under : List Open) (free : Bool) → outer_of more ≡ o ∷ above → outer_of less ≡ o ∷ under → IsOver free above under → (is_compared under ≡ false → free ≡ true)
      → IsOver (not (is_compared more)) more less
  over_choice : (more less above : List Open) (free : Bool) → outer_of more ≡ No ∷ above → IsOver free above less → IsOver (not (is_compared more) || free) more less

-- the first allow what the second do
pub record Allows (more less : List Open) : Type 0 where
  pub free : Bool
  pub over : IsOver free more less
  pub covers : is_compared less ≡ false → free ≡ true

-- ---- comparisons

-- behind a comparison
pub record Compared (opens : List Open) : Type 0 where
  pub found : List Open
  pub goes : behind_comparison opens ≡ Some found
  pub waits : is_compared found ≡ true
  pub outer : outer_of found ≡ outer_of opens

-- an operator waits, which binds tighter than comparisons, or as tight, or looser
compared-chain : (b c : Bool) (q count : ℕ) (opens : List Open) → nat_lt comparison q ≡ b → (q == comparison) ≡ c → (if b then is_compared opens else c) ≡ false → (is_compared opens ≡ false → Compared opens) → Compared (Chain q count ∷ opens)
compared-chain true c q count opens e f h further =
    let w = further h in
    record {
      found = w.found;
      goes = ap (λ (z : Bool). if z then behind_comparison opens else (if q == comparison then behind_choice opens else Some (Chain comparison 1 ∷ Chain q count ∷ opens))) e ∙ w.goes;
      waits = w.waits;
      outer = w.outer;
    }
compared-chain false true q count opens e f h further = absurd cc
compared-chain false false q count opens e f h further = record {
  found = Chain comparison 1 ∷ Chain q count ∷ opens;
  goes =
      ap (λ (z : Bool). if z then behind_comparison opens else (if q == comparison then behind_choice opens else Some (Chain comparison 1 ∷ Chain q count ∷ opens))) e
      ∙ ap (λ (z : Bool). if z then behind_choice opens else Some (Chain comparison 1 ∷ Chain q count ∷ opens)) f;
  waits = refl;
  outer = refl;
}

-- where none waits, one has a place
pub compared-free : (opens : List Open) → is_compared opens ≡ false → Compared opens
compared-free [] h = record { found = Chain comparison 1 ∷ []; goes = refl; waits = refl; outer = refl }
compared-free (Prefix ∷ opens) h = let w = compared-free opens h in record { found = w.found; goes = w.goes; waits = w.waits; outer = w.outer }
compared-free (Chain q count ∷ opens) h = compared-chain (nat_lt comparison q) (q == comparison) q count opens refl refl h (λ k. compared-free opens k)
compared-free (Bracket ∷ opens) h = record { found = Chain comparison 1 ∷ Bracket ∷ opens; goes = refl; waits = refl; outer = refl }
compared-free (Test ∷ opens) h = record { found = Chain comparison 1 ∷ Test ∷ opens; goes = refl; waits = refl; outer = refl }
compared-free (Yes ∷ opens) h = record { found = Chain comparison 1 ∷ Yes ∷ opens; goes = refl; waits = refl; outer = refl }
compared-free (No ∷ opens) h = record { found = Chain comparison 1 ∷ No ∷ opens; goes = refl; waits = refl; outer = refl }

busy-chain : (b c : Bool) (q count : ℕ) (opens : List Open) → nat_lt comparison q ≡ b → (q == comparison) ≡ c → (if b then is_compared opens else c) ≡ true → (is_compared opens ≡ true → behind_comparison opens ≡ behind_choice opens)
    → behind_comparison (Chain q count ∷ opens) ≡ behind_choice opens
busy-chain true c q count opens e f h further =
    ap (λ (z : Bool). if z then behind_comparison opens else (if q == comparison then behind_choice opens else Some (Chain comparison 1 ∷ Chain q count ∷ opens))) e ∙ further h
busy-chain false true q count opens e f h further =
    ap (λ (z : Bool). if z then behind_comparison opens else (if q == comparison then behind_choice opens else Some (Chain comparison 1 ∷ Chain q count ∷ opens))) e
    ∙ ap (λ (z : Bool). if z then behind_choice opens else Some (Chain comparison 1 ∷ Chain q count ∷ opens)) f
busy-chain false false q count opens e f h further = absurd cc

-- where one waits, the innermost choice has to end
busy : (opens : List Open) → is_compared opens ≡ true → behind_comparison opens ≡ behind_choice opens
busy [] h = absurd cc
busy (Prefix ∷ opens) h = busy opens h
busy (Chain q count ∷ opens) h = busy-chain (nat_lt comparison q) (q == comparison) q count opens refl refl h (λ k. busy opens k)
busy (Bracket ∷ opens) h = absurd cc
busy (Test ∷ opens) h = absurd cc
busy (Yes ∷ opens) h = absurd cc
busy (No ∷ opens) h = absurd cc

-- a choice ends, whatever operators wait in it
ended : (opens above : List Open) → outer_of opens ≡ No ∷ above → behind_choice opens ≡ behind_comparison above
ended [] above e = absurd cc
ended (Prefix ∷ opens) above e = ended opens above e
ended (Chain q count ∷ opens) above e = ended opens above e
ended (Bracket ∷ opens) above e = absurd cc
ended (Test ∷ opens) above e = absurd cc
ended (Yes ∷ opens) above e = absurd cc
ended (No ∷ opens) above e = let same : opens ≡ above = cc in ap behind_comparison same

-- the choice that has to end, and what is open outside it
record Ending (opens found : List Open) : Type 0 where
  under : List Open
  outer : outer_of opens ≡ No ∷ under
  goes : behind_comparison under ≡ Some found

-- there is one where a choice ends
ending : (opens found : List Open) → behind_choice opens ≡ Some found → Ending opens found
ending [] found e = absurd cc
ending (Prefix ∷ opens) found e = let w = ending opens found e in record { under = w.under; outer = w.outer; goes = w.goes }
ending (Chain q count ∷ opens) found e = let w = ending opens found e in record { under = w.under; outer = w.outer; goes = w.goes }
ending (Bracket ∷ opens) found e = absurd cc
ending (Test ∷ opens) found e = absurd cc
ending (Yes ∷ opens) found e = absurd cc
ending (No ∷ opens) found e = record { under = opens; outer = refl; goes = e }

-- where a comparison waits and another one has a place
another : (opens found : List Open) → is_compared opens ≡ true → behind_comparison opens ≡ Some found → Ending opens found
another opens found h e = ending opens found (sym (busy opens h) ∙ e)

-- where it has one as none waits
first-place : (opens found : List Open) → is_compared opens ≡ false → behind_comparison opens ≡ Some found → outer_of found ≡ outer_of opens
first-place opens found h e =
    let w = compared-free opens h in
    let two : Some w.found ≡ Some found = sym w.goes ∙ e in
    let same : w.found ≡ found = cc in
    sym (ap outer_of same) ∙ w.outer

-- ---- what is over what

-- by what is open outside operators, and whether a comparison waits
pub over-alike : {free : Bool} {more less : List Open} → IsOver free more less → (a b : List Open) → outer_of a ≡ outer_of more → outer_of b ≡ outer_of less → is_compared a ≡ is_compared more → IsOver free a b
over-alike (over_all more less x y) a b e f g = subst (λ (z : Bool). IsOver (not z) a b) g (over_all a b (e ∙ x) (f ∙ y))
over-alike (over_one o more less above under free x y inner covers) a b e f g = subst (λ (z : Bool). IsOver (not z) a b) g (over_one o a b above under free (e ∙ x) (f ∙ y) inner covers)
over-alike (over_choice more less above free x inner) a b e f g = subst (λ (z : Bool). IsOver (not z || free) a b) g (over_choice a b above free (e ∙ x) (over-alike inner above b refl f refl))

-- where none waits any more
pub over-freed : {free : Bool} {more less : List Open} → IsOver free more less → (a b : List Open) → outer_of a ≡ outer_of more → outer_of b ≡ outer_of less → is_compared a ≡ false → IsOver true a b
over-freed (over_all more less x y) a b e f g = subst (λ (z : Bool). IsOver (not z) a b) g (over_all a b (e ∙ x) (f ∙ y))
over-freed (over_one o more less above under free x y inner covers) a b e f g = subst (λ (z : Bool). IsOver (not z) a b) g (over_one o a b above under free (e ∙ x) (f ∙ y) inner covers)
over-freed (over_choice more less above free x inner) a b e f g = subst (λ (z : Bool). IsOver (not z || free) a b) g (over_choice a b above free (e ∙ x) (over-alike inner above b refl f refl))

-- what is over something is so whatever waits
pub record Over (more less : List Open) : Type 0 where
  pub free : Bool
  pub over : IsOver free more less

pub over-from : (more less : List Open) (free : Bool) → IsOver free more less → Over more less
over-from more less free o = record { free = free; over = o }

-- where the second ends choices for a comparison, the first is over what is open behind it too
absorbed : {free : Bool} (more less : List Open) → IsOver free more less → (b : Bool) → is_compared less ≡ b → (found : List Open) → behind_comparison less ≡ Some found → Over more found
absorbed more less o false h found e = over-from more found _ (over-alike o more found refl (first-place less found h e) refl)
absorbed _ _ (over_all more less x y) true h found e =
    let w = another less found h e in
    let z : [] ≡ No ∷ w.under = sym y ∙ w.outer in
    absurd cc
absorbed _ _ (over_one o more less above under free x y inner covers) true h found e =
    let w = another less found h e in
    let z : o ∷ under ≡ No ∷ w.under = sym y ∙ w.outer in
    let first : o ≡ No = cc in
    let same : w.under ≡ under = cc in
    let v = absorbed above under inner (is_compared under) refl found (subst (λ (q : List Open). behind_comparison q ≡ Some found) same w.goes) in
    over-from more found _ (over_choice more found above v.free (x ∙ ap (λ (q : Open). q ∷ above) first) v.over)
absorbed _ _ (over_choice more less above free x inner) true h found e =
    let v = absorbed above less inner true h found e in
    over-from more found _ (over_choice more found above v.free x v.over)

-- behind a comparison of the second, the first has one too
pub record Placed (more found : List Open) : Type 0 where
  pub opens : List Open
  pub goes : behind_comparison more ≡ Some opens
  pub over : Over opens found

placed-free : (more found : List Open) → (w : Compared more) → Over w.found found → Placed more found
placed-free more found w o = record { opens = w.found; goes = w.goes; over = o }

-- where the first ends a choice
placed-outer : (more above found : List Open) → is_compared more ≡ true → outer_of more ≡ No ∷ above → Placed above found → Placed more found
placed-outer more above found h e p = record { opens = p.opens; goes = busy more h ∙ ended more above e ∙ p.goes; over = p.over }

-- above a choice that may go on: a comparison has a place in it, or outside it
placed-choice : (more above found : List Open) (a : Bool) → is_compared more ≡ a → outer_of more ≡ No ∷ above → (is_compared more ≡ false → Over above found) → (is_compared more ≡ true → Placed above found) → Placed more found
placed-choice more above found false g x inner outer =
    let w = compared-free more g in
    let o = inner g in
    placed-free more found w (over-from w.found found _ (over_choice w.found found above o.free (w.outer ∙ x) o.over))
placed-choice more above found true g x inner outer = placed-outer more above found g x (outer g)

-- by whether a comparison waits in the first, and in the second
placed : {free : Bool} {more less : List Open} → IsOver free more less → (is_compared less ≡ false → free ≡ true) → (a b : Bool) → is_compared more ≡ a → is_compared less ≡ b → (found : List Open) → behind_comparison less ≡ Some found → Placed more found
placed (over_all more less x y) covers a true g h found e =
    let w = another less found h e in
    let z : [] ≡ No ∷ w.under = sym y ∙ w.outer in
    absurd cc
placed (over_all more less x y) covers false false g h found e =
    let w = compared-free more g in
    placed-free more found w (over-from w.found found _ (over_all w.found found (w.outer ∙ x) (first-place less found h e ∙ y)))
placed (over_all more less x y) covers true false g h found e =
    let z : not true ≡ true = ap not (sym g) ∙ covers h in
    absurd cc
placed (over_one o more less above under free x y inner inside) covers false false g h found e =
    let w = compared-free more g in
    placed-free more found w (over-from w.found found _ (over_one o w.found found above under free (w.outer ∙ x) (first-place less found h e ∙ y) inner inside))
placed (over_one o more less above under free x y inner inside) covers true false g h found e =
    let z : not true ≡ true = ap not (sym g) ∙ covers h in
    absurd cc
placed (over_one o more less above under free x y inner inside) covers a true g h found e =
    let p = another less found h e in
    let z : o ∷ under ≡ No ∷ p.under = sym y ∙ p.outer in
    let first : o ≡ No = cc in
    let same : p.under ≡ under = cc in
    let goes : behind_comparison under ≡ Some found = subst (λ (q : List Open). behind_comparison q ≡ Some found) same p.goes in
    let choice : outer_of more ≡ No ∷ above = x ∙ ap (λ (q : Open). q ∷ above) first in
    placed-choice more above found a g choice (λ k. absorbed above under inner (is_compared under) refl found goes) (λ k. placed inner inside (is_compared above) (is_compared under) refl refl found goes)
placed (over_choice more less above free x inner) covers a b g h found e =
    placed-choice more above found a g x (λ k. absorbed above less inner b h found e)
    (λ k. placed inner (λ j. let w : (not true || free) ≡ true = ap (λ (q : Bool). not q || free) (sym k) ∙ covers j in w) (is_compared above) b refl h found e)

-- a comparison that is open behind itself waits
waits-here : (opens found : List Open) → Some (Chain comparison 1 ∷ opens) ≡ Some found → is_compared found ≡ true
waits-here opens found e = let same : Chain comparison 1 ∷ opens ≡ found = cc in sym (ap is_compared same)

waits-chain : (b c : Bool) (q count : ℕ) (opens found : List Open) → (behind_comparison opens ≡ Some found → is_compared found ≡ true) → (behind_choice opens ≡ Some found → is_compared found ≡ true)
    → (if b then behind_comparison opens else (if c then behind_choice opens else Some (Chain comparison 1 ∷ Chain q count ∷ opens))) ≡ Some found → is_compared found ≡ true
waits-chain true c q count opens found compares chooses e = compares e
waits-chain false true q count opens found compares chooses e = chooses e
waits-chain false false q count opens found compares chooses e = waits-here (Chain q count ∷ opens) found e

mutual
  -- behind a comparison one waits
  pub waits-behind : (opens found : List Open) → behind_comparison opens ≡ Some found → is_compared found ≡ true
  waits-behind [] found e = waits-here [] found e
  waits-behind (Prefix ∷ opens) found e = waits-behind opens found e
  waits-behind (Chain q count ∷ opens) found e = waits-chain (nat_lt comparison q) (q == comparison) q count opens found (λ k. waits-behind opens found k) (λ k. waits-choice opens found k) e
  waits-behind (Bracket ∷ opens) found e = waits-here (Bracket ∷ opens) found e
  waits-behind (Test ∷ opens) found e = waits-here (Test ∷ opens) found e
  waits-behind (Yes ∷ opens) found e = waits-here (Yes ∷ opens) found e
  waits-behind (No ∷ opens) found e = waits-here (No ∷ opens) found e

  waits-choice : (opens found : List Open) → behind_choice opens ≡ Some found → is_compared found ≡ true
  waits-choice [] found e = absurd cc
  waits-choice (Prefix ∷ opens) found e = waits-choice opens found e
  waits-choice (Chain q count ∷ opens) found e = waits-choice opens found e
  waits-choice (Bracket ∷ opens) found e = absurd cc
  waits-choice (Test ∷ opens) found e = absurd cc
  waits-choice (Yes ∷ opens) found e = absurd cc
  waits-choice (No ∷ opens) found e = waits-behind opens found e

-- a comparison that has a place in the second has one in the first, and the first still allow what the second do
pub record Follows (more found : List Open) : Type 0 where
  pub opens : List Open
  pub goes : behind_comparison more ≡ Some opens
  pub allows : Allows opens found

pub allows-comparison : (more less found : List Open) → Allows more less → behind_comparison less ≡ Some found → Follows more found
allows-comparison more less found a e =
    let p = placed a.over a.covers (is_compared more) (is_compared less) refl refl found e in
    let w = waits-behind less found e in
    record {
      opens = p.opens;
      goes = p.goes;
      allows = record { free = p.over.free; over = p.over.over; covers = λ h. absurd (let z : true ≡ false = sym w ∙ h in cc) };
    }

-- ---- other operators

-- one that binds looser than comparisons lets none wait
loose : (r count : ℕ) (opens : List Open) → r < comparison → is_compared (Chain r count ∷ opens) ≡ false
loose r count opens h =
    ap (λ (b : Bool). if b then is_compared opens else r == comparison) (le-ltb comparison r (omega arith)) ∙ ne_eqb r comparison (λ e. absurd (omega arith))

-- one that binds tighter leaves open what waits
tight : (r count : ℕ) (opens : List Open) → comparison < r → is_compared (Chain r count ∷ opens) ≡ is_compared opens
tight r count opens h = ap (λ (b : Bool). if b then is_compared opens else r == comparison) (lt-ltb comparison r h)

-- behind an operator
record Behind (r : ℕ) (opens found : List Open) : Type 0 where
  outer : outer_of found ≡ outer_of opens
  loosely : r < comparison → is_compared found ≡ false
  tightly : comparison < r → is_compared found ≡ is_compared opens

begins : (r : ℕ) (opens : List Open) → Behind r opens (Chain r 1 ∷ opens)
begins r opens = record { outer = refl; loosely = λ h. loose r 1 opens h; tightly = λ h. tight r 1 opens h }

behind-chain : (b c : Bool) (r q count : ℕ) (opens : List Open) → nat_lt r q ≡ b → (r == q) ≡ c → Behind r opens (behind_operator r opens)
    → Behind r (Chain q count ∷ opens) (if b then behind_operator r opens else (if c then Chain r (count + 1) ∷ opens else Chain r 1 ∷ Chain q count ∷ opens))
behind-chain true c r q count opens e f w = record {
  outer = w.outer;
  loosely = w.loosely;
  tightly = λ h. let k = ltb-true r q e in w.tightly h ∙ sym (tight q count opens (omega arith));
}
behind-chain false true r q count opens e f w = record {
  outer = refl;
  loosely = λ h. loose r (count + 1) opens h;
  tightly = λ h. let k : r ≡ q = eqb-true r q f in tight r (count + 1) opens h ∙ sym (tight q count opens (subst (λ (z : ℕ). comparison < z) k h));
}
behind-chain false false r q count opens e f w = begins r (Chain q count ∷ opens)

behind-operator : (r : ℕ) (opens : List Open) → Behind r opens (behind_operator r opens)
behind-operator r [] = begins r []
behind-operator r (Prefix ∷ opens) = let w = behind-operator r opens in record { outer = w.outer; loosely = w.loosely; tightly = w.tightly }
behind-operator r (Chain q count ∷ opens) = behind-chain (nat_lt r q) (r == q) r q count opens refl refl (behind-operator r opens)
behind-operator r (Bracket ∷ opens) = begins r (Bracket ∷ opens)
behind-operator r (Test ∷ opens) = begins r (Test ∷ opens)
behind-operator r (Yes ∷ opens) = begins r (Yes ∷ opens)
behind-operator r (No ∷ opens) = begins r (No ∷ opens)

-- behind an operator that binds tighter than comparisons
pub allows-tight : (r : ℕ) (more less : List Open) → comparison < r → Allows more less → Allows (behind_operator r more) less
allows-tight r more less h a =
    let w = behind-operator r more in
    record { free = a.free; over = over-alike a.over (behind_operator r more) less w.outer refl (w.tightly h); covers = a.covers }

-- behind one that binds looser, whatever waited before it
pub allows-loose : (r : ℕ) (more less : List Open) → r < comparison → Over more less → Allows (behind_operator r more) less
allows-loose r more less h o =
    let w = behind-operator r more in
    record { free = true; over = over-freed o.over (behind_operator r more) less w.outer refl (w.loosely h); covers = λ k. refl }

-- behind one before its operand
pub allows-prefix : (more less : List Open) → Allows more less → Allows (Prefix ∷ more) less
allows-prefix more less a = record { free = a.free; over = over-alike a.over (Prefix ∷ more) less refl refl refl; covers = a.covers }

-- ---- brackets and choices

-- one more of both
pub allows-one : (o : Open) (more less : List Open) → outer_of (o ∷ more) ≡ o ∷ more → outer_of (o ∷ less) ≡ o ∷ less → is_compared (o ∷ more) ≡ false → Allows more less → Allows (o ∷ more) (o ∷ less)
allows-one o more less x y z a = record {
  free = not (is_compared (o ∷ more));
  over = over_one o (o ∷ more) (o ∷ less) more less a.free x y a.over a.covers;
  covers = λ h. ap not z;
}

-- operators, and what is open outside them
record Apart (opens : List Open) : Type 0 where
  front : List Open
  inner : AreInner front
  parts : opens ≡ front ++ outer_of opens

apart : (opens : List Open) → Apart opens
apart [] = record { front = []; inner = tt; parts = refl }
apart (Prefix ∷ opens) = let w = apart opens in record { front = Prefix ∷ w.front; inner = w.inner; parts = ap (λ (q : List Open). Prefix ∷ q) w.parts }
apart (Chain q count ∷ opens) = let w = apart opens in record { front = Chain q count ∷ w.front; inner = w.inner; parts = ap (λ (z : List Open). Chain q count ∷ z) w.parts }
apart (Bracket ∷ opens) = record { front = []; inner = tt; parts = refl }
apart (Test ∷ opens) = record { front = []; inner = tt; parts = refl }
apart (Yes ∷ opens) = record { front = []; inner = tt; parts = refl }
apart (No ∷ opens) = record { front = []; inner = tt; parts = refl }

-- both within what lies in a bracket
inner-append : (a b : List Open) → AreInner a → AreInner b → AreInner (a ++ b)
inner-append [] b x y = y
inner-append (Prefix ∷ a) b x y = inner-append a b x y
inner-append (No ∷ a) b x y = inner-append a b x y
inner-append (Chain q count ∷ a) b x y = inner-append a b x y
inner-append (Bracket ∷ a) b x y = absurd x
inner-append (Test ∷ a) b x y = absurd x
inner-append (Yes ∷ a) b x y = absurd x

-- what the first have inside the same bracket, and outside it
pub record Within (o : Open) (more under : List Open) : Type 0 where
  pub front : List Open
  pub inner : AreInner front
  pub above : List Open
  pub parts : more ≡ front ++ o ∷ above
  pub allows : Allows above under

pub within : {free : Bool} {more less : List Open} → IsOver free more less → (o : Open) (under : List Open) → outer_of less ≡ o ∷ under → (o ≡ No → ⊥) → Within o more under
within (over_all more less x y) o under e f = absurd cc
within (over_one p more less above inside free x y inner covers) o under e f =
    let z : p ∷ inside ≡ o ∷ under = sym y ∙ e in
    let first : p ≡ o = cc in
    let same : inside ≡ under = cc in
    let w = apart more in
    record {
      front = w.front;
      inner = w.inner;
      above = above;
      parts = w.parts ∙ ap (λ (q : List Open). w.front ++ q) (x ∙ ap (λ (q : Open). q ∷ above) first);
      allows = subst (λ (q : List Open). Allows above q) same (record { free = free; over = inner; covers = covers });
    }
within (over_choice more less above free x inner) o under e f =
    let v = within inner o under e f in
    let w = apart more in
    record {
      front = w.front ++ No ∷ v.front;
      inner = inner-append w.front (No ∷ v.front) w.inner v.inner;
      above = v.above;
      parts = w.parts ∙ ap (λ (q : List Open). w.front ++ q) (x ∙ ap (λ (q : List Open). No ∷ q) v.parts) ∙ sym (append_assoc w.front (No ∷ v.front) (o ∷ v.above));
      allows = v.allows;
    }

or-right : (a b : Bool) → b ≡ true → (a || b) ≡ true
or-right true b e = refl
or-right false b e = e

-- what is open in a choice allows what is allowed outside it
pub allows-choice : {free : Bool} {more less : List Open} → IsOver free more less → (under : List Open) → outer_of less ≡ No ∷ under → Allows more under
allows-choice (over_all more less x y) under e = absurd cc
allows-choice (over_one o more less above inside free x y inner covers) under e =
    let z : o ∷ inside ≡ No ∷ under = sym y ∙ e in
    let first : o ≡ No = cc in
    let same : inside ≡ under = cc in
    subst (λ (q : List Open). Allows more q) same
    (record {
      free = not (is_compared more) || free;
      over = over_choice more inside above free (x ∙ ap (λ (q : Open). q ∷ above) first) inner;
      covers = λ h. or-right (not (is_compared more)) free (covers h);
    })
allows-choice (over_choice more less above free x inner) under e =
    let v = allows-choice inner under e in
    record {
      free = not (is_compared more) || v.free;
      over = over_choice more under above v.free x v.over;
      covers = λ h. or-right (not (is_compared more)) v.free (v.covers h);
    }
