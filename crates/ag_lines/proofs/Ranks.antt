-- What an operator asks of its operands, and what ends before an operator, by ranks.
use Rattle.std.proofs.Common.{◌≡◌, ◌<◌, ◌≤◌, ◌+◌, ◌-◌, inl, inr, ℕ, zero, suc, Bool, true, false, ◌==◌, ◌&&◌, if◌then◌else◌, List, ◌∷◌, ◌++◌, Some, refl, sym, ap, subst, ◌∙◌, arith}
use Rattle.std.specs.Prelude.{nat_lt}
use Rattle.std.proofs.lemmas.Bool.{cases_eq, cases_lt, lt-ltb, le-ltb, eq-eqb, ne_eqb, or_left, or_right, and_from, and_left, and_right, or_from}
use Rattle.ag_base.specs.declared.place.Place.{Place}
use Rattle.ag_aadl.specs.declared.marked.Marked.{Marked}
use Rattle.ag_annex.specs.declared.frames.Frame.{Frame}
use Rattle.ag_annex.specs.declared.frames.Frame.TheVariants as frame
use Rattle.ag_annex.specs.declared.nesting.Open.{Open}
use Rattle.ag_annex.specs.declared.nesting.Open.TheVariants.{Chain}
use Rattle.ag_terms.specs.declared.terms.Binary.{Binary}
use Rattle.ag_terms.specs.declared.terms.Binary.TheVariants.{Arrow, Implies, Iff, Or, And, Less, AtMost, More, AtLeast, Same, Differs, Plus, Minus, Times, Div, Mod}
use Rattle.ag_terms.specs.declared.terms.Term.{Term}
use Rattle.ag_terms.specs.declared.terms.Term.TheViews as term
use Rattle.ag_annex.specs.Expressions.{ends_before, close_before, close_choice}
use Rattle.ag_lines.specs.Lines.{factor}
use Rattle.ag_lines.specs.Reach.{Tail, NoChoice, Taking, IsFar, IsStated, tighter, leftward, rightward, compared, negative, negated, number, truth, falsity, grouped, previous, started, chosen, named, called}
use Rattle.ag_annex.specs.Nesting.{behind_operator, behind_comparison, behind_choice}
use Rattle.ag_annex.specs.Operators.{binary_of, rank, comparison, last_right}

-- the rank that an operator of this rank asks of its right operand
abbrev pub right_of : ℕ → ℕ
right_of r = if nat_lt last_right r then suc r else r

-- the rank that it asks of its left operand
abbrev pub left_of : ℕ → ℕ
left_of r = if r == comparison then suc r else (if nat_lt last_right r then r else suc r)

-- ---- numbers

-- and at most one rank tighter
pub right_most : (r : ℕ) → right_of r ≤ suc r
right_most r = elim (cases_lt last_right r) [
  | inl h ↦ let e : right_of r ≡ suc r = ap (λ (b : Bool). if b then suc r else r) (lt-ltb last_right r h) in omega (arith, e)
  | inr h ↦ let e : right_of r ≡ r = ap (λ (b : Bool). if b then suc r else r) (le-ltb last_right r h) in omega (arith, e)
]

-- as tightly, where operators associate to the right
pub right_same : (r : ℕ) → r ≤ last_right → right_of r ≡ r
right_same r h = ap (λ (b : Bool). if b then suc r else r) (le-ltb last_right r h)

-- one rank tighter, where they associate to the left
pub right_next : (r : ℕ) → last_right < r → right_of r ≡ suc r
right_next r h = ap (λ (b : Bool). if b then suc r else r) (lt-ltb last_right r h)

-- what binds looser than an operator that associates to the left
pub right_below : (k r : ℕ) → right_of k ≤ r → last_right < r → k < r
right_below k r h left = elim (cases_lt last_right k) [
  | inl g ↦ let e = right_next k g in omega (arith, e)
  | inr g ↦ omega arith
]

-- an operand on the left binds at most one rank tighter than the operator
pub left_most : (r : ℕ) → left_of r ≤ suc r
left_most r = elim (cases_eq r comparison) [
  | inl h ↦ let e : left_of r ≡ suc r = ap (λ (b : Bool). if b then suc r else (if nat_lt last_right r then r else suc r)) (eq-eqb r comparison h) in omega (arith, e)
  | inr h ↦
      let e : left_of r ≡ (if nat_lt last_right r then r else suc r) = ap (λ (b : Bool). if b then suc r else (if nat_lt last_right r then r else suc r)) (ne_eqb r comparison h) in
      elim (cases_lt last_right r) [
        | inl g ↦ let f : left_of r ≡ r = e ∙ ap (λ (b : Bool). if b then r else suc r) (lt-ltb last_right r g) in omega (arith, f)
        | inr g ↦ let f : left_of r ≡ suc r = e ∙ ap (λ (b : Bool). if b then r else suc r) (le-ltb last_right r g) in omega (arith, f)
      ]
]

-- as tightly, where operators associate to the left
pub left_same : (r : ℕ) → (r ≡ comparison → ⊥) → last_right < r → left_of r ≡ r
left_same r other h = ap (λ (b : Bool). if b then suc r else (if nat_lt last_right r then r else suc r)) (ne_eqb r comparison other) ∙ ap (λ (b : Bool). if b then r else suc r) (lt-ltb last_right r h)

-- each operator binds looser than operands do
pub rank_within : (op : Binary) → rank op < factor
rank_within Arrow = omega arith
rank_within Implies = omega arith
rank_within Iff = omega arith
rank_within Or = omega arith
rank_within And = omega arith
rank_within Less = omega arith
rank_within AtMost = omega arith
rank_within More = omega arith
rank_within AtLeast = omega arith
rank_within Same = omega arith
rank_within Differs = omega arith
rank_within Plus = omega arith
rank_within Minus = omega arith
rank_within Times = omega arith
rank_within Div = omega arith
rank_within Mod = omega arith

-- ---- operands

-- where operators bind tighter than comparisons none of these waits
pub none-waits : (bytes : List ℕ) {r : ℕ} {ms : List Marked} {t : Term} {tail : Tail} {waiting : Bool} → IsFar bytes r ms t tail waiting → comparison < r → waiting ≡ false
none-waits bytes (tighter r ms t tail waiting h is) k = none-waits bytes is (omega (arith, k))
none-waits bytes (leftward op m before after left right tail waits waiting b low other l r) k = none-waits bytes r (omega (arith, k))
none-waits bytes (rightward op m before after left right tail waits waiting b low l r) k = absurd (omega (arith, k, low))
none-waits bytes (compared op m before after left right end tail waits waiting b e far l r) k = absurd (omega (arith, k))
none-waits bytes (negative m ms t tail waiting e is) k = refl
none-waits bytes (negated m ms t tail waiting e is) k = refl
none-waits bytes (number m e) k = refl
none-waits bytes (truth m e) k = refl
none-waits bytes (falsity m e) k = refl
none-waits bytes (grouped m n ms t tail waiting x y is) k = refl
none-waits bytes (previous w m n ms t tail waiting x y z is) k = refl
none-waits bytes (started w m c n es is e i end tail waits waiting x y z q l r) k = refl
none-waits bytes (chosen w m n tests firsts others test first other test_tail first_tail tail test_waits first_waits waiting x y z a b c) k = refl
none-waits bytes (named ms path n) k = refl
none-waits bytes (called ms args m n path ts is x y are) k = refl

-- an expression with this end may stand before an operator of this rank
abbrev pub Precedes : ℕ → Tail → Type 0
Precedes r tail = (r ≡ comparison → tail ≡ Taking → ⊥) × ((r ≡ comparison → ⊥) → tail ≡ NoChoice)

-- the same by how many ranks less is asked
loosen-by : (bytes : List ℕ) (count r : ℕ) (ms : List Marked) (t : Term) (tail : Tail) (waiting : Bool) → r + count ≤ factor → IsFar bytes (r + count) ms t tail waiting → IsFar bytes r ms t tail waiting
loosen-by bytes zero r ms t tail waiting h is = let e : r + 0 ≡ r = omega arith in subst (λ (n : ℕ). IsFar bytes n ms t tail waiting) e is
loosen-by bytes (suc count) r ms t tail waiting h is =
    let e : r + suc count ≡ suc r + count = omega arith in
    tighter r ms t tail waiting (omega arith) (loosen-by bytes count (suc r) ms t tail waiting (omega arith) (subst (λ (n : ℕ). IsFar bytes n ms t tail waiting) e is))

-- what binds tightly is an operand where less is asked
pub loosen-far : (bytes : List ℕ) (r q : ℕ) (ms : List Marked) (t : Term) (tail : Tail) (waiting : Bool) → r ≤ q → q ≤ factor → IsFar bytes q ms t tail waiting → IsFar bytes r ms t tail waiting
loosen-far bytes r q ms t tail waiting h k is =
    let e : q ≡ r + (q - r) = omega arith in
    loosen-by bytes (q - r) r ms t tail waiting (omega arith) (subst (λ (n : ℕ). IsFar bytes n ms t tail waiting) e is)

-- the same with its end
abbrev pub loosen : (bytes : List ℕ) (r q : ℕ) (ms : List Marked) (t : Term) → r ≤ q → q ≤ factor → IsStated bytes q ms t → IsStated bytes r ms t
loosen bytes r q ms t h k is = record { tail = is.tail; waiting = is.waiting; far = loosen-far bytes r q ms t is.tail is.waiting h k is.far }

-- an operator with its operands has the end of its right one
pub record Joined (bytes : List ℕ) (op : Binary) (ms : List Marked) (t : Term) (tail : Tail) (waiting : Bool) : Type 0 where
  pub waits : Bool
  pub far : IsFar bytes (rank op) ms t tail waits
  pub keeps : waiting ≡ true → waits ≡ true
  pub begins : rank op ≡ comparison → waits ≡ true

-- operators that associate to the right, to the left, and comparisons
joined-right : (bytes : List ℕ) (op : Binary) (m : Marked) (before after : List Marked) (left right : Term) (l : IsStated bytes (suc (rank op)) before left) (r : IsStated bytes (rank op) after right) → binary_of m.mark ≡ Some op → rank op ≤ last_right
    → l.tail ≡ NoChoice → Joined bytes op (before ++ m ∷ after) (term.Binary op m.token.place left right) r.tail r.waiting
joined-right bytes op m before after left right l r b low e = record {
  waits = r.waiting;
  far = rightward op m before after left right r.tail l.waiting r.waiting b low (subst (λ (z : Tail). IsFar bytes (suc (rank op)) before left z l.waiting) e l.far) r.far;
  keeps = λ h. h;
  begins = λ h. absurd (omega (arith, h, low));
}

joined-left : (bytes : List ℕ) (op : Binary) (m : Marked) (before after : List Marked) (left right : Term) (l : IsStated bytes (rank op) before left) (r : IsStated bytes (suc (rank op)) after right) → binary_of m.mark ≡ Some op → last_right < rank op → (rank op ≡ comparison → ⊥)
    → l.tail ≡ NoChoice → Joined bytes op (before ++ m ∷ after) (term.Binary op m.token.place left right) r.tail r.waiting
joined-left bytes op m before after left right l r b low other e = record {
  waits = r.waiting;
  far = leftward op m before after left right r.tail l.waiting r.waiting b low other (subst (λ (z : Tail). IsFar bytes (rank op) before left z l.waiting) e l.far) r.far;
  keeps = λ h. h;
  begins = λ h. absurd (other h);
}

joined-compared : (bytes : List ℕ) (op : Binary) (m : Marked) (before after : List Marked) (left right : Term) (l : IsStated bytes (suc comparison) before left) (r : IsStated bytes (suc comparison) after right) → binary_of m.mark ≡ Some op → (e : rank op ≡ comparison)
    → (l.tail ≡ Taking → ⊥) → Joined bytes op (before ++ m ∷ after) (term.Binary op m.token.place left right) r.tail r.waiting
joined-compared bytes op m before after left right l r b e h = record {
  waits = true;
  far = subst (λ (n : ℕ). IsFar bytes n (before ++ m ∷ after) (term.Binary op m.token.place left right) r.tail true) (sym e) (compared op m before after left right l.tail r.tail l.waiting r.waiting b e h l.far r.far);
  keeps = λ k. refl;
  begins = λ k. refl;
}

-- an operator between operands that bind as tightly as it asks
pub joined : (bytes : List ℕ) (op : Binary) (m : Marked) (before after : List Marked) (left right : Term) → binary_of m.mark ≡ Some op
    → (l : IsStated bytes (left_of (rank op)) before left) → Precedes (rank op) l.tail → (r : IsStated bytes (right_of (rank op)) after right) → Joined bytes op (before ++ m ∷ after) (term.Binary op m.token.place left right) r.tail r.waiting
joined bytes Arrow m before after left right b l p r = joined-right bytes Arrow m before after left right l r b (omega arith) (p.1 (λ n. omega arith))
joined bytes Implies m before after left right b l p r = joined-right bytes Implies m before after left right l r b (omega arith) (p.1 (λ n. omega arith))
joined bytes Iff m before after left right b l p r = joined-right bytes Iff m before after left right l r b (omega arith) (p.1 (λ n. omega arith))
joined bytes Or m before after left right b l p r = joined-left bytes Or m before after left right l r b (omega arith) (λ n. omega arith) (p.1 (λ n. omega arith))
joined bytes And m before after left right b l p r = joined-left bytes And m before after left right l r b (omega arith) (λ n. omega arith) (p.1 (λ n. omega arith))
joined bytes Less m before after left right b l p r = joined-compared bytes Less m before after left right l r b refl (p.0 refl)
joined bytes AtMost m before after left right b l p r = joined-compared bytes AtMost m before after left right l r b refl (p.0 refl)
joined bytes More m before after left right b l p r = joined-compared bytes More m before after left right l r b refl (p.0 refl)
joined bytes AtLeast m before after left right b l p r = joined-compared bytes AtLeast m before after left right l r b refl (p.0 refl)
joined bytes Same m before after left right b l p r = joined-compared bytes Same m before after left right l r b refl (p.0 refl)
joined bytes Differs m before after left right b l p r = joined-compared bytes Differs m before after left right l r b refl (p.0 refl)
joined bytes Plus m before after left right b l p r = joined-left bytes Plus m before after left right l r b (omega arith) (λ n. omega arith) (p.1 (λ n. omega arith))
joined bytes Minus m before after left right b l p r = joined-left bytes Minus m before after left right l r b (omega arith) (λ n. omega arith) (p.1 (λ n. omega arith))
joined bytes Times m before after left right b l p r = joined-left bytes Times m before after left right l r b (omega arith) (λ n. omega arith) (p.1 (λ n. omega arith))
joined bytes Div m before after left right b l p r = joined-left bytes Div m before after left right l r b (omega arith) (λ n. omega arith) (p.1 (λ n. omega arith))
joined bytes Mod m before after left right b l p r = joined-left bytes Mod m before after left right l r b (omega arith) (λ n. omega arith) (p.1 (λ n. omega arith))

-- ---- what ends before an operator

-- what binds tighter ends before an operator
pub ends-tighter : (op : Binary) (r : ℕ) → r < rank op → ends_before op r ≡ true
ends-tighter op r h = or_left (nat_lt r (rank op)) (rank op == r && nat_lt last_right r) (lt-ltb r (rank op) h)

-- so does what binds as tightly, to the left
pub ends-left : (op : Binary) (r : ℕ) → rank op ≡ r → last_right < r → ends_before op r ≡ true
ends-left op r h left = or_right (nat_lt r (rank op)) (rank op == r && nat_lt last_right r) (and_from (rank op == r) (nat_lt last_right r) (eq-eqb (rank op) r h) (lt-ltb last_right r left))

-- what binds as tightly, to the right, does not
pub stays-right : (op : Binary) (r : ℕ) → rank op ≡ r → r ≤ last_right → ends_before op r ≡ false
stays-right op r h right = or_from (nat_lt r (rank op)) (rank op == r && nat_lt last_right r) (le-ltb r (rank op) (omega arith)) (and_right (rank op == r) (nat_lt last_right r) (le-ltb last_right r right))

-- nor does what binds looser
pub stays-looser : (op : Binary) (r : ℕ) → rank op < r → ends_before op r ≡ false
stays-looser op r h = or_from (nat_lt r (rank op)) (rank op == r && nat_lt last_right r) (le-ltb r (rank op) (omega arith)) (and_left (rank op == r) (nat_lt last_right r) (ne_eqb (rank op) r (λ e. omega arith)))

-- an operator ends, and is the last operand of those before it
pub goes-on : (op : Binary) (place : Place) (left : Term) (r : ℕ) (frames : List Frame) (t : Term) → ends_before op r ≡ true → (r == comparison && rank op == comparison) ≡ false →
    close_before r (frame.Infix op place left ∷ frames) t ≡ close_before r frames (term.Binary op place left t)
goes-on op place left r frames t e f =
    let b = term.Binary op place left t in
    ap (λ (x : Bool). if x then (if r == comparison && rank op == comparison then close_choice r frames b else close_before r frames b) else (frame.Infix op place left ∷ frames, t)) e
    ∙ ap (λ (x : Bool). if x then close_choice r frames b else close_before r frames b) f

-- a comparison ends before another one, as the last operand of the choice before it
pub goes-back : (op : Binary) (place : Place) (left : Term) (frames : List Frame) (t : Term) → ends_before op comparison ≡ true → rank op ≡ comparison →
    close_before comparison (frame.Infix op place left ∷ frames) t ≡ close_choice comparison frames (term.Binary op place left t)
goes-back op place left frames t e f =
    let b = term.Binary op place left t in
    ap (λ (x : Bool). if x then (if rank op == comparison then close_choice comparison frames b else close_before comparison frames b) else (frame.Infix op place left ∷ frames, t)) e
    ∙ ap (λ (x : Bool). if x then close_choice comparison frames b else close_before comparison frames b) (eq-eqb (rank op) comparison f)

-- an operator still waits for its right operand
pub stays : (op : Binary) (place : Place) (left : Term) (r : ℕ) (frames : List Frame) (t : Term) → ends_before op r ≡ false → close_before r (frame.Infix op place left ∷ frames) t ≡ (frame.Infix op place left ∷ frames, t)
stays op place left r frames t e =
    let b = term.Binary op place left t in
    ap (λ (x : Bool). if x then (if r == comparison && rank op == comparison then close_choice r frames b else close_before r frames b) else (frame.Infix op place left ∷ frames, t)) e

-- ---- what is open behind an operator

-- a chain of a greater rank ends before an operator
pub chain-ends : (r q count : ℕ) (opens : List Open) → r < q → behind_operator r (Chain q count ∷ opens) ≡ behind_operator r opens
chain-ends r q count opens h =
    ap (λ (x : Bool). if x then behind_operator r opens else (if r == q then Chain r (count + 1) ∷ opens else Chain r 1 ∷ Chain q count ∷ opens)) (lt-ltb r q h)

-- a chain of its own rank goes on with it
pub chain-grows : (r q count : ℕ) (opens : List Open) → q ≡ r → behind_operator r (Chain q count ∷ opens) ≡ Chain r (count + 1) ∷ opens
chain-grows r q count opens h =
    ap (λ (x : Bool). if x then behind_operator r opens else (if r == q then Chain r (count + 1) ∷ opens else Chain r 1 ∷ Chain q count ∷ opens)) (le-ltb r q (omega arith))
    ∙ ap (λ (x : Bool). if x then Chain r (count + 1) ∷ opens else Chain r 1 ∷ Chain q count ∷ opens) (eq-eqb r q (sym h))

-- behind a chain of a smaller rank it begins one
pub chain-begins : (r q count : ℕ) (opens : List Open) → q < r → behind_operator r (Chain q count ∷ opens) ≡ Chain r 1 ∷ Chain q count ∷ opens
chain-begins r q count opens h =
    ap (λ (x : Bool). if x then behind_operator r opens else (if r == q then Chain r (count + 1) ∷ opens else Chain r 1 ∷ Chain q count ∷ opens)) (le-ltb r q (omega arith))
    ∙ ap (λ (x : Bool). if x then Chain r (count + 1) ∷ opens else Chain r 1 ∷ Chain q count ∷ opens) (ne_eqb r q (λ e. omega arith))

-- a chain of a greater rank ends before a comparison
pub compared-ends : (q count : ℕ) (opens : List Open) → comparison < q → behind_comparison (Chain q count ∷ opens) ≡ behind_comparison opens
compared-ends q count opens h =
    ap (λ (x : Bool). if x then behind_comparison opens else (if q == comparison then behind_choice opens else Some (Chain comparison 1 ∷ Chain q count ∷ opens))) (lt-ltb comparison q h)

-- a second comparison asks for a choice
pub compared-again : (q count : ℕ) (opens : List Open) → q ≡ comparison → behind_comparison (Chain q count ∷ opens) ≡ behind_choice opens
compared-again q count opens h =
    ap (λ (x : Bool). if x then behind_comparison opens else (if q == comparison then behind_choice opens else Some (Chain comparison 1 ∷ Chain q count ∷ opens))) (le-ltb comparison q (omega arith))
    ∙ ap (λ (x : Bool). if x then behind_choice opens else Some (Chain comparison 1 ∷ Chain q count ∷ opens)) (eq-eqb q comparison h)

-- behind a chain of a smaller rank a comparison begins one
pub compared-begins : (q count : ℕ) (opens : List Open) → q < comparison → behind_comparison (Chain q count ∷ opens) ≡ Some (Chain comparison 1 ∷ Chain q count ∷ opens)
compared-begins q count opens h =
    ap (λ (x : Bool). if x then behind_comparison opens else (if q == comparison then behind_choice opens else Some (Chain comparison 1 ∷ Chain q count ∷ opens))) (le-ltb comparison q (omega arith))
    ∙ ap (λ (x : Bool). if x then behind_choice opens else Some (Chain comparison 1 ∷ Chain q count ∷ opens)) (ne_eqb q comparison (λ e. omega arith))
