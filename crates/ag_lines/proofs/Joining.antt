-- What ends before an operator, and at the end of an expression, is an expression by the lines of the grammar.
use Rattle.std.proofs.Common.{◌≡◌, ◌<◌, ◌≤◌, ◌+◌, inl, inr, ℕ, Bool, true, false, ◌==◌, ◌&&◌, List, [], ◌∷◌, ◌++◌, Some, None, refl, sym, ap, subst, ◌∙◌, append_assoc, arith}
use Rattle.std.proofs.lemmas.Bool.{cases_order, cases_lt, ne_eqb, and_left, and_right}
use Rattle.ag_aadl.specs.declared.marked.Marked.{Marked}
use Rattle.ag_annex.specs.declared.frames.Frame.{Frame}
use Rattle.ag_annex.specs.declared.frames.Frame.TheVariants as frame
use Rattle.ag_annex.specs.declared.nesting.Open.{Open}
use Rattle.ag_annex.specs.declared.nesting.Open.TheVariants.{No, Chain}
use Rattle.ag_terms.specs.declared.terms.Binary.{Binary}
use Rattle.ag_terms.specs.declared.terms.Term.{Term}
use Rattle.ag_terms.specs.declared.terms.Term.TheViews as term
use Rattle.ag_annex.specs.Expressions.{close_before, close_choice, close_all}
use Rattle.ag_lines.specs.Lines.{factor}
use Rattle.ag_lines.specs.Reach.{Tail, NoChoice, Taking, Full, IsFar, IsStated, chosen, tail_of_choice}
use Rattle.ag_annex.specs.Nesting.{behind_operator, behind_comparison, behind_choice}
use Rattle.ag_annex.specs.Operators.{binary_of, rank, comparison, last_right}
use Rattle.ag_lines.proofs.Ranks.{Precedes, Joined, loosen-far, none-waits, right_of, left_of, right_most, right_same, right_below, left_most, left_same, rank_within, loosen, joined, ends-tighter, ends-left, stays-right, stays-looser, goes-on, goes-back, stays, chain-ends, chain-grows, chain-begins, compared-ends, compared-again, compared-begins}
use Rattle.ag_lines.proofs.Levels.{Level, nothing, before_one, behind_else, between, Continues, Stops, Closed, hole, hole-most, not-chained}

-- ---- tokens

-- an operator with its left operand, behind other tokens and before its right operand
regroup : (ms lefts os : List Marked) (m : Marked) → (ms ++ (lefts ++ m ∷ [])) ++ os ≡ ms ++ (lefts ++ m ∷ os)
regroup ms lefts os m = append_assoc ms (lefts ++ m ∷ []) os ∙ ap (λ z. ms ++ z) (append_assoc lefts (m ∷ []) os)

-- the same of a choice, before the operand behind its `else`
pub regroup-choice : (ms tests firsts os : List Marked) (w m n : Marked) → (ms ++ (w ∷ (tests ++ m ∷ (firsts ++ n ∷ [])))) ++ os ≡ ms ++ (w ∷ (tests ++ m ∷ (firsts ++ n ∷ os)))
regroup-choice ms tests firsts os w m n =
    append_assoc ms (w ∷ (tests ++ m ∷ (firsts ++ n ∷ []))) os
    ∙ ap (λ z. ms ++ (w ∷ z)) (append_assoc tests (m ∷ (firsts ++ n ∷ [])) os ∙ ap (λ z. tests ++ m ∷ z) (append_assoc firsts (n ∷ []) os))

-- ---- chains

-- what goes on a chain of a greater rank is open no more behind an operator
continued-operator : (r q : ℕ) (inner opens outer : List Open) → Continues q inner opens → r < q → behind_operator r (inner ++ outer) ≡ behind_operator r (opens ++ outer)
continued-operator r q inner opens outer (inl e) h = ap (λ z. behind_operator r (z ++ outer)) e
continued-operator r q inner opens outer (inr c) h = ap (λ z. behind_operator r (z ++ outer)) c.1 ∙ chain-ends r q c.0 (opens ++ outer) h

-- nor behind a comparison
continued-comparison : (q : ℕ) (inner opens outer : List Open) → Continues q inner opens → comparison < q → behind_comparison (inner ++ outer) ≡ behind_comparison (opens ++ outer)
continued-comparison q inner opens outer (inl e) h = ap (λ z. behind_comparison (z ++ outer)) e
continued-comparison q inner opens outer (inr c) h = ap (λ z. behind_comparison (z ++ outer)) c.1 ∙ compared-ends q c.0 (opens ++ outer) h

-- nor behind a choice that is compared
continued-choice : (q : ℕ) (inner opens outer : List Open) → Continues q inner opens → behind_choice (inner ++ outer) ≡ behind_choice (opens ++ outer)
continued-choice q inner opens outer (inl e) = ap (λ z. behind_choice (z ++ outer)) e
continued-choice q inner opens outer (inr c) = ap (λ z. behind_choice (z ++ outer)) c.1

-- an operator that is no comparison isn't compared again
not-both : (r q : ℕ) → (r ≡ comparison → ⊥) → (r == comparison && q == comparison) ≡ false
not-both r q other = and_left (r == comparison) (q == comparison) (ne_eqb r comparison other)

-- nor is one behind an operator that is no comparison
not-last : (r q : ℕ) → (q ≡ comparison → ⊥) → (r == comparison && q == comparison) ≡ false
not-last r q other = and_right (r == comparison) (q == comparison) (ne_eqb q comparison other)

-- what ends in other words
moved : (bytes : List ℕ) (r : ℕ) (base : List Frame) (outer : List Open) (all : List Marked) (closed found : List Frame × Term) (opened opening : List Open) → closed ≡ found → opened ≡ opening
    → Closed bytes r base outer all found opening → Closed bytes r base outer all closed opened
moved bytes r base outer all closed found opened opening e f c = record {
  level = c.level;
  before = c.before;
  lefts = c.lefts;
  last = c.last;
  inner = c.inner;
  opens = c.opens;
  count = c.count;
  closes = e ∙ c.closes;
  opening = f ∙ c.opening;
  parts = c.parts;
  low = c.low;
  ranked = c.ranked;
  fits = c.fits;
  goes = c.goes;
  stands = c.stands;
}

-- ---- ends

-- what has no choice at its end may stand before any operator
precedes-all : (r : ℕ) (tail : Tail) → tail ≡ NoChoice → Precedes r tail
precedes-all r tail e = (λ h k. let two : NoChoice ≡ Taking = sym e ∙ k in absurd cc, λ h. e)

-- what takes no comparison in may stand before one
precedes-comparison : (tail : Tail) → (tail ≡ Taking → ⊥) → Precedes comparison tail
precedes-comparison tail h = (λ e. h, λ other. absurd (other refl))

-- a choice whose last operand has a comparison that waits takes none in
full-choice : (tail : Tail) (waiting : Bool) → (tail ≡ Taking → ⊥) → waiting ≡ true → tail_of_choice tail waiting ≡ Taking → ⊥
full-choice Taking waiting h e f = h refl
full-choice NoChoice true h e f = absurd cc
full-choice NoChoice false h e f = absurd cc
full-choice Full true h e f = absurd cc
full-choice Full false h e f = absurd cc

module _ (bytes : List ℕ) (base : List Frame) (outer : List Open) (stops : Stops base outer) where
  -- nothing ends
  stay : (r count : ℕ) (level : List Frame) (ms : List Marked) (inner opens : List Open) → Level bytes level ms inner → Continues r inner opens → hole level ≤ r → (all os : List Marked) (t : Term) (closed : List Frame × Term) (opened : List Open)
      → all ≡ ms ++ os → (is : IsStated bytes (left_of r) os t) → Precedes r is.tail → closed ≡ (level ++ base, t) → opened ≡ Chain r count ∷ (opens ++ outer) → Closed bytes r base outer all closed opened
  stay r count level ms inner opens lv goes low all os t closed opened e is p f g = record {
    level = level;
    before = ms;
    lefts = os;
    last = t;
    inner = inner;
    opens = opens;
    count = count;
    closes = f;
    opening = g;
    parts = e;
    low = low;
    ranked = is;
    fits = p;
    goes = goes;
    stands = lv;
  }

  -- before an operator that associates to the left nothing ends behind one of its left operand
  rests : (r : ℕ) → last_right < r → r < factor → {level : List Frame} {ms : List Marked} {opens : List Open} → Level bytes level ms opens → hole level ≤ r → (t : Term) → close_before r (level ++ base) t ≡ (level ++ base, t)
  rests r left within nothing low t = stops.before r t
  rests r left within (before_one op m level ms opens p lv) low t = absurd (omega arith)
  rests r left within (behind_else w m n tests firsts test first level ms opens x y z a b lv) low t = refl
  rests r left within (between op m lefts before count level ms inner opens b l goes k p lv) low t =
      stays op m.token.place before r (level ++ base) t (stays-looser op r (right_below (rank op) r low left))

  -- an operator with its operands
  whole : (op : Binary) (m : Marked) (lefts os : List Marked) (left t : Term) (q : ℕ) → binary_of m.mark ≡ Some op → (l : IsStated bytes (left_of (rank op)) lefts left) → Precedes (rank op) l.tail → q ≤ factor → right_of (rank op) ≤ q → (is : IsStated bytes q os t)
      → Joined bytes op (lefts ++ m ∷ os) (term.Binary op m.token.place left t) is.tail is.waiting
  whole op m lefts os left t q b l p k h is = joined bytes op m lefts os left t b l p (loosen bytes (right_of (rank op)) q os t h k is)

  -- an operator that associates to the left ends before one of its rank
  grows : (r : ℕ) → (r ≡ comparison → ⊥) → r < factor → last_right < r → (op : Binary) (m : Marked) (lefts : List Marked) (left : Term) (count : ℕ) (level : List Frame) (ms : List Marked) (inner opens : List Open)
      → rank op ≡ r → binary_of m.mark ≡ Some op → hole level ≤ rank op → Continues (rank op) inner opens → (l : IsStated bytes (left_of (rank op)) lefts left) → Precedes (rank op) l.tail → Level bytes level ms inner
      → (q : ℕ) (all os : List Marked) (t : Term) → all ≡ (ms ++ (lefts ++ m ∷ [])) ++ os → q ≤ factor → right_of (rank op) ≤ q → (is : IsStated bytes q os t) → is.tail ≡ NoChoice
      → Closed bytes r base outer all (close_before r (frame.Infix op m.token.place left ∷ (level ++ base)) t) (behind_operator r (Chain (rank op) count ∷ (opens ++ outer)))
  grows r other within past op m lefts left count level ms inner opens same b low goes l p lv q all os t e k h is none =
      let down : hole level ≤ r = omega arith in
      let under = whole op m lefts os left t q b l p k h is in
      let ranked : IsFar bytes (left_of r) (lefts ++ m ∷ os) (term.Binary op m.token.place left t) is.tail under.waits =
      subst (λ (n : ℕ). IsFar bytes n (lefts ++ m ∷ os) (term.Binary op m.token.place left t) is.tail under.waits) (same ∙ sym (left_same r other past)) under.far in
      let closes : close_before r (frame.Infix op m.token.place left ∷ (level ++ base)) t ≡ (level ++ base, term.Binary op m.token.place left t) =
      goes-on op m.token.place left r (level ++ base) t (ends-left op r same past) (not-both r (rank op) other)
      ∙ rests r past within lv down (term.Binary op m.token.place left t) in
      let alone : inner ≡ opens = elim goes [ inl f ↦ f | inr f ↦ absurd (not-chained bytes lv (rank op) f.0 opens f.1 low (omega arith)) ] in
      stay r (count + 1) level ms inner opens lv (inl alone) down all (lefts ++ m ∷ os) (term.Binary op m.token.place left t) _ _ (e ∙ regroup ms lefts os m) (record { tail = is.tail; waiting = under.waits; far = ranked })
      (precedes-all r is.tail none) closes (chain-grows r (rank op) count (opens ++ outer) same)

  -- an operator that associates to the right waits on before one of its rank
  waits : (r : ℕ) → r < factor → r ≤ last_right → (op : Binary) (m : Marked) (left : Term) (count : ℕ) (level : List Frame) (ms : List Marked) (opens : List Open)
      → rank op ≡ r → Level bytes (frame.Infix op m.token.place left ∷ level) ms (Chain (rank op) count ∷ opens)
      → (q : ℕ) (all os : List Marked) (t : Term) → all ≡ ms ++ os → q ≤ factor → left_of r ≤ q → (is : IsStated bytes q os t) → Precedes r is.tail
      → Closed bytes r base outer all (close_before r (frame.Infix op m.token.place left ∷ (level ++ base)) t) (behind_operator r (Chain (rank op) count ∷ (opens ++ outer)))
  waits r within past op m left count level ms opens same lv q all os t e k j is p =
      let low : right_of (rank op) ≤ r = let f = right_same (rank op) (omega arith) in omega (arith, f) in
      let chained : Chain (rank op) count ∷ opens ≡ Chain r count ∷ opens = ap (λ n. Chain n count ∷ opens) same in
      stay r (count + 1) (frame.Infix op m.token.place left ∷ level) ms (Chain (rank op) count ∷ opens) opens lv (inr (count, chained)) low all os t _ _ e
      (loosen bytes (left_of r) q os t j k is) p (stays op m.token.place left r (level ++ base) t (stays-right op r same past)) (chain-grows r (rank op) count (opens ++ outer) same)

  -- an operator that binds looser waits on
  looser : (r : ℕ) → (op : Binary) (m : Marked) (left : Term) (count : ℕ) (level : List Frame) (ms : List Marked) (opens : List Open)
      → rank op < r → Level bytes (frame.Infix op m.token.place left ∷ level) ms (Chain (rank op) count ∷ opens)
      → (q : ℕ) (all os : List Marked) (t : Term) → all ≡ ms ++ os → q ≤ factor → left_of r ≤ q → (is : IsStated bytes q os t) → Precedes r is.tail
      → Closed bytes r base outer all (close_before r (frame.Infix op m.token.place left ∷ (level ++ base)) t) (Chain r 1 ∷ Chain (rank op) count ∷ (opens ++ outer))
  looser r op m left count level ms opens less lv q all os t e k j is p =
      let low : right_of (rank op) ≤ r = let f = right_most (rank op) in omega (arith, f) in
      stay r 1 (frame.Infix op m.token.place left ∷ level) ms (Chain (rank op) count ∷ opens) (Chain (rank op) count ∷ opens) lv (inl refl) low all os t _ _ e
      (loosen bytes (left_of r) q os t j k is) p (stays op m.token.place left r (level ++ base) t (stays-looser op r less)) refl

  -- what ends before an operator that isn't a comparison
  pub closing : (r : ℕ) → (r ≡ comparison → ⊥) → r < factor → {level : List Frame} {ms : List Marked} {opens : List Open} → Level bytes level ms opens → (q : ℕ) (all os : List Marked) (t : Term)
      → all ≡ ms ++ os → q ≤ factor → hole level ≤ q → left_of r ≤ q → (is : IsStated bytes q os t) → is.tail ≡ NoChoice → Closed bytes r base outer all (close_before r (level ++ base) t) (behind_operator r (opens ++ outer))
  closing r other within nothing q all os t e k h j is none =
      stay r 1 [] [] [] [] nothing (inl refl) (omega arith) all os t _ _ e (loosen bytes (left_of r) q os t j k is) (precedes-all r is.tail none) (stops.before r t) (stops.operator r)
  closing r other within (before_one op m level ms opens p lv) q all os t e k h j is none =
      closing r other within lv factor all (m ∷ os) (term.Unary op m.token.place t) (e ∙ append_assoc ms (m ∷ []) os) (omega arith) (hole-most level) (omega (arith, left_most r))
      (record { tail = is.tail; waiting = false; far = p os t is.tail is.waiting (loosen-far bytes factor q os t is.tail is.waiting h k is.far) }) none
  closing r other within (behind_else w m n tests firsts test first level ms opens x y z a b lv) q all os t e k h j is none =
      stay r 1 (frame.No w.token.place test first ∷ level) (ms ++ (w ∷ (tests ++ m ∷ (firsts ++ n ∷ [])))) (No ∷ opens) (No ∷ opens) (behind_else w m n tests firsts test first level ms opens x y z a b lv) (inl refl) (omega arith)
      all os t _ _ e (loosen bytes (left_of r) q os t j k is) (precedes-all r is.tail none) refl refl
  closing r other within (between op m lefts left count level ms inner opens b low goes l p lv) q all os t e k h j is none =
      elim (cases_order r (rank op)) [
        | inl same ↦ elim (cases_lt last_right r) [
          | inl past ↦ grows r other within past op m lefts left count level ms inner opens (sym same) b low goes l p lv q all os t e k h is none
          | inr right ↦ waits r within right op m left count level (ms ++ (lefts ++ m ∷ [])) opens (sym same) (between op m lefts left count level ms inner opens b low goes l p lv) q all os t e k j is (precedes-all r is.tail none)
        ]
        | inr order ↦ elim order [
          | inl tight ↦
              let under = whole op m lefts os left t q b l p k h is in
              moved bytes r base outer all _ _ _ _ (goes-on op m.token.place left r (level ++ base) t (ends-tighter op r tight) (not-both r (rank op) other))
              (chain-ends r (rank op) count (opens ++ outer) tight ∙ sym (continued-operator r (rank op) inner opens outer goes tight))
              (closing r other within lv (rank op) all (lefts ++ m ∷ os) (term.Binary op m.token.place left t) (e ∙ regroup ms lefts os m) (omega (arith, rank_within op)) low (omega (arith, left_most r))
              (record { tail = is.tail; waiting = under.waits; far = under.far }) none)
          | inr loose ↦
              moved bytes r base outer all _ _ _ _ refl (chain-begins r (rank op) count (opens ++ outer) loose)
              (looser r op m left count level (ms ++ (lefts ++ m ∷ [])) opens loose (between op m lefts left count level ms inner opens b low goes l p lv) q all os t e k j is (precedes-all r is.tail none))
        ]
      ]

  mutual
    -- what ends before a comparison
    pub comparing : {level : List Frame} {ms : List Marked} {opens : List Open} → Level bytes level ms opens → (q : ℕ) (all os : List Marked) (t : Term)
        → all ≡ ms ++ os → q ≤ factor → hole level ≤ q → comparison < q → (is : IsStated bytes q os t) → (is.tail ≡ Taking → ⊥) → (opened : List Open) → behind_comparison (opens ++ outer) ≡ Some opened
        → Closed bytes comparison base outer all (close_before comparison (level ++ base) t) opened
    comparing nothing q all os t e k h j is full opened f =
        let g : opened ≡ Chain comparison 1 ∷ outer = let two : Some opened ≡ Some (Chain comparison 1 ∷ outer) = sym f ∙ stops.compared in cc in
        stay comparison 1 [] [] [] [] nothing (inl refl) (omega arith) all os t _ _ e (loosen bytes (left_of comparison) q os t j k is) (precedes-comparison is.tail full) (stops.before comparison t) g
    comparing (before_one op m level ms opens p lv) q all os t e k h j is full opened f =
        comparing lv factor all (m ∷ os) (term.Unary op m.token.place t) (e ∙ append_assoc ms (m ∷ []) os) (omega arith) (hole-most level) (omega arith)
        (record { tail = is.tail; waiting = false; far = p os t is.tail is.waiting (loosen-far bytes factor q os t is.tail is.waiting h k is.far) }) full opened f
    comparing (behind_else w m n tests firsts test first level ms opens x y z a b lv) q all os t e k h j is full opened f =
        let g : opened ≡ Chain comparison 1 ∷ No ∷ (opens ++ outer) = cc in
        stay comparison 1 (frame.No w.token.place test first ∷ level) (ms ++ (w ∷ (tests ++ m ∷ (firsts ++ n ∷ [])))) (No ∷ opens) (No ∷ opens) (behind_else w m n tests firsts test first level ms opens x y z a b lv) (inl refl) (omega arith)
        all os t _ _ e (loosen bytes (left_of comparison) q os t j k is) (precedes-comparison is.tail full) refl g
    comparing (between op m lefts left count level ms inner opens b low goes l p lv) q all os t e k h j is full opened f =
        let under = whole op m lefts os left t q b l p k h is in
        elim (cases_order comparison (rank op)) [
          | inl same ↦
              moved bytes comparison base outer all _ _ _ _ (goes-back op m.token.place left (level ++ base) t (ends-left op comparison (sym same) (omega arith)) (sym same)) refl
              (choosing lv (rank op) all (lefts ++ m ∷ os) (term.Binary op m.token.place left t) (e ∙ regroup ms lefts os m) (omega (arith, rank_within op)) low
              (record { tail = is.tail; waiting = under.waits; far = under.far }) full (under.begins (sym same)) opened
              (continued-choice (rank op) inner opens outer goes ∙ sym (compared-again (rank op) count (opens ++ outer) (sym same)) ∙ f))
          | inr order ↦ elim order [
            | inl tight ↦
                moved bytes comparison base outer all _ _ _ _ (goes-on op m.token.place left comparison (level ++ base) t (ends-tighter op comparison tight) (not-last comparison (rank op) (λ n. omega arith))) refl
                (comparing lv (rank op) all (lefts ++ m ∷ os) (term.Binary op m.token.place left t) (e ∙ regroup ms lefts os m) (omega (arith, rank_within op)) low tight (record { tail = is.tail; waiting = under.waits; far = under.far }) full opened
                (continued-comparison (rank op) inner opens outer goes tight ∙ sym (compared-ends (rank op) count (opens ++ outer) tight) ∙ f))
            | inr loose ↦
                let two : Some opened ≡ Some (Chain comparison 1 ∷ Chain (rank op) count ∷ (opens ++ outer)) = sym f ∙ compared-begins (rank op) count (opens ++ outer) loose in
                let g : opened ≡ Chain comparison 1 ∷ Chain (rank op) count ∷ (opens ++ outer) = cc in
                moved bytes comparison base outer all _ _ _ _ refl g
                (looser comparison op m left count level (ms ++ (lefts ++ m ∷ [])) opens loose (between op m lefts left count level ms inner opens b low goes l p lv) q all os t e k j is (precedes-comparison is.tail full))
          ]
        ]

    -- what ends before a second comparison: the operand behind the innermost `else`, and what ends behind that choice
    pub choosing : {level : List Frame} {ms : List Marked} {opens : List Open} → Level bytes level ms opens → (q : ℕ) (all os : List Marked) (t : Term)
        → all ≡ ms ++ os → q ≤ factor → hole level ≤ q → (is : IsStated bytes q os t) → (is.tail ≡ Taking → ⊥) → is.waiting ≡ true → (opened : List Open) → behind_choice (opens ++ outer) ≡ Some opened
        → Closed bytes comparison base outer all (close_choice comparison (level ++ base) t) opened
    choosing nothing q all os t e k h is full waits opened f = let two : None ≡ Some opened = sym stops.choice ∙ f in absurd cc
    choosing (before_one op m level ms opens p lv) q all os t e k h is full waits opened f =
        let none : is.waiting ≡ false = none-waits bytes is.far (omega arith) in
        let two : false ≡ true = sym none ∙ waits in
        absurd cc
    choosing (behind_else w m n tests firsts test first level ms opens x y z a b lv) q all os t e k h is full waits opened f =
        comparing lv factor all (w ∷ (tests ++ m ∷ (firsts ++ n ∷ os))) (term.Choice w.token.place test first t) (e ∙ regroup-choice ms tests firsts os w m n) (omega arith) (hole-most level) (omega arith)
        (record {
          tail = tail_of_choice is.tail is.waiting;
          waiting = false;
          far = chosen w m n tests firsts os test first t a.tail b.tail is.tail a.waiting b.waiting is.waiting x y z a.far b.far (loosen-far bytes 0 q os t is.tail is.waiting (omega arith) k is.far);
        }) (full-choice is.tail is.waiting full waits) opened f
    choosing (between op m lefts left count level ms inner opens b low goes l p lv) q all os t e k h is full waits opened f =
        let under = whole op m lefts os left t q b l p k h is in
        choosing lv (rank op) all (lefts ++ m ∷ os) (term.Binary op m.token.place left t) (e ∙ regroup ms lefts os m) (omega (arith, rank_within op)) low
        (record { tail = is.tail; waiting = under.waits; far = under.far }) full (under.keeps waits) opened
        (continued-choice (rank op) inner opens outer goes ∙ f)

  -- all that ends at the end of an expression
  pub ending : {level : List Frame} {ms : List Marked} {opens : List Open} → Level bytes level ms opens → (q : ℕ) (all os : List Marked) (t : Term) → all ≡ ms ++ os → q ≤ factor → hole level ≤ q → (is : IsStated bytes q os t)
      → (last : Term) × (close_all (level ++ base) t ≡ (base, last)) × IsStated bytes 0 all last
  ending nothing q all os t e k h is = (t, stops.ends t, subst (λ (z : List Marked). IsStated bytes 0 z t) (sym e) (loosen bytes 0 q os t (omega arith) k is))
  ending (before_one op m level ms opens p lv) q all os t e k h is =
      ending lv factor all (m ∷ os) (term.Unary op m.token.place t) (e ∙ append_assoc ms (m ∷ []) os) (omega arith) (hole-most level)
      (record { tail = is.tail; waiting = false; far = p os t is.tail is.waiting (loosen-far bytes factor q os t is.tail is.waiting h k is.far) })
  ending (behind_else w m n tests firsts test first level ms opens x y z a b lv) q all os t e k h is =
      ending lv factor all (w ∷ (tests ++ m ∷ (firsts ++ n ∷ os))) (term.Choice w.token.place test first t) (e ∙ regroup-choice ms tests firsts os w m n) (omega arith) (hole-most level)
      (record {
        tail = tail_of_choice is.tail is.waiting;
        waiting = false;
        far = chosen w m n tests firsts os test first t a.tail b.tail is.tail a.waiting b.waiting is.waiting x y z a.far b.far (loosen-far bytes 0 q os t is.tail is.waiting (omega arith) k is.far);
      })
  ending (between op m lefts left count level ms inner opens b low goes l p lv) q all os t e k h is =
      let under = whole op m lefts os left t q b l p k h is in
      ending lv (rank op) all (lefts ++ m ∷ os) (term.Binary op m.token.place left t) (e ∙ regroup ms lefts os m) (omega (arith, rank_within op)) low (record { tail = is.tail; waiting = under.waits; far = under.far })
