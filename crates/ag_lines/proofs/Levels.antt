-- What waits for an operand since the last bracket, the tokens that it stands for, and what is open there.
use Rattle.std.proofs.Common.{◌≡◌, ◌<◌, ◌≤◌, ◌⊎◌, ℕ, Bool, false, List, [], ◌∷◌, ◌++◌, Some, None, ap, arith}
use Rattle.ag_aadl.specs.declared.marked.Marked.{Marked}
use Rattle.ag_annex.specs.declared.frames.Frame.{Frame}
use Rattle.ag_annex.specs.declared.frames.Frame.TheVariants as frame
use Rattle.ag_annex.specs.declared.nesting.Open.{Open}
use Rattle.ag_annex.specs.declared.nesting.Open.TheVariants.{No, Prefix, Chain}
use Rattle.ag_terms.specs.declared.terms.Binary.{Binary}
use Rattle.ag_terms.specs.declared.terms.Term.{Term}
use Rattle.ag_terms.specs.declared.terms.Term.TheViews as term
use Rattle.ag_terms.specs.declared.terms.Unary.{Unary}
use Rattle.ag_annex.specs.Expressions.{close_before, close_all}
use Rattle.ag_lines.specs.Lines.{factor}
use Rattle.ag_lines.specs.Reach.{Tail, IsFar, IsStated}
use Rattle.ag_annex.specs.Marks.{if_mark, then_mark, else_mark}
use Rattle.ag_annex.specs.Nesting.{behind_operator, behind_comparison, behind_choice}
use Rattle.ag_annex.specs.Operators.{binary_of, rank, comparison, last_right}
use Rattle.ag_lines.proofs.Ranks.{Precedes, right_of, left_of, right_most, right_next, rank_within}

-- the rank that the operand has to have
abbrev pub hole : List Frame → ℕ
hole (frame.Infix op place left ∷ level) = right_of (rank op)
hole (frame.Prefix op place ∷ level) = factor
hole _ = 0

-- these are open, with the chain of this rank or without it
abbrev pub Continues : ℕ → List Open → List Open → Type 0
Continues r inner opens = (inner ≡ opens) ⊎ ((count : ℕ) × (inner ≡ Chain r count ∷ opens))

-- what waits since the last bracket, for which tokens, and what is open there
pub data Level (bytes : List ℕ) : List Frame → List Marked → List Open → Type 0 where
  nothing : Level bytes [] [] []
  before_one : (op : Unary) (m : Marked) (level : List Frame) (ms : List Marked) (opens : List Open) → ((os : List Marked) (t : Term) (tail : Tail) (waiting : Bool) → IsFar bytes factor os t tail waiting → IsFar bytes factor (m ∷ os) (term.Unary op m.token.place t) tail false)
      → Level bytes level ms opens → Level bytes (frame.Prefix op m.token.place ∷ level) (ms ++ m ∷ []) (Prefix ∷ opens)
  behind_else : (w m n : Marked) (tests firsts : List Marked) (test first : Term) (level : List Frame) (ms : List Marked) (opens : List Open) → w.mark ≡ if_mark → m.mark ≡ then_mark → n.mark ≡ else_mark
      → IsStated bytes 0 tests test → IsStated bytes 0 firsts first → Level bytes level ms opens
      → Level bytes (frame.No w.token.place test first ∷ level) (ms ++ (w ∷ (tests ++ m ∷ (firsts ++ n ∷ [])))) (No ∷ opens)
  between : (op : Binary) (m : Marked) (lefts : List Marked) (left : Term) (count : ℕ) (level : List Frame) (ms : List Marked) (inner opens : List Open) → binary_of m.mark ≡ Some op → hole level ≤ rank op
      → Continues (rank op) inner opens → (l : IsStated bytes (left_of (rank op)) lefts left) → Precedes (rank op) l.tail → Level bytes level ms inner
      → Level bytes (frame.Infix op m.token.place left ∷ level) (ms ++ (lefts ++ m ∷ [])) (Chain (rank op) count ∷ opens)

-- nothing before the last bracket ends before its end
pub record Stops (base : List Frame) (outer : List Open) : Type 0 where
  pub before : (r : ℕ) (t : Term) → close_before r base t ≡ (base, t)
  pub ends : (t : Term) → close_all base t ≡ (base, t)
  pub operator : (r : ℕ) → behind_operator r outer ≡ Chain r 1 ∷ outer
  pub compared : behind_comparison outer ≡ Some (Chain comparison 1 ∷ outer)
  pub choice : behind_choice outer ≡ None

-- what waits in a level behind all that ends before an operator of this rank
pub record Closed (bytes : List ℕ) (r : ℕ) (base : List Frame) (outer : List Open) (all : List Marked) (closed : List Frame × Term) (opened : List Open) : Type 0 where
  pub level : List Frame
  pub before : List Marked
  pub lefts : List Marked
  pub last : Term
  pub inner : List Open
  pub opens : List Open
  pub count : ℕ
  pub closes : closed ≡ (level ++ base, last)
  pub opening : opened ≡ Chain r count ∷ (opens ++ outer)
  pub parts : all ≡ before ++ lefts
  pub low : hole level ≤ r
  pub ranked : IsStated bytes (left_of r) lefts last
  pub fits : Precedes r ranked.tail
  pub goes : Continues r inner opens
  pub stands : Level bytes level before inner

-- no operand has to bind tighter than one without operators
pub hole-most : (level : List Frame) → hole level ≤ factor
hole-most (frame.Infix op place left ∷ level) = let h = rank_within op in let k = right_most (rank op) in omega (arith, h, k)
hole-most (frame.Prefix op place ∷ level) = omega arith
hole-most (frame.Group ∷ level) = omega arith
hole-most (frame.Pre place ∷ level) = omega arith
hole-most (frame.Prev place ∷ level) = omega arith
hole-most (frame.Start place arg ∷ level) = omega arith
hole-most (frame.Call path args ∷ level) = omega arith
hole-most (frame.Test place ∷ level) = omega arith
hole-most (frame.Yes place test ∷ level) = omega arith
hole-most (frame.No place test first ∷ level) = omega arith
hole-most [] = omega arith

-- what waits within a chain asks for the rank on the right
hole-of-chain : (bytes : List ℕ) {level : List Frame} {ms : List Marked} {opens : List Open} → Level bytes level ms opens → (r count : ℕ) (rest : List Open) → opens ≡ Chain r count ∷ rest → hole level ≡ right_of r
hole-of-chain bytes nothing r count rest e = absurd cc
hole-of-chain bytes (before_one op m level ms opens p lv) r count rest e = absurd cc
hole-of-chain bytes (behind_else w m n tests firsts test first level ms opens x y z a b lv) r count rest e = absurd cc
hole-of-chain bytes (between op m lefts left c level ms inner opens b low goes l p lv) r count rest e = let f : rank op ≡ r = cc in ap right_of f

-- an operator that associates to the left has no chain of its rank before it
pub not-chained : (bytes : List ℕ) {level : List Frame} {ms : List Marked} {opens : List Open} → Level bytes level ms opens → (r count : ℕ) (rest : List Open) → opens ≡ Chain r count ∷ rest → hole level ≤ r → last_right < r → ⊥
not-chained bytes lv r count rest e low left =
    let f = hole-of-chain bytes lv r count rest e in
    let g = right_next r left in
    absurd (omega (arith, f, g))
