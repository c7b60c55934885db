-- One row changed: what a claim, a post and a give_back leave in the table.
use Rattle.std.proofs.Common.{◌≡◌, ◌∙◌, ◌∷◌, [], ℕ, zero, suc, List, length, map, Option, Some, None, refl, ap, arith}
use Rattle.std.specs.Prelude.{slice_get}
use Rattle.std.specs.Option.{option_map_or}
use Rattle.indexmap.specs.IndexMap.{set_value_at}
use Rattle.ag_stream.specs.declared.problem.ProblemDraft.{ProblemDraft}
use Rattle.ag_board.specs.declared.slot.Slot.{Slot}
use Rattle.ag_board.specs.declared.slot.Out.{Out}
use Rattle.ag_board.specs.Machine.{Ticket}
use Rattle.ag_board.specs.Inside.{Row, problems_in, problem_at, with_slot, ticket_at}
use Rattle.ag_board.proofs.Verdicts.{Each}

-- the rows, with one of them changed, by the list's own cases
abbrev pub changed : List Row → ℕ → (Slot → Slot) → List Row
changed [] n f = []
changed (r ∷ rs) zero f = (r.0, f r.1) ∷ rs
changed (r ∷ rs) (suc n) f = r ∷ changed rs n f

out-front : (r : Row) (rs : List Row) (g : Row → List Row) (o : Option Row) → option_map_or (λ q. r ∷ g q) o (r ∷ rs) ≡ r ∷ option_map_or g o rs
out-front r rs g None = refl
out-front r rs g (Some q) = refl

pub with-changed : (rows : List Row) (n : ℕ) (f : Slot → Slot) → with_slot rows n f ≡ changed rows n f
with-changed [] n f = refl
with-changed (r ∷ rs) zero f = refl
with-changed (r ∷ rs) (suc n) f = out-front r rs (λ q. set_value_at rs n (f q.1)) (slice_get rs n) ∙ ap (λ (x : List Row). r ∷ x) (with-changed rs n f)

pub problems-changed : (rows : List Row) (n : ℕ) (f : Slot → Slot) → problems_in (changed rows n f) ≡ problems_in rows
problems-changed [] n f = refl
problems-changed (r ∷ rs) zero f = refl
problems-changed (r ∷ rs) (suc n) f = ap (λ (x : List ProblemDraft). r.0.value ∷ x) (problems-changed rs n f)

pub length-changed : (rows : List Row) (n : ℕ) (f : Slot → Slot) → length (changed rows n f) ≡ length rows
length-changed [] n f = refl
length-changed (r ∷ rs) zero f = refl
length-changed (r ∷ rs) (suc n) f = ap suc (length-changed rs n f)

pub problem-changed : (rows : List Row) (n : ℕ) (f : Slot → Slot) (m : ℕ) → problem_at (changed rows n f) m ≡ problem_at rows m
problem-changed [] n f m = refl
problem-changed (r ∷ rs) zero f zero = refl
problem-changed (r ∷ rs) zero f (suc m) = refl
problem-changed (r ∷ rs) (suc n) f zero = refl
problem-changed (r ∷ rs) (suc n) f (suc m) = problem-changed rs n f m

pub at-changed : (rows : List Row) (n : ℕ) (f : Slot → Slot) (r : Row) → slice_get rows n ≡ Some r → slice_get (changed rows n f) n ≡ Some (r.0, f r.1)
at-changed [] n f r h = cc
at-changed (q ∷ rs) zero f r h =
    let same : q ≡ r = cc in
    ap (λ (x : Row). Some (x.0, f x.1)) same
at-changed (q ∷ rs) (suc n) f r h = at-changed rs n f r h

pub other-changed : (rows : List Row) (n : ℕ) (f : Slot → Slot) (m : ℕ) → (n ≡ m → ⊥) → slice_get (changed rows n f) m ≡ slice_get rows m
other-changed [] n f m h = refl
other-changed (r ∷ rs) zero f zero h = absurd (h refl)
other-changed (r ∷ rs) zero f (suc m) h = refl
other-changed (r ∷ rs) (suc n) f zero h = refl
other-changed (r ∷ rs) (suc n) f (suc m) h = other-changed rs n f m (λ e. h (ap suc e))

pub each-changed : (P Q : Row → Type 0) (rows : List Row) (n : ℕ) (f : Slot → Slot) → Each P rows → ((m : ℕ) (r : Row) → (n ≡ m → ⊥) → slice_get rows m ≡ Some r → P r → Q r)
    → ((r : Row) → slice_get rows n ≡ Some r → P r → Q (r.0, f r.1)) → Each Q (changed rows n f)
each-changed P Q [] n f k g h = tt
each-changed P Q (r ∷ rs) zero f k g h = (h r refl k.0, rest rs 0 k.1 (λ m q e p. g (suc m) q (λ x. absurd (omega (arith, x))) e p))
  where
    rest : (qs : List Row) (i : ℕ) → Each P qs → ((m : ℕ) (r : Row) → slice_get qs m ≡ Some r → P r → Q r) → Each Q qs
    rest [] i j l = tt
    rest (q ∷ qs) i j l = (l 0 q refl j.0, rest qs i j.1 (λ m x e p. l (suc m) x e p))
each-changed P Q (r ∷ rs) (suc n) f k g h = (
  g 0 r (λ x. absurd (omega (arith, x))) refl k.0,
  each-changed P Q rs n f k.1 (λ m q d e p. g (suc m) q (λ x. d (omega (arith, x))) e p) (λ q e p. h q e p),
)

-- tickets and lists of problems don't see it

abbrev pub with_problem_of : Out → ProblemDraft → Ticket
with_problem_of o p = record { claim = o.claim; seat = o.seat; revision = o.revision; problem = p; is_live = o.is_live }

pub tickets-changed : (rows : List Row) (n : ℕ) (f : Slot → Slot) (outs : List Out) → map (ticket_at (changed rows n f)) outs ≡ map (ticket_at rows) outs
tickets-changed rows n f [] = refl
tickets-changed rows n f (o ∷ os) =
    ap (λ (p : ProblemDraft). with_problem_of o p ∷ map (ticket_at (changed rows n f)) os) (problem-changed rows n f o.problem) ∙ ap (λ (x : List Ticket). ticket_at rows o ∷ x) (tickets-changed rows n f os)

pub listed-changed : (rows : List Row) (n : ℕ) (f : Slot → Slot) (ns : List ℕ) → map (problem_at (changed rows n f)) ns ≡ map (problem_at rows) ns
listed-changed rows n f [] = refl
listed-changed rows n f (m ∷ ms) =
    ap (λ (p : ProblemDraft). p ∷ map (problem_at (changed rows n f)) ms) (problem-changed rows n f m) ∙ ap (λ (x : List ProblemDraft). problem_at rows m ∷ x) (listed-changed rows n f ms)
