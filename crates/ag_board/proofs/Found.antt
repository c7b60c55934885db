-- The entry that stands at a position, by its note.
use Rattle.std.proofs.Common.{◌≡◌, ◌∙◌, ◌+◌, ◌<◌, ◌++◌, ◌∷◌, [], ℕ, zero, suc, List, length, get_or, Option, Some, None, refl, sym, ap, subst, arith, append_assoc, length-append, append-nil}
use Rattle.std.proofs.lemmas.Bool.{false≢true}
use Rattle.std.specs.Prelude.{slice_get, IsSome, unwrap_or}
use Rattle.std.specs.Option.{option_map}
use Rattle.std.specs.declared.sync.Arc.{Arc}
use Rattle.std.specs.declared.alloc.Global.{Global}
use Rattle.ag_stream.specs.declared.problem.Problem.{Problem}
use Rattle.ag_stream.specs.declared.problem.ProblemDraft.{ProblemDraft}
use Rattle.ag_verdict.specs.declared.key.Key.{Key}
use Rattle.ag_board.specs.declared.entry.Call.{Call}
use Rattle.ag_board.specs.declared.entry.Reply.{Reply}
use Rattle.ag_board.specs.declared.note.Note.{Note}
use Rattle.ag_board.specs.declared.note.Noted.{Noted}
use Rattle.ag_board.specs.declared.note.Noted.TheVariants as noted
use Rattle.ag_board.specs.Entries.{PlainCall, PlainReply, claim, work, PlainEntry, plain_list, plain_call, plain_reply}
use Rattle.ag_board.specs.Notes.{nothing, plain_note, plain_from, plain_notes, noted_call, noted_reply, IsPlaced, ArePlaced, listed_in, problem_in}
use Rattle.ag_board.specs.Store.{entry}
use Rattle.ag_board.proofs.Plans.{slice-last}

-- an entry, and the entries in front of it
pub record IsFound (all : List PlainEntry) (at : ℕ) (x : Note) : Type 0 where
  pub front : List PlainEntry
  pub behind : List PlainEntry
  pub split : all ≡ front ++ behind
  pub there : slice_get all at ≡ Some (plain_note front x)
  pub placed : IsPlaced front x.noted

grows : (before : List PlainEntry) (ns : List Note) → (rest : List PlainEntry) × (plain_from before ns ≡ before ++ rest)
grows before [] = ([], sym (append-nil before))
grows before (x ∷ xs) =
    let g = grows (before ++ plain_note before x ∷ []) xs in
    (plain_note before x ∷ g.0, g.1 ∙ append_assoc before (plain_note before x ∷ []) g.0)

entry-front : (xs ys : List PlainEntry) (n : ℕ) (e : PlainEntry) → slice_get xs n ≡ Some e → slice_get (xs ++ ys) n ≡ Some e
entry-front [] ys n e h = cc
entry-front (x ∷ xs) ys zero e h = h
entry-front (x ∷ xs) ys (suc n) e h = entry-front xs ys n e h

found-from : (before : List PlainEntry) (ns : List Note) (n at : ℕ) (x : Note) → ArePlaced before ns → slice_get ns n ≡ Some x → at ≡ length before + n → IsFound (plain_from before ns) at x
found-from before [] n at x p e l = cc
found-from before (y ∷ ys) zero at x p e l =
    let i : y ≡ x = cc in
    let g = grows (before ++ plain_note before y ∷ []) ys in
    let k : at ≡ length before = omega (arith, l) in
    let P : Note → Type 0 = λ z. IsFound (plain_from before (y ∷ ys)) at z in
    subst P i (record {
      front = before;
      behind = plain_note before y ∷ g.0;
      split = g.1 ∙ append_assoc before (plain_note before y ∷ []) g.0;
      there = ap (λ (z : List PlainEntry). slice_get z at) g.1
          ∙ entry-front (before ++ plain_note before y ∷ []) g.0 at (plain_note before y) (ap (λ (j : ℕ). slice_get (before ++ plain_note before y ∷ []) j) k ∙ slice-last before (plain_note before y));
      placed = p.0;
    })
found-from before (y ∷ ys) (suc n) at x p e l =
    let a = length-append before (plain_note before y ∷ []) in
    found-from (before ++ plain_note before y ∷ []) ys n at x p.1 e (omega (arith, l, a))

pub found : (all : List PlainEntry) (ns : List Note) (n : ℕ) (x : Note) → ArePlaced [] ns → slice_get ns n ≡ Some x → all ≡ plain_notes ns → IsFound all n x
found all ns n x p e a =
    let P : List PlainEntry → Type 0 = λ z. IsFound z n x in
    subst P (sym a) (found-from [] ns n n x p e (omega arith))

problem-front : (xs ys : List PlainEntry) (n place : ℕ) (p : ProblemDraft) → problem_in xs n place ≡ Some p → problem_in (xs ++ ys) n place ≡ Some p
problem-front [] ys n place p e = cc
problem-front (x ∷ xs) ys zero place p e = e
problem-front (x ∷ xs) ys (suc n) place p e = problem-front xs ys n place p e

placed-problem : (o : Option ProblemDraft) → IsSome o → o ≡ Some (unwrap_or o nothing)
placed-problem None h = absurd (false≢true h)
placed-problem (Some p) h = refl

-- the problem of work that is found is in its list
pub work-listed : (all : List PlainEntry) (at : ℕ) (x : Note) (c revision list place : ℕ) (f : IsFound all at x) → x.noted ≡ noted.Work c revision list place
    → problem_in all list place ≡ Some (unwrap_or (problem_in f.front list place) nothing)
work-listed all at x c revision list place f e =
    let P : Noted → Type 0 = λ n. IsPlaced f.front n in
    let p : IsSome (problem_in f.front list place) = subst P e f.placed in
    ap (λ (z : List PlainEntry). problem_in z list place) f.split
    ∙ problem-front f.front f.behind list place (unwrap_or (problem_in f.front list place) nothing) (placed-problem (problem_in f.front list place) p)

plain-at : (xs : List (Key × Arc Problem Global)) (i : ℕ) → option_map (λ (k : Key × ProblemDraft). k.1) (slice_get (plain_list xs) i) ≡ option_map (λ (k : Key × Arc Problem Global). k.1.value) (slice_get xs i)
plain-at [] i = refl
plain-at (x ∷ xs) zero = refl
plain-at (x ∷ xs) (suc i) = plain-at xs i

within : (xs : List (Key × Arc Problem Global)) (i : ℕ) (p : ProblemDraft) → option_map (λ (k : Key × Arc Problem Global). k.1.value) (slice_get xs i) ≡ Some p → i < length xs
within [] i p e = cc
within (x ∷ xs) zero p e = omega arith
within (x ∷ xs) (suc i) p e = let h = within xs i p e in omega (arith, h)

value-at : (xs : List (Key × Arc Problem Global)) (i : ℕ) (d : Key × Arc Problem Global) (p : ProblemDraft) → option_map (λ (k : Key × Arc Problem Global). k.1.value) (slice_get xs i) ≡ Some p → (get_or xs i d).1.value ≡ p
value-at [] i d p e = cc
value-at (x ∷ xs) zero d p e = cc
value-at (x ∷ xs) (suc i) d p e = value-at xs i d p e

listed-value : (all : List PlainEntry) (xs : List (Key × Arc Problem Global)) (list place : ℕ) (p : ProblemDraft) → plain_list xs ≡ listed_in all list → problem_in all list place ≡ Some p
    → option_map (λ (k : Key × Arc Problem Global). k.1.value) (slice_get xs place) ≡ Some p
listed-value all xs list place p e h = sym (plain-at xs place) ∙ (ap (λ (z : List (Key × ProblemDraft)). option_map (λ (k : Key × ProblemDraft). k.1) (slice_get z place)) e ∙ h)

pub work-within : (all : List PlainEntry) (at : ℕ) (x : Note) (c revision list place : ℕ) (xs : List (Key × Arc Problem Global)) → IsFound all at x → x.noted ≡ noted.Work c revision list place
    → plain_list xs ≡ listed_in all list → place < length xs
work-within all at x c revision list place xs f e l =
    within xs place (unwrap_or (problem_in f.front list place) nothing) (listed-value all xs list place (unwrap_or (problem_in f.front list place) nothing) l (work-listed all at x c revision list place f e))

pub work-found : (all : List PlainEntry) (at : ℕ) (x : Note) (c revision list place : ℕ) (xs : List (Key × Arc Problem Global)) (d : Key × Arc Problem Global) (p : ProblemDraft) → IsFound all at x → x.noted ≡ noted.Work c revision list place
    → plain_list xs ≡ listed_in all list → p ≡ (get_or xs place d).1.value → slice_get all at ≡ Some (entry x.seat claim (work c revision p))
work-found all at x c revision list place xs d p f e l v =
    let q = unwrap_or (problem_in f.front list place) nothing in
    let w = value-at xs place d q (listed-value all xs list place q l (work-listed all at x c revision list place f e)) in
    f.there
    ∙ (ap (λ (n : Noted). Some (entry x.seat (noted_call n) (noted_reply f.front n))) e
    ∙ ap (λ (z : ProblemDraft). Some (entry x.seat claim (work c revision z))) (sym (v ∙ w)))

pub whole-found : (all : List PlainEntry) (at : ℕ) (x : Note) (call : Call) (reply : Reply) (c : PlainCall) (r : PlainReply) → IsFound all at x → x.noted ≡ noted.Whole call reply
    → c ≡ plain_call call → r ≡ plain_reply reply → slice_get all at ≡ Some (entry x.seat c r)
whole-found all at x call reply c r f e a b =
    f.there
    ∙ (ap (λ (n : Noted). Some (entry x.seat (noted_call n) (noted_reply f.front n))) e
    ∙ (ap (λ (z : PlainCall). Some (entry x.seat z (plain_reply reply))) (sym a) ∙ ap (λ (z : PlainReply). Some (entry x.seat c z)) (sym b)))
