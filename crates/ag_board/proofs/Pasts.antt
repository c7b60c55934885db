-- How a history's entries go on.
use Rattle.std.proofs.Common.{◌≡◌, ◌+◌, ◌-◌, ◌<◌, ◌∙◌, ◌++◌, ◌∷◌, [], ℕ, zero, suc, List, length, map, Option, Some, None, refl, sym, ap, arith, subst, length-append, append_assoc}
use Rattle.std.proofs.lemmas.List.{map-append, append-nil}
use Rattle.std.specs.Prelude.{slice_get, option_and_then, IsSome}
use Rattle.std.specs.Option.{option_map_or}
use Rattle.ag_stream.specs.declared.problem.ProblemDraft.{ProblemDraft}
use Rattle.ag_board.specs.declared.note.Note.{Note}
use Rattle.ag_board.specs.Entries.{PlainCall, PlainEntry}
use Rattle.ag_board.specs.Notes.{plain_note, plain_from, plain_notes, noted_call, IsPlaced, ArePlaced, IsNoted, list_of, verdict_posted, listed_in, posted_in, problem_in}

pub plain_from-snoc : (before : List PlainEntry) (ns : List Note) (n : Note)
    → plain_from before (ns ++ n ∷ []) ≡ plain_from before ns ++ plain_note (plain_from before ns) n ∷ []
plain_from-snoc before [] n = refl
plain_from-snoc before (x ∷ xs) n = plain_from-snoc (before ++ plain_note before x ∷ []) xs n

pub length-plain_from : (before : List PlainEntry) (ns : List Note) → length (plain_from before ns) ≡ length before + length ns
length-plain_from before [] = omega arith
length-plain_from before (x ∷ xs) =
    let h = length-plain_from (before ++ plain_note before x ∷ []) xs in
    let l = length-append before (plain_note before x ∷ []) in
    omega (arith, h, l)

pub length-plain_notes : (ns : List Note) → length (plain_notes ns) ≡ length ns
length-plain_notes ns = let h = length-plain_from [] ns in omega (arith, h)

pub placed-snoc : (before : List PlainEntry) (ns : List Note) (n : Note) → ArePlaced before ns → IsPlaced (plain_from before ns) n.noted → ArePlaced before (ns ++ n ∷ [])
placed-snoc before [] n p q = (q, tt)
placed-snoc before (x ∷ xs) n p q = (p.0, placed-snoc (before ++ plain_note before x ∷ []) xs n p.1 q)

-- one note more on a promised place
pub noted-snoc : (ns : List Note) (n : Note) (spare capacity : ℕ) → IsNoted ns (suc spare) capacity → IsPlaced (plain_notes ns) n.noted → IsNoted (ns ++ n ∷ []) spare capacity
noted-snoc ns n spare capacity k q =
    let l = length-append ns (n ∷ []) in
    record {
      placed = placed-snoc [] ns n k.placed q;
      room = omega (arith, l, k.room);
      few = omega (arith, l, k.few);
    }

-- the calls of entries are those of the notes
pub calls_from : (before : List PlainEntry) (ns : List Note) → map {B = PlainCall} (λ e. e.call) (plain_from before ns) ≡ map {B = PlainCall} (λ e. e.call) before ++ map {B = PlainCall} (λ n. noted_call n.noted) ns
calls_from before [] = sym (append-nil (map {B = PlainCall} (λ e. e.call) before))
calls_from before (x ∷ xs) = calls_from (before ++ plain_note before x ∷ []) xs ∙ simp (map-append, append_assoc)

listed_of : (es : List PlainEntry) (n : ℕ) → listed_in es n ≡ option_map_or list_of (slice_get (map {B = PlainCall} (λ e. e.call) es) n) []
listed_of [] n = refl
listed_of (e ∷ es) zero = refl
listed_of (e ∷ es) (suc n) = listed_of es n

posted_of : (es : List PlainEntry) (n : ℕ) → posted_in es n ≡ option_and_then verdict_posted (slice_get (map {B = PlainCall} (λ e. e.call) es) n)
posted_of [] n = refl
posted_of (e ∷ es) zero = refl
posted_of (e ∷ es) (suc n) = posted_of es n

noted_list : (ns : List Note) (n : ℕ) → option_map_or list_of (slice_get (map {B = PlainCall} (λ x. noted_call x.noted) ns) n) [] ≡ option_map_or (λ x. list_of (noted_call x.noted)) (slice_get ns n) []
noted_list [] n = refl
noted_list (x ∷ xs) zero = refl
noted_list (x ∷ xs) (suc n) = noted_list xs n

noted_verdict : (ns : List Note) (n : ℕ) → option_and_then verdict_posted (slice_get (map {B = PlainCall} (λ x. noted_call x.noted) ns) n) ≡ option_and_then (λ x. verdict_posted (noted_call x.noted)) (slice_get ns n)
noted_verdict [] n = refl
noted_verdict (x ∷ xs) zero = refl
noted_verdict (x ∷ xs) (suc n) = noted_verdict xs n

-- the list of an entry is the one of its note
pub listed-notes : (ns : List Note) (n : ℕ) → listed_in (plain_notes ns) n ≡ option_map_or (λ x. list_of (noted_call x.noted)) (slice_get ns n) []
listed-notes ns n = listed_of (plain_notes ns) n ∙ (ap (λ (cs : List PlainCall). option_map_or list_of (slice_get cs n) []) (calls_from [] ns) ∙ noted_list ns n)

-- the verdict of an entry is the one of its note
pub posted-notes : (ns : List Note) (n : ℕ) → posted_in (plain_notes ns) n ≡ option_and_then (λ x. verdict_posted (noted_call x.noted)) (slice_get ns n)
posted-notes ns n = posted_of (plain_notes ns) n ∙ (ap (λ (cs : List PlainCall). option_and_then verdict_posted (slice_get cs n)) (calls_from [] ns) ∙ noted_verdict ns n)

-- the same, as a push leaves it
pub noted-push : (ns new : List Note) (n : Note) (spare room capacity : ℕ) → IsNoted ns spare room → 0 < spare → IsPlaced (plain_notes ns) n.noted
    → new ≡ ns ++ n ∷ [] → capacity ≡ room → IsNoted new (spare - 1) capacity
noted-push ns new n spare room capacity k some q e f =
    let l = length-append ns (n ∷ []) in
    let P : List Note → Type 0 = λ xs. ArePlaced [] xs in
    let m = ap length e in
    record {
      placed = subst P (sym e) (placed-snoc [] ns n k.placed q);
      room = omega (arith, l, m, f, k.room);
      few = omega (arith, l, m, k.few);
    }

-- work whose problem was published is placed
pub placed-work : (es before : List PlainEntry) (list place : ℕ) (p : ProblemDraft) → problem_in es list place ≡ Some p → es ≡ before → IsSome (problem_in before list place)
placed-work es before list place p h e =
    let P : Option ProblemDraft → Type 0 = λ o. IsSome o in
    subst P (sym h ∙ ap (λ (x : List PlainEntry). problem_in x list place) e) refl

pub list_found : (es : List PlainEntry) (ns : List Note) (n : ℕ) (x : Note) → es ≡ plain_notes ns → slice_get ns n ≡ Some x → listed_in es n ≡ list_of (noted_call x.noted)
list_found es ns n x e h =
    ap (λ (z : List PlainEntry). listed_in z n) e ∙ (listed-notes ns n ∙ ap (λ (o : Option Note). option_map_or (λ (y : Note). list_of (noted_call y.noted)) o []) h)

pub list_none : (es : List PlainEntry) (ns : List Note) (n : ℕ) → es ≡ plain_notes ns → slice_get ns n ≡ None → listed_in es n ≡ []
list_none es ns n e h =
    ap (λ (z : List PlainEntry). listed_in z n) e ∙ (listed-notes ns n ∙ ap (λ (o : Option Note). option_map_or (λ (y : Note). list_of (noted_call y.noted)) o []) h)

pub verdict_found : (es : List PlainEntry) (ns : List Note) (n : ℕ) (x : Note) → es ≡ plain_notes ns → slice_get ns n ≡ Some x → posted_in es n ≡ verdict_posted (noted_call x.noted)
verdict_found es ns n x e h =
    ap (λ (z : List PlainEntry). posted_in z n) e ∙ (posted-notes ns n ∙ ap (λ (o : Option Note). option_and_then (λ (y : Note). verdict_posted (noted_call y.noted)) o) h)

pub verdict_none : (es : List PlainEntry) (ns : List Note) (n : ℕ) → es ≡ plain_notes ns → slice_get ns n ≡ None → posted_in es n ≡ None
verdict_none es ns n e h =
    ap (λ (z : List PlainEntry). posted_in z n) e ∙ (posted-notes ns n ∙ ap (λ (o : Option Note). option_and_then (λ (y : Note). verdict_posted (noted_call y.noted)) o) h)
