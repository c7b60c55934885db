-- The numbers of a clause's parts are among those of the clause, so they fit where those do.
use Rattle.std.proofs.Common.{◌==◌, ℕ, Bool, true, false, List, [], ◌∷◌, if◌then◌else◌}
use Rattle.ag_aadl.specs.declared.marked.Marked.{Marked}
use Rattle.ag_aadl.specs.Marked.{is_among, up_to, segments}
use Rattle.ag_aadl.specs.Meaning.{begins_with}
use Rattle.ag_annex.specs.Clauses.{after, part_under}
use Rattle.ag_annex.specs.Expressions.{AreNumbersFit}

-- the numbers of each part are at most 2^47
abbrev pub AreFit : List ℕ → List (List Marked) → Type 0
AreFit bytes [] = Unit {0}
AreFit bytes (part ∷ parts) = AreNumbersFit bytes part × AreFit bytes parts

-- both ways of a choice
either : (bytes : List ℕ) (b : Bool) (ms ns : List Marked) → AreNumbersFit bytes ms → AreNumbersFit bytes ns → AreNumbersFit bytes (if b then ms else ns)
either bytes true ms ns h k = h
either bytes false ms ns h k = k

-- both ways of a choice between lists of parts
either-parts : (bytes : List ℕ) (b : Bool) (ms ns : List (List Marked)) → AreFit bytes ms → AreFit bytes ns → AreFit bytes (if b then ms else ns)
either-parts bytes true ms ns h k = h
either-parts bytes false ms ns h k = k

-- the tokens behind a mark
pub fit-after : (bytes : List ℕ) (mark : ℕ) (ms : List Marked) → AreNumbersFit bytes ms → AreNumbersFit bytes (after mark ms)
fit-after bytes mark [] h = tt
fit-after bytes mark (m ∷ ms) h = either bytes (m.mark == mark) ms (after mark ms) h.1 (fit-after bytes mark ms h.1)

-- the tokens up to a mark
pub fit-up_to : (bytes marks : List ℕ) (ms : List Marked) → AreNumbersFit bytes ms → AreNumbersFit bytes (up_to marks ms)
fit-up_to bytes marks [] h = tt
fit-up_to bytes marks (m ∷ ms) h = either bytes (is_among marks m.mark) [] (m ∷ up_to marks ms) tt (h.0, fit-up_to bytes marks ms h.1)

-- the parts that begin with marks
pub fit-segments : (bytes marks : List ℕ) (ms : List Marked) → AreNumbersFit bytes ms → AreFit bytes (segments marks ms)
fit-segments bytes marks [] h = tt
fit-segments bytes marks (m ∷ ms) h =
    let rest = fit-segments bytes marks ms h.1 in
    either-parts bytes (is_among marks m.mark) ((m ∷ up_to marks ms) ∷ segments marks ms) (segments marks ms) ((h.0, fit-up_to bytes marks ms h.1), rest) rest

-- the part under a mark
pub fit-part : (bytes : List ℕ) (mark : ℕ) (parts : List (List Marked)) → AreFit bytes parts → AreNumbersFit bytes (part_under mark parts)
fit-part bytes mark [] h = tt
fit-part bytes mark (part ∷ parts) h = either bytes (begins_with mark part) part (part_under mark parts) h.0 (fit-part bytes mark parts h.1)
