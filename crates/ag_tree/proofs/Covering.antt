-- Lines that a clause is a part of leave the lists.
use Rattle.std.proofs.Common.{◌≡◌, ◌⊎◌, inl, inr, ℕ, ◌+◌, ◌*◌, ◌<◌, Bool, true, false, not, List, [], ◌∷◌, ◌++◌, length, get_or, refl, sym, subst, ◌∙◌, arith, All, Contains}
use Rattle.std.specs.Bool.{beq}
use Rattle.std.specs.List.{AllWithin}
use Rattle.std.proofs.lemmas.List.{get_or_default}
use Rattle.std.proofs.lemmas.List.Elements.{All-nil, All-cons, All-head, All-tail, All-contains, All-weaker, AllWithin-more, Contains-get_or}
use Rattle.ag_query.specs.declared.clauses.Lit.{Lit}
use Rattle.ag_query.specs.declared.clauses.LClause.{LClause}
use Rattle.ag_query.specs.Meaning.{contrary}
use Rattle.ag_kernel.specs.declared.line.Line.{Line}
use Rattle.ag_kernel.specs.Rules.{line_at}
use Rattle.ag_tree.specs.Facts.{IsAtRest}
use Rattle.ag_tree.specs.Going.{HasPart, HasSlots, IsClauseLine, IsCovered, IsListed}
use Rattle.ag_tree.specs.Listing.{AddsNone, StaysBut, listed, slot}
use Rattle.ag_tree.proofs.Lits.{any_at}
use Rattle.ag_tree.proofs.Listing.{AreUnlisted}
use Rattle.ag_tree.proofs.NewFacts.{all_left}

-- ---- the end of a line

pub same_from : (a b : Bool) → not (beq a b) ≡ false → a ≡ b
same_from true true e = refl
same_from true false e = cc
same_from false true e = cc
same_from false false e = refl

pub end_more : (clause line : List Lit) (i : ℕ) (d m : Lit) → AllWithin (Contains line) clause 0 i → i < length clause → Contains line m → get_or clause i d ≡ m → AllWithin (Contains line) clause 0 (i + 1)
end_more clause line i d m so lt has is =
    AllWithin-more (Contains line) clause 0 i so (λ e. subst (Contains line) (sym is ∙ get_or_default clause i d e lt) has)

-- ---- lines leave the lists

-- lines were taken off the lists, each of which has the clause as a part
pub record UnlistsSo (lines : List Line) (clause : List Lit) (before now : List (List ℕ)) (numbers left : List ℕ) : Type 0 where
  pub slots : length now ≡ length before
  pub kept : StaysBut (HasPart lines clause) before now
  pub only : AddsNone before now
  pub fewer : All (Contains numbers) left

pub unlist_step : (lines : List Line) (clause : List Lit) (before now new : List (List ℕ)) (numbers left rest : List ℕ) (number : ℕ) → UnlistsSo lines clause before now numbers left → left ≡ rest ++ number ∷ [] → AreUnlisted now new number → HasPart lines clause number → UnlistsSo lines clause before new numbers rest
unlist_step lines clause before now new numbers left rest number so is u part = record {
  slots = u.slots ∙ so.slots;
  kept = λ l n h.
      elim (so.kept l n h) [
        | inr p ↦ inr p
        | inl old ↦
            elim (u.kept l n old) [
              | inl k ↦ inl k
              | inr e ↦ inr (subst (HasPart lines clause) (sym e) part)
            ]
      ];
  only = λ l n h. so.only l n (u.only l n h);
  fewer = all_left (Contains numbers) rest (number ∷ []) (subst (λ (ns : List ℕ). All (Contains numbers) ns) is so.fewer);
}

-- ---- what is at rest along a part

pub rest_part : (lits part clause : List Lit) → All (Contains clause) part → IsAtRest lits part → IsAtRest lits clause
rest_part lits part clause within (inl any) = inl (any_at (Contains lits) clause any.1 (All-contains (Contains clause) part any.1 within (any.0, any.2, any.3)) any.4)
rest_part lits part clause within (inr two) = inr record {
  one = two.one;
  other = two.other;
  has_one = All-contains (Contains clause) part two.one within two.has_one;
  has_other = All-contains (Contains clause) part two.other within two.has_other;
  apart = two.apart;
  lacks_one = two.lacks_one;
  lacks_other = two.lacks_other;
}

-- ---- the lists with a new line, and without the lines that it is a part of

pub record IsRelisted (lines : List Line) (before now : List (List ℕ)) (lits : List Lit) (line : ℕ) : Type 0 where
  pub slots : length now ≡ length before
  pub kept : StaysBut (HasPart lines lits) before now
  pub under : All (λ l. Contains (listed now (contrary l)) line) lits
  pub only : (l : Lit) (n : ℕ) → Contains (listed now l) n → Contains (listed before l) n ⊎ (n ≡ line)

all_or : (P : Lit → Type 0) (Q : Type 0) (xs : List Lit) → All (λ x. P x ⊎ Q) xs → All P xs ⊎ Q
all_or P Q [] h = inl (All-nil P)
all_or P Q (x ∷ xs) h =
    let R : Lit → Type 0 = λ y. P y ⊎ Q in
    elim (All-head R x xs h) [
      | inr q ↦ inr q
      | inl p ↦
          elim (all_or P Q xs (All-tail R x xs h)) [
            | inr q ↦ inr q
            | inl ps ↦ inl (All-cons P x xs p ps)
          ]
    ]

-- a clause that is covered still is, by the same part or by the new line
pub covered_still : (lines : List Line) (before now : List (List ℕ)) (earlier clauses : List LClause) (f : LClause) (number : ℕ) (clause : List Lit) → IsRelisted lines before now f.lits number → ((c : LClause) → Contains earlier c → Contains clauses c) → Contains clauses f → IsListed lines now f.lits → IsCovered lines before earlier clause → IsCovered lines now clauses clause
covered_still lines before now earlier clauses f number clause a more has new c =
    let n : ℕ = c.listed.number in
    let P : Lit → Type 0 = λ l. Contains (listed now (contrary l)) n in
    let old : Lit → Type 0 = λ l. Contains (listed before (contrary l)) n in
    let both : Lit → Type 0 = λ l. P l ⊎ HasPart lines f.lits n in
    elim (all_or P (HasPart lines f.lits n) c.part.lits (All-weaker old both (λ l h. a.kept (contrary l) n h) c.part.lits c.listed.under)) [
      | inl under ↦ record { part = c.part; known = more c.part c.known; within = c.within; listed = record { number = n; there = c.listed.there; is_line = c.listed.is_line; under = under } }
      | inr part ↦
          let into : All (Contains c.part.lits) f.lits = subst (λ (xs : List Lit). All (Contains xs) f.lits) c.listed.is_line part in
          record {
            part = f;
            known = has;
            within = All-weaker (Contains c.part.lits) (Contains clause) (λ l h. All-contains (Contains clause) c.part.lits l c.within h) f.lits into;
            listed = new;
          }
    ]

pub covers_self : (lines : List Line) (lists : List (List ℕ)) (clauses : List LClause) (c : LClause) → Contains clauses c → IsListed lines lists c.lits → IsCovered lines lists clauses c.lits
covers_self lines lists clauses c has list = record { part = c; known = has; within = λ k d lt. Contains-get_or c.lits k d lt; listed = list }

-- ---- the lists of a line

slot_at : (atoms slots a : ℕ) (b : Bool) → slots ≡ 2 * atoms → a < atoms → slot (record { atom = a; holds = b }) < slots
slot_at atoms slots a true is lt = omega (arith, is, lt)
slot_at atoms slots a false is lt = omega (arith, is, lt)

-- a line over so many atoms has its lists
pub slots_of : (lines : List Line) (atoms slots n : ℕ) → slots ≡ 2 * atoms → IsClauseLine lines atoms n → HasSlots lines slots n
slots_of lines atoms slots n is c =
    let B : Lit → Type 0 = λ l. l.atom < atoms in
    let S : Lit → Type 0 = λ l. slot (contrary l) < slots in
    record { there = c.there; below = All-weaker B S (λ l h. slot_at atoms slots l.atom (not l.holds) is h) (line_at lines n).lits c.below }
