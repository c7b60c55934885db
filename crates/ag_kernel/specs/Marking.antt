-- What the marks of a list of literals tell.
use Rattle.std.specs.Prelude.{◌≡◌, ℕ, ◌<◌, ◌≤◌, ◌==◌, Bool, cond, length, All, slice_index_or}
use Rattle.ag_query.specs.declared.clauses.Lit.{Lit}
use Rattle.ag_kernel.specs.declared.marks.Mark.{Mark}
use Rattle.ag_kernel.specs.declared.marks.Marked.TheInside.{Inside}
use Rattle.ag_kernel.specs.Marks.{Has}
use Rattle.ag_kernel.specs.Sets.{has}

abbrev pub seen : Inside → Has
seen m = record { atoms = length m.marks.items; lits = m.lits.items }

abbrev pub round_of : Mark → Bool → ℕ
round_of mark holds = cond holds mark.yes mark.no

-- a mark has this round exactly where its literal is in the list
pub record AreMarked (m : Inside) : Type 0 where
  pub tied : (l : Lit) (d : Mark) → l.atom < length m.marks.items → (round_of (slice_index_or m.marks.items l.atom d) l.holds == m.round) ≡ has m.lits.items l
  pub earlier : All (λ mark. (mark.yes ≤ m.round) × (mark.no ≤ m.round)) m.marks.items
  pub some : 0 < m.round
  pub there : All (λ l. l.atom < length m.marks.items) m.lits.items
