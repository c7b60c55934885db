use Rattle.std.proofs.Common.{◌≡◌, ◌==◌, ◌∙◌, ℕ, true, sym, subst}
use Rattle.std.specs.List.{list_any}
use Rattle.ag_base.specs.Memory.{Shelf, fails_next}
use Rattle.ag_base.proofs.memory.MemFolderFolder.read.Goals as goal

-- a call that isn't numbered answers no fault of its own
pub returns-clause-exactly : goal.returns-clause-exactly
returns-clause-exactly c = (
  λ h. absurd (c.file_of.ensures.not_failed h),
  λ h.
      let numbered : Shelf → Type 0 = λ s. fails_next s.failing s.calls ≡ true in
      let asked : ℕ → Type 0 = λ k. c.is_failing.result ≡ list_any (λ n. n == k) c.self.inside.failing in
      let here = subst numbered (sym c.self.view_is) h in
      let there = subst asked c.saturating_add-self-inside.ensures c.is_failing.ensures in
      let no = c.if-is_failing.false in
      absurd (cc (sym no ∙ there ∙ here)),
)
