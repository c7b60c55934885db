use Rattle.std.proofs.Common.{rules, arith, subst, sym, List, ◌≡◌, ◌<◌, ◌==◌, length, get_or}
use Rattle.ag_query.specs.declared.clauses.Lit.{Lit}
use Rattle.ag_kernel.specs.declared.marks.Mark.{Mark}
use Rattle.ag_kernel.specs.Marking.{round_of}
use Rattle.ag_kernel.specs.Sets.{has}
use Rattle.ag_kernel.proofs.SetLemmas.{marks_grown}
use Rattle.ag_kernel.proofs.marks.Marked.grow.Goals as goal

pub invariant_of-self-2 : goal.invariant_of-self-2
invariant_of-self-2 c =
    let P : List Mark → Type 0 = λ ms. (l : Lit) (d : Mark) → l.atom < length ms → (round_of (get_or ms l.atom d) l.holds == c.self.inside.round) ≡ has c.self.inside.lits.items l in
    let i = c.self.invariant in
    record {
      tied = subst P (sym c.in_ok-push.ensures.items) (marks_grown c.self.inside.marks.items c.self.inside.round c.self.inside.lits.items i.tied i.some i.there);
      earlier = search rules;
      some = i.some;
      there = λ k d lt. omega (arith, i.there k d lt, c.in_ok-push.ensures.len);
    }
