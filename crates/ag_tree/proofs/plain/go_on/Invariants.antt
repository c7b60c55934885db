use Rattle.std.proofs.Common.{◌≡◌, ◌≤◌, ◌↔◌, List, length}
use Rattle.ag_query.specs.declared.clauses.Lit.{Lit}
use Rattle.ag_query.specs.declared.query.Query.{Query}
use Rattle.ag_tree.specs.Going.{IsGoing, IsReady, left}
use Rattle.ag_tree.proofs.plain.go_on.Given as goal

abbrev pub invariant-loop-progress : goal.invariant-loop-progress
invariant-loop-progress g l = record {
  going : IsGoing l.progress;
  ready : IsReady l.progress;
  query : l.progress.kernel.query ≡ l.fn.progress.kernel.query;
  few : length l.progress.facts ≤ l.work;
  yeses : g.H.Halt.yeses l.fn.halt ≤ g.H.Halt.yeses l.halt;
  follows : g.H.Halt.follows l.fn.halt l.halt;
  unstopped : g.H.Halt.yeses l.halt ≡ g.H.Halt.yeses l.fn.halt;
  fitting : (query : Query) (lits : List Lit) → g.T.Theory.fits l.fn.theory query lits ↔ g.T.Theory.fits l.theory query lits;
  leaving : g.T.Theory.leaves l.theory ≡ g.T.Theory.leaves l.fn.theory;
  limited : g.T.Theory.limit l.theory ≡ g.T.Theory.limit l.fn.theory;
}

abbrev pub decreases-loop-progress : goal.decreases-loop-progress
decreases-loop-progress g l = left l.work l.progress
