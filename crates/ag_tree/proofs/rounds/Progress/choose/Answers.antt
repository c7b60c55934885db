use Rattle.std.proofs.lemmas.Result.{on_ok_weaker}
use Rattle.ag_query.specs.declared.clauses.Lit.{Lit}
use Rattle.ag_tree.proofs.Going.{chosen_going, chosen_ready}
use Rattle.ag_tree.proofs.rounds.Progress.choose.Goals as goal

pub returns-clause-going : goal.returns-clause-going
returns-clause-going c =
    let l : Lit = record { atom = c.args.atom; holds = c.truth-holds.result } in
    on_ok_weaker c.push.result (λ is. chosen_going c.args.self.now c.push.new.self l c.len-self.result c.chosen.new.self c.requires.going c.requires.rest c.requires.lacks is) c.push.ensures.steps

pub returns-clause-ready : goal.returns-clause-ready
returns-clause-ready c =
    let l : Lit = record { atom = c.args.atom; holds = c.truth-holds.result } in
    on_ok_weaker c.push.result (λ is. chosen_ready c.args.self.now c.push.new.self l c.len-self.result c.chosen.new.self c.requires.rest c.len-self.ensures.value is) c.push.ensures.steps
