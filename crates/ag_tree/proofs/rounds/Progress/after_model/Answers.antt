use Rattle.ag_tree.proofs.Solving.{met_from}
use Rattle.ag_tree.proofs.Going.{going_asked}
use Rattle.ag_tree.proofs.rounds.Progress.after_model.Goals as goal

pub choose-requires-clause-going : goal.choose-requires-clause-going
choose-requires-clause-going c = going_asked c.args.self.now c.args.self.now.asked c.found.new.self c.requires.going

pub returns-in_ok-flags-in-None : goal.returns-in_ok-flags-in-None
returns-in_ok-flags-in-None c = record {
  ends = λ leaves work few.
      met_from c.args.self.now c.args.whole c.in_ok-flags-in-None.flags c.requires.going c.in-None.ensures c.requires.rows c.in_ok-flags-in-None.ensures.count c.in_ok-flags-in-None.ensures.truths;
}
