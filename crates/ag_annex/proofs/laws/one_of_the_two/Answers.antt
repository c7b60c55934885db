use Rattle.ag_annex.specs.Grammar.{annex}
use Rattle.ag_annex.proofs.Settling.{settled}
use Rattle.ag_annex.proofs.laws.one_of_the_two.Goals as goal

pub returns : goal.returns
returns c = settled (c.one_of_the_two.ensures annex c.annex_is_founded.ensures)
