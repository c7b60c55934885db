use Rattle.std.proofs.Common.{ap, map, ◌∙◌}
use Rattle.ag_types.specs.Places.{first_broken}
use Rattle.ag_types.proofs.TwiceNames.{agree_permuted, twice_agree}
use Rattle.ag_types.proofs.twice.first_twice.Goals as goal

pub returns : goal.returns
returns c = c.first_among.ensures ∙ ap first_broken (twice_agree _ _ (agree_permuted _ _ c.in_ok-earliest.ensures) (map (λ n. n.now) c.args.others.now))
