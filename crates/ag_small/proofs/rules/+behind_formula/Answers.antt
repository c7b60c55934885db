use Rattle.std.proofs.Common.{arith}
use Rattle.std.proofs.lemmas.Grind.{common_steps}
use Rattle.ag_small.specs.Nodes.{expression_of}
use Rattle.ag_small.specs.Reading.{left_of}
use Rattle.ag_small.proofs.Tokens.{some_tokens}
use Rattle.ag_small.proofs.rules.+behind_formula.Goals as goal

pub returns-in_err-tokens : goal.returns-in_err-tokens
unfolding left_of
returns-in_err-tokens t c = let some = some_tokens (expression_of c.args.node.now) in grind (arith, common_steps)
