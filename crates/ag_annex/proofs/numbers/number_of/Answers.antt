use Rattle.ag_annex.proofs.Decimals.{next_within}
use Rattle.ag_annex.proofs.numbers.number_of.Goals as goal

pub with_digit-value-requires : goal.with_digit-value-requires
with_digit-value-requires c = next_within c.loop-digit.value c.loop-digit.digit-index _ c.args.digits.now c.loop-digit.invariant c.loop-digit-test.true c.requires
