use Rattle.std.proofs.Common.{◌≡◌, drop}
use Rattle.ag_annex.proofs.Decimals.{decimal_from}
use Rattle.ag_annex.proofs.numbers.number_of.Given as goal

-- the digits that are left go on from the value of those before
abbrev pub invariant-loop-digit : goal.invariant-loop-digit
invariant-loop-digit l = decimal_from l.value (drop l.digit-index l.digits) ≡ decimal_from 0 l.digits
