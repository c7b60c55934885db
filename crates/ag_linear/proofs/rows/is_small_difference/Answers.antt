-- The sum in 128 bits is the exact one.
use Rattle.std.proofs.Common.{◌≡◌, arith, cond}
use Rattle.std.specs.Prelude.{pos, unsigned_abs, ◌+ℤ◌, ◌-ℤ◌}
use Rattle.std.proofs.lemmas.Bool.Decides.{nat_tests}
use Rattle.std.proofs.lemmas.Int.{ints}
use Rattle.ag_linear.proofs.rows.is_small_difference.Goals as goal

pub returns-in-Some-sum : goal.returns-in-Some-sum
returns-in-Some-sum c =
    let exact : unsigned_abs (c.args.a -ℤ c.args.b +ℤ pos (cond c.args.strict 1 0)) ≡ c.unsigned_abs.result = omega (arith, ints, c.in-Some-sum.ensures.1, c.in-Some.ensures.1, c.gap.ensures, c.unsigned_abs.ensures.value) in
    rw exact (grind (arith, nat_tests))
