use Rattle.std.proofs.Common.{arith, refl}
use Rattle.std.proofs.lemmas.List.{length-set}
use Rattle.std.proofs.lemmas.Result.{IfOk-weaker}
use Rattle.ag_top.proofs.Tries.{kept_once, kept_twice, none_of_both, if_none, is_none_so, below_tail, below_head}
use Rattle.ag_top.proofs.prover.+try_free.Goals as goal

pub try_free-requires : goal.try_free-requires
try_free-requires t c =
    let k = c.in-Some.ensures.cases in
    let small = k.1 in
    let d = c.decreases in
    (omega (arith, small, d), (c.requires.plain, (rw length-set c.requires.fits, below_tail _ _ _ _ k.0 c.requires.below)))

pub try_free-requires-2 : goal.try_free-requires-2
try_free-requires-2 t c =
    let k = c.in-Some.ensures.cases in
    let small = k.1 in
    let d = c.decreases in
    (omega (arith, small, d), (c.requires.plain, (rw (length-set, c.try_free.auto.flags, length-set) c.requires.fits, below_tail _ _ _ _ k.0 c.requires.below)))

pub returns-in_err-run-clause-kept : goal.returns-in_err-run-clause-kept
returns-in_err-run-clause-kept t c = kept_once c.in-Some.stream.now c.in-Some.others.now c.args.free.now c.args.flags.now c.try_free.new.flags _ c.in-Some.ensures.cases.0 c.in_err-run.ensures.kept

pub returns-in-Some-2-clause-kept : goal.returns-in-Some-2-clause-kept
returns-in-Some-2-clause-kept t c = kept_once c.in-Some.stream.now c.in-Some.others.now c.args.free.now c.args.flags.now c.try_free.new.flags _ c.in-Some.ensures.cases.0 c.in_ok-run.ensures.kept

pub returns-clause-kept : goal.returns-clause-kept
returns-clause-kept t c = kept_twice c.in-Some.stream.now c.in-Some.others.now c.args.free.now c.args.flags.now c.try_free.new.flags c.try_free-2.new.flags c.in-Some.ensures.cases.0 c.in_ok-run.ensures.kept c.try_free-2.ensures.kept

pub returns-clause-none : goal.returns-clause-none
returns-clause-none t c =
    let k = c.in-Some.ensures.cases in
    let low = is_none_so c.in_ok-run.field-0 c.in_default-2.is c.in_ok-run.ensures.none in
    let few = below_head _ _ _ _ k.0 c.requires.below in
    let fits = c.requires.fits in
    IfOk-weaker c.try_free-2.result _ _ (λ found h. if_none found (λ high. none_of_both c.args.problem.now c.in-Some.stream.now c.in-Some.others.now c.args.free.now c.args.flags.now c.try_free.new.flags k.0
    (omega (arith, few, fits)) (rw (c.try_free.auto.flags, length-set) refl) c.in_ok-run.ensures.kept low high) h) c.try_free-2.ensures.none
