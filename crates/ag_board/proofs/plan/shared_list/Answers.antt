use Rattle.std.proofs.Common.{◌∙◌, ◌++◌, List, get_or, ap, arith}
use Rattle.ag_verdict.specs.declared.key.Key.{Key}
use Rattle.ag_board.specs.Entries.{plain_list}
use Rattle.ag_board.specs.Inside.{problems_in}
use Rattle.ag_board.proofs.Plans.{Handle, listed-within, shared-more}
use Rattle.ag_board.proofs.plan.shared_list.Goals as goal

pub shared_problem-requires : goal.shared_problem-requires
shared_problem-requires c =
    listed-within c.args.table.now.entries c.args.fresh.now.entries c.args.numbers.now c.args.list.now c.loop-place.place c.index-as_slice-place.result c.requires.numbers
    (omega (arith, c.loop-place-test.true, c.len-place-end.ensures))

pub loop-place-preserved : goal.loop-place-preserved
loop-place-preserved c =
    ap plain_list c.in_ok-push.ensures.ok
    ∙ shared-more (problems_in c.args.table.now.entries ++ problems_in c.args.fresh.now.entries) c.args.numbers.now c.args.list.now c.loop-place.shared c.loop-place.place
    c.index-as_slice-place.result (c.in_ok-share.field-0, c.in_ok-problem.problem) c.requires.numbers
    (omega (arith, c.loop-place-test.true, c.len-place-end.ensures)) c.loop-place.invariant (c.in_ok-share.ensures ∙ (ap (λ (k : Key × Handle). k.0) c.index-as_slice-place.is ∙ ap (λ (xs : List (Key × Handle)). (get_or xs c.loop-place.place c.index-as_slice-place.result).0) c.as_slice.ensures)) c.in_ok-problem.ensures
