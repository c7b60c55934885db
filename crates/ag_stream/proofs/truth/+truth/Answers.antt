use Rattle.std.proofs.Common.{sym}
use Rattle.ag_stream.proofs.Truths.{said_in, said_flag, said_compare, when_both, when_not_first, when_first, when_second, when_same, when_yes, when_no}
use Rattle.ag_stream.proofs.truth.+truth.Goals as goal

pub returns-in-Truth : goal.returns-in-Truth
returns-in-Truth t c = sym (said_in c.args.draft.now c.requires.form c.args.flags.now c.args.part _ _ c.part_at.ensures c.in-Truth.is)

pub returns-in-Flag : goal.returns-in-Flag
returns-in-Flag t c = sym (said_flag c.args.draft.now c.requires.form c.args.flags.now c.args.part _ _ _ c.part_at.ensures c.in-Flag.is)

pub returns-in-Compare : goal.returns-in-Compare
returns-in-Compare t c = said_compare c.args.draft.now c.requires.form c.args.flags.now c.args.part _ _ c.part_at.ensures c.in-Compare.is

pub returns-in-Not : goal.returns-in-Not
returns-in-Not t c = let e = said_in c.args.draft.now c.requires.form c.args.flags.now c.args.part _ _ c.part_at.ensures c.in-Not.is in cc

pub returns-then-truth : goal.returns-then-truth
returns-then-truth t c = when_both _ _ _ _ _ (said_in c.args.draft.now c.requires.form c.args.flags.now c.args.part _ _ c.part_at.ensures c.in-And.is) c.truth-in-And.ensures c.if-truth.true c.truth-then-truth.ensures

pub returns-else-truth : goal.returns-else-truth
returns-else-truth t c = when_not_first _ _ _ _ (said_in c.args.draft.now c.requires.form c.args.flags.now c.args.part _ _ c.part_at.ensures c.in-And.is) c.truth-in-And.ensures c.if-truth.false

pub returns-then-truth-2 : goal.returns-then-truth-2
returns-then-truth-2 t c = when_first _ _ _ _ (said_in c.args.draft.now c.requires.form c.args.flags.now c.args.part _ _ c.part_at.ensures c.in-Or.is) c.truth-in-Or.ensures c.if-truth-2.true

pub returns-else-truth-2 : goal.returns-else-truth-2
returns-else-truth-2 t c = when_second _ _ _ _ _ (said_in c.args.draft.now c.requires.form c.args.flags.now c.args.part _ _ c.part_at.ensures c.in-Or.is) c.truth-in-Or.ensures c.if-truth-2.false c.truth-else-truth-2.ensures

pub returns-in-Same : goal.returns-in-Same
returns-in-Same t c = when_same _ _ _ _ _ (said_in c.args.draft.now c.requires.form c.args.flags.now c.args.part _ _ c.part_at.ensures c.in-Same.is) c.truth-in-Same.ensures c.truth-in-Same-2.ensures

pub returns-then-truth-3 : goal.returns-then-truth-3
returns-then-truth-3 t c = when_yes _ _ _ _ _ _ (said_in c.args.draft.now c.requires.form c.args.flags.now c.args.part _ _ c.part_at.ensures c.in-Choice.is) c.truth-in-Choice.ensures c.if-truth-3.true c.truth-then-truth-3.ensures

pub returns-else-truth-3 : goal.returns-else-truth-3
returns-else-truth-3 t c = when_no _ _ _ _ _ _ (said_in c.args.draft.now c.requires.form c.args.flags.now c.args.part _ _ c.part_at.ensures c.in-Choice.is) c.truth-in-Choice.ensures c.if-truth-3.false c.truth-else-truth-3.ensures
