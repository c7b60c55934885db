use Rattle.std.proofs.Common.{refl, arith}
use Rattle.ag_stream.proofs.Naming.{flag_names, made_of, made_of_two, some_of, finds_one, finds_two, finds_three}
use Rattle.ag_stream.proofs.dependence.+marked.Goals as goal

pub returns-then-marks-stream : goal.returns-then-marks-stream
returns-then-marks-stream t c = (c.if-marks-stream.true, flag_names c.args.draft.now c.args.part _ _ _ c.part_at.ensures c.in-Flag.is)

pub returns-in-Not : goal.returns-in-Not
returns-in-Not t c = finds_one c.args.draft.now c.args.marks.now c.args.part _ _ (made_of _ _ _ _ c.part_at.ensures c.in-Not.is (λ s x. x)) c.marked.ensures

pub returns-in-Some : goal.returns-in-Some
returns-in-Some t c = some_of c.args.draft.now c.args.marks.now c.args.part _ _ _ (made_of _ _ _ _ c.part_at.ensures c.in-Choice.is (λ s x. x)) (0, omega arith, refl) c.in-Some.ensures

pub returns-in-Some-marked : goal.returns-in-Some-marked
returns-in-Some-marked t c = some_of c.args.draft.now c.args.marks.now c.args.part _ _ _ (made_of _ _ _ _ c.part_at.ensures c.in-Choice.is (λ s x. x)) (1, omega arith, refl) c.in-Some-marked.ensures

pub returns-in-None-marked : goal.returns-in-None-marked
returns-in-None-marked t c = finds_three c.args.draft.now c.args.marks.now c.args.part _ _ _ _ (made_of _ _ _ _ c.part_at.ensures c.in-Choice.is (λ s x. x)) c.in-None.ensures c.in-None-marked.ensures c.marked-in-None-marked.ensures

pub returns-in-Some-marked-2 : goal.returns-in-Some-marked-2
returns-in-Some-marked-2 t c = some_of c.args.draft.now c.args.marks.now c.args.part _ _ _ (made_of_two _ _ _ _ _ c.part_at.ensures c.in-And.is) (0, omega arith, refl) c.in-Some-marked-2.ensures

pub returns-in-None-marked-2 : goal.returns-in-None-marked-2
returns-in-None-marked-2 t c = finds_two c.args.draft.now c.args.marks.now c.args.part _ _ _ (made_of_two _ _ _ _ _ c.part_at.ensures c.in-And.is) c.in-None-marked-2.ensures c.marked-in-None-marked-2.ensures
