use Rattle.std.proofs.Common.{◌∙◌, ◌++◌, ◌∷◌, [], ℕ, List, take, sym, ap, subst, arith}
use Rattle.ag_stream.specs.declared.problem.ProblemDraft.{ProblemDraft}
use Rattle.ag_board.specs.Entries.{plain_list}
use Rattle.ag_board.specs.Inside.{problems_in}
use Rattle.ag_board.specs.Planned.{AreNumbered, problems_listed}
use Rattle.ag_board.proofs.Plans.{numbered-more, listed-more}
use Rattle.ag_board.proofs.plan.numbers_of.Goals as goal

pub loop-problem-preserved : goal.loop-problem-preserved
loop-problem-preserved c =
    let xs = c.as_slice-problem-items.result.now in
    let i = c.loop-problem.problem-index in
    let table = problems_in c.args.table.now.entries in
    let P : List ProblemDraft → Type 0 = λ ps. AreNumbered table ps c.number_of.new.fresh.entries c.push.new.self.items in
    let Q : List ℕ → Type 0 = λ ns. AreNumbered table (problems_listed (plain_list (take i xs)) ++ c.loop-problem-item.result.1.value ∷ []) c.number_of.new.fresh.entries ns in
    let more = listed-more xs i c.loop-problem-item.result c.loop-problem-test.true in
    let is = ap (λ k. problems_listed (plain_list (take i xs)) ++ k.1.value ∷ []) c.loop-problem-item.is in
    let n = numbered-more table (problems_listed (plain_list (take i xs))) c.loop-problem.fresh.entries c.number_of.new.fresh.entries c.loop-problem.numbers.items c.loop-problem-item.result.1.value c.in_ok-number.number
    c.loop-problem.invariant.0 c.in_ok-number.ensures.fresh c.in_ok-number.ensures.number c.in_ok-number.ensures.each in
    (subst P (is ∙ sym more) (subst Q (sym c.in_ok-push.ensures.items) n), omega (arith, c.in_ok-number.ensures.few, c.loop-problem.invariant.1))
