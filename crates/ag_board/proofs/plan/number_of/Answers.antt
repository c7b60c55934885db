use Rattle.std.proofs.Common.{◌∙◌, ◌+◌, ◌++◌, ℕ, List, sym, ap}
use Rattle.std.specs.Prelude.{slice_get}
use Rattle.ag_stream.specs.declared.problem.ProblemDraft.{ProblemDraft}
use Rattle.ag_board.specs.Inside.{problems_in}
use Rattle.ag_board.proofs.Plans.{found-at, not-there, position-same, any-at, with-there, with-behind, slice-front, slice-behind, length-problems}
use Rattle.ag_board.proofs.plan.number_of.Goals as goal

pub returns-in-Some-clause-number : goal.returns-in-Some-clause-number
returns-in-Some-clause-number c =
    let found = position-same c.args.problem.now c.args.table.now.entries ∙ (sym c.place_in.ensures.place ∙ c.in-Some.is) in
    slice-front (problems_in c.args.table.now.entries) (problems_in c.args.fresh.now.entries) c.in-Some.number c.args.problem.now.value (found-at c.args.problem.now c.args.table.now.entries c.in-Some.number found)

pub returns-in-Some-clause-fresh : goal.returns-in-Some-clause-fresh
returns-in-Some-clause-fresh c =
    let ps = problems_in c.args.table.now.entries ++ problems_in c.args.fresh.now.entries in
    let found = position-same c.args.problem.now c.args.table.now.entries ∙ (sym c.place_in.ensures.place ∙ c.in-Some.is) in
    let at = slice-front (problems_in c.args.table.now.entries) (problems_in c.args.fresh.now.entries) c.in-Some.number c.args.problem.now.value (found-at c.args.problem.now c.args.table.now.entries c.in-Some.number found) in
    with-there ps c.args.problem.now.value (any-at c.args.problem.now.value ps c.in-Some.number at)

pub returns-in_ok-fresh_number-in-None-clause-number : goal.returns-in_ok-fresh_number-in-None-clause-number
returns-in_ok-fresh_number-in-None-clause-number c =
    let ps = problems_in c.args.table.now.entries in
    let qs = problems_in c.fresh_number.new.fresh.entries in
    ap (λ (k : ℕ). slice_get (ps ++ qs) (k + c.in_ok-fresh_number-in-None.field-0)) (c.len.ensures.len ∙ sym (length-problems c.args.table.now.entries))
    ∙ (slice-behind ps qs c.in_ok-fresh_number-in-None.field-0 ∙ c.in_ok-fresh_number-in-None.ensures.number)

pub returns-in_ok-fresh_number-in-None-clause-fresh : goal.returns-in_ok-fresh_number-in-None-clause-fresh
returns-in_ok-fresh_number-in-None-clause-fresh c =
    let ps = problems_in c.args.table.now.entries in
    ap (λ (x : List ProblemDraft). ps ++ x) c.in_ok-fresh_number-in-None.ensures.fresh
    ∙ with-behind ps (problems_in c.args.fresh.now.entries) c.args.problem.now.value (not-there c.args.problem.now c.args.table.now.entries (position-same c.args.problem.now c.args.table.now.entries ∙ (sym c.place_in.ensures.place ∙ c.in-None.is)))
