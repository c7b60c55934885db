use Rattle.std.proofs.Common.{◌≡◌, ◌∙◌, Some, refl, sym, ap}
use Rattle.std.specs.Prelude.{false}
use Rattle.std.specs.List.{list_any}
use Rattle.ag_board.specs.Machine.{same_problem}
use Rattle.ag_stream.specs.declared.problem.ProblemDraft.{ProblemDraft}
use Rattle.ag_board.specs.Inside.{problems_in}
use Rattle.ag_board.proofs.Plans.{found-at, not-there, position-same, any-at, with-there, grown-rows, grown-number, grown-problems, grown-each}
use Rattle.ag_board.proofs.plan.fresh_number.Goals as goal

pub returns-in-Some-clause-number : goal.returns-in-Some-clause-number
returns-in-Some-clause-number c =
    found-at c.args.problem.now c.args.fresh.now.entries c.in-Some.number (position-same c.args.problem.now c.args.fresh.now.entries ∙ (sym c.place_in.ensures.place ∙ c.in-Some.is))

pub returns-in-Some-clause-fresh : goal.returns-in-Some-clause-fresh
returns-in-Some-clause-fresh c =
    let at = found-at c.args.problem.now c.args.fresh.now.entries c.in-Some.number (position-same c.args.problem.now c.args.fresh.now.entries ∙ (sym c.place_in.ensures.place ∙ c.in-Some.is)) in
    with-there (problems_in c.args.fresh.now.entries) c.args.problem.now.value (any-at c.args.problem.now.value (problems_in c.args.fresh.now.entries) c.in-Some.number at)

-- the problem that isn't there goes last
absent : (c : goal.Joined-branch-4) → list_any (same_problem c.args.problem.now.value) (problems_in c.args.fresh.now.entries) ≡ false
absent c = not-there c.args.problem.now c.args.fresh.now.entries (position-same c.args.problem.now c.args.fresh.now.entries ∙ (sym c.place_in.ensures.place ∙ c.in-None.is))

pub returns-in_ok-insert-in-None-clause-number : goal.returns-in_ok-insert-in-None-clause-number
returns-in_ok-insert-in-None-clause-number c =
    let g = grown-rows c.args.fresh.now.entries c.insert.new.self.entries c.in_ok-try_clone-in-None-2.field-0 _ c.args.problem.now.value c.in_ok-insert-in-None.ensures.entries c.in_ok-try_clone-in-None-2.ensures (absent c) in
    grown-number c.args.fresh.now.entries c.insert.new.self.entries c.in_ok-try_clone-in-None-2.field-0 _ c.args.problem.now.value c.len-number.result g c.in_ok-try_clone-in-None-2.ensures c.len-number.ensures.len

pub returns-in_ok-insert-in-None-clause-fresh : goal.returns-in_ok-insert-in-None-clause-fresh
returns-in_ok-insert-in-None-clause-fresh c =
    let g = grown-rows c.args.fresh.now.entries c.insert.new.self.entries c.in_ok-try_clone-in-None-2.field-0 _ c.args.problem.now.value c.in_ok-insert-in-None.ensures.entries c.in_ok-try_clone-in-None-2.ensures (absent c) in
    grown-problems c.args.fresh.now.entries c.insert.new.self.entries c.in_ok-try_clone-in-None-2.field-0 _ c.args.problem.now.value g c.in_ok-try_clone-in-None-2.ensures (absent c)

pub returns-in_ok-insert-in-None-clause-each : goal.returns-in_ok-insert-in-None-clause-each
returns-in_ok-insert-in-None-clause-each c =
    let g = grown-rows c.args.fresh.now.entries c.insert.new.self.entries c.in_ok-try_clone-in-None-2.field-0 _ c.args.problem.now.value c.in_ok-insert-in-None.ensures.entries c.in_ok-try_clone-in-None-2.ensures (absent c) in
    grown-each c.args.fresh.now.entries c.insert.new.self.entries _ g c.requires.each
    (record { verdict = refl; handle = ap (λ (p : ProblemDraft). Some p) (c.in_ok-try_clone-in-None.ensures ∙ sym c.in_ok-try_clone-in-None-2.ensures) })
