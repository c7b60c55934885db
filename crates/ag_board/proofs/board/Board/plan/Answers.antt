use Rattle.std.proofs.Common.{◌≡◌, ◌∙◌, ◌+◌, List, Some, None, sym, ap, subst, arith}
use Rattle.ag_board.specs.declared.slot.Out.{Out}
use Rattle.ag_board.specs.declared.entry.PublishFault.TheVariants as faults
use Rattle.ag_board.specs.Entries.{plain_list}
use Rattle.ag_board.specs.Machine.{start, state_after}
use Rattle.ag_board.specs.Store.{BoardState, refusal_of}
use Rattle.ag_board.specs.Planned.{IsPlanOf, IsPlan}
use Rattle.ag_board.proofs.Histories.{kept_of}
use Rattle.ag_board.proofs.Planning.{plan-is, parts-planned, fits, fits-not, tested, refused-store, refused-history, accepted, length-plain}
use Rattle.ag_board.proofs.board.Board.plan.Goals as goal

pub returns-then-plan-self-clause-refused : goal.returns-then-plan-self-clause-refused
returns-then-plan-self-clause-refused c =
    let i = c.self.invariant in
    let es = c.self.inside.history.entries in
    let s = state_after start es in
    let list = plain_list c.args.list.now in
    let a = parts-planned s es c.self.inside.table.entries c.self.inside.revisions c.self.inside.pairs c.self.inside.parts list c.in_ok-plan.plan i.2 i.3 c.in_ok-plan.ensures.numbered c.in_ok-plan.ensures.parts in
    let t = tested es c.self.inside.history.spare c.self.inside.claims c.self.inside.revisions c.self.inside.pairs c.self.inside.parts c.self.inside.is_closed c.self.inside.is_stopped i.1 i.2 c.if-self.false c.if-self-2.false c.if-self-ge-MOST_REVISIONS.false in
    let R : BoardState → Type 0 = λ k. refusal_of k list ≡ Some faults.StoreFull in
    λ n. subst R c.self.view_is
    (refused-store (kept_of es c.self.inside.history.spare) list t
    (fits-not s list c.self.inside.parts c.in_ok-plan.plan.parts a (omega (arith, c.if-plan-self.true, i.2.few_parts))))

pub returns-then-is_full-clause-refused : goal.returns-then-is_full-clause-refused
returns-then-is_full-clause-refused c =
    let i = c.self.invariant in
    let es = c.self.inside.history.entries in
    let s = state_after start es in
    let list = plain_list c.args.list.now in
    let a = parts-planned s es c.self.inside.table.entries c.self.inside.revisions c.self.inside.pairs c.self.inside.parts list c.in_ok-plan.plan i.2 i.3 c.in_ok-plan.ensures.numbered c.in_ok-plan.ensures.parts in
    let t = tested es c.self.inside.history.spare c.self.inside.claims c.self.inside.revisions c.self.inside.pairs c.self.inside.parts c.self.inside.is_closed c.self.inside.is_stopped i.1 i.2 c.if-self.false c.if-self-2.false c.if-self-ge-MOST_REVISIONS.false in
    let n = length-plain c.args.list.now in
    let R : BoardState → Type 0 = λ k. refusal_of k list ≡ Some faults.HistoryFull in
    λ m. subst R c.self.view_is
    (refused-history (kept_of es c.self.inside.history.spare) list t
    (fits s list c.self.inside.pairs c.self.inside.parts c.in_ok-plan.plan.parts i.2.all_pairs a
    (omega (arith, n, c.len.ensures, c.if-self-len-gt-MOST_PAIRS.false)) (omega (arith, c.if-plan-self.false, i.2.few_parts)))
    (sym c.is_full.ensures ∙ c.if-is_full.true))

pub returns-clause-plan : goal.returns-clause-plan
returns-clause-plan c =
    let i = c.self.invariant in
    let s = state_after start c.self.inside.history.entries in
    let P : List Out → Type 0 = λ os. IsPlanOf c.self.inside.table.entries os (plain_list c.args.list.now) (c.self.inside.revisions + 1) c.in_ok-plan.plan in
    let Q : BoardState → Type 0 = λ k. IsPlan k.state (plain_list c.args.list.now) c.in_ok-plan.plan in
    subst Q c.self.view_is
    (plan-is s c.self.inside.history.entries c.self.inside.table.entries c.self.inside.out.items (plain_list c.args.list.now) (c.self.inside.revisions + 1) c.in_ok-plan.plan
    i.3 i.4 (ap (λ k. k + 1) i.2.all_revisions) (subst P c.as_slice.ensures.value c.in_ok-plan.ensures))

pub returns-clause-accepted : goal.returns-clause-accepted
returns-clause-accepted c =
    let i = c.self.invariant in
    let es = c.self.inside.history.entries in
    let s = state_after start es in
    let list = plain_list c.args.list.now in
    let a = parts-planned s es c.self.inside.table.entries c.self.inside.revisions c.self.inside.pairs c.self.inside.parts list c.in_ok-plan.plan i.2 i.3 c.in_ok-plan.ensures.numbered c.in_ok-plan.ensures.parts in
    let t = tested es c.self.inside.history.spare c.self.inside.claims c.self.inside.revisions c.self.inside.pairs c.self.inside.parts c.self.inside.is_closed c.self.inside.is_stopped i.1 i.2 c.if-self.false c.if-self-2.false c.if-self-ge-MOST_REVISIONS.false in
    let n = length-plain c.args.list.now in
    let R : BoardState → Type 0 = λ k. refusal_of k list ≡ None in
    subst R c.self.view_is
    (accepted (kept_of es c.self.inside.history.spare) list t
    (fits s list c.self.inside.pairs c.self.inside.parts c.in_ok-plan.plan.parts i.2.all_pairs a
    (omega (arith, n, c.len.ensures, c.if-self-len-gt-MOST_PAIRS.false)) (omega (arith, c.if-plan-self.false, i.2.few_parts)))
    (sym c.is_full.ensures ∙ c.if-is_full.false))
