use Rattle.std.proofs.Common.{◌≡◌, ◌∙◌, ◌+◌, List, None, length, refl, sym, ap, subst, arith, length-append}
use Rattle.indexmap.specs.IndexMap.{insert_all}
use Rattle.ag_board.specs.Entries.{plain_list, publish, published, Past}
use Rattle.ag_board.specs.Machine.{start, state_after}
use Rattle.ag_board.specs.Store.{BoardState, refusal_of, entry, Enters}
use Rattle.ag_board.specs.Inside.{Row}
use Rattle.ag_board.specs.Planned.{IsPlan, rows_retired}
use Rattle.ag_board.proofs.Plans.{same_handle}
use Rattle.ag_board.proofs.Publishing.{accepted-means, kept, on-ok, appended, put-after, stands-same, stands-entered, length-planned, parts-entered, enters-published}
use Rattle.ag_board.proofs.board.Board.enter_list.Goals as goal

pub retire-requires-clause-numbered : goal.retire-requires-clause-numbered
retire-requires-clause-numbered c =
    let h = c.self.inside.history in
    let s = state_after start h.entries in
    let rows = c.self.inside.table.entries in
    let outs = c.self.inside.out.items in
    let list = plain_list c.args.plan.shared in
    let i = c.self.invariant in
    let Q : BoardState → Type 0 = λ k. IsPlan k.state list c.args.plan in
    let plan = subst Q (sym c.self.view_is) c.requires.planned in
    let new = appended s h.entries rows c.reserve.new.self.entries c.append.new.self.entries outs list c.args.plan i.3 i.4 plan c.in_ok-reserve.ensures.entries
    (on-ok c.append.result c.unwrap.result (c.append.new.self.entries ≡ insert_all same_handle c.reserve.new.self.entries c.args.plan.fresh.entries) c.unwrap.ensures c.append.ensures.entries) in
    let l = ap (λ (x : List Row). length x) new in
    let n = length-append rows c.args.plan.fresh.entries in
    λ k d b. let u = i.4.numbered k d b in omega (arith, u, l, n)

pub overflow_cast-self : goal.overflow_cast-self
overflow_cast-self c =
    let h = c.self.inside.history in
    let s = state_after start h.entries in
    let rows = c.self.inside.table.entries in
    let outs = c.self.inside.out.items in
    let list = plain_list c.args.plan.shared in
    let i = c.self.invariant in
    let Q : BoardState → Type 0 = λ k. IsPlan k.state list c.args.plan in
    let plan = subst Q (sym c.self.view_is) c.requires.planned in
    let n = length-planned s h.entries rows outs list c.args.plan i.3 i.4 plan in
    omega (arith, n, c.len-2.ensures, c.args.plan.numbers.ok.0, c.requires.few)

pub overflow_add-self : goal.overflow_add-self
overflow_add-self c =
    let h = c.self.inside.history in
    let s = state_after start h.entries in
    let rows = c.self.inside.table.entries in
    let outs = c.self.inside.out.items in
    let list = plain_list c.args.plan.shared in
    let i = c.self.invariant in
    let Q : BoardState → Type 0 = λ k. IsPlan k.state list c.args.plan in
    let plan = subst Q (sym c.self.view_is) c.requires.planned in
    let R : BoardState → Type 0 = λ k. refusal_of k list ≡ None in
    let a = accepted-means (kept h) list (subst R (sym c.self.view_is) c.requires.accepted) in
    let n = length-planned s h.entries rows outs list c.args.plan i.3 i.4 plan in
    omega (arith, n, c.len-2.ensures, c.args.plan.numbers.ok.0, a.few_pairs, i.2.all_pairs)

pub overflow_add-self-3 : goal.overflow_add-self-3
overflow_add-self-3 c =
    let h = c.self.inside.history in
    let s = state_after start h.entries in
    let rows = c.self.inside.table.entries in
    let outs = c.self.inside.out.items in
    let list = plain_list c.args.plan.shared in
    let i = c.self.invariant in
    let Q : BoardState → Type 0 = λ k. IsPlan k.state list c.args.plan in
    let plan = subst Q (sym c.self.view_is) c.requires.planned in
    let R : BoardState → Type 0 = λ k. refusal_of k list ≡ None in
    let a = accepted-means (kept h) list (subst R (sym c.self.view_is) c.requires.accepted) in
    let n = parts-entered s h.entries rows outs list c.args.plan i.3 i.4 plan in
    omega (arith, n, a.few_parts, i.2.all_parts)

pub invariant_of-self-2 : goal.invariant_of-self-2
invariant_of-self-2 c =
    let h = c.self.inside.history in
    let s = state_after start h.entries in
    let rows = c.self.inside.table.entries in
    let outs = c.self.inside.out.items in
    let list = plain_list c.args.plan.shared in
    let i = c.self.invariant in
    let Q : BoardState → Type 0 = λ k. IsPlan k.state list c.args.plan in
    let plan = subst Q (sym c.self.view_is) c.requires.planned in
    let R : BoardState → Type 0 = λ k. refusal_of k list ≡ None in
    let a = accepted-means (kept h) list (subst R (sym c.self.view_is) c.requires.accepted) in
    let new = appended s h.entries rows c.reserve.new.self.entries c.append.new.self.entries outs list c.args.plan i.3 i.4 plan c.in_ok-reserve.ensures.entries
    (on-ok c.append.result c.unwrap.result (c.append.new.self.entries ≡ insert_all same_handle c.reserve.new.self.entries c.args.plan.fresh.entries) c.unwrap.ensures c.append.ensures.entries) in
    let e = entry c.args.seat (publish list) (published c.args.plan.entered) in
    let put = put-after h c.promise.new.self c.put.new.self e c.in_ok-promise.ensures.ok c.put.ensures in
    let k = stands-entered h _ c.self.inside.claims c.self.inside.is_closed c.self.inside.is_stopped c.self.inside.revisions c.self.inside.pairs c.self.inside.parts rows outs
    c.self.inside.numbers.items c.self.inside.last c.self.inside.next list c.args.plan e i plan a c.requires.few c.requires.different refl (ap published plan.entered) in
    stands-same _ c.put.new.self _ _ c.self.inside.claims c.self.inside.is_closed c.self.inside.is_stopped (c.self.inside.revisions + 1) _ (c.self.inside.pairs + c.len-2.result) (c.self.inside.parts + c.args.plan.parts)
    _ c.retire.new.table.entries _ c.retire.new.outs.items c.args.plan.numbers.items _ c.len-self-inside.result 0
    put c.retire.ensures.room (ap (λ n. c.self.inside.pairs + n) (c.len-2.ensures ∙ c.args.plan.numbers.ok.0))
    (c.retire.ensures.rows ∙ ap (λ (x : List Row). rows_retired x outs c.args.plan.handles.items) new) c.retire.ensures.outs
    (c.len-self-inside.ensures ∙ ap (λ (x : Past). length x.entries) c.in_ok-promise.ensures.ok) k

pub returns-clause-entry : goal.returns-clause-entry
returns-clause-entry c =
    let h = c.self.inside.history in
    let s = state_after start h.entries in
    let rows = c.self.inside.table.entries in
    let outs = c.self.inside.out.items in
    let list = plain_list c.args.plan.shared in
    let i = c.self.invariant in
    let Q : BoardState → Type 0 = λ k. IsPlan k.state list c.args.plan in
    let plan = subst Q (sym c.self.view_is) c.requires.planned in
    let R : BoardState → Type 0 = λ k. refusal_of k list ≡ None in
    let a = accepted-means (kept h) list (subst R (sym c.self.view_is) c.requires.accepted) in
    let e = entry c.args.seat (publish list) (published c.args.plan.entered) in
    let put = put-after h c.promise.new.self c.put.new.self e c.in_ok-promise.ensures.ok c.put.ensures in
    let O : BoardState → Type 0 = λ k. Enters k (kept c.put.new.self) c.args.seat (publish list) (published c.args.plan.answer) in
    subst O c.self.view_is (enters-published h c.put.new.self c.args.seat list c.args.plan plan a c.requires.different put)
