use Rattle.std.proofs.Common.{◌≡◌, ◌-◌, ◌<◌, ◌++◌, ◌∷◌, [], ℕ, List, length, get_or, take, drop, ap, subst, ◌∙◌, arith}
use Rattle.ag_graph.specs.Search.{AreClosed}
use Rattle.ag_graph.proofs.Finishing.{closed_more, order_more}
use Rattle.ag_graph.proofs.search.Search.finish_from.Goals as goal

pub loop-place-preserved : goal.loop-place-preserved
loop-place-preserved c =
    let old = c.args.self.now in
    let mid = c.loop-place.self in
    let place = c.loop-place.place in
    let closed = c.loop-place.invariant.closed in
    let there : place < length old.path.items = omega (arith, c.loop-place-test.true, c.len-place-end.ensures, old.path.ok.0) in
    let v = get_or mid.path.items place 0 in
    let is : v ≡ get_or old.path.items place 0 = ap (λ (xs : List ℕ). get_or xs place 0) closed.path in record {
      closed = closed_more c.args.first place c.args.on_circle old mid c.finish.new.self v c.requires.path c.requires.flags c.loop-place.auto.place there closed is
          c.in_ok-finish.ensures.marks c.in_ok-finish.ensures.flags c.in_ok-finish.ensures.path c.in_ok-finish.ensures.groups c.in_ok-finish.ensures.ahead;
      order = c.in_ok-finish.ensures.order ∙ ap (λ (xs : List ℕ). xs ++ v ∷ []) c.loop-place.invariant.order
          ∙ ap (λ (x : ℕ). (old.order.items ++ take (place - c.args.first) (drop c.args.first old.path.items)) ++ x ∷ []) is
          ∙ order_more old.order.items old.path.items c.args.first place c.loop-place.auto.place there;
    }

pub returns-clause-closed : goal.returns-clause-closed
returns-clause-closed c =
    let old = c.args.self.now in
    let end : c.loop-place.place ≡ length old.path.items = omega (arith, c.loop-place.auto.place-end, c.loop-place-test.false, c.len-place-end.ensures, old.path.ok.0, c.requires.first) in
    subst (λ (n : ℕ). AreClosed c.args.first n c.args.on_circle old c.loop-place.self) end c.loop-place.invariant.closed
