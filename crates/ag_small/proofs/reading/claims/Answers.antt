use Rattle.std.proofs.Common.{◌≡◌, ◌++◌, ◌∷◌, [], sym, ◌∙◌}
use Rattle.std.specs.Prelude.{codes}
use Rattle.std.proofs.lemmas.Result.{err_from_is_err_and}
use Rattle.ag_small.specs.Reading.{items_at, claim_at}
use Rattle.ag_small.proofs.Loop.{goes_on, ends, stops, is_done}
use Rattle.ag_small.proofs.reading.claims.Goals as goal

pub returns-then-stands : goal.returns-then-stands
returns-then-stands c =
    stops claim_at (codes "**}") c.loop.claims 200 c.loop.counter c.loop.rest.now (items_at claim_at (codes "**}") 200 c.args.bytes.now) c.loop-test.true (sym c.stands.ensures ∙ c.if-stands.true) c.loop.invariant

pub returns-in_err-item : goal.returns-in_err-item
returns-in_err-item c =
    let p = err_from_is_err_and c.from_residual.result c.from_residual.ensures.1 in
    rw (p.1, p.2) (ends claim_at (codes "**}") c.loop.claims 200 c.loop.counter c.loop.rest.now (items_at claim_at (codes "**}") 200 c.args.bytes.now) c.in_err-item.field-0.0 c.loop-test.true (sym c.stands.ensures ∙ c.if-stands.false) c.in_err-item.ensures c.loop.invariant)

pub loop-preserved : goal.loop-preserved
loop-preserved c =
    let e : c.push.new.self ≡ c.loop.claims ++ c.in_ok-item.item ∷ [] = c.in_ok-push.ensures.ok in
    rw e (goes_on claim_at (codes "**}") c.loop.claims 200 c.loop.counter c.loop.rest.now (items_at claim_at (codes "**}") 200 c.args.bytes.now) c.in_ok-item.item c.in_ok-item.end.now c.loop-test.true (sym c.stands.ensures ∙ c.if-stands.false) c.in_ok-item.ensures c.loop.invariant)

pub returns : goal.returns
returns c = is_done claim_at (codes "**}") c.loop.claims 200 c.loop.counter c.loop.rest.now (items_at claim_at (codes "**}") 200 c.args.bytes.now) c.loop-test.false c.loop.invariant
