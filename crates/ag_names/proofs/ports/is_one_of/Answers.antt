use Rattle.std.proofs.Common.{ap, sym, ◌∙◌}
use Rattle.ag_terms.specs.Names.{same}
use Rattle.ag_names.proofs.Searched.{any_more, any_at, any_all}
use Rattle.ag_names.proofs.ports.is_one_of.Goals as goal

pub loop-one-preserved : goal.loop-one-preserved
loop-one-preserved c =
    any_more (λ t. same c.args.name.now t.now) c.args.names.now c.loop-one.one-index _ c.loop-one-test.true c.loop-one.invariant
    (ap (same c.args.name.now) (sym c.as_bytes.ensures.value) ∙ sym c.is_same.ensures ∙ c.if-is_same.false)

pub returns-then-is_same : goal.returns-then-is_same
returns-then-is_same c =
    sym (any_at (λ t. same c.args.name.now t.now) c.args.names.now c.loop-one.one-index _ c.loop-one-test.true
    (ap (same c.args.name.now) (sym c.as_bytes.ensures.value) ∙ sym c.is_same.ensures ∙ c.if-is_same.true))

pub returns : goal.returns
returns c = sym (any_all (λ t. same c.args.name.now t.now) c.args.names.now c.loop-one.one-index c.loop-one-test.false c.loop-one.invariant)
