use Rattle.std.proofs.Common.{◌≡◌, arith, subst, get_or, ◌∙◌, sym, ap}
use Rattle.ag_top.proofs.Tries.{stays}
use Rattle.ag_top.proofs.prover.stay.Goals as goal

pub returns : goal.returns
returns c = λ i e.
    let test = c.loop-n-test.false in
    let far = c.loop-n.auto.n-end in
    stays c.args.run.now c.requires.0 i c.index-as_slice-0.result c.as_slice-flags.result.now c.loop-n.n c.args.length c.loop-n.instants c.requires.1 c.requires.2 e
    (subst (λ xs. c.index-as_slice-0.result ≡ get_or xs 0 c.index-as_slice-0.result) c.as_slice.ensures c.index-as_slice-0.is) (c.as_slice-flags.ensures ∙ ap (λ x. x.flags) (sym c.index-as_slice-0.is)) c.loop-n.invariant (omega (arith, test, far))
