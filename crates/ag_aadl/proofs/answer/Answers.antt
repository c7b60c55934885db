use Rattle.std.proofs.Common.{◌≡◌, Err, sym, ap, ◌∙◌}
use Rattle.ag_base.specs.declared.place.Refused.TheVariants.{Model}
use Rattle.ag_aadl.specs.Rules.{run, start}
use Rattle.ag_aadl.proofs.Answering.{rule-broken}
use Rattle.ag_aadl.proofs.answer.Goals as goal

pub returns-in-Err-default-clause-refused : goal.returns-in-Err-default-clause-refused
returns-in-Err-default-clause-refused c r e =
    let read = c.in-Ok.ensures in
    let marked = c.as_slice-marked.ensures.value ∙ read.3 in
    let same : c.in-Err-default.refused ≡ Model r = cc in
    rule-broken c.args.bytes.now c.args.tokens.now read.0 c.in-Ok.read.bad r read.1 read.2
    (ap (run c.args.bytes.now start) (sym marked) ∙ c.run.ensures.refused r (c.in-Err-default.is-0 ∙ ap Err same))
