use Rattle.std.proofs.Common.{◌≡◌, Err, sym, ap, subst, ◌∙◌}
use Rattle.ag_base.specs.declared.place.Refused.TheVariants.{Model}
use Rattle.ag_grammar.specs.Texts.{IsReading}
use Rattle.ag_aadl.specs.Marked.{marked}
use Rattle.ag_annex.specs.Expressions.{AreNumbersFit}
use Rattle.ag_annex.specs.Grammar.{annex}
use Rattle.ag_annex.specs.Rules.{run}
use Rattle.ag_annex.specs.Words.{terminals_of}
use Rattle.ag_annex.proofs.Answering.{rule-broken}
use Rattle.ag_annex.proofs.NumbersFit.{numbers-fit}
use Rattle.ag_annex.proofs.answer.Goals as goal

pub returns-in-Err-default-clause-refused : goal.returns-in-Err-default-clause-refused
returns-in-Err-default-clause-refused c r e =
    let read = c.in-Ok.ensures in
    let marked = c.as_slice-marked.ensures.value ∙ read.3 in
    let same : c.in-Err-default.refused ≡ Model r = cc in
    rule-broken c.args.bytes.now c.args.tokens.now c.args.site read.0 c.in-Ok.read.bad r read.1 read.2
    (ap (run c.args.site) (sym marked) ∙ c.run.ensures.refused r (c.in-Err-default.is-0 ∙ ap Err same))

pub clauses_of-requires : goal.clauses_of-requires
clauses_of-requires c =
    let bytes = c.args.bytes.now in
    let tokens = c.args.tokens.now in
    let xs = terminals_of bytes tokens in
    let read = c.in-Ok.ensures in
    let marks : c.as_slice-marked.result.now ≡ marked xs tokens read.0 = c.as_slice-marked.ensures.value ∙ read.3 in
    let text = subst (λ bad. IsReading annex xs read.0 bad) c.in-Ok-None.is-1 read.1 in
    subst (λ ms. AreNumbersFit bytes ms) (sym marks) (numbers-fit bytes tokens read.0 c.requires.tokens text)
