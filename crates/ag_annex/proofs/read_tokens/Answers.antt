use Rattle.std.proofs.Common.{◌≡◌, subst, ap, ◌∙◌}
use Rattle.ag_grammar.specs.Texts.{IsReading, AreForced}
use Rattle.ag_annex.specs.Grammar.{annex}
use Rattle.ag_aadl.specs.Marked.{marked}
use Rattle.ag_annex.specs.Words.{terminals_of}
use Rattle.ag_annex.proofs.read_tokens.Goals as goal

pub returns : goal.returns
returns c =
    let steps = c.in_ok-reading.reading.steps in
    let bad = c.in_ok-reading.reading.bad in
    let xs : c.as_slice.result.now ≡ terminals_of c.args.bytes.now c.args.tokens.now = c.as_slice.ensures.value ∙ c.in_ok-terminals.ensures in
    let others : c.as_slice-2.result.now ≡ terminals_of c.args.bytes.now c.args.tokens.now = c.as_slice-2.ensures.value ∙ c.in_ok-terminals.ensures in (
      steps,
      subst (λ q. IsReading annex q steps bad) xs c.in_ok-reading.ensures.read,
      subst (λ q. AreForced annex q steps) xs c.in_ok-reading.ensures.forced,
      c.in_ok-marked.ensures ∙ ap (λ q. marked q c.args.tokens.now c.as_slice-3.result.now) others ∙ ap (marked (terminals_of c.args.bytes.now c.args.tokens.now) c.args.tokens.now) c.as_slice-3.ensures,
    )
