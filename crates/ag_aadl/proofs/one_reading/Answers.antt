use Rattle.std.proofs.Common.{◌≡◌, sym, ap, ◌∙◌}
use Rattle.ag_aadl.specs.Grammar.{aadl}
use Rattle.ag_aadl.specs.Marked.{marked}
use Rattle.ag_aadl.specs.Meaning.{packages_of}
use Rattle.ag_aadl.specs.Words.{terminals_of}
use Rattle.ag_aadl.proofs.one_reading.Goals as goal

pub returns : goal.returns
returns c bytes tokens packages others f g =
    let xs = terminals_of bytes tokens in
    let same : f.steps ≡ g.steps = c.one_derivation.ensures aadl xs f.steps g.steps c.aadl_is_ll1.ensures f.text g.text in
    f.told ∙ ap (λ s. packages_of bytes (marked xs tokens s)) same ∙ sym g.told
