use Rattle.std.proofs.Common.{◌≡◌, sym, ap, ◌∙◌}
use Rattle.ag_aadl.specs.Marked.{marked}
use Rattle.ag_annex.specs.Clauses.{clauses_of}
use Rattle.ag_annex.specs.Grammar.{annex}
use Rattle.ag_annex.specs.Words.{terminals_of}
use Rattle.ag_annex.proofs.one_reading.Goals as goal

pub returns : goal.returns
returns c bytes tokens site clauses others f g =
    let xs = terminals_of bytes tokens in
    let same : f.steps ≡ g.steps = c.one_derivation.ensures annex xs f.steps g.steps c.annex_is_ll1.ensures f.text g.text in
    f.told ∙ ap (λ s. clauses_of bytes (marked xs tokens s)) same ∙ sym g.told
