use Rattle.std.proofs.Common.{◌≡◌, ◌∷◌, [], sym, ap, subst, ◌∙◌}
use Rattle.ag_aadl.specs.Marked.{up_to}
use Rattle.ag_annex.specs.Clauses.{after}
use Rattle.ag_annex.specs.Expressions.{AreNumbersFit}
use Rattle.ag_annex.specs.Marks.{value_mark, end_mark}
use Rattle.ag_annex.proofs.Fitting.{fit-after, fit-up_to}
use Rattle.ag_annex.proofs.meaning.value_of.Goals as goal

pub term_of-requires : goal.term_of-requires
term_of-requires c =
    let bytes = c.args.bytes.now in
    let ms = c.args.marked.now in
    let is : c.up_to.result.now ≡ up_to (end_mark ∷ []) (after value_mark ms) = c.up_to.ensures ∙ ap (up_to (end_mark ∷ [])) c.after.ensures in
    subst (AreNumbersFit bytes) (sym is) (fit-up_to bytes (end_mark ∷ []) (after value_mark ms) (fit-after bytes value_mark ms c.requires))
