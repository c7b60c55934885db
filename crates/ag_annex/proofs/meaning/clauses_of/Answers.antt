use Rattle.std.proofs.Common.{◌≡◌, ◌++◌, map, sym, ap, subst, ◌∙◌}
use Rattle.ag_aadl.specs.Marked.{segments}
use Rattle.ag_annex.specs.Clauses.{clause_of, clause_marks}
use Rattle.ag_annex.proofs.Fitting.{AreFit, fit-segments}
use Rattle.ag_annex.proofs.meaning.clauses_of.Goals as goal

pub loop-part-init : goal.loop-part-init
loop-part-init c =
    let bytes = c.args.bytes.now in
    let ms = c.args.marked.now in
    let parts : map (λ p. p.now) c.deref-part-items.result.now ≡ segments clause_marks ms = ap (map (λ p. p.now)) c.deref-part-items.ensures.value ∙ c.in_ok-parts.ensures in
    record {
      made = ap (λ q. q ++ map (clause_of bytes) (map (λ p. p.now) c.deref-part-items.result.now)) c.new-clauses.ensures ∙ ap (map (clause_of bytes)) parts;
      fit = subst (AreFit bytes) (sym parts) (fit-segments bytes clause_marks ms c.requires);
    }
