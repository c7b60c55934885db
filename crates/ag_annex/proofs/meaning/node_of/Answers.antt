use Rattle.std.proofs.Common.{◌≡◌, ◌∷◌, [], map, sym, ap, subst, ◌∙◌}
use Rattle.ag_annex.specs.Clauses.{parts_of_node, part_under}
use Rattle.ag_annex.specs.Expressions.{AreNumbersFit}
use Rattle.ag_annex.specs.Marks.{node_mark, returns_mark, locals_mark, let_mark}
use Rattle.ag_annex.proofs.Fitting.{fit-segments, fit-part}
use Rattle.ag_annex.proofs.meaning.node_of.Goals as goal

pub equations_of-requires : goal.equations_of-requires
equations_of-requires c =
    let bytes = c.args.bytes.now in
    let ms = c.args.marked.now in
    let parts : map (λ p. p.now) c.as_slice-parts.result.now ≡ parts_of_node ms = ap (map (λ p. p.now)) c.as_slice-parts.ensures.value ∙ c.in_ok-parts.ensures in
    let part : c.part_under-4.result.now ≡ part_under let_mark (parts_of_node ms) = c.part_under-4.ensures ∙ ap (part_under let_mark) parts in
    subst (AreNumbersFit bytes) (sym part) (fit-part bytes let_mark (parts_of_node ms) (fit-segments bytes (node_mark ∷ returns_mark ∷ locals_mark ∷ let_mark ∷ []) ms c.requires))
