use Rattle.std.proofs.Common.{map, ap, ◌∙◌}
use Rattle.ag_kernel.specs.Rules.{clause_line}
use Rattle.ag_kernel.proofs.Sound.{new_kept}
use Rattle.ag_kernel.proofs.lines.Lines.new.Goals as goal

pub invariant_of-result : goal.invariant_of-result
invariant_of-result c =
    new_kept c.args.query.now c.in_ok-copy.field-0 c.in_ok-atoms.atoms.items c.in_ok-lines.lines.items
    c.in_ok-copy.ensures (c.in_ok-atoms.ensures ∙ c.as_slice-2.ensures) (c.in_ok-lines.ensures ∙ ap (map clause_line) c.as_slice.ensures)
