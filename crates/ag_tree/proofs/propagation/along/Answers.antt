use Rattle.std.proofs.Common.{length, subst}
use Rattle.ag_kernel.specs.declared.line.KernelFault.{KernelFault}
use Rattle.ag_kernel.specs.Faults.{IsCause, first_missing}
use Rattle.ag_kernel.specs.Rules.{CanConclude}
use Rattle.ag_tree.proofs.Drawing.{none_missing}
use Rattle.ag_tree.proofs.propagation.along.Goals as goal

pub unreachable-requires : goal.unreachable-requires
unreachable-requires c =
    let lines = c.args.kernel.now.lines in
    let C : KernelFault → Type 0 = IsCause (first_missing (length lines) c.args.lines.now) (CanConclude c.args.kernel.now c.args.clause.now c.args.lines.now) (Unit {0}) in
    none_missing (length lines) c.args.lines.now c.in-Err-NotThere.field-0-0 c.requires.there (subst C c.in-Err-NotThere.field-0-is c.in-Err-NotThere.ensures.cause)
