-- What ends before an operator, where the operand behind the innermost `else` is to end too and where it isn't.
use Rattle.std.proofs.Common.{ℕ, Bool, true, false, List}
use Rattle.ag_annex.specs.declared.frames.Frame.{Frame}
use Rattle.ag_terms.specs.declared.terms.Term.{Term}
use Rattle.ag_annex.specs.Expressions.{close_before, close_choice}

abbrev pub close_on : Bool → ℕ → List Frame → Term → List Frame × Term
close_on true r frames t = close_choice r frames t
close_on false r frames t = close_before r frames t
