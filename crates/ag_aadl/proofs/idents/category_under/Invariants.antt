use Rattle.std.proofs.Common.{◌≡◌, drop}
use Rattle.ag_aadl.specs.Meaning.{category_under}
use Rattle.ag_aadl.proofs.idents.category_under.Given as goal

-- none of the tokens before has the mark
abbrev pub invariant-loop-token : goal.invariant-loop-token
invariant-loop-token l = category_under l.mark (drop l.token-index l.marked) ≡ category_under l.mark l.marked
