use Rattle.std.proofs.Common.{◌≡◌, ◌++◌, take}
use Rattle.std.specs.String.{string_bytes}
use Rattle.ag_unparse.specs.Canonical.{clauses_text}
use Rattle.ag_print.specs.Shares.{joined}
use Rattle.ag_print.proofs.writer.write_lists.Given as goal

abbrev pub invariant-loop-list : goal.invariant-loop-list
invariant-loop-list l = string_bytes l.text ≡ string_bytes l.initial.text ++ clauses_text (joined (take l.list-index l.lists))
