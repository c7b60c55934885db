use Rattle.std.proofs.Common.{◌≡◌, ◌≤◌, length}
use Rattle.std.specs.Prelude.{All}
use Rattle.ag_board.specs.Entries.{plain_list}
use Rattle.ag_top.specs.Commands.{pairs_of}
use Rattle.ag_top.proofs.serve.shared_list.Given as goal

-- the list has what was yielded, and no problem has too many parts
abbrev pub invariant-loop-obligation : goal.invariant-loop-obligation
invariant-loop-obligation l = record {
  listed : plain_list l.list ≡ pairs_of l.yielded;
  few_parts : All (λ k. length k.1.parts ≤ 16384) (plain_list l.list);
}
