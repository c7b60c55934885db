use Rattle.std.proofs.Common.{◌≡◌, drop}
use Rattle.ag_base.specs.Memory.{file_at}
use Rattle.ag_base.proofs.memory.find_file.Given as goal

-- what is left has the file that the whole list has
abbrev pub invariant-loop-file : goal.invariant-loop-file
invariant-loop-file l = file_at (drop l.file-index l.files) l.name ≡ file_at l.files l.name
