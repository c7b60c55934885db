use Rattle.std.specs.Prelude.{◌++◌, codes}
use Rattle.std.proofs.lemmas.Bool.{not-true}
use Rattle.ag_lex.specs.Spelling.{has_close}
use Rattle.ag_lex.proofs.Longest.{annex_found}
use Rattle.ag_lex.proofs.annexes_end.Goals as goal

pub returns : goal.returns
returns c = λ l inside rest none. annex_found l inside rest (not-true (has_close (inside ++ codes "**")) none)
