use Rattle.std.proofs.lemmas.Bool.Decides.{same_from_decides}
use Rattle.std.proofs.lemmas.Slice.Eq.{bytes_eq-Decides}
use Rattle.ag_small.specs.Characters.{same, folded}
use Rattle.ag_small.proofs.class.same.Goals as goal

pub returns : goal.returns
unfolding same
returns c = same_from_decides _ _ c.eq_ignore_ascii_case.ensures.test (bytes_eq-Decides (folded c.args.a.now) (folded c.args.b.now))
