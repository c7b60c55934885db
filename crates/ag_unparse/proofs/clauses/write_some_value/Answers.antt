use Rattle.std.proofs.Common.{sym, ap}
use Rattle.std.specs.Prelude.{codes}
use Rattle.ag_unparse.specs.Canonical.{value_words, some_value_words}
use Rattle.ag_unparse.proofs.WritingSteps.{same_on}
use Rattle.ag_unparse.proofs.clauses.write_some_value.Goals as goal

pub returns-in-Some : goal.returns-in-Some
returns-in-Some c =
    same_on c.write_value.result c.args.writer.now c.write_value.new.writer (value_words (codes "=") c.in-Some.value) (some_value_words c.args.value.now) (sym (ap some_value_words c.in-Some.is)) c.write_value.ensures
