use Rattle.std.proofs.Common.{◌∷◌, []}
use Rattle.std.specs.Prelude.{codes}
use Rattle.ag_annex.specs.Marks.{target_mark}
use Rattle.ag_unparse.specs.Canonical.{name_at, value_words}
use Rattle.ag_unparse.proofs.WritingSteps.{both_on}
use Rattle.ag_unparse.proofs.clauses.write_equal.Goals as goal

pub returns : goal.returns
returns c =
    let equal = c.args.equal.now in
    both_on c.write_value.result c.args.writer.now c.write_name.new.writer c.write_value.new.writer (name_at target_mark equal.name.text ∷ []) (value_words (codes "=") equal.value) c.in_ok-write_name.ensures c.write_value.ensures
