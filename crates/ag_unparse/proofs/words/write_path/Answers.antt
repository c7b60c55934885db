use Rattle.std.proofs.Common.{◌++◌, ◌∷◌, []}
use Rattle.ag_unparse.specs.Canonical.{part_words, package_parts, body_words}
use Rattle.ag_unparse.proofs.WritingSteps.{both_on}
use Rattle.ag_unparse.proofs.words.write_path.Goals as goal

pub returns : goal.returns
returns c =
    let path = c.args.path.now in
    both_on c.write_body_name.result c.args.writer.now c.write_front.new.writer c.write_body_name.new.writer
    (part_words (package_parts path.«package» ++ path.name.text ∷ [])) (body_words path.body) c.in_ok-write_front.ensures c.write_body_name.ensures
