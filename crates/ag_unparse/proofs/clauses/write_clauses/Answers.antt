use Rattle.std.proofs.Common.{ap, ◌∙◌, true, map}
use Rattle.std.specs.String.{string_bytes}
use Rattle.ag_unparse.specs.Canonical.{clause_words}
use Rattle.ag_unparse.proofs.WritingSteps.{state, all_written}
use Rattle.ag_unparse.proofs.clauses.write_clauses.Goals as goal

pub returns : goal.returns
returns c =
    all_written c.write_lines-written.result (string_bytes c.args.text.now) c.new-writer.result c.write_lines-written.new.writer (string_bytes c.into_text.result) (map clause_words c.args.clauses.now)
    (c.new-writer.ensures ∙ ap (λ z. state (string_bytes z) true) c.replace.ensures.value) c.write_lines-written.ensures c.into_text.ensures
