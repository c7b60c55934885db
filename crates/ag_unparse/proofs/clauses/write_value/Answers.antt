use Rattle.ag_unparse.proofs.WritingClauses.{value_written}
use Rattle.ag_unparse.proofs.clauses.write_value.Goals as goal

pub returns : goal.returns
returns c =
    value_written c.back.result c.args.writer.now c.word.new.self c.write_term.new.writer c.back.new.self c.args.before.now c.args.value.now c.in_ok-word.ensures c.in_ok-write_term.ensures c.back.ensures
