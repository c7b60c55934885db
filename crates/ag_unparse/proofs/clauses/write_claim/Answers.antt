use Rattle.ag_unparse.proofs.WritingClauses.{claim_written}
use Rattle.ag_unparse.proofs.clauses.write_claim.Goals as goal

pub returns : goal.returns
returns c =
    claim_written c.write_value.result c.args.writer.now c.word.new.self c.quoted.new.self c.write_value.new.writer c.args.first.now c.as_str.result.now c.args.claim.now c.as_str.ensures
    c.in_ok-word.ensures c.in_ok-quoted.ensures c.write_value.ensures
