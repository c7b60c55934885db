use Rattle.ag_annex.proofs.Answering.{reads, refuses}
use Rattle.ag_annex.proofs.read_clauses.Goals as goal

pub returns-clause-read : goal.returns-clause-read
returns-clause-read c = reads c.one_reading.ensures c.one_refusal.ensures.none c.args.bytes.now c.args.tokens.now c.args.site c.answer.result (c.answer.ensures.ok, c.answer.ensures.refused)

pub returns-clause-broken : goal.returns-clause-broken
returns-clause-broken c = refuses c.one_refusal.ensures.one c.one_refusal.ensures.none c.args.bytes.now c.args.tokens.now c.args.site c.answer.result (c.answer.ensures.ok, c.answer.ensures.refused)
