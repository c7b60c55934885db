use Rattle.std.proofs.Common.{◌≡◌, Err, ap, subst, sym, ◌∙◌, map, take, List, ◌+◌}
use Rattle.ag_base.specs.declared.place.Refused.TheVariants.{Model}
use Rattle.std.specs.List.{AllZip}
use Rattle.ag_terms.specs.declared.clauses.Clause.{Clause}
use Rattle.ag_print.specs.Shares.{placed, StatesThese}
use Rattle.ag_print.proofs.AnnexesRead.{annex_tokens, clause_refused, clauses_more}
use Rattle.ag_print.proofs.annexes.clauses_of.Goals as goal

pub read_clauses-requires-clause-tokens : goal.read_clauses-requires-clause-tokens
read_clauses-requires-clause-tokens c = annex_tokens c.args.bytes.now c.args.annexes.now c.loop-annex.annex-index c.annex-item.result c.as_slice.result.now c.loop-annex-test.true c.annex-item.is c.requires.read c.as_slice.ensures

pub returns-in-Err-clause-refused : goal.returns-in-Err-clause-refused
returns-in-Err-clause-refused c = λ r e.
    let same : c.in-Err.refused ≡ Model r = cc in
    clause_refused c.args.bytes.now c.args.annexes.now c.loop-annex.annex-index c.annex-item.result c.as_slice.result.now c.loop-annex.clauses r c.loop-annex-test.true c.annex-item.is c.requires.read c.loop-annex.invariant c.as_slice.ensures (c.read_clauses.ensures.refused r (c.in-Err.is ∙ ap Err same))

pub loop-annex-preserved : goal.loop-annex-preserved
loop-annex-preserved c =
    subst (λ (z : List (List Clause)). AllZip (StatesThese c.args.bytes.now) (map placed (take (c.loop-annex.annex-index + 1) c.args.annexes.now)) z) (sym c.in-Ok-push.ensures.ok)
    (clauses_more c.args.bytes.now c.args.annexes.now c.loop-annex.annex-index c.annex-item.result c.as_slice.result.now c.loop-annex.clauses c.in-Ok.own c.loop-annex-test.true c.annex-item.is c.requires.read c.loop-annex.invariant c.as_slice.ensures c.in-Ok.ensures.ok)
