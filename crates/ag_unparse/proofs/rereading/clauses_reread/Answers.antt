use Rattle.ag_annex.specs.Grammar.{annex}
use Rattle.ag_lex.specs.declared.token.Language.TheVariants.{Agree}
use Rattle.ag_unparse.proofs.RereadingClauses.{rereads}
use Rattle.ag_unparse.proofs.ShallowClauses.{shallow_where_read}
use Rattle.ag_unparse.proofs.rereading.clauses_reread.Goals as goal

pub returns-clause-read : goal.returns-clause-read
returns-clause-read c = rereads c.clauses_are_read.ensures

pub returns-clause-shallow : goal.returns-clause-shallow
returns-clause-shallow c = shallow_where_read c.clauses_are_read.ensures (c.one_reading.ensures Agree) (λ xs steps others. c.one_derivation.ensures annex xs steps others c.annex_is_ll1.ensures)
