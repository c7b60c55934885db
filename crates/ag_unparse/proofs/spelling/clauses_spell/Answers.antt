use Rattle.ag_unparse.proofs.SpellsClauses.{spells}
use Rattle.ag_unparse.proofs.spelling.clauses_spell.Goals as goal

pub returns : goal.returns
returns c = spells
