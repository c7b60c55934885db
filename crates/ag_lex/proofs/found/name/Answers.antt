use Rattle.std.proofs.Common.{subst, sym, arith}
use Rattle.ag_lex.specs.Scanning.{IsFound}
use Rattle.ag_lex.proofs.Founds.{name_is, name_long}
use Rattle.ag_lex.proofs.found.name.Goals as goal

pub returns-then-len-gt-LONGEST_NAME : goal.returns-then-len-gt-LONGEST_NAME
returns-then-len-gt-LONGEST_NAME c = λ l. name_long l c.args.here.now c.front_len-len.result c.requires c.front_len-len.ensures.value c.if-len-gt-LONGEST_NAME.true

pub returns : goal.returns
returns c = λ l. subst (λ f. IsFound l f c.args.here.now) (sym c.token.ensures) (name_is l c.args.here.now c.front_len-len.result c.requires c.front_len-len.ensures.value (omega arith))
