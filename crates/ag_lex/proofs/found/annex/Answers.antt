use Rattle.std.proofs.Common.{ap, subst, sym, ◌∙◌, arith}
use Rattle.std.proofs.lemmas.List.{take_rest}
use Rattle.ag_lex.specs.Scanning.{IsFound, closes_at}
use Rattle.ag_lex.proofs.Founds.{annex_is, annex_within, annex_open}
use Rattle.ag_lex.proofs.found.annex.Goals as goal

pub overflow_add-len : goal.overflow_add-len
overflow_add-len c = omega (arith, annex_within c.args.here.now c.in-Some.len c.requires (ap closes_at (sym (take_rest c.args.here.now 3)) ∙ sym c.in-Some.ensures))

pub returns-in-Some : goal.returns-in-Some
returns-in-Some c = λ l. subst (λ f. IsFound l f c.args.here.now) (sym c.token.ensures) (annex_is l c.args.here.now c.in-Some.len c.requires (ap closes_at (sym (take_rest c.args.here.now 3)) ∙ sym c.in-Some.ensures))

pub returns-in-None : goal.returns-in-None
returns-in-None c = λ l. annex_open l c.args.here.now c.requires (ap closes_at (sym (take_rest c.args.here.now 3)) ∙ sym c.in-None.ensures)
