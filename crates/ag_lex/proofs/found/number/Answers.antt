use Rattle.std.proofs.Common.{ap, subst, sym, ◌∙◌}
use Rattle.std.proofs.lemmas.Bool.{both_ways}
use Rattle.ag_lex.specs.Scanning.{IsFound, IsWide, fraction_at}
use Rattle.ag_lex.proofs.Founds.{real_is, number_is, number_wide}
use Rattle.ag_lex.proofs.found.number.Goals as goal

pub returns-in-Some : goal.returns-in-Some
returns-in-Some c =
    subst (λ f. IsFound c.args.language f c.args.here.now) (sym c.token.ensures)
    (real_is c.args.language c.args.here.now c.number_len-len.result c.in-Some.fraction c.requires c.number_len-len.ensures.value
    (ap fraction_at (sym c.split_at.ensures.back) ∙ sym c.fraction_len.ensures.value ∙ c.in-Some.is))

pub returns-then-is_wide : goal.returns-then-is_wide
returns-then-is_wide c =
    number_wide c.args.language c.args.here.now c.number_len-len.result c.requires c.number_len-len.ensures.value
    (ap fraction_at (sym c.split_at.ensures.back) ∙ sym c.fraction_len.ensures.value ∙ c.in_default.is)
    (subst (λ d. IsWide c.args.language d) c.split_at.ensures.front (c.is_wide.ensures.0 c.if-is_wide.true))

pub returns : goal.returns
returns c =
    subst (λ f. IsFound c.args.language f c.args.here.now) (sym c.token-2.ensures)
    (number_is c.args.language c.args.here.now c.number_len-len.result c.requires c.number_len-len.ensures.value
    (ap fraction_at (sym c.split_at.ensures.back) ∙ sym c.fraction_len.ensures.value ∙ c.in_default.is)
    (λ wide. both_ways c.is_wide.result c.if-is_wide.false (c.is_wide.ensures.1 (subst (λ d. IsWide c.args.language d) (sym c.split_at.ensures.front) wide))))
