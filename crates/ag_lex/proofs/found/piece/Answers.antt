use Rattle.std.proofs.Common.{subst, sym, ap, ◌∙◌}
use Rattle.std.specs.List.{prefix_len}
use Rattle.std.proofs.lemmas.List.{take_rest}
use Rattle.ag_lex.specs.Characters.{is_line_byte}
use Rattle.ag_lex.specs.Scanning.{IsFound}
use Rattle.ag_lex.proofs.Founds.{space_is, comment_is, symbol_is}
use Rattle.ag_lex.proofs.found.piece.Goals as goal

pub returns-then-begins : goal.returns-then-begins
returns-then-begins c = space_is c.args.language c.args.here.now (sym c.begins.ensures ∙ c.if-begins.true)

pub returns-then-starts_with : goal.returns-then-starts_with
returns-then-starts_with c =
    comment_is c.args.language c.args.here.now c.front_len.result (sym c.starts_with.ensures.value ∙ c.if-starts_with.true)
    (c.front_len.ensures.value ∙ ap (prefix_len is_line_byte) (take_rest c.args.here.now 2))

pub returns-then-begins-4 : goal.returns-then-begins-4
returns-then-begins-4 c =
    subst (λ f. IsFound c.args.language f c.args.here.now) (sym c.token.ensures)
    (symbol_is c.args.language c.args.here.now c.symbol_len.result (sym c.begins-else-begins-3.ensures ∙ c.if-begins-4.true)
    (sym c.starts_with.ensures.value ∙ c.if-starts_with.false) (sym c.starts_with-else-starts_with-2.ensures.value ∙ c.if-starts_with-3.false) c.symbol_len.ensures)
