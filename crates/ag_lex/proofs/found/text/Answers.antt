use Rattle.std.proofs.Common.{List, ℕ, ◌+◌, ap, subst, sym, ◌∙◌}
use Rattle.std.specs.Prelude.{codes, nat_eq}
use Rattle.std.specs.List.{prefix_len, starts_with}
use Rattle.std.proofs.lemmas.List.{take_rest}
use Rattle.ag_lex.specs.Characters.{is_text_byte}
use Rattle.ag_lex.specs.Scanning.{IsFound}
use Rattle.ag_lex.proofs.Founds.{text_is, text_open}
use Rattle.ag_lex.proofs.found.text.Goals as goal

pub returns-then-starts_with : goal.returns-then-starts_with
returns-then-starts_with c =
    let here = c.args.here.now in
    let n = c.front_len-len.result in
    let len = c.front_len-len.ensures.value ∙ ap (prefix_len is_text_byte) (take_rest here 1) in
    let closed = ap (λ (z : List ℕ). starts_with nat_eq z (codes "\"")) (sym (take_rest here (1 + n))) ∙ sym c.starts_with.ensures.value ∙ c.if-starts_with.true in
    λ l. subst (λ f. IsFound l f here) (sym c.token.ensures) (text_is l here n c.requires len closed)

pub returns-else-starts_with : goal.returns-else-starts_with
returns-else-starts_with c =
    let here = c.args.here.now in
    let n = c.front_len-len.result in
    let len = c.front_len-len.ensures.value ∙ ap (prefix_len is_text_byte) (take_rest here 1) in
    let not_closed = ap (λ (z : List ℕ). starts_with nat_eq z (codes "\"")) (sym (take_rest here (1 + n))) ∙ sym c.starts_with.ensures.value ∙ c.if-starts_with.false in
    λ l. text_open l here n c.requires len not_closed
