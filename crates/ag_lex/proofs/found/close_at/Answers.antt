use Rattle.std.proofs.Common.{List, ℕ, ap, sym, ◌∙◌, arith}
use Rattle.std.specs.Prelude.{codes, nat_eq}
use Rattle.std.specs.List.{starts_with}
use Rattle.std.proofs.lemmas.List.{take_rest}
use Rattle.ag_lex.specs.Scanning.{closes_at}
use Rattle.ag_lex.proofs.Founds.{closes_later}
use Rattle.ag_lex.proofs.found.close_at.Goals as goal

pub loop-at-preserved : goal.loop-at-preserved
loop-at-preserved c =
    let fails = ap (λ (z : List ℕ). starts_with nat_eq z (codes "**}")) (sym (take_rest c.args.bytes.now c.loop-at.at)) ∙ sym c.starts_with.ensures.value ∙ c.if-starts_with.false in
    (closes_later c.args.bytes.now c.loop-at.at (closes_at c.args.bytes.now) c.loop-at-test.true fails c.loop-at.invariant.0, omega arith)
