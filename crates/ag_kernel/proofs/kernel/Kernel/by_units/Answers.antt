use Rattle.std.proofs.Common.{◌≡◌, ◌<◌, length, map, subst, sym, rules, true, All, List, None, ℕ}
use Rattle.std.specs.Prelude.{IsNone}
use Rattle.ag_query.specs.declared.clauses.Lit.{Lit}
use Rattle.ag_kernel.specs.declared.line.Line.{Line}
use Rattle.ag_kernel.specs.State.{State, IsLineOf}
use Rattle.ag_kernel.specs.Rules.{line_at, CanConclude}
use Rattle.ag_kernel.specs.Units.{comes_to_conflict}
use Rattle.ag_kernel.proofs.Following.{concluded_line}
use Rattle.ag_kernel.proofs.kernel.Kernel.by_units.Goals as goal

pub push-requires : goal.push-requires
push-requires c =
    let s : State = c.self.inside.lines in
    let clause : List Lit = c.args.clause.now in
    let named : List ℕ = c.args.lines.now in
    let there : All (λ n. n < length s.lines) named = search rules in
    let both : All (λ l. l.atom < length s.atoms) clause × All (λ n. IsNone (line_at s.lines n).row) named = search rules in
    let found : true ≡ comes_to_conflict clause (map (λ n. (line_at c.as_slice.result.now n).lits) named) = search rules in
    let F : List Line → Type 0 = λ ls. comes_to_conflict clause (map (λ n. (line_at ls n).lits) named) ≡ true in
    let can : CanConclude s clause named = record { there = both.0; no_rows = both.1; conflict = subst F c.as_slice.ensures.value (sym found) } in
    let P : List Lit → Type 0 = λ ls. IsLineOf s (record { lits = ls; row = None }) in
    subst P (sym c.in_ok-lits.ensures.lits) (concluded_line s clause named c.as_slice.ensures.sound there can)
