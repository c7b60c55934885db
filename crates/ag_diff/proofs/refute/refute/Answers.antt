use Rattle.std.proofs.Common.{◌≡◌, ◌<◌, ◌∙◌, ℕ, ℤ, List, All, length, map, ap, sym, subst, arith}
use Rattle.std.proofs.lemmas.List.{length-map}
use Rattle.ag_kernel.specs.State.{State}
use Rattle.ag_kernel.specs.Faults.{first_missing}
use Rattle.ag_kernel.specs.Rules.{CanCombine, parts_of}
use Rattle.ag_kernel.specs.Sums.{AreMade}
use Rattle.ag_query.specs.declared.rows.LRow.{LRow}
use Rattle.ag_diff.specs.declared.edges.Edge.{Edge}
use Rattle.ag_diff.specs.Edges.{IsSaid}
use Rattle.ag_diff.specs.Unfolding.{named, unfolded_once}
use Rattle.ag_diff.proofs.Combining.{only_memory, can_combine, none_missing, parts_are, are_made, refutes_from}
use Rattle.ag_diff.proofs.refute.refute.Goals as goal

pub memory-requires : goal.memory-requires
memory-requires c =
    let s : State = c.unfold_all.new.kernel in
    let old : State = c.args.kernel.now in
    let cycle : List Edge = c.args.cycle.now in
    let parts : List (ℕ × ℤ) = c.deref.result.now in
    let e = c.in_ok-parts.ensures in
    let is = c.deref.ensures.value in
    let L : List (ℕ × ℤ) → Type 0 = λ ps. map (named s.lines) ps ≡ map (unfolded_once old.atoms) cycle in
    let T : List (ℕ × ℤ) → Type 0 = All (λ p. p.0 < length s.lines) in
    let lines : L parts = subst L (sym is) e.lines in
    let there : T parts = subst T (sym is) e.there in
    let M : List (LRow × ℤ) → Type 0 = AreMade in
    let count : length parts ≡ length cycle = sym (length-map parts (named s.lines)) ∙ ap (λ (xs : List _). length xs) lines ∙ length-map cycle (unfolded_once old.atoms) in
    let made : M (parts_of s.lines parts) = subst M (sym (parts_are old.atoms s.lines parts cycle lines)) (are_made old.query.vars old.atoms cycle c.requires.said (omega (arith, count, c.deref.type_inv))) in
    only_memory (first_missing (length s.lines) (map (λ p. p.0) parts)) (CanCombine s parts) (AreMade (parts_of s.lines parts)) c.in-Err.fault
    (none_missing (length s.lines) parts there)
    (can_combine old.query.vars old.atoms s parts cycle c.requires.said lines)
    made
    c.in-Err.ensures.cause

pub returns-in-Ok-clause-refutes : goal.returns-in-Ok-clause-refutes
returns-in-Ok-clause-refutes c =
    let s : State = c.unfold_all.new.kernel in
    let old : State = c.args.kernel.now in
    let cycle : List Edge = c.args.cycle.now in
    let parts : List (ℕ × ℤ) = c.deref.result.now in
    let e = c.in_ok-parts.ensures in
    let L : List (ℕ × ℤ) → Type 0 = λ ps. map (named s.lines) ps ≡ map (unfolded_once old.atoms) cycle in
    let lines : L parts = subst L (sym c.deref.ensures.value) e.lines in
    let V : ℕ → Type 0 = λ vars. All (IsSaid vars old.atoms) cycle in
    let said : V s.query.vars = subst V (sym (ap (λ (q : _). q.vars) e.grown.query)) c.requires.said in
    refutes_from old.atoms s c.combine.new.self parts cycle c.in-Ok.line said c.requires.cycle lines c.in-Ok.ensures.line
