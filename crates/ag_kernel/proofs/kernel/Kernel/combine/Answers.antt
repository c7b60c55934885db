use Rattle.std.proofs.Common.{◌≡◌, ◌<◌, ◌∙◌, ℕ, ℤ, List, length, map, ap, subst, sym, rules, None, All}
use Rattle.std.specs.Prelude.{⊤}
use Rattle.std.proofs.lemmas.Result.{err_from_is_err_and}
use Rattle.ag_kernel.specs.declared.line.Line.{Line}
use Rattle.ag_kernel.specs.Faults.{IsCause, first_missing}
use Rattle.ag_kernel.specs.State.{State, IsSound}
use Rattle.ag_kernel.specs.Sums.{AreMade, AreRowsIn}
use Rattle.ag_kernel.specs.Rules.{Adds, CanCombine, IsCombined, parts_of}
use Rattle.ag_kernel.proofs.Causes.{cause_within}
use Rattle.ag_kernel.proofs.Combined.{combined_of, combined_line, rows_of}
use Rattle.ag_kernel.proofs.kernel.Kernel.combine.Goals as goal

pub returns-in_err-sum-clause-cause : goal.returns-in_err-sum-clause-cause
returns-in_err-sum-clause-cause c =
    let x = err_from_is_err_and c.from_residual.result c.from_residual.ensures.1 in
    let s : State = c.args.self.now in
    let parts : List (ℕ × ℤ) = c.args.lines.now in
    let none : first_missing (length s.lines) (map (λ p. p.0) parts) ≡ None = sym c.in_default.ensures.missing in
    let can : CanCombine s parts = search rules in
    let is : c.as_slice-2.result.now ≡ s.lines = c.as_slice-2.ensures.value ∙ ap (λ (t : State). t.lines) c.self.view_is in
    let sound : IsSound s = subst IsSound c.self.view_is c.as_slice-2.ensures.sound in
    let E : List Line → Type 0 = λ ls. AreRowsIn s.query.vars ls → IsCause None ⊤ (AreMade (parts_of ls parts)) c.in_err-sum.field-0.0 in
    let found : E s.lines = subst E is (c.in_err-sum.ensures.cause s.query.vars) in
    rw (x.1, x.2) (cause_within (first_missing (length s.lines) (map (λ p. p.0) parts)) (CanCombine s parts) (AreMade (parts_of s.lines parts)) c.in_err-sum.field-0.0 none can (found (rows_of s sound)))

pub push-requires : goal.push-requires
push-requires c =
    let s : State = c.self.inside.lines in
    let parts : List (ℕ × ℤ) = c.args.lines.now in
    let there : All (λ p. p.0 < length s.lines) parts = search rules in
    let can : CanCombine s parts = search rules in
    let is = combined_of s parts c.as_slice-2.result.now c.as_slice-3.result.now c.in_ok-sum.sum c.in_ok-lits.lits c.keep-row.result c.as_slice-2.ensures.sound c.as_slice-2.ensures.value c.as_slice-3.ensures.value c.in_ok-sum.ensures.sum (c.in_ok-lits.ensures.lits ∙ c.as_slice-4.ensures ∙ c.in_ok-join_lines.ensures.ok) c.keep-row.ensures in
    combined_line s parts (record { lits = c.in_ok-lits.lits; row = c.keep-row.result }) c.as_slice-2.ensures.sound there can is.0

pub returns-clause-line : goal.returns-clause-line
returns-clause-line c =
    let s : State = c.self.inside.lines in
    let parts : List (ℕ × ℤ) = c.args.lines.now in
    let line : Line = record { lits = c.in_ok-lits.lits; row = c.keep-row.result } in
    let is = combined_of s parts c.as_slice-2.result.now c.as_slice-3.result.now c.in_ok-sum.sum c.in_ok-lits.lits c.keep-row.result c.as_slice-2.ensures.sound c.as_slice-2.ensures.value c.as_slice-3.ensures.value c.in_ok-sum.ensures.sum (c.in_ok-lits.ensures.lits ∙ c.as_slice-4.ensures ∙ c.in_ok-join_lines.ensures.ok) c.keep-row.ensures in
    let R : State → Type 0 = λ t. Adds t c.push.new.self c.in_ok-push.field-0 line × IsCombined t parts line in
    let all = subst R c.self.view_is (c.in_ok-push.ensures.ok, is.0) in
    (line, all.0, all.1)

pub returns-clause-allowed : goal.returns-clause-allowed
returns-clause-allowed c =
    let s : State = c.args.self.now in
    let parts : List (ℕ × ℤ) = c.args.lines.now in
    let none : first_missing (length s.lines) (map (λ p. p.0) parts) ≡ None = sym c.in_default.ensures.missing in
    let can : CanCombine s parts = search rules in
    let is = combined_of c.self.inside.lines parts c.as_slice-2.result.now c.as_slice-3.result.now c.in_ok-sum.sum c.in_ok-lits.lits c.keep-row.result c.as_slice-2.ensures.sound c.as_slice-2.ensures.value c.as_slice-3.ensures.value c.in_ok-sum.ensures.sum (c.in_ok-lits.ensures.lits ∙ c.as_slice-4.ensures ∙ c.in_ok-join_lines.ensures.ok) c.keep-row.ensures in
    let M : State → Type 0 = λ t. AreMade (parts_of t.lines parts) in
    (none, can, subst M c.self.view_is is.1)
