use Rattle.std.proofs.Common.{◌≡◌, ◌∙◌, refl, sym, ap, subst, ℤ, pos, List, [], All, Option, to_z, of_z}
use Rattle.std.specs.Prelude.{unwrap_or}
use Rattle.std.specs.Int.{w128}
use Rattle.std.specs.Int.RustNames.{int_rem}
use Rattle.std.proofs.lemmas.Bool.{false≢true}
use Rattle.ag_query.specs.declared.rows.LTerm.{LTerm}
use Rattle.ag_query.specs.declared.rows.LRow.{LRow}
use Rattle.ag_kernel.specs.Rules.{row_in}
use Rattle.ag_kernel.proofs.Numbers.{back}
use Rattle.ag_kernel.proofs.rows.divide_line.Goals as goal

pub returns-then-not-divides_all-clause-cause : goal.returns-then-not-divides_all-clause-cause
returns-then-not-divides_all-clause-cause c = (
  refl,
  λ g.
      let D : List LTerm → ℤ → Type 0 = λ ts b. All (λ (t : LTerm). int_rem t.factor b ≡ pos 0) ts in
      let e = back c.args.by c.ranges.by in
      let terms : (row_in c.args.line.now).terms ≡ c.in-Some.row.terms = ap (λ (o : Option LRow). (unwrap_or o (record { terms = []; bound = pos 0 })).terms) c.in-Some.is in
      let B : ℤ → Type 0 = λ b. D (row_in c.args.line.now).terms b in
      let T : List LTerm → Type 0 = λ ts. D ts (to_z w128 (of_z w128 c.args.by)) in
      let all : T c.as_slice.result.now = subst T (sym c.as_slice.ensures) (subst T terms (subst B (sym e) g.divides)) in
      false≢true (sym c.if-not-divides_all.true ∙ c.divides_all.ensures.1 all),
)
