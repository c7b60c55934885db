use Rattle.std.proofs.Common.{◌≡◌, ap, ◌∙◌}
use Rattle.std.specs.Prelude.{Some, None}
use Rattle.ag_types.specs.declared.numbered.Numbered.{Numbered}
use Rattle.ag_types.specs.Constants.{is_kept}
use Rattle.ag_types.specs.ClauseFaults.{constant_faults}
use Rattle.ag_types.specs.Firsts.{either}
use Rattle.ag_types.specs.NumberFaults.{constant_faults_in}
use Rattle.ag_types.specs.Places.{first_broken}
use Rattle.ag_types.specs.Uses.{Constant, declared_value}
use Rattle.ag_types.proofs.Valuing.{broken_value, of_parts, sound_value, sound_kept}
use Rattle.ag_types.proofs.constants.declared_value.Goals as goal

pub returns-in-None-clause-value : goal.returns-in-None-clause-value
returns-in-None-clause-value c =
    let d : Constant = record { var = c.declared.inside.var.now; names = c.declared.inside.sight; term = c.declared.inside.term.now } in
    let o = c.constant-of_types.ensures in
    let n = ap (λ (z : Numbered). z.of_constant) c.in_ok-numbered.ensures in
    let e : either (first_broken (constant_faults d.names d.var d.term)) (first_broken (constant_faults_in d.names c.args.values.now d.term)) ≡ None = of_parts _ _ _ _ _ _ o n c.either.ensures c.in-None.is in
    ap (λ (z : Numbered). z.value) c.in_ok-numbered.ensures ∙ sound_value c.args.values.now d c.requires e ∙ ap (declared_value c.args.values.now) c.declared.view_is

pub returns-in-None-clause-kept : goal.returns-in-None-clause-kept
returns-in-None-clause-kept c =
    let d : Constant = record { var = c.declared.inside.var.now; names = c.declared.inside.sight; term = c.declared.inside.term.now } in
    let o = c.constant-of_types.ensures in
    let n = ap (λ (z : Numbered). z.of_constant) c.in_ok-numbered.ensures in
    let e : either (first_broken (constant_faults d.names d.var d.term)) (first_broken (constant_faults_in d.names c.args.values.now d.term)) ≡ None = of_parts _ _ _ _ _ _ o n c.either.ensures c.in-None.is in
    ap (λ (z : Numbered). is_kept z.value) c.in_ok-numbered.ensures ∙ sound_kept c.args.values.now d c.requires e

pub returns-clause-value : goal.returns-clause-value
returns-clause-value c =
    let d : Constant = record { var = c.declared.inside.var.now; names = c.declared.inside.sight; term = c.declared.inside.term.now } in
    let o = c.constant-of_types.ensures in
    let n = ap (λ (z : Numbered). z.of_constant) c.in_ok-numbered.ensures in
    let e : either (first_broken (constant_faults d.names d.var d.term)) (first_broken (constant_faults_in d.names c.args.values.now d.term)) ≡ Some c.in-Some.field-0 = of_parts _ _ _ _ _ _ o n c.either.ensures c.in-Some.is in
    broken_value c.args.values.now d c.in-Some.field-0 e ∙ ap (declared_value c.args.values.now) c.declared.view_is
