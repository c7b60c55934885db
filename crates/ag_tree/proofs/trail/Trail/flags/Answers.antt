use Rattle.std.proofs.Common.{◌≡◌, ◌∙◌, false, map, get_or, ap, subst, All}
use Rattle.std.specs.Option.{unwrap_or}
use Rattle.ag_query.specs.declared.clauses.Lit.{Lit}
use Rattle.ag_tree.specs.Trail.{Seen, literals}
use Rattle.ag_tree.specs.Keeping.{seen}
use Rattle.ag_tree.proofs.Values.{flags_said}
use Rattle.ag_tree.proofs.trail.Trail.flags.Goals as goal

pub returns-clause-truths : goal.returns-clause-truths
returns-clause-truths c =
    let view : seen c.self.inside ≡ c.args.self.now = c.self.view_is in
    let said : c.from_vec.result ≡ map (λ v. unwrap_or v false) c.self.inside.values.items = c.from_vec.ensures ∙ c.in_ok-flags_of.ensures ∙ ap (map (λ v. unwrap_or v false)) c.deref.ensures.value in
    let P : Seen → Type 0 = λ t. All (λ (l : Lit). get_or c.from_vec.result l.atom false ≡ l.holds) (literals t.steps) in
    subst P view (flags_said c.self.inside.values.items (seen c.self.inside).steps c.self.invariant.tied c.self.invariant.fresh c.from_vec.result said)
