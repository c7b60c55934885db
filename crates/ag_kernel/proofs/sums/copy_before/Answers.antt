use Rattle.std.proofs.Common.{◌≡◌, ◌<◌, ◌∷◌, ◌++◌, [], pos, List, ◌∙◌, ap, subst, sym, rules, take, get_or, All, FitsSigned}
use Rattle.std.specs.Int.{w128}
use Rattle.std.proofs.lemmas.List.{append_assoc, take_more}
use Rattle.std.proofs.lemmas.List.Elements.{All-more, All-push}
use Rattle.ag_query.specs.declared.rows.LTerm.{LTerm}
use Rattle.ag_kernel.proofs.sums.copy_before.Goals as goal

pub loop-n-preserved : goal.loop-n-preserved
loop-n-preserved c =
    let d : LTerm = record { var = 0; factor = pos 0 } in
    let i = c.loop-n.n in
    let rest = c.args.rest.now in
    let t : LTerm = get_or rest i d in
    let P : List LTerm → Type 0 = All (λ s. FitsSigned w128 s.factor) in
    let ok : c.push.new.self ≡ c.loop-n.sum ++ t ∷ [] = c.in_ok-push.ensures.ok ∙ ap (λ (s : LTerm). c.loop-n.sum ++ s ∷ []) c.copy.ensures.same in
    let f : FitsSigned w128 t.factor = subst (λ (s : LTerm). FitsSigned w128 s.factor) c.copy.ensures.same c.copy.ensures.fits in
    record {
      sum = ok ∙ ap (λ (ts : List LTerm). ts ++ t ∷ []) c.loop-n.invariant.sum ∙ append_assoc c.args.sum.now (take i rest) (t ∷ []) ∙ ap (λ (ts : List LTerm). c.args.sum.now ++ ts) (sym (take_more rest i d c.loop-n-test.true));
      before = All-more (λ s. s.var < c.args.var) rest i d c.loop-n-test.true c.loop-n.invariant.before (search rules);
      fits = λ h. subst P (sym ok) (All-push (λ s. FitsSigned w128 s.factor) c.loop-n.sum t (c.loop-n.invariant.fits h) f);
    }
