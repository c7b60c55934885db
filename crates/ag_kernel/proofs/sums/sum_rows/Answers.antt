use Rattle.std.proofs.Common.{◌≡◌, ◌<◌, ◌+◌, ◌∙◌, ◌++◌, ◌∷◌, [], ℕ, ℤ, pos, ◌+ℤ◌, ◌*ℤ◌, List, length, take, get_or, ap, subst, sym, arith, rules, None, FitsSigned, to_z, of_z}
use Rattle.std.specs.Prelude.{⊤}
use Rattle.std.specs.Int.{w128}
use Rattle.std.proofs.lemmas.List.{take_all, take-map, map_more, get_or-map, get_or_default, length-map}
use Rattle.std.proofs.lemmas.Result.{err_from_is_err_and}
use Rattle.ag_query.specs.declared.rows.LRow.{LRow}
use Rattle.ag_query.specs.Rows.{AreInOrder, sum_of}
use Rattle.ag_kernel.specs.declared.line.Line.{Line}
use Rattle.ag_kernel.specs.Faults.{IsCause}
use Rattle.ag_kernel.specs.Rules.{line_at, row_in, parts_of}
use Rattle.ag_kernel.specs.Sums.{IsSumOf, AreMade, FitsAdded}
use Rattle.ag_kernel.proofs.Numbers.{back}
use Rattle.ag_kernel.proofs.Causes.{cause_weaker}
use Rattle.ag_kernel.proofs.Combining.{sum_more, made_more, made_back, row_order}
use Rattle.ag_kernel.proofs.sums.sum_rows.Goals as goal

pub returns-in_err-sum-clause-cause : goal.returns-in_err-sum-clause-cause
returns-in_err-sum-clause-cause c vars rows =
    let x = err_from_is_err_and c.from_residual.result c.from_residual.ensures.1 in
    let d : ℕ × ℤ = (0, pos 0) in
    let d0 : Line = record { lits = []; row = None } in
    let lines = c.args.lines.now in
    let named = c.args.named.now in
    let i = c.loop-n.n-index in
    let p : ℕ × ℤ = get_or named i d in
    let f : ℕ × ℤ → LRow × ℤ = λ p. (row_in (line_at lines p.0), p.1) in
    let lt : p.0 < length lines = c.requires.there i d c.loop-n-test.true in
    let fit : FitsSigned w128 p.1 = search rules in
    let row : c.row_of.result.now ≡ row_in (line_at lines p.0) = c.row_of.ensures ∙ ap row_in (c.index-lines-n.is ∙ get_or_default lines p.0 c.index-lines-n.result d0 lt) in
    let so = c.loop-n.invariant vars rows in
    let order : AreInOrder vars (row_in (line_at lines p.0)).terms = row_order vars (line_at lines p.0).row (rows p.0 d0 lt) in
    let E : LRow → Type 0 = λ r. AreInOrder vars r.terms → IsCause None ⊤ (FitsAdded c.loop-n.sum r (to_z w128 (of_z w128 p.1))) c.in_err-sum.field-0.0 in
    let G : ℤ → Type 0 = λ b. IsCause None ⊤ (FitsAdded c.loop-n.sum (row_in (line_at lines p.0)) b) c.in_err-sum.field-0.0 in
    let first : E (row_in (line_at lines p.0)) = subst E row (λ o. c.in_err-sum.ensures.cause vars so.0.order o) in
    let found : G p.1 = subst G (back p.1 fit) (first order) in
    let S : List (LRow × ℤ) → Type 0 = λ ps. IsSumOf vars ps c.loop-n.sum in
    let sum : S (take i (parts_of lines named)) = subst S (sym (take-map f i named)) so.0 in
    let cut : take (i + 1) (parts_of lines named) ≡ take i (parts_of lines named) ++ f p ∷ [] = take-map f (i + 1) named ∙ map_more f named i d c.loop-n-test.true ∙ ap (λ (ps : List (LRow × ℤ)). ps ++ f p ∷ []) (sym (take-map f i named)) in
    let is : f p ≡ get_or (parts_of lines named) i (f p) = sym (get_or-map f named i d (f p) c.loop-n-test.true) in
    let in' : i < length (parts_of lines named) = omega (arith, c.loop-n-test.true, length-map named f) in
    rw (x.1, x.2) (cause_weaker None ⊤ (FitsAdded c.loop-n.sum (row_in (line_at lines p.0)) p.1) (AreMade (parts_of lines named)) c.in_err-sum.field-0.0 (λ made. made_back vars (parts_of lines named) i (f p) c.loop-n.sum in' cut is sum made) found)

pub loop-n-preserved : goal.loop-n-preserved
loop-n-preserved c vars rows =
    let d : ℕ × ℤ = (0, pos 0) in
    let d0 : Line = record { lits = []; row = None } in
    let lines = c.args.lines.now in
    let named = c.args.named.now in
    let i = c.loop-n.n-index in
    let p : ℕ × ℤ = get_or named i d in
    let f : ℕ × ℤ → LRow × ℤ = λ p. (row_in (line_at lines p.0), p.1) in
    let lt : p.0 < length lines = c.requires.there i d c.loop-n-test.true in
    let fit : FitsSigned w128 p.1 = search rules in
    let row : c.row_of.result.now ≡ row_in (line_at lines p.0) = c.row_of.ensures ∙ ap row_in (c.index-lines-n.is ∙ get_or_default lines p.0 c.index-lines-n.result d0 lt) in
    let so = c.loop-n.invariant vars rows in
    let order : AreInOrder vars (row_in (line_at lines p.0)).terms = row_order vars (line_at lines p.0).row (rows p.0 d0 lt) in
    let sum : LRow = c.loop-n.sum in
    let new : LRow = c.in_ok-sum.sum in
    let R : LRow → ℤ → Type 0 = λ r b. record {
      terms : (x : ℕ → ℤ) → sum_of x new.terms ≡ sum_of x sum.terms +ℤ b *ℤ sum_of x r.terms;
      bound : new.bound ≡ sum.bound +ℤ b *ℤ r.bound;
      order : AreInOrder vars r.terms → AreInOrder vars new.terms × FitsAdded sum r b;
    } in
    let q : LRow = row_in (line_at lines p.0) in
    let b : ℤ = to_z w128 (of_z w128 p.1) in
    let first : R c.row_of.result.now b = record { terms = c.in_ok-sum.ensures.terms; bound = c.in_ok-sum.ensures.bound; order = λ o. c.in_ok-sum.ensures.order vars so.0.order o } in
    let second : R q b = subst (λ (r : LRow). R r b) row first in
    let all : R q p.1 = subst (λ (z : ℤ). R q z) (back p.1 fit) second in
    let o = all.order order in
    let Q : List (LRow × ℤ) → Type 0 = λ ps. IsSumOf vars ps new × AreMade ps in
    subst Q (sym (map_more f named i d c.loop-n-test.true)) (sum_more vars (parts_of lines (take i named)) (f p) sum new so.0 all.terms all.bound o.0, made_more vars (parts_of lines (take i named)) (f p) sum so.1 so.0 o.1)

pub returns-clause-sum : goal.returns-clause-sum
returns-clause-sum c vars rows =
    let all = take_all c.loop-n.n-index c.args.named.now (omega arith) in
    let Q : List (ℕ × ℤ) → Type 0 = λ ps. IsSumOf vars (parts_of c.args.lines.now ps) c.loop-n.sum × AreMade (parts_of c.args.lines.now ps) in
    subst Q all (c.loop-n.invariant vars rows)
