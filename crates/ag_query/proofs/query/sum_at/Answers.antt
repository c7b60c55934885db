use Rattle.std.proofs.Common.{◌≡◌, ◌+◌, ◌≤◌, ◌^◌, ℕ, ℤ, pos, ◌+ℤ◌, ◌*ℤ◌, get_or, take, arith, sym, ◌∙◌, w64, FitsSigned, to_z}
use Rattle.std.specs.Prelude.{unsigned_abs}
use Rattle.std.specs.Int.{w128}
use Rattle.std.proofs.lemmas.Int.{ints}
use Rattle.std.proofs.lemmas.List.Sums.{sum_by-take-le, sum_by_more}
use Rattle.ag_query.specs.declared.rows.LTerm.{LTerm}
use Rattle.ag_query.specs.Rows.{magnitude, sum_of}
use Rattle.ag_query.proofs.Sums.{product_fits, adds_term, sum_of_more}
use Rattle.ag_query.proofs.query.sum_at.Goals as goal

pub overflow_mul-sum : goal.overflow_mul-sum
overflow_mul-sum c =
    let d : LTerm = record { var = 0; factor = pos 0 } in
    let i = c.loop-term.term-index in
    let a : ℤ = (get_or c.args.terms.now i d).factor in
    let f : FitsSigned w64 c.from.result = omega (arith, ints) in
    let small : unsigned_abs a ≤ 2 ^ 63 = omega (arith, c.requires.small, sum_by_more (λ s. unsigned_abs s.factor) c.args.terms.now i d c.loop-term-test.true, sum_by-take-le (λ s. unsigned_abs s.factor) c.args.terms.now (i + 1)) in
    product_fits a c.from.result small f

pub overflow_add-sum : goal.overflow_add-sum
overflow_add-sum c =
    let d : LTerm = record { var = 0; factor = pos 0 } in
    let i = c.loop-term.term-index in
    let a : ℤ = (get_or c.args.terms.now i d).factor in
    let f : FitsSigned w64 c.from.result = omega (arith, ints) in
    let more : magnitude (take i c.args.terms.now) + unsigned_abs a ≤ 2 ^ 63 = omega (arith, c.requires.small, sum_by_more (λ s. unsigned_abs s.factor) c.args.terms.now i d c.loop-term-test.true, sum_by-take-le (λ s. unsigned_abs s.factor) c.args.terms.now (i + 1)) in
    (adds_term (to_z w128 c.loop-term.sum-bits) a c.from.result (magnitude (take i c.args.terms.now)) c.loop-term.invariant.small more f).fits

pub loop-term-preserved : goal.loop-term-preserved
loop-term-preserved c =
    let d : LTerm = record { var = 0; factor = pos 0 } in
    let i = c.loop-term.term-index in
    let x : ℕ → ℤ = λ n. get_or c.args.whole.now n (pos 0) in
    let t : LTerm = get_or c.args.terms.now i d in
    let f : FitsSigned w64 c.from.result = omega (arith, ints) in
    let more : magnitude (take i c.args.terms.now) + unsigned_abs t.factor ≤ 2 ^ 63 = omega (arith, c.requires.small, sum_by_more (λ s. unsigned_abs s.factor) c.args.terms.now i d c.loop-term-test.true, sum_by-take-le (λ s. unsigned_abs s.factor) c.args.terms.now (i + 1)) in
    let all = adds_term (to_z w128 c.loop-term.sum-bits) t.factor c.from.result (magnitude (take i c.args.terms.now)) c.loop-term.invariant.small more f in
    let r : c.from.result ≡ x t.var = omega (arith, ints) in
    let sum = sum_of_more x c.args.terms.now i d c.loop-term-test.true in
    let mag = sum_by_more (λ (s : LTerm). unsigned_abs s.factor) c.args.terms.now i d c.loop-term-test.true in
    let s : to_z w128 c.loop-term.sum-bits +ℤ t.factor *ℤ c.from.result ≡ sum_of x (take (i + 1) c.args.terms.now) = rw (c.loop-term.invariant.value, r) (sym sum) in
    record {
      value = all.value ∙ s;
      small = rw (all.value, mag) all.small;
    }
