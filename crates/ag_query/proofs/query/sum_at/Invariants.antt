use Rattle.std.proofs.Common.{◌≡◌, ◌*◌, ◌^◌, ◌≤◌, pos, take, slice_index_or}
use Rattle.std.specs.Prelude.{unsigned_abs}
use Rattle.ag_query.specs.Rows.{magnitude, sum_of}
use Rattle.ag_query.proofs.query.sum_at.Given as goal

abbrev pub invariant-loop-term : goal.invariant-loop-term
invariant-loop-term l = record {
  value : l.sum ≡ sum_of (λ n. slice_index_or l.whole n (pos 0)) (take l.term-index l.terms);
  small : unsigned_abs l.sum ≤ magnitude (take l.term-index l.terms) * 2 ^ 63;
}
