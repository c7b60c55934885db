-- The number that was kept for a place is that of the integer streams before it.
use Rattle.std.proofs.Common.{◌≡◌, ◌≤◌, ◌<◌, ◌+◌, ℕ, List, length, take, get_or, filter, ap, ◌∙◌, arith}
use Rattle.ag_symbols.specs.Seen.{Seen, names_seen}
use Rattle.ag_types.specs.Numbers.{numbers_from}
use Rattle.ag_types.specs.Sums.{is_whole}
use Rattle.ag_types.proofs.CountedIntegers.{numbers_long, number_at}
use Rattle.ag_types.proofs.scope.Scope.integers_before.Goals as goal

within_numbers : (own s : Seen) (numbers : List ℕ) (held k : ℕ) → own ≡ s → numbers ≡ numbers_from 0 (names_seen own).streams → held ≡ length numbers →
    k ≤ length (names_seen s).streams → k < held
within_numbers own s numbers held k same counted long within =
    let all : length numbers ≡ length (names_seen own).streams + 1 = ap length counted ∙ numbers_long 0 (names_seen own).streams in
    let seen : length (names_seen own).streams ≡ length (names_seen s).streams = ap (λ (x : Seen). length (names_seen x).streams) same in
    omega arith

number_read : (own s : Seen) (numbers : List ℕ) (k n : ℕ) → own ≡ s → numbers ≡ numbers_from 0 (names_seen own).streams →
    k ≤ length (names_seen s).streams → n ≡ get_or numbers k n → n ≡ length (filter is_whole (take k (names_seen s).streams))
number_read own s numbers k n same counted within read =
    let seen : length (names_seen own).streams ≡ length (names_seen s).streams = ap (λ (x : Seen). length (names_seen x).streams) same in
    let at = number_at 0 k (names_seen own).streams n (omega arith) in
    let here : get_or numbers k n ≡ get_or (numbers_from 0 (names_seen own).streams) k n = ap (λ (ns : List ℕ). get_or ns k n) counted in
    let before : length (filter is_whole (take k (names_seen own).streams)) ≡ length (filter is_whole (take k (names_seen s).streams)) =
    ap (λ (x : Seen). length (filter is_whole (take k (names_seen x).streams))) same in
    omega arith

pub index-requires : goal.index-requires
index-requires c =
    within_numbers _ c.args.self.now c.self.inside.integers.items _ c.args.stream c.self.view_is c.self.inside.counted c.self.inside.integers.ok.0 c.requires

pub returns : goal.returns
returns c =
    number_read _ c.args.self.now c.self.inside.integers.items c.args.stream c.index.result.now c.self.view_is c.self.inside.counted c.requires c.index.ensures
