use Rattle.std.proofs.Common.{◌≡◌, ℕ, ◌<◌, List, [], ◌∷◌, length, drop, ap, sym, ◌∙◌, arith, drop-cons}
use Rattle.std.specs.declared.cmp.Ordering.TheVariants.{Greater}
use Rattle.ag_names.specs.Names.{compare_names}
use Rattle.ag_names.proofs.name.compare.Goals as goal

-- a text with a byte is behind one without
longer_is_greater : (a b : List ℕ) (i : ℕ) → i < length a → length b < 1 → compare_names (drop i a) b ≡ Greater
longer_is_greater a [] i h e = ap (λ (z : List ℕ). compare_names z []) (drop-cons a i 0 h)
longer_is_greater a (y ∷ b) i h e = absurd (omega arith)

pub returns-in-empty : goal.returns-in-empty
returns-in-empty c = sym (longer_is_greater c.args.a.now c.loop-x.left.now c.loop-x.x-index c.loop-x-test.true c.in-empty.len_below) ∙ c.loop-x.invariant
