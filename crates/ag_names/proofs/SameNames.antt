-- Two names are the same where neither comes before the other.
use Rattle.std.proofs.Common.{◌≡◌, ℕ, List, refl, sym, arith, nat_eq}
use Rattle.std.specs.Cmp.Lexicographic.{slice_cmp, pointwise}
use Rattle.std.specs.Ordering.{is_eq, nat_cmp}
use Rattle.std.proofs.lemmas.Bool.Decides.{nat_tests}
use Rattle.std.proofs.lemmas.Cmp.{same_from_slice_cmp}
use Rattle.ag_terms.specs.Names.{same}
use Rattle.ag_names.specs.Names.{folded, compare_names}

equal_folded : (xs ys : List ℕ) → is_eq (slice_cmp nat_cmp xs ys) ≡ pointwise nat_eq xs ys
equal_folded xs ys = same_from_slice_cmp nat_cmp is_eq (pointwise nat_eq) refl (λ _ _. refl) (λ _ _. refl) (λ x y xs ys o h. grind (arith, nat_tests)) xs ys (slice_cmp nat_cmp xs ys) refl

pub same_is_equal : (a b : List ℕ) → same a b ≡ is_eq (compare_names a b)
unfolding same
same_is_equal a b = sym (equal_folded (folded a) (folded b))
