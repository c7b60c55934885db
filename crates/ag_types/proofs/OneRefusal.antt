-- Of all that clauses break one is the first, and where they break nothing there is none.
use Rattle.std.proofs.Common.{◌≡◌, ℕ, Bool, false, List, subst}
use Rattle.std.specs.Prelude.{Option, Some}
use Rattle.ag_base.specs.declared.place.Refusal.{Refusal}
use Rattle.ag_base.specs.Rules.{comes_before}
use Rattle.ag_graph.specs.Circles.{AreCircles}
use Rattle.ag_symbols.specs.Seen.{Seen}
use Rattle.ag_linear.specs.declared.value.Value.{Value}
use Rattle.ag_types.specs.Answers.{Breaks, IsFirst, IsRefusal, IsSound}
use Rattle.ag_types.specs.Uses.{uses_of}
use Rattle.ag_types.proofs.Evaluating.{one_list}

-- refusals of which neither comes first are the same
abbrev pub AreInARow : Type 0
AreInARow = (r s : Refusal) → comes_before r s ≡ false → comes_before s r ≡ false → r ≡ s

one_first : AreInARow → (s : Seen) (values : List (Option Value)) (r q : Refusal) → IsFirst (Breaks s values) (Some r) → IsFirst (Breaks s values) (Some q) → r ≡ q
one_first row s values r q f g = row r q (g.first r f.broken) (f.first q g.broken)

pub one_refusal : AreInARow → (s : Seen) (on_circle : List Bool) (order : List ℕ) → AreCircles (uses_of s) on_circle order → (r q : Refusal) → IsRefusal s r → IsRefusal s q → r ≡ q
one_refusal row s on_circle order circles r q a b =
    one_first row s a.values r q a.first
    (subst (λ (values : List (Option Value)). IsFirst (Breaks s values) (Some q)) (one_list s on_circle order circles b.values a.values b.valued a.valued) b.first)

pub not_both : (s : Seen) (on_circle : List Bool) (order : List ℕ) → AreCircles (uses_of s) on_circle order → (r : Refusal) → IsSound s → IsRefusal s r → ⊥
not_both s on_circle order circles r a b =
    a.none r (subst (λ (values : List (Option Value)). Breaks s values r) (one_list s on_circle order circles b.values a.values b.valued a.valued) b.first.broken)
