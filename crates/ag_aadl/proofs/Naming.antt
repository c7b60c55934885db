-- Names of different lengths differ.
use Rattle.std.proofs.Common.{◌≡◌, ◌≢◌, ℕ, suc, false, List, [], ◌∷◌, Bool, true, length, refl, ap, ◌&&◌, ◌∙◌}
use Rattle.ag_lex.specs.declared.token.Token.{Token}
use Rattle.ag_aadl.specs.Marked.{own}
use Rattle.ag_aadl.specs.Rules.{same_names}
use Rattle.ag_terms.specs.Names.{same}

no-other : (b : Bool) → b && false ≡ false
no-other true = refl
no-other false = refl

pub lengths-differ : (bytes : List ℕ) (a b : List Token) → length a ≢ length b → same_names bytes a b ≡ false
lengths-differ bytes [] [] h = absurd (h refl)
lengths-differ bytes [] (u ∷ b) h = refl
lengths-differ bytes (t ∷ a) [] h = refl
lengths-differ bytes (t ∷ a) (u ∷ b) h = ap (λ r. same (own bytes t) (own bytes u) && r) (lengths-differ bytes a b (λ e. h (ap suc e))) ∙ no-other (same (own bytes t) (own bytes u))
