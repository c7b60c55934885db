use Rattle.std.proofs.Common.{ℕ, List, [], ◌∷◌, refl}
use Rattle.ag_annex.specs.Certificate.{certificate}
use Rattle.ag_annex.proofs.laws.annex_is_founded.Goals as goal

-- for each nonterminal a rank above those of all that it may begin with
abbrev ranks : List ℕ
ranks = 1 ∷ 0 ∷ 1 ∷ 0 ∷ 0 ∷ 0 ∷ 1 ∷ 0 ∷ 2 ∷ 0 ∷ 0 ∷ 0 ∷ 0 ∷ 1 ∷ 1 ∷ 3 ∷ 2 ∷ 1 ∷ 0 ∷ 0 ∷ 0 ∷ 0 ∷ 0 ∷ 1 ∷ 0 ∷ 0 ∷ 0 ∷ 0 ∷ 4 ∷ 0 ∷ []

pub returns : goal.returns
returns c = (certificate, ranks, refl, refl)
