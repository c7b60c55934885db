use Rattle.std.proofs.Common.{sym, subst, ℕ, List}
use Rattle.std.specs.Prelude.{MatchOption}
use Rattle.ag_top.specs.Words.{NamesFile}
use Rattle.ag_top.proofs.Tops.{two_items}
use Rattle.ag_top.proofs.words.file_of.Goals as goal

pub returns-in-len2 : goal.returns-in-len2
returns-in-len2 c =
    let whole = two_items c.args.words.now c.first-item.result c.second-item.result c.in-len2.len_at_least c.in-len2.len_below c.first-item.is c.second-item.is in
    record { named = subst (λ (ws : List (List ℕ)). MatchOption c.file_of_two.result ((name : List ℕ) → NamesFile ws name → ⊥) (λ name. NamesFile ws name.now)) (sym whole) c.file_of_two.ensures.named }
