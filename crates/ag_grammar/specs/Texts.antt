-- Which lists of terminals are texts of a grammar, and where one that isn't fails.
use Rattle.std.specs.Prelude.{◌≡◌, ◌<◌, ◌≤◌, ℕ, suc, List, [], ◌∷◌, ◌++◌, Option, Some, None, take, length}
use Rattle.ag_grammar.specs.declared.grammar.Symbol.TheVariants.{Nonterminal}
use Rattle.ag_grammar.specs.declared.grammar.Step.{Step}
use Rattle.ag_grammar.specs.declared.grammar.Step.TheVariants.{Expand, Shift}
use Rattle.ag_grammar.specs.Grammar.{PlainGrammar, Derives}

-- the grammar's start derives the terminals by these steps
abbrev pub IsText : PlainGrammar → List ℕ → List Step → Type 0
IsText g xs steps = Derives g steps (Nonterminal g.start ∷ []) xs

-- some text begins so
abbrev pub IsViable : PlainGrammar → List ℕ → Type 0
IsViable g xs = (rest : List ℕ) × (steps : List Step) × IsText g (xs ++ rest) steps

-- the terminals before this place begin a text; with the one that stands there they begin none; or they are all, and no text
pub record IsFirstBad (g : PlainGrammar) (xs : List ℕ) (at : ℕ) : Type 0 where
  pub within : at ≤ length xs
  pub before : IsViable g (take at xs)
  pub here : at < length xs → IsViable g (take (suc at) xs) → ⊥
  pub end : at ≡ length xs → (steps : List Step) → IsText g xs steps → ⊥

-- how many terminals the steps shift
abbrev pub shifts : List Step → ℕ
shifts [] = 0
shifts (Shift mark ∷ steps) = suc (shifts steps)
shifts (Expand name ∷ steps) = shifts steps

-- the marks of the terminals that the steps shift
abbrev pub marks_of : List Step → List ℕ
marks_of [] = []
marks_of (Shift mark ∷ steps) = mark ∷ marks_of steps
marks_of (Expand name ∷ steps) = marks_of steps

-- the steps begin the derivation of a text that begins with the terminals that they shift
abbrev pub Begins : PlainGrammar → List ℕ → List Step → Type 0
Begins g xs steps = (rest : List ℕ) × (more : List Step) × IsText g (take (shifts steps) xs ++ rest) (steps ++ more)

-- behind these steps comes this one in every text that goes on with the terminal which is next, or ends where the terminals end
pub record IsForced (g : PlainGrammar) (xs : List ℕ) (steps : List Step) (next : Step) : Type 0 where
  pub within : shifts steps ≤ length xs
  pub before : Begins g xs steps
  pub here : shifts steps < length xs → (all : List Step) (rest : List ℕ) → IsText g (take (suc (shifts steps)) xs ++ rest) all → (more : List Step) × (all ≡ steps ++ next ∷ more)
  pub end : shifts steps ≡ length xs → (all : List Step) → IsText g xs all → (more : List Step) × (all ≡ steps ++ next ∷ more)

-- each of the steps is forced by those before it
abbrev pub AreForced : PlainGrammar → List ℕ → List Step → Type 0
AreForced g xs steps = (before behind : List Step) (next : Step) → steps ≡ before ++ next ∷ behind → IsForced g xs before next

-- the steps derive the terminals; or they begin a text up to this place, and there the terminals fail
abbrev pub IsReading : PlainGrammar → List ℕ → List Step → Option ℕ → Type 0
IsReading g xs steps None = IsText g xs steps
IsReading g xs steps (Some at) = (at ≡ shifts steps) × Begins g xs steps × IsFirstBad g xs at
