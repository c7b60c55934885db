-- Where a reader stands.
use Rattle.std.specs.Prelude.{◌≡◌, ◌≤◌, ℕ, List, [], ◌∷◌, ◌++◌, Bool, true, false, take, drop, length}
use Rattle.ag_grammar.specs.declared.grammar.Symbol.{Symbol}
use Rattle.ag_grammar.specs.declared.grammar.Symbol.TheVariants.{Terminal, Nonterminal}
use Rattle.ag_grammar.specs.declared.grammar.Step.{Step}
use Rattle.ag_grammar.specs.Grammar.{PlainGrammar, Derives}
use Rattle.ag_grammar.specs.Texts.{IsText, IsFirstBad, IsForced, shifts}
use Rattle.ag_grammar.specs.Deterministic.{next_of, the_end, has, Certificate, starts, follow_of, is_ll1}

-- the symbols derive something
pub record IsProductive (g : PlainGrammar) (symbols : List Symbol) : Type 0 where
  pub terminals : List ℕ
  pub steps : List Step
  pub derives : Derives g steps symbols terminals

-- each nonterminal is followed by what may follow it alone, and derives something
abbrev pub IsReady : PlainGrammar → Certificate → List Symbol → Type 0
IsReady g c [] = Unit {0}
IsReady g c (Terminal t mark ∷ symbols) = IsReady g c symbols
IsReady g c (Nonterminal n ∷ symbols) =
    ((x : ℕ) → has (starts c (the_end ∷ []) symbols) x ≡ true → has (follow_of c n) x ≡ true)
    × IsProductive g (Nonterminal n ∷ []) × IsReady g c symbols

-- Behind these steps, which shifted the first terminals, the symbols are still to be derived: whatever they derive
-- completes a text, and each text that goes on with the terminal ahead goes on so.
pub record IsReached (g : PlainGrammar) (xs : List ℕ) (at : ℕ) (steps : List Step) (symbols : List Symbol) : Type 0 where
  pub within : at ≤ length xs
  pub count : shifts steps ≡ at
  pub sound : (more : List Step) (rest : List ℕ) → Derives g more symbols rest → IsText g (take at xs ++ rest) (steps ++ more)
  pub only : (all : List Step) (rest : List ℕ) → next_of rest ≡ next_of (drop at xs) → IsText g (take at xs ++ rest) all → (more : List Step) × (all ≡ steps ++ more) × Derives g more symbols rest
  pub ready : (c : Certificate) → is_ll1 c g ≡ true → IsReady g c symbols

-- what one symbol came to: a step that is forced, or the first bad place
pub record HasGone (g : PlainGrammar) (xs : List ℕ) (at : ℕ) (old new : List Step) (symbols : List Symbol) : Type 0 where
  pub reached : IsReached g xs at new symbols
  pub step : Step
  pub added : new ≡ old ++ step ∷ []
  pub forced : IsForced g xs old step

abbrev pub Goes : PlainGrammar → List ℕ → ℕ → List Step → ℕ → List Step → List Symbol → Bool → Type 0
Goes g xs at old next new symbols true = HasGone g xs next old new symbols
Goes g xs at old next new symbols false = IsFirstBad g xs at × (next ≡ at) × (new ≡ old)
