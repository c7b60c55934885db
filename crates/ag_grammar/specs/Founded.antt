-- A test of a grammar: whether no nonterminal begins with itself, so that at one terminal expansions end.
use Rattle.std.specs.Prelude.{◌≡◌, ℕ, suc, ◌&&◌, ◌||◌, not, nat_lt, Bool, true, List, [], ◌∷◌, slice_index_or}
use Rattle.std.specs.List.{list_all}
use Rattle.ag_grammar.specs.declared.grammar.Symbol.{Symbol}
use Rattle.ag_grammar.specs.declared.grammar.Symbol.TheVariants.{Terminal, Nonterminal}
use Rattle.ag_grammar.specs.Grammar.{PlainProduction, PlainGrammar}
use Rattle.ag_grammar.specs.Deterministic.{Certificate, may_be_empty, is_ll1}

-- a nonterminal's rank
abbrev pub rank_of : List ℕ → ℕ → ℕ
rank_of ranks n = slice_index_or ranks n 0

-- each nonterminal of the symbols that only such ones stand before which may be empty has a lower rank than this
abbrev pub begins_lower : Certificate → List ℕ → ℕ → List Symbol → Bool
begins_lower c ranks rank [] = true
begins_lower c ranks rank (Terminal t mark ∷ symbols) = true
begins_lower c ranks rank (Nonterminal m ∷ symbols) = nat_lt (rank_of ranks m) rank && (not (may_be_empty c m) || begins_lower c ranks rank symbols)

-- the productions of nonterminals, the first of which is n, begin with such of lower rank alone
abbrev pub are_founded : Certificate → List ℕ → ℕ → List (List PlainProduction) → Bool
are_founded c ranks n [] = true
are_founded c ranks n (ps ∷ more) = list_all (λ p. begins_lower c ranks (rank_of ranks n) p.right) ps && are_founded c ranks (suc n) more

-- by these ranks no nonterminal begins with itself
abbrev pub is_founded : Certificate → List ℕ → PlainGrammar → Bool
is_founded c ranks g = are_founded c ranks 0 g.nonterminals

-- one terminal ahead tells which production to take, each nonterminal derives something, and none begins with itself
abbrev pub IsFounded : PlainGrammar → Type 0
IsFounded g = (c : Certificate) × (ranks : List ℕ) × (is_ll1 c g ≡ true) × (is_founded c ranks g ≡ true)
