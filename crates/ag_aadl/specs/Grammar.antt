-- The grammar of packages as a plain value.
use Rattle.std.specs.Prelude.{ℕ, suc, List, [], ◌∷◌, map}
use Rattle.ag_grammar.specs.Grammar.{PlainProduction, PlainGrammar}
use Rattle.ag_grammar.specs.Deterministic.{Certificate, follow_of, starts}
use Rattle.ag_aadl.specs.Nonterminals.{packages}
use Rattle.ag_aadl.specs.Page.{Line, lines}
use Rattle.ag_aadl.specs.Certificate.{certificate}

-- each production is taken at what it may begin with
abbrev pub with_ahead : Certificate → ℕ → List (List Line) → List (List PlainProduction)
with_ahead c n [] = []
with_ahead c n (ls ∷ more) = map (λ l. record { name = l.name; ahead = starts c (follow_of c n) l.right; right = l.right }) ls ∷ with_ahead c (suc n) more

abbrev pub aadl : PlainGrammar
aadl = record { nonterminals = with_ahead certificate 0 lines; start = packages }
