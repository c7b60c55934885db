-- A test of a grammar: whether one terminal ahead tells which production to take.
use Rattle.std.specs.Prelude.{◌≡◌, ℕ, suc, ◌==◌, ◌&&◌, ◌||◌, not, Bool, true, false, List, [], ◌∷◌, ◌++◌, Option, Some, None, slice_index_or, if◌then◌else◌}
use Rattle.std.specs.List.{list_all, list_any, find}
use Rattle.ag_grammar.specs.declared.grammar.Symbol.{Symbol}
use Rattle.ag_grammar.specs.declared.grammar.Symbol.TheVariants.{Terminal, Nonterminal}
use Rattle.ag_grammar.specs.Grammar.{PlainProduction, PlainGrammar, productions_of}

-- the number that stands for the end of the terminals
abbrev pub the_end : ℕ
the_end = 255

-- the terminal ahead
abbrev pub next_of : List ℕ → ℕ
next_of [] = the_end
next_of (x ∷ xs) = x

abbrev pub has : List ℕ → ℕ → Bool
has xs x = list_any (λ y. y == x) xs

-- the first production of the nonterminal that is taken at this terminal
abbrev pub chosen : PlainGrammar → ℕ → ℕ → Option PlainProduction
chosen g n x = find (λ p. has p.ahead x) (productions_of g n)

-- What shows that the test holds: for each nonterminal the terminals that it may begin with and those that may follow
-- it, and whether it may be empty; and nonterminals in an order in which each has a production of earlier ones alone.
pub record Certificate : Type 0 where
  pub first : List (List ℕ)
  pub follow : List (List ℕ)
  pub empty : List Bool
  pub order : List ℕ

abbrev pub first_of : Certificate → ℕ → List ℕ
first_of c n = slice_index_or c.first n []

abbrev pub follow_of : Certificate → ℕ → List ℕ
follow_of c n = slice_index_or c.follow n []

abbrev pub may_be_empty : Certificate → ℕ → Bool
may_be_empty c n = slice_index_or c.empty n false

-- what the symbols may begin with, where one of `behind` comes behind them
abbrev pub starts : Certificate → List ℕ → List Symbol → List ℕ
starts c behind [] = behind
starts c behind (Terminal t mark ∷ symbols) = t ∷ []
starts c behind (Nonterminal n ∷ symbols) = first_of c n ++ (if may_be_empty c n then starts c behind symbols else [])

abbrev pub all_empty : Certificate → List Symbol → Bool
all_empty c [] = true
all_empty c (Terminal t mark ∷ symbols) = false
all_empty c (Nonterminal n ∷ symbols) = may_be_empty c n && all_empty c symbols

-- each nonterminal of the symbols, which stand in the place of n, is followed by what may follow it alone
abbrev pub are_followed : Certificate → ℕ → List Symbol → Bool
are_followed c n [] = true
are_followed c n (Terminal t mark ∷ symbols) = are_followed c n symbols
are_followed c n (Nonterminal m ∷ symbols) = list_all (λ x. has (follow_of c m) x) (starts c (follow_of c n) symbols) && are_followed c n symbols

-- each nonterminal of the symbols is known
abbrev pub are_known : List ℕ → List Symbol → Bool
are_known known [] = true
are_known known (Terminal t mark ∷ symbols) = are_known known symbols
are_known known (Nonterminal n ∷ symbols) = has known n && are_known known symbols

-- the nonterminals of an order that have a production of those before them alone
abbrev pub known_by : PlainGrammar → List ℕ → List ℕ → List ℕ
known_by g known [] = known
known_by g known (n ∷ ns) = known_by g (if list_any (λ p. are_known known p.right) (productions_of g n) then n ∷ known else known) ns

abbrev pub is_named : ℕ → Option PlainProduction → Bool
is_named name None = false
is_named name (Some p) = p.name == name

-- the production is chosen at each terminal that it may begin with, and keeps what the certificate says of its nonterminal
abbrev pub is_good_production : PlainGrammar → Certificate → List ℕ → ℕ → PlainProduction → Bool
is_good_production g c known n p =
    list_all (λ x. is_named p.name (chosen g n x)) (starts c (follow_of c n) p.right)
    && (list_all (λ x. has (first_of c n) x) (starts c [] p.right)
    && ((not (all_empty c p.right) || may_be_empty c n)
    && (are_followed c n p.right
    && are_known known p.right)))

-- no two productions have one name
abbrev pub names_differ : List PlainProduction → Bool
names_differ [] = true
names_differ (p ∷ ps) = not (list_any (λ q. q.name == p.name) ps) && names_differ ps

abbrev pub are_good_nonterminals : PlainGrammar → Certificate → List ℕ → ℕ → List (List PlainProduction) → Bool
are_good_nonterminals g c known n [] = true
are_good_nonterminals g c known n (ps ∷ more) =
    names_differ ps && (list_all (λ p. is_good_production g c known n p) ps && are_good_nonterminals g c known (suc n) more)

abbrev pub is_ll1 : Certificate → PlainGrammar → Bool
is_ll1 c g =
    let known = known_by g [] c.order in
    has (follow_of c g.start) the_end && (has known g.start && are_good_nonterminals g c known 0 g.nonterminals)

-- one terminal ahead tells which production to take, and each nonterminal derives something
abbrev pub IsLl1 : PlainGrammar → Type 0
IsLl1 g = (c : Certificate) × (is_ll1 c g ≡ true)
