-- A derivation taken apart, symbol by symbol.
use Rattle.std.proofs.Common.{◌≡◌, ◌<◌, ◌⊎◌, inl, inr, ℕ, zero, suc, List, [], ◌∷◌, ◌++◌, Some, length, map, slice_get, slice_index_or, refl, sym, ap, subst, arith}
use Rattle.ag_grammar.specs.declared.grammar.Step.{Step}
use Rattle.ag_grammar.specs.declared.grammar.Step.TheVariants.{Expand, Shift}
use Rattle.ag_grammar.specs.declared.grammar.Symbol.{Symbol}
use Rattle.ag_grammar.specs.declared.grammar.Symbol.TheVariants.{Terminal, Nonterminal}
use Rattle.ag_grammar.specs.Deterministic.{Certificate, follow_of, starts}
use Rattle.ag_grammar.specs.Grammar.{PlainProduction, IsProductionOf, Derives}
use Rattle.ag_lex.specs.declared.token.Token.{Token}
use Rattle.ag_aadl.specs.declared.marked.Marked.{Marked}
use Rattle.ag_aadl.specs.Grammar.{with_ahead}
use Rattle.ag_aadl.specs.Marked.{marked}
use Rattle.ag_aadl.specs.Page.{Line}
use Rattle.ag_annex.specs.Certificate.{certificate}
use Rattle.ag_annex.specs.Grammar.{annex}
use Rattle.ag_annex.specs.Page.{lines}

-- ---- what a nonterminal may be replaced by

-- these are one of those
abbrev pub IsOneOf : List (List Symbol) → List Symbol → Type 0
IsOneOf [] symbols = ⊥
IsOneOf (r ∷ rs) symbols = (symbols ≡ r) ⊎ IsOneOf rs symbols

-- what one nonterminal's productions put in its place
abbrev pub rights_in : List Line → List (List Symbol)
rights_in [] = []
rights_in (l ∷ ls) = l.right ∷ rights_in ls

-- the same by the nonterminal's number
abbrev pub rights_of : List (List Line) → ℕ → List (List Symbol)
rights_of [] n = []
rights_of (ls ∷ more) zero = rights_in ls
rights_of (ls ∷ more) (suc n) = rights_of more n

-- the productions of a line of the grammar
abbrev pub productions_in : Certificate → ℕ → List Line → List PlainProduction
productions_in c k ls = map (λ l. record { name = l.name; ahead = starts c (follow_of c k) l.right; right = l.right }) ls

-- each production of a nonterminal stands in the grammar's lines
one-of-line : (c : Certificate) (k : ℕ) (ls : List Line) (i : ℕ) (p : PlainProduction) → slice_get (productions_in c k ls) i ≡ Some p → IsOneOf (rights_in ls) p.right
one-of-line c k [] i p e = absurd cc
one-of-line c k (l ∷ ls) zero p e =
    let q : PlainProduction = record { name = l.name; ahead = starts c (follow_of c k) l.right; right = l.right } in
    let same : q ≡ p = cc in inl (ap (λ (z : PlainProduction). z.right) (sym same))
one-of-line c k (l ∷ ls) (suc i) p e = inr (one-of-line c k ls i p e)

-- the same by the nonterminal's number
one-of : (c : Certificate) (k : ℕ) (ls : List (List Line)) (n i : ℕ) (p : PlainProduction) → slice_get (slice_index_or (with_ahead c k ls) n []) i ≡ Some p → IsOneOf (rights_of ls n) p.right
one-of c k [] n i p e = absurd cc
one-of c k (l ∷ ls) zero i p e = one-of-line c k l i p e
one-of c k (l ∷ ls) (suc n) i p e = one-of c (suc k) ls n i p e

-- the same in the grammar of annexes
produced : (n : ℕ) (p : PlainProduction) → IsProductionOf annex n p → IsOneOf (rights_of lines n) p.right
produced n p is = one-of certificate 0 lines n is.0 p is.1

-- ---- symbol by symbol

-- these symbols are still to be derived, with these steps and tokens
pub record At (symbols : List Symbol) : Type 0 where
  pub steps : List Step
  pub xs : List ℕ
  pub ts : List Token
  pub even : length xs ≡ length ts
  pub derives : Derives annex steps symbols xs

-- the tokens that are left, and the count of the steps
abbrev pub left : {symbols : List Symbol} → At symbols → List Marked
left a = marked a.xs a.ts a.steps

-- how many steps are left
abbrev pub size : {symbols : List Symbol} → At symbols → ℕ
size a = length a.steps

-- the same symbols in other words
abbrev pub retake : (symbols others : List Symbol) → symbols ≡ others → At symbols → At others
retake symbols others e a = record { steps = a.steps; xs = a.xs; ts = a.ts; even = a.even; derives = subst (λ z. Derives annex a.steps z a.xs) e a.derives }

-- a terminal is shifted
pub record Shifted (t k : ℕ) (symbols : List Symbol) (tokens : List Marked) (bound : ℕ) : Type 0 where
  pub token : Marked
  pub terminal : token.terminal ≡ t
  pub mark : token.mark ≡ k
  pub to : At symbols
  pub parts : tokens ≡ token ∷ left to
  pub shorter : size to < bound

-- a terminal is shifted by the first step
shift-by : (t k : ℕ) (symbols : List Symbol) (steps : List Step) (xs : List ℕ) (ts : List Token) → length xs ≡ length ts → Derives annex steps (Terminal t k ∷ symbols) xs → Shifted t k symbols (marked xs ts steps) (length steps)
shift-by t k symbols [] xs ts e d = absurd d
shift-by t k symbols (Expand name ∷ steps) xs ts e d = absurd d
shift-by t k symbols (Shift mark ∷ steps) [] ts e d = absurd d
shift-by t k symbols (Shift mark ∷ steps) (x ∷ xs) [] e d = absurd (omega arith)
shift-by t k symbols (Shift mark ∷ steps) (x ∷ xs) (u ∷ ts) e d = record {
  token = record { mark = mark; terminal = x; token = u };
  terminal = d.0;
  mark = d.1;
  to = record { steps = steps; xs = xs; ts = ts; even = omega arith; derives = d.2 };
  parts = refl;
  shorter = omega arith;
}

-- the same, as it stands
pub shift : (t k : ℕ) (symbols : List Symbol) (a : At (Terminal t k ∷ symbols)) → Shifted t k symbols (left a) (size a)
shift t k symbols a = shift-by t k symbols a.steps a.xs a.ts a.even a.derives

-- a nonterminal is replaced
pub record Expanded (n : ℕ) (symbols : List Symbol) (tokens : List Marked) (bound : ℕ) : Type 0 where
  pub right : List Symbol
  pub among : IsOneOf (rights_of lines n) right
  pub to : At (right ++ symbols)
  pub parts : tokens ≡ left to
  pub shorter : size to < bound

-- a nonterminal is replaced by the first step
expand-by : (n : ℕ) (symbols : List Symbol) (steps : List Step) (xs : List ℕ) (ts : List Token) → length xs ≡ length ts → Derives annex steps (Nonterminal n ∷ symbols) xs → Expanded n symbols (marked xs ts steps) (length steps)
expand-by n symbols [] xs ts e d = absurd d
expand-by n symbols (Shift mark ∷ steps) xs ts e d = absurd d
expand-by n symbols (Expand name ∷ steps) xs ts e d = record {
  right = d.0.right;
  among = produced n d.0 d.1;
  to = record { steps = steps; xs = xs; ts = ts; even = e; derives = d.3 };
  parts = refl;
  shorter = omega arith;
}

-- the same, as it stands
pub expand : (n : ℕ) (symbols : List Symbol) (a : At (Nonterminal n ∷ symbols)) → Expanded n symbols (left a) (size a)
expand n symbols a = expand-by n symbols a.steps a.xs a.ts a.even a.derives

-- where no symbol is left no token is
nothing-by : (steps : List Step) (xs : List ℕ) (ts : List Token) → Derives annex steps [] xs → marked xs ts steps ≡ []
nothing-by [] xs ts d = refl
nothing-by (Expand name ∷ steps) xs ts d = absurd d
nothing-by (Shift mark ∷ steps) xs ts d = absurd d

-- the same, as it stands
pub nothing-left : (a : At []) → left a ≡ []
nothing-left a = nothing-by a.steps a.xs a.ts a.derives

-- a nonterminal is derived by tokens of this kind
pub record Parsed (Kind : List Marked → Type 0) (symbols : List Symbol) (tokens : List Marked) (bound : ℕ) : Type 0 where
  pub front : List Marked
  pub kind : Kind front
  pub to : At symbols
  pub parts : tokens ≡ front ++ left to
  pub shorter : size to < bound

-- each derivation of it with less steps is so
abbrev pub Parser : ℕ → ℕ → (List Marked → Type 0) → Type 0
Parser bound n Kind = (symbols : List Symbol) (a : At (Nonterminal n ∷ symbols)) → size a < bound → Parsed Kind symbols (left a) (size a)
