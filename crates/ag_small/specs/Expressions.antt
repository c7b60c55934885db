-- Boolean expressions, as plain data.
use Rattle.std.proofs.Common.{◌≡◌, ℕ, zero, suc, Bool, true, false, List, [], ◌∷◌, refl, ap, ◌∙◌}
use Rattle.std.specs.Coded.{Coded, code_by, coded×, coded_ℕ, coded_list}

-- a truth, a name as it is written, an expression in parentheses, or an operator with its operands
pub data Expression : Type 0 where
  Truth : Bool → Expression
  Named : List ℕ → Expression
  Group : Expression → Expression
  Not : Expression → Expression
  And : Expression → Expression → Expression
  Or : Expression → Expression → Expression
  Implies : Expression → Expression → Expression

-- ---- expressions as lists: operands before their operator

abbrev Mark : Type 0
Mark = ℕ × List ℕ

abbrev truth_mark : Bool → ℕ
truth_mark true = 0
truth_mark false = 1

abbrev listed : Expression → List Mark → List Mark
listed (Truth holds) rest = (truth_mark holds, []) ∷ rest
listed (Named name) rest = (2, name) ∷ rest
listed (Group f) rest = listed f ((3, []) ∷ rest)
listed (Not f) rest = listed f ((4, []) ∷ rest)
listed (And f g) rest = listed f (listed g ((5, []) ∷ rest))
listed (Or f g) rest = listed f (listed g ((6, []) ∷ rest))
listed (Implies f g) rest = listed f (listed g ((7, []) ∷ rest))

abbrev one : (Expression → Expression) → List Expression → List Expression
one make [] = []
one make (f ∷ stack) = make f ∷ stack

abbrev two : (Expression → Expression → Expression) → List Expression → List Expression
two make [] = []
two make (g ∷ []) = []
two make (g ∷ f ∷ stack) = make f g ∷ stack

abbrev put : ℕ → List ℕ → List Expression → List Expression
put zero name stack = Truth true ∷ stack
put (suc zero) name stack = Truth false ∷ stack
put (suc (suc zero)) name stack = Named name ∷ stack
put (suc (suc (suc zero))) name stack = one Group stack
put (suc (suc (suc (suc zero)))) name stack = one Not stack
put (suc (suc (suc (suc (suc zero))))) name stack = two And stack
put (suc (suc (suc (suc (suc (suc zero)))))) name stack = two Or stack
put _ name stack = two Implies stack

abbrev rebuilt : List Expression → List Mark → List Expression
rebuilt stack [] = stack
rebuilt stack (m ∷ ms) = rebuilt (put m.0 m.1 stack) ms

abbrev top : List Expression → Expression
top [] = Truth false
top (f ∷ stack) = f

pub rebuilt_listed : (f : Expression) (stack : List Expression) (rest : List Mark) → rebuilt stack (listed f rest) ≡ rebuilt (f ∷ stack) rest
rebuilt_listed (Truth true) stack rest = refl
rebuilt_listed (Truth false) stack rest = refl
rebuilt_listed (Named name) stack rest = refl
rebuilt_listed (Group f) stack rest = rebuilt_listed f stack ((3, []) ∷ rest)
rebuilt_listed (Not f) stack rest = rebuilt_listed f stack ((4, []) ∷ rest)
rebuilt_listed (And f g) stack rest = rebuilt_listed f stack (listed g ((5, []) ∷ rest)) ∙ rebuilt_listed g (f ∷ stack) ((5, []) ∷ rest)
rebuilt_listed (Or f g) stack rest = rebuilt_listed f stack (listed g ((6, []) ∷ rest)) ∙ rebuilt_listed g (f ∷ stack) ((6, []) ∷ rest)
rebuilt_listed (Implies f g) stack rest = rebuilt_listed f stack (listed g ((7, []) ∷ rest)) ∙ rebuilt_listed g (f ∷ stack) ((7, []) ∷ rest)

-- an expression is told by its list
abbrev pub expression_code : Coded Expression
expression_code = code_by (List Mark) (coded_list (coded× coded_ℕ (coded_list coded_ℕ))) (λ f. listed f []) (λ ms. top (rebuilt [] ms)) (λ f. ap top (rebuilt_listed f [] []))
