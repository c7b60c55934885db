-- Refusals stand in a row by their places and rules.
use Rattle.std.proofs.Common.{◌≡◌, ℕ, Bool, true, false, List, [], ◌∷◌, get_or, refl, ap, sym, ◌∙◌, arith, nat_lt}
use Rattle.std.proofs.lemmas.Bool.Decides.{nat_tests}
use Rattle.ag_base.specs.declared.place.Refusal.{Refusal}
use Rattle.ag_base.specs.declared.place.Rule.{Rule}
use Rattle.ag_base.specs.declared.place.Rule.TheVariants.{NotUtf8, BadByte, OpenString, OpenAnnex, LongName, WideNumber, TooDeep, Unsupported, Expected, EndName, Twice, Misplaced, NoPackage, NotImported, NoClassifier, NoPort, Direction, PortType, TwoSources, Recursive, Unknown, Mismatch, Arity, NodeRecursion, NotLinear, BadDivisor, Coefficient, TooManyStreams, TooManyParts, Cycle, TooManyObligations, NotBuilt}
use Rattle.ag_base.specs.Rules.{rank, word_of, by_first, comes_before}

-- ---- by a number, and where it is the same by the rest

by_first-trans : (a b c : ℕ) (p q r : Bool) → (p ≡ true → q ≡ true → r ≡ true) → by_first a b p ≡ true → by_first b c q ≡ true → by_first a c r ≡ true
by_first-trans a b c p q r h e f = grind (arith, nat_tests)

nat_lt-trans : (a b c : ℕ) → nat_lt a b ≡ true → nat_lt b c ≡ true → nat_lt a c ≡ true
nat_lt-trans a b c e f = grind (arith, nat_tests)

-- where neither comes first, the numbers are the same, and by the rest neither comes first
record AreSame (a b : ℕ) (p q : Bool) : Type 0 where
  pub numbers : a ≡ b
  pub left : p ≡ false
  pub right : q ≡ false

neither : (a b : ℕ) (p q : Bool) → by_first a b p ≡ false → by_first b a q ≡ false → AreSame a b p q
neither a b p q e f = record { numbers = grind (arith, nat_tests); left = grind (arith, nat_tests); right = grind (arith, nat_tests) }

neither_less : (a b : ℕ) → nat_lt a b ≡ false → nat_lt b a ≡ false → a ≡ b
neither_less a b e f = grind (arith, nat_tests)

-- ---- rules

-- the rules in their order; a word is told for the one that is about one
abbrev in_order : ℕ → List Rule
in_order w =
    NotUtf8 ∷ BadByte ∷ OpenString ∷ OpenAnnex ∷ LongName ∷ WideNumber ∷
    TooDeep ∷ Unsupported (record { number = w }) ∷ Expected ∷ EndName ∷ Twice ∷ Misplaced ∷
    NoPackage ∷ NotImported ∷ NoClassifier ∷ NoPort ∷ Direction ∷ PortType ∷
    TwoSources ∷ Recursive ∷ Unknown ∷ Mismatch ∷ Arity ∷ NodeRecursion ∷
    NotLinear ∷ BadDivisor ∷ Coefficient ∷ TooManyStreams ∷ TooManyParts ∷ Cycle ∷
    TooManyObligations ∷ NotBuilt ∷ []

abbrev rule_at : ℕ → ℕ → Rule
rule_at n w = get_or (in_order w) n NotBuilt

rule_is : (p : Rule) → rule_at (rank p) (word_of p) ≡ p
rule_is NotUtf8 = refl
rule_is BadByte = refl
rule_is OpenString = refl
rule_is OpenAnnex = refl
rule_is LongName = refl
rule_is WideNumber = refl
rule_is TooDeep = refl
rule_is (Unsupported word) = refl
rule_is Expected = refl
rule_is EndName = refl
rule_is Twice = refl
rule_is Misplaced = refl
rule_is NoPackage = refl
rule_is NotImported = refl
rule_is NoClassifier = refl
rule_is NoPort = refl
rule_is Direction = refl
rule_is PortType = refl
rule_is TwoSources = refl
rule_is Recursive = refl
rule_is Unknown = refl
rule_is Mismatch = refl
rule_is Arity = refl
rule_is NodeRecursion = refl
rule_is NotLinear = refl
rule_is BadDivisor = refl
rule_is Coefficient = refl
rule_is TooManyStreams = refl
rule_is TooManyParts = refl
rule_is Cycle = refl
rule_is TooManyObligations = refl
rule_is NotBuilt = refl

one_rule : (p q : Rule) → rank p ≡ rank q → word_of p ≡ word_of q → p ≡ q
one_rule p q ranks words =
    sym (rule_is p) ∙ ap (λ (n : ℕ). rule_at n (word_of p)) ranks ∙ ap (rule_at (rank q)) words ∙ rule_is q

-- ---- refusals

pub transitive : (r s t : Refusal) → comes_before r s ≡ true → comes_before s t ≡ true → comes_before r t ≡ true
transitive r s t =
    by_first-trans r.place.file s.place.file t.place.file _ _ _
    (by_first-trans r.place.line s.place.line t.place.line _ _ _
    (by_first-trans r.place.column s.place.column t.place.column _ _ _
    (by_first-trans (rank r.rule) (rank s.rule) (rank t.rule) _ _ _
    (nat_lt-trans (word_of r.rule) (word_of s.rule) (word_of t.rule)))))

same_refusal : (r s : Refusal) → r.place.file ≡ s.place.file → r.place.line ≡ s.place.line → r.place.column ≡ s.place.column → r.rule ≡ s.rule → r ≡ s
same_refusal r s files lines columns rules =
    ap (λ (n : ℕ). record { place = record { file = n; line = r.place.line; column = r.place.column }; rule = r.rule }) files
    ∙ ap (λ (n : ℕ). record { place = record { file = s.place.file; line = n; column = r.place.column }; rule = r.rule }) lines
    ∙ ap (λ (n : ℕ). record { place = record { file = s.place.file; line = s.place.line; column = n }; rule = r.rule }) columns
    ∙ ap (λ (q : Rule). record { place = s.place; rule = q }) rules

pub total : (r s : Refusal) → comes_before r s ≡ false → comes_before s r ≡ false → r ≡ s
total r s e f =
    let files = neither r.place.file s.place.file _ _ e f in
    let lines = neither r.place.line s.place.line _ _ files.left files.right in
    let columns = neither r.place.column s.place.column _ _ lines.left lines.right in
    let ranks = neither (rank r.rule) (rank s.rule) _ _ columns.left columns.right in
    let words = neither_less (word_of r.rule) (word_of s.rule) ranks.left ranks.right in
    same_refusal r s files.numbers lines.numbers columns.numbers (one_rule r.rule s.rule ranks.numbers words)
