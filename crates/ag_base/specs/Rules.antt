-- The order of places and of rules: which of several broken rules is answered.
use Rattle.std.specs.Prelude.{◌≡◌, ◌&&◌, ◌||◌, ℕ, Bool, false, nat_lt, nat_eq}
use Rattle.ag_base.specs.declared.place.Place.{Place}
use Rattle.ag_base.specs.declared.place.Refusal.{Refusal}
use Rattle.ag_base.specs.declared.place.Rule.{Rule}
use Rattle.ag_base.specs.declared.place.Rule.TheVariants.{NotUtf8, BadByte, OpenString, OpenAnnex, LongName, WideNumber, TooDeep, Unsupported, Expected, EndName, Twice, Misplaced, NoPackage, NotImported, NoClassifier, NoPort, Direction, PortType, TwoSources, Recursive, Unknown, Mismatch, Arity, NodeRecursion, NotLinear, BadDivisor, Coefficient, TooManyStreams, TooManyParts, Cycle, TooManyObligations, NotBuilt}

-- a rule's number in the order in which, at one place, the first one is answered
abbrev pub rank : Rule → ℕ
rank NotUtf8 = 0
rank BadByte = 1
rank OpenString = 2
rank OpenAnnex = 3
rank LongName = 4
rank WideNumber = 5
rank TooDeep = 6
rank (Unsupported word) = 7
rank Expected = 8
rank EndName = 9
rank Twice = 10
rank Misplaced = 11
rank NoPackage = 12
rank NotImported = 13
rank NoClassifier = 14
rank NoPort = 15
rank Direction = 16
rank PortType = 17
rank TwoSources = 18
rank Recursive = 19
rank Unknown = 20
rank Mismatch = 21
rank Arity = 22
rank NodeRecursion = 23
rank NotLinear = 24
rank BadDivisor = 25
rank Coefficient = 26
rank TooManyStreams = 27
rank TooManyParts = 28
rank Cycle = 29
rank TooManyObligations = 30
rank NotBuilt = 31

-- the word that a rule is about, by its number; 0 where it is about none
abbrev pub word_of : Rule → ℕ
word_of (Unsupported word) = word.number
word_of _ = 0

-- in order by a first number, and where that is the same by what is further known
abbrev pub by_first : ℕ → ℕ → Bool → Bool
by_first a b further = nat_lt a b || (nat_eq a b && further)

-- files in their order, in each the lines, and in a line the columns
abbrev pub is_before : Place → Place → Bool
is_before p q = by_first p.file q.file (by_first p.line q.line (nat_lt p.column q.column))

-- rules in their order; those about a word in the order of the words
abbrev pub rule_before : Rule → Rule → Bool
rule_before p q = by_first (rank p) (rank q) (nat_lt (word_of p) (word_of q))

-- refusals by their places, and at one place by their rules
abbrev pub comes_before : Refusal → Refusal → Bool
comes_before r s =
    by_first r.place.file s.place.file
    (by_first r.place.line s.place.line
    (by_first r.place.column s.place.column (rule_before r.rule s.rule)))

-- of all that is broken it is the first
pub record IsFirstOf (IsBroken : Refusal → Type 0) (r : Refusal) : Type 0 where
  pub broken : IsBroken r
  pub first : (s : Refusal) → IsBroken s → comes_before s r ≡ false
