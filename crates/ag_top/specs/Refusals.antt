-- What is printed of a refusal of a file.
use Rattle.std.specs.Prelude.{ℕ, ◌++◌, List, [], codes, decimal}
use Rattle.ag_base.specs.declared.place.Place.{Place}
use Rattle.ag_base.specs.declared.place.Refusal.{Refusal}
use Rattle.ag_base.specs.declared.place.Rule.{Rule}
use Rattle.ag_base.specs.declared.place.Rule.TheVariants.{NotUtf8, BadByte, OpenString, OpenAnnex, LongName, WideNumber, TooDeep, Unsupported, Expected, EndName, Twice, Misplaced, NoPackage, NotImported, NoClassifier, NoPort, Direction, PortType, TwoSources, Recursive, Unknown, Mismatch, Arity, NodeRecursion, NotLinear, BadDivisor, Coefficient, TooManyStreams, TooManyParts, Cycle, TooManyObligations, NotBuilt}
use Rattle.ag_annex.specs.Unsupported.{word_text}

-- a rule by its name
abbrev pub rule_name : Rule → List ℕ
rule_name NotUtf8 = codes "NotUtf8"
rule_name BadByte = codes "BadByte"
rule_name OpenString = codes "OpenString"
rule_name OpenAnnex = codes "OpenAnnex"
rule_name LongName = codes "LongName"
rule_name WideNumber = codes "WideNumber"
rule_name TooDeep = codes "TooDeep"
rule_name (Unsupported word) = codes "Unsupported"
rule_name Expected = codes "Expected"
rule_name EndName = codes "EndName"
rule_name Twice = codes "Twice"
rule_name Misplaced = codes "Misplaced"
rule_name NoPackage = codes "NoPackage"
rule_name NotImported = codes "NotImported"
rule_name NoClassifier = codes "NoClassifier"
rule_name NoPort = codes "NoPort"
rule_name Direction = codes "Direction"
rule_name PortType = codes "PortType"
rule_name TwoSources = codes "TwoSources"
rule_name Recursive = codes "Recursive"
rule_name Unknown = codes "Unknown"
rule_name Mismatch = codes "Mismatch"
rule_name Arity = codes "Arity"
rule_name NodeRecursion = codes "NodeRecursion"
rule_name NotLinear = codes "NotLinear"
rule_name BadDivisor = codes "BadDivisor"
rule_name Coefficient = codes "Coefficient"
rule_name TooManyStreams = codes "TooManyStreams"
rule_name TooManyParts = codes "TooManyParts"
rule_name Cycle = codes "Cycle"
rule_name TooManyObligations = codes "TooManyObligations"
rule_name NotBuilt = codes "NotBuilt"

-- what stands behind the name: a space and the word that this profile lacks
abbrev pub word_behind : Rule → List ℕ
word_behind (Unsupported word) = codes " " ++ word_text word
word_behind _ = []

-- the file's name, the place and the rule, on a line
abbrev pub refusal_text : List ℕ → Refusal → List ℕ
refusal_text name r =
    codes "refused " ++ name ++ codes ":" ++ decimal r.place.line ++ codes ":" ++ decimal r.place.column ++ codes " " ++ rule_name r.rule
    ++ word_behind r.rule ++ codes "\n"

-- the refusal of a text that is no package of the check's grammar, at that place
abbrev pub not_built : List ℕ → Place → List ℕ
not_built name place = refusal_text name record { place = place; rule = NotBuilt }
