-- What is printed of a revision and of its verdicts.
use Rattle.std.specs.Prelude.{ℕ, ◌-◌, ◌==◌, ◌∷◌, [], ◌++◌, List, length, map, filter, is_some, Bool, true, false, if◌then◌else◌, Option, Some, None, slice_index_or, codes, decimal}
use Rattle.std.specs.List.{flat_map, enumerate_from, range_with_len}
use Rattle.std.specs.Option.{option_map}
use Rattle.std.specs.Arc.{arc_value}
use Rattle.std.specs.declared.sync.Arc.{Arc}
use Rattle.ag_stream.specs.declared.problem.Instant.{Instant}
use Rattle.ag_stream.specs.Values.{flag_at}
use Rattle.ag_verdict.specs.declared.key.Key.{Key}
use Rattle.ag_verdict.specs.declared.key.KeyKind.{KeyKind}
use Rattle.ag_verdict.specs.declared.key.KeyKind.TheVariants as kinds
use Rattle.ag_verdict.specs.declared.verdict.Why.{Why}
use Rattle.ag_verdict.specs.declared.verdict.Why.TheVariants.{Depth, Work, Leaf}
use Rattle.ag_verdict.specs.declared.verdict.Verdict.{Verdict}
use Rattle.ag_verdict.specs.declared.verdict.Verdict.TheVariants.{Proved, Refuted, Consistent, Inconsistent, Unknown}
use Rattle.ag_small.specs.declared.package.Package.{Package}
use Rattle.ag_small.specs.declared.package.Port.{Port}
use Rattle.ag_small.specs.declared.package.Claim.{Claim}
use Rattle.ag_small.specs.declared.package.ClaimKind.{ClaimKind}
use Rattle.ag_small.specs.declared.package.ClaimKind.TheVariants.{Assume, Guarantee}
use Rattle.ag_small.specs.Named.{is_of}
use Rattle.ag_report.specs.Tables.{table_text}

-- a revision was published: its obligations, those that kept a verdict, and the claims that it ended
abbrev pub published : ℕ → ℕ → ℕ → ℕ → List ℕ
published revision count carried cancelled =
    codes "revision " ++ decimal revision ++ codes ": " ++ decimal count ++ codes " obligations, "
    ++ decimal carried ++ codes " carried, " ++ decimal cancelled ++ codes " cancelled\n"

-- each obligation of the revision has a verdict
abbrev pub settled : ℕ → List ℕ
settled revision = codes "settled " ++ decimal revision ++ codes "\n"

-- a session ended at the revision, with so many verdicts of each kind
abbrev pub closed : ℕ → ℕ → ℕ → ℕ → ℕ → ℕ → List ℕ
closed revision proved refuted consistent inconsistent unknown =
    codes "closed " ++ decimal revision ++ codes ": " ++ decimal proved ++ codes " proved, " ++ decimal refuted
    ++ codes " refuted, " ++ decimal consistent ++ codes " consistent, " ++ decimal inconsistent
    ++ codes " inconsistent, " ++ decimal unknown ++ codes " unknown\n"

-- a clause by its kind and number; there is one consistency alone
abbrev pub clause_text : KeyKind → ℕ → List ℕ
clause_text kinds.Assume number = codes "assume " ++ decimal number
clause_text kinds.Lemma number = codes "lemma " ++ decimal number
clause_text kinds.Guarantee number = codes "guarantee " ++ decimal number
clause_text kinds.Consistent number = codes "consistent"

-- a member and a space, where there is one
abbrev pub member_text : Option (List ℕ) → List ℕ
member_text None = []
member_text (Some member) = member ++ codes " "

-- the layer, the member and the clause, with a space between
abbrev pub key_text : Key → List ℕ
key_text key = key.layer ++ codes " " ++ member_text key.member ++ clause_text key.kind key.number

-- the labels of the claims of a kind, in their order
abbrev pub labels : ClaimKind → List Claim → List (List ℕ)
labels kind claims = map (λ c. c.label) (filter (λ c. is_of kind c.kind) claims)

-- the text of that number from 1, empty where there is none
abbrev pub nth : List (List ℕ) → ℕ → List ℕ
nth texts number = if number == 0 then [] else slice_index_or texts (number - 1) []

-- the label of a clause of the layer itself, where these are those of its claims
abbrev pub kind_label : List (List ℕ) → List (List ℕ) → KeyKind → ℕ → List ℕ
kind_label assumed guaranteed kinds.Assume number = nth assumed number
kind_label assumed guaranteed kinds.Lemma number = []
kind_label assumed guaranteed kinds.Guarantee number = nth guaranteed number
kind_label assumed guaranteed kinds.Consistent number = []

-- a key's label; that of a member's clause isn't known here, and is empty
abbrev pub own_label : List (List ℕ) → List (List ℕ) → Key → List ℕ
own_label assumed guaranteed key =
    if is_some key.member then [] else kind_label assumed guaranteed key.kind key.number

-- a space and the label between quotes; consistency has none
abbrev pub quoted : KeyKind → List ℕ → List ℕ
quoted kinds.Consistent label = []
quoted _ label = codes " \"" ++ label ++ codes "\""

-- what stands behind a key
abbrev pub label_text : List (List ℕ) → List (List ℕ) → Key → List ℕ
label_text assumed guaranteed key = quoted key.kind (own_label assumed guaranteed key)

-- the word for a truth
abbrev pub truth_text : Bool → List ℕ
truth_text true = codes "true"
truth_text false = codes "false"

-- the names of a table's rows: the row of the instants, and each port as it is declared
abbrev pub names_of : List Port → List (List ℕ)
names_of ports = codes "instant" ∷ map (λ p. p.name) ports

-- the column of an instant: its number, and the truth of each port, whose stream has the port's place
abbrev pub column_of : ℕ → ℕ × Instant → List (List ℕ)
column_of ports i = decimal i.0 ∷ map (λ stream. truth_text (flag_at i.1 stream)) (range_with_len 0 ports)

-- a prior instant has number 0, and the instants are numbered from 1
abbrev pub numbered : Option Instant → List Instant → List (ℕ × Instant)
numbered None instants = enumerate_from 1 instants
numbered (Some prior) instants = (0, prior) ∷ enumerate_from 1 instants

-- a column for each of them
abbrev pub columns_of : ℕ → Option Instant → List Instant → List (List (List ℕ))
columns_of ports prior instants = map (column_of ports) (numbered prior instants)

-- the table of a run, or of a window behind a prior instant
abbrev pub run_table : List Port → Option Instant → List Instant → List ℕ
run_table ports prior instants = table_text (names_of ports) (columns_of (length ports) prior instants)

-- the limit that was spent; the window that is left at the depth is a table
abbrev pub why_text : List Port → Why → List ℕ
why_text ports (Depth window) = codes "depth\n" ++ run_table ports window.prior window.run.instants
why_text ports (Work which facts) = codes "work\n"
why_text ports (Leaf which literals) = codes "leaf\n"

-- a verdict, where runs of the premises were sought with so many instants
abbrev pub verdict_text : List Port → ℕ → Verdict → List ℕ
verdict_text ports sought (Proved k) = codes "proved k=" ++ decimal k ++ codes "\n"
verdict_text ports sought (Refuted run) =
    codes "refuted at " ++ decimal (length run.instants) ++ codes "\n" ++ run_table ports None run.instants
verdict_text ports sought (Consistent run) = codes "consistent " ++ decimal (length run.instants) ++ codes "\n"
verdict_text ports sought Inconsistent = codes "inconsistent " ++ decimal sought ++ codes "\n"
verdict_text ports sought (Unknown depth why) =
    codes "unknown depth=" ++ decimal depth ++ codes " limit=" ++ why_text ports why

-- the verdict, where there is one
abbrev pub answer_text : List Port → ℕ → Option Verdict → List ℕ
answer_text ports sought None = codes "open\n"
answer_text ports sought (Some verdict) = verdict_text ports sought verdict

-- an obligation: its key, its label, and what is known of it
abbrev pub block : Package → ℕ → Key × Option Verdict → List ℕ
block p sought line =
    key_text line.0 ++ label_text (labels Assume p.claims) (labels Guarantee p.claims) line.0 ++ codes ": "
    ++ answer_text p.ports sought line.1

-- a block for each obligation, in order
abbrev pub report_of : Package → ℕ → ℕ → List (Key × Option Verdict) → List ℕ
report_of p revision sought lines =
    codes "report " ++ decimal revision ++ codes "\n" ++ flat_map (block p sought) lines ++ codes "end report\n"

-- a line with the verdict itself for the shared one
abbrev pub plain : {Z : Type 0} → Key × Option (Arc Verdict Z) → Key × Option Verdict
plain line = (line.0, option_map arc_value line.1)
