-- The rules on what the tokens of a derivation say. Each is broken at a token, by what stands before it.
use Rattle.std.specs.Prelude.{◌≡◌, ℕ, Bool, true, false, not, ◌==◌, ◌&&◌, ◌||◌, ◌++◌, List, [], ◌∷◌, Result, Ok, Err, codes, if◌then◌else◌}
use Rattle.std.specs.List.{list_any}
use Rattle.ag_base.specs.declared.place.Refusal.{Refusal}
use Rattle.ag_base.specs.declared.place.Rule.{Rule}
use Rattle.ag_base.specs.declared.place.Rule.TheVariants.{EndName, Twice, Unsupported}
use Rattle.ag_lex.specs.declared.token.Token.{Token}
use Rattle.ag_aadl.specs.declared.marked.Marked.{Marked}
use Rattle.ag_aadl.specs.declared.names.Names.{Names}
use Rattle.ag_aadl.specs.declared.names.Naming.{Naming}
use Rattle.ag_aadl.specs.declared.names.Naming.TheVariants as naming
use Rattle.ag_aadl.specs.declared.rules.Context.{Context}
use Rattle.ag_aadl.specs.declared.timing.Region.{Region}
use Rattle.ag_aadl.specs.declared.timing.Region.TheVariants as region
use Rattle.ag_aadl.specs.declared.timing.Timing.{Timing}
use Rattle.ag_aadl.specs.declared.timing.Watched.{Watched}
use Rattle.ag_aadl.specs.declared.timing.Watched.TheVariants as watched
use Rattle.ag_aadl.specs.Marked.{own, first_of}
use Rattle.ag_aadl.specs.Marks.{unmarked, package_mark, part_mark, join_mark, item_mark, owner_mark, declared_mark, spot_mark, spot_port_mark, end_mark, end_owner_mark, end_name_mark, close_mark, features_mark, flows_mark, properties_mark, subcomponents_mark, connections_mark}
use Rattle.ag_aadl.specs.Terminals.{name, colons, gives}
use Rattle.ag_aadl.specs.Unsupported.{delayed}
use Rattle.ag_terms.specs.Names.{same}

-- the rule is broken at the token
abbrev pub refused_at : Rule → Token → Refusal
refused_at rule t = record { place = t.place; rule = rule }

-- The name behind `end` is the declared one.

-- two names of as many parts, which differ in case at most
abbrev pub same_names : List ℕ → List Token → List Token → Bool
same_names bytes [] [] = true
same_names bytes (t ∷ ts) (u ∷ us) = same (own bytes t) (own bytes u) && same_names bytes ts us
same_names bytes _ _ = false

-- whether the parts of a package's name stand in its head, or behind its `end`
abbrev pub is_head : Naming → Bool
is_head naming.Head = true
is_head _ = false

abbrev pub is_end : Naming → Bool
is_end naming.End = true
is_end _ = false

-- what the parts of a package's name belong to behind a token
abbrev pub naming_after : Naming → ℕ → Naming
naming_after n mark =
    if mark == package_mark then naming.Head
    else (if mark == end_mark then naming.End
    else (if mark == unmarked || (mark == part_mark || mark == join_mark) then n else naming.Nothing))

-- the parts of the open package's name
abbrev pub package_after : Names → Marked → List Token
package_after n m =
    if m.mark == package_mark then []
    else (if m.mark == part_mark && is_head n.naming then n.package_name ++ m.token ∷ [] else n.package_name)

-- the name or the two names of the open declaration
abbrev pub declaration_after : Names → Marked → List Token
declaration_after n m =
    if m.mark == item_mark then []
    else (if m.mark == owner_mark || m.mark == declared_mark then n.declaration ++ m.token ∷ [] else n.declaration)

-- the name behind `end`, as far as it was read
abbrev pub end_after : Names → Marked → List Token
end_after n m =
    if m.mark == item_mark || m.mark == end_mark then []
    else (if m.mark == end_owner_mark || (m.mark == end_name_mark || (m.mark == part_mark && is_end n.naming)) then n.end ++ m.token ∷ [] else n.end)

-- all that is known of names behind a token
abbrev pub names_after : Names → Marked → Names
names_after n m = record { naming = naming_after n.naming m.mark; package_name = package_after n m; declaration = declaration_after n m; end = end_after n m }

-- it is compared where it is whole: at the last name of a declaration, and at the `;` behind a package's
abbrev pub is_misnamed : List ℕ → Names → ℕ → Bool
is_misnamed bytes n mark =
    (mark == end_name_mark && not (same_names bytes n.declaration n.end))
    || (mark == close_mark && not (same_names bytes n.package_name n.end))

-- the name behind `end` is refused at its first token
abbrev pub misnamed : Names → Refusal
misnamed n = refused_at EndName (first_of n.end)

-- what is known of names behind a token, or the refusal
abbrev pub obey_names : List ℕ → Names → Marked → Result Names Refusal
obey_names bytes n m =
    let new = names_after n m in
    if is_misnamed bytes new m.mark then Err (misnamed new) else Ok new

-- A section stands at most once in a declaration.

-- the mark is that of a section's word
abbrev pub is_section : ℕ → Bool
is_section mark = mark == features_mark || (mark == flows_mark || (mark == properties_mark || (mark == subcomponents_mark || mark == connections_mark)))

-- the marks of the open declaration's sections
abbrev pub obey_sections : List ℕ → Marked → Result (List ℕ) Refusal
obey_sections seen m =
    if is_section m.mark then (if list_any (λ k. k == m.mark) seen then Err (refused_at Twice m.token) else Ok (seen ++ m.mark ∷ []))
    else (if m.mark == package_mark || (m.mark == item_mark || m.mark == end_name_mark) then Ok [] else Ok seen)

-- The timing of a connection isn't `delayed`: `Timing` stands alone or behind `Communication_Properties::`, and right
-- before `=>`. In the braces of a connection its value is the next name behind, in a section of properties a name that
-- stands right behind.

-- where a timing is looked for behind a marked token: in a connection of ports, in a section of properties, or nowhere
abbrev pub region_of : ℕ → Region
region_of mark =
    if mark == spot_mark || mark == spot_port_mark then region.Connection
    else (if mark == properties_mark then region.Properties else region.Nothing)

-- a timing is looked for in a connection
abbrev pub is_connection : Region → Bool
is_connection region.Connection = true
is_connection _ = false

-- no timing is looked for
abbrev pub is_nowhere : Region → Bool
is_nowhere region.Nothing = true
is_nowhere _ = false

-- `::` stands behind something other than `Communication_Properties`
abbrev pub is_elsewhere : Watched → Bool
is_elsewhere watched.Elsewhere = true
is_elsewhere _ = false

-- the last token is `Communication_Properties`
abbrev pub is_set_name : Watched → Bool
is_set_name watched.SetName = true
is_set_name _ = false

-- the last token is a `Timing` that counts
abbrev pub is_timing : Watched → Bool
is_timing watched.Timing = true
is_timing _ = false

-- what was seen last, where that is a name
abbrev pub watched_name : Watched → List ℕ → Watched
watched_name w text =
    if same text (codes "Timing") then (if is_elsewhere w then watched.Nothing else watched.Timing)
    else (if same text (codes "Communication_Properties") then watched.SetName else watched.Nothing)

-- what was seen last, behind any token
abbrev pub watched_after : Watched → ℕ → List ℕ → Watched
watched_after w terminal text =
    if terminal == name then watched_name w text
    else (if terminal == colons then (if is_set_name w then watched.InSet else watched.Elsewhere) else watched.Nothing)

-- whether the next name is the value
abbrev pub value_after : Timing → ℕ → Bool
value_after t terminal = (terminal == gives && is_timing t.watched) || (t.value && (is_connection t.region && not (terminal == name)))

-- what is known of a timing behind a token where one is looked for, or the refusal
abbrev pub timing_inside : List ℕ → Timing → Marked → Result Timing Refusal
timing_inside text t m =
    if t.value && (m.terminal == name && same text (codes "delayed")) then Err (refused_at (Unsupported (record { number = delayed })) m.token)
    else Ok (record { region = t.region; watched = watched_after t.watched m.terminal text; value = value_after t m.terminal })

-- what is known of a timing behind a token, or the refusal
abbrev pub obey_timing : List ℕ → Timing → Marked → Result Timing Refusal
obey_timing bytes t m =
    if not (m.mark == unmarked) then Ok (record { region = region_of m.mark; watched = watched.Nothing; value = false })
    else (if is_nowhere t.region then Ok t else timing_inside (own bytes m.token) t m)

-- All three.

-- what is known at the start of a file: nothing
abbrev pub start : Context
start = record {
  names = record { naming = naming.Nothing; package_name = []; declaration = []; end = [] };
  sections = [];
  timing = record { region = region.Nothing; watched = watched.Nothing; value = false };
}

-- what all three rules know, or the refusal of the first that has one; no two have one at a token
abbrev pub all_obeyed : Result Names Refusal → Result (List ℕ) Refusal → Result Timing Refusal → Result Context Refusal
all_obeyed (Err r) _ _ = Err r
all_obeyed (Ok n) (Err r) _ = Err r
all_obeyed (Ok n) (Ok s) (Err r) = Err r
all_obeyed (Ok n) (Ok s) (Ok t) = Ok (record { names = n; sections = s; timing = t })

-- what the rules know behind a token, or the refusal
abbrev pub obey : List ℕ → Context → Marked → Result Context Refusal
obey bytes c m = all_obeyed (obey_names bytes c.names m) (obey_sections c.sections m) (obey_timing bytes c.timing m)

-- from the left to the right: what the rules know behind the tokens, or the first broken rule
abbrev pub run_from : List ℕ → Result Context Refusal → List Marked → Result Context Refusal
run_from bytes (Err r) _ = Err r
run_from bytes (Ok c) [] = Ok c
run_from bytes (Ok c) (m ∷ ms) = run_from bytes (obey bytes c m) ms

-- what they know behind some tokens, or the first refusal
abbrev pub run : List ℕ → Context → List Marked → Result Context Refusal
run bytes c ms = run_from bytes (Ok c) ms

-- the tokens break no rule
abbrev pub Obeys : List ℕ → List Marked → Type 0
Obeys bytes ms = (c : Context) × (run bytes start ms ≡ Ok c)
