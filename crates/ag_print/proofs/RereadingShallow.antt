-- Where the annexes of canonical text state clauses, no level of these clauses' text passes the limit.
use Rattle.std.proofs.Common.{◌≡◌, ℕ, List, [], ◌∷◌, map, sym, ap, subst, IsTrue}
use Rattle.std.specs.List.{All, AllByRecursion, AllZip, flat_map}
use Rattle.std.proofs.lemmas.List.Elements.{All-from_recursion, recursion_from_All}
use Rattle.ag_lex.specs.declared.token.Language.TheVariants.{Aadl, Agree}
use Rattle.ag_lex.specs.declared.token.Token.{Token}
use Rattle.ag_lex.specs.Answers.{AreKept, IsAnnexOf, bytes_inside}
use Rattle.ag_aadl.specs.declared.packages.Item.{Item}
use Rattle.ag_aadl.specs.declared.packages.Package.{Package}
use Rattle.ag_aadl.specs.Files.{IsFile}
use Rattle.ag_aadl.specs.Marked.{own}
use Rattle.ag_terms.specs.declared.clauses.Clause.{Clause}
use Rattle.ag_terms.specs.declared.clauses.Site.{Site}
use Rattle.ag_annex.specs.Annexes.{IsAnnex}
use Rattle.ag_unparse.specs.Canonical.{inside_text}
use Rattle.ag_unparse.specs.Depth.{AreShallow}
use Rattle.ag_unparse.specs.Rereading.{MayBePrinted, around}
use Rattle.ag_print.specs.Annexes.{Stated, IsStated, AreAllStated, ItemStates, PackagesState, item_annexes, item_site, annexes_of_item, annexes_of_package, annexes_of_packages}
use Rattle.ag_print.specs.Canonical.{annex_bytes, canonical_text}
use Rattle.ag_print.specs.Printable.{are_printable, NoneWithout, ItemMayState, StatedMayBePrinted}
use Rattle.ag_print.specs.Printed.{AllShallow}
use Rattle.ag_print.specs.Same.{bare_item, bare_package, is_any}
use Rattle.ag_print.specs.Shares.{IsOneOf}
use Rattle.ag_print.proofs.RereadingAgain.{OneClausesText, heads, tails}
use Rattle.ag_print.proofs.RereadingAnnexes.{item_texts, package_texts, expected, expected_of, expected_texts}
use Rattle.ag_print.proofs.RereadingClauses.{TokensStand, AreOfFile, placed, same_site, in_two}
use Rattle.ag_print.proofs.RereadingLines.{paired}
use Rattle.ag_print.proofs.RereadingWhole.{CanonicalSpells, OneTokens, OneFile, read_again}

-- what the law on clauses says
abbrev pub ClausesShallow : Type 0
ClausesShallow = (s : Site) (file : ℕ) (before after : List ℕ) (clauses : List Clause) (tokens : List Token) (found : List Clause) → MayBePrinted s clauses → AreKept Agree file before (inside_text clauses) tokens
    → IsAnnex (around before clauses after) tokens s found → AreShallow clauses

-- ---- declarations

annex_shallow : ClausesShallow → TokensStand → (bytes : List ℕ) (t : Token) (s : Site) (clauses found : List Clause) → IsAnnexOf bytes t → own bytes t ≡ annex_bytes clauses → MayBePrinted s clauses → IsStated bytes t s found
    → AreShallow clauses
annex_shallow shallow stand bytes t s clauses found a e may states =
    let at = placed stand bytes t clauses a e in
    let kept = subst (λ (z : List ℕ). AreKept Agree t.place.file at.before z states.tokens) at.inside
    (subst (λ (z : List ℕ). AreKept Agree t.place.file z (bytes_inside bytes t) states.tokens) at.front states.kept) in
    shallow s t.place.file at.before at.after clauses states.tokens found may kept (subst (λ (z : List ℕ). IsAnnex z states.tokens s found) (sym at.whole) states.read)

annexes_shallow : ClausesShallow → TokensStand → (bytes : List ℕ) (s : Site) (us ts : List Token) (clauses found : List Clause) → map (own bytes) us ≡ expected (is_any ts) clauses → NoneWithout ts clauses → MayBePrinted s clauses
    → AllByRecursion (IsOneOf bytes) (map (λ t. (t, s)) us) → AreAllStated bytes s us found → AreShallow clauses
annexes_shallow shallow stand bytes s us [] clauses found e none may of_file states = subst AreShallow (sym none) tt
annexes_shallow shallow stand bytes s [] (t ∷ ts) clauses found e none may of_file states = absurd cc
annexes_shallow shallow stand bytes s (u ∷ us) (t ∷ ts) clauses found e none may of_file states = annex_shallow shallow stand bytes u s clauses states.0 of_file.0 (heads e) may states.3

item_shallow : ClausesShallow → TokensStand → (bytes : List ℕ) (j i : Item) (clauses found : List Clause) → item_texts bytes j ≡ expected (is_any (item_annexes i)) clauses → bare_item j ≡ bare_item i → ItemMayState i clauses
    → AllByRecursion (IsOneOf bytes) (annexes_of_item j) → ItemStates bytes j found → AreShallow clauses
item_shallow shallow stand bytes j i clauses found e same may of_file states =
    annexes_shallow shallow stand bytes (item_site j) (item_annexes j) (item_annexes i) clauses found e may.none (subst (λ (z : Site). MayBePrinted z clauses) (same_site j i same) may.printable) of_file states

items_shallow : ClausesShallow → TokensStand → (bytes : List ℕ) (stated : List (List Clause)) (is js : List Item) (found : List (List Clause)) → map (item_texts bytes) js ≡ map expected_of (paired is stated)
    → map bare_item js ≡ map bare_item is → AllZip ItemMayState is stated → AllByRecursion (IsOneOf bytes) (flat_map annexes_of_item js) → AllZip (ItemStates bytes) js found → AllByRecursion AreShallow stated
items_shallow shallow stand bytes [] is js found e same may of_file states = tt
items_shallow shallow stand bytes (c ∷ stated) [] js found e same may of_file states = absurd may
items_shallow shallow stand bytes (c ∷ stated) (i ∷ is) [] found e same may of_file states = absurd cc
items_shallow shallow stand bytes (c ∷ stated) (i ∷ is) (j ∷ js) [] e same may of_file states = absurd states
items_shallow shallow stand bytes (c ∷ stated) (i ∷ is) (j ∷ js) (f ∷ found) e same may of_file states =
    let parts = in_two (IsOneOf bytes) (annexes_of_item j) (flat_map annexes_of_item js) of_file in
    (item_shallow shallow stand bytes j i c f (heads e) (heads same) may.0 parts.0 states.0, items_shallow shallow stand bytes stated is js found (tails e) (tails same) may.1 parts.1 states.1)

-- ---- packages

packages_shallow : ClausesShallow → TokensStand → (bytes : List ℕ) (stated : Stated) (ps qs : List Package) (found : Stated) → map (package_texts bytes) qs ≡ map expected_texts (paired ps stated) → map bare_package qs ≡ map bare_package ps
    → StatedMayBePrinted ps stated → AllByRecursion (IsOneOf bytes) (annexes_of_packages qs) → PackagesState bytes qs found → AllByRecursion (All AreShallow) stated
packages_shallow shallow stand bytes [] ps qs found e same may of_file states = tt
packages_shallow shallow stand bytes (s ∷ stated) [] qs found e same may of_file states = absurd may
packages_shallow shallow stand bytes (s ∷ stated) (p ∷ ps) [] found e same may of_file states = absurd cc
packages_shallow shallow stand bytes (s ∷ stated) (p ∷ ps) (q ∷ qs) [] e same may of_file states = absurd states
packages_shallow shallow stand bytes (s ∷ stated) (p ∷ ps) (q ∷ qs) (f ∷ found) e same may of_file states =
    let parts = in_two (IsOneOf bytes) (annexes_of_package q) (annexes_of_packages qs) of_file in
    let here : bare_package q ≡ bare_package p = heads same in
    let one = items_shallow shallow stand bytes s p.items q.items f (heads e) (ap (λ (z : Package). z.items) here) may.0 parts.0 states.0 in
    (All-from_recursion AreShallow s one, packages_shallow shallow stand bytes stated ps qs found (tails e) (tails same) may.1 parts.1 states.1)

-- ---- the law

pub shallow_where_stated : OneClausesText → ClausesShallow → TokensStand → AreOfFile → CanonicalSpells → OneTokens → OneFile → (file : ℕ) (packages : List Package) (stated : Stated) (tokens : List Token) (found : List Package)
    (found_stated : Stated) → IsTrue (are_printable packages) → StatedMayBePrinted packages stated → AreKept Aadl file [] (canonical_text packages stated) tokens → IsFile (canonical_text packages stated) tokens found
    → PackagesState (canonical_text packages stated) found found_stated → AllShallow stated
shallow_where_stated one shallow stand of_file spells one_tokens one_file file ps stated tokens found found_stated h may kept read states =
    let again = read_again one spells file ps stated h may in
    let bytes = canonical_text ps stated in
    let same_tokens : tokens ≡ again.tokens = one_tokens Aadl file [] bytes tokens again.tokens kept.read again.reread.kept.read in
    let same : found ≡ again.found = one_file bytes again.tokens found again.found (subst (λ (z : List Token). IsFile bytes z found) same_tokens read) again.reread.read in
    let annexes = recursion_from_All (IsOneOf bytes) (annexes_of_packages again.found) (of_file file bytes again.tokens again.found again.reread.kept again.reread.read) in
    All-from_recursion (All AreShallow) stated
    (packages_shallow shallow stand bytes stated ps again.found found_stated again.texts again.reread.same may annexes (subst (λ (z : List Package). PackagesState bytes z found_stated) same states))
