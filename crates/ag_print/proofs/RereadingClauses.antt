-- The annexes of canonical text state the same clauses.
use Rattle.std.proofs.Common.{◌≡◌, ℕ, ◌+◌, ◌-◌, List, [], ◌∷◌, ◌++◌, length, take, map, refl, sym, ap, subst, ◌∙◌, arith, IsTrue}
use Rattle.std.specs.Prelude.{codes, slice_range, Contains}
use Rattle.std.specs.List.{All, AllByRecursion, AllZip, flat_map}
use Rattle.std.proofs.lemmas.List.{append_assoc, append-nil, length-append, take_at}
use Rattle.std.proofs.lemmas.List.Elements.{All-head, All-tail, recursion_from_All}
use Rattle.ag_lex.specs.declared.token.Language.{Language}
use Rattle.ag_lex.specs.declared.token.Language.TheVariants.{Aadl, Agree}
use Rattle.ag_lex.specs.declared.token.Token.{Token}
use Rattle.ag_lex.specs.Answers.{AreKept, IsAnnexOf, bytes_before, bytes_inside}
use Rattle.ag_lex.specs.Tokens.{AreTokens, StandsIn}
use Rattle.ag_aadl.specs.declared.packages.Item.{Item}
use Rattle.ag_aadl.specs.declared.packages.Item.TheVariants as item
use Rattle.ag_aadl.specs.declared.packages.Package.{Package}
use Rattle.ag_aadl.specs.Files.{IsFile}
use Rattle.ag_aadl.specs.Marked.{own}
use Rattle.ag_terms.specs.declared.clauses.Clause.{Clause}
use Rattle.ag_terms.specs.declared.clauses.Site.{Site}
use Rattle.ag_annex.specs.Annexes.{IsAnnex}
use Rattle.ag_unparse.specs.Canonical.{inside_text}
use Rattle.ag_unparse.specs.Depth.{AreShallow}
use Rattle.ag_unparse.specs.Rereading.{MayBePrinted, AreReread, around}
use Rattle.ag_unparse.specs.Same.{bare_clause, SameClauses}
use Rattle.ag_print.specs.Annexes.{Stated, IsStated, AreAllStated, ItemStates, PackagesState, item_annexes, item_site, annexes_of_item, annexes_of_package, annexes_of_packages}
use Rattle.ag_print.specs.Canonical.{annex_bytes, canonical_text}
use Rattle.ag_print.specs.Printable.{are_printable, NoneWithout, ItemMayState, StatedMayBePrinted}
use Rattle.ag_print.specs.Printed.{AllShallow}
use Rattle.ag_print.specs.Rereading.{AreStatedAgain}
use Rattle.ag_print.specs.Same.{bare_item, bare_package, is_any, SameStated}
use Rattle.ag_print.specs.Shares.{IsOneOf}
use Rattle.ag_print.proofs.Lines.{stands_at}
use Rattle.ag_print.proofs.RereadingAgain.{OneClausesText, heads, tails}
use Rattle.ag_print.proofs.RereadingAnnexes.{item_texts, package_texts, expected, expected_of, expected_texts}
use Rattle.ag_print.proofs.RereadingLines.{paired}
use Rattle.ag_print.proofs.RereadingSeen.{two}
use Rattle.ag_print.proofs.RereadingWhole.{CanonicalSpells, read_again}

-- what the laws say
abbrev pub ClausesReread : Type 0
ClausesReread = (s : Site) (file : ℕ) (before after : List ℕ) (clauses : List Clause) → MayBePrinted s clauses → AreShallow clauses → (tokens : List Token) × (found : List Clause) × AreReread s file before after clauses tokens found

abbrev pub TokensStand : Type 0
TokensStand = (l : Language) (file : ℕ) (before text : List ℕ) (tokens : List Token) (token : Token) → AreTokens l file before text tokens → Contains tokens token → StandsIn l file before text token

abbrev pub AreOfFile : Type 0
AreOfFile = (file : ℕ) (bytes : List ℕ) (tokens : List Token) (packages : List Package) → AreKept Aadl file [] bytes tokens → IsFile bytes tokens packages → All (IsOneOf bytes) (annexes_of_packages packages)

-- ---- one annex

-- an annex with these clauses' text between its marks, and where it stands
pub record Placed (bytes : List ℕ) (t : Token) (clauses : List Clause) : Type 0 where
  pub before : List ℕ
  pub after : List ℕ
  pub whole : around before clauses after ≡ bytes
  pub front : bytes_before bytes t ≡ before
  pub inside : bytes_inside bytes t ≡ inside_text clauses

regroup : (front inside after : List ℕ) → (front ++ codes "{**") ++ (inside ++ (codes "**}" ++ after)) ≡ front ++ ((codes "{**" ++ (inside ++ codes "**}")) ++ after)
regroup front inside after = simp append_assoc

placed_at : (bytes front inside after : List ℕ) (start end : ℕ) (clauses : List Clause) → inside ≡ inside_text clauses → start ≡ length front → end ≡ length front + length (annex_bytes clauses) → bytes ≡ front ++ (annex_bytes clauses ++ after)
    → (take (start + 3) bytes ≡ front ++ codes "{**") × (slice_range bytes (start + 3) (end - 3) ≡ inside_text clauses)
placed_at bytes front inside after start end clauses same s e parts =
    let text = inside_text clauses in
    let before = front ++ codes "{**" in
    let rest = text ++ (codes "**}" ++ after) in
    let whole : bytes ≡ before ++ rest = parts ∙ sym (regroup front text after) in
    let size : length before ≡ length front + 3 = length-append front (codes "{**") in
    let inner : length (text ++ codes "**}") ≡ length text + 3 = length-append text (codes "**}") in
    let long : length (annex_bytes clauses) ≡ 3 + length (text ++ codes "**}") = length-append (codes "{**") (text ++ codes "**}") in
    let first : start + 3 ≡ length before = omega arith in
    let last : end - 3 ≡ length before + length text = omega arith in (
      ap (λ (n : ℕ). take n bytes) first ∙ ap (take (length before)) whole ∙ take_at before rest (length before) refl,
      two (λ (n m : ℕ). slice_range bytes n m) first last ∙ stands_at bytes before text (codes "**}" ++ after) whole,
    )

pub placed : TokensStand → (bytes : List ℕ) (t : Token) (clauses : List Clause) → IsAnnexOf bytes t → own bytes t ≡ annex_bytes clauses → Placed bytes t clauses
placed stand bytes t clauses a e =
    let s = stand Aadl a.file [] bytes a.tokens t a.read a.among in
    let start : t.start ≡ length s.front = ap (λ (z : Token). z.start) s.is in
    let end : t.end ≡ length s.front + length s.own = ap (λ (z : Token). z.end) s.is in
    let same : s.own ≡ annex_bytes clauses = sym (two (λ (n m : ℕ). slice_range bytes n m) start end ∙ stands_at bytes s.front s.own s.after s.parts) ∙ e in
    let parts : bytes ≡ s.front ++ (annex_bytes clauses ++ s.after) = s.parts ∙ ap (λ (z : List ℕ). s.front ++ (z ++ s.after)) same in
    let sized : t.end ≡ length s.front + length (annex_bytes clauses) = end ∙ ap (λ (z : List ℕ). length s.front + length z) same in
    let at = placed_at bytes s.front (inside_text clauses) s.after t.start t.end clauses refl start sized parts in
    record {
      before = s.front ++ codes "{**";
      after = codes "**}" ++ s.after;
      whole = regroup s.front (inside_text clauses) s.after ∙ sym parts;
      front = at.0;
      inside = at.1;
    }

annex_stated : ClausesReread → TokensStand → (bytes : List ℕ) (t : Token) (s : Site) (clauses : List Clause) → IsAnnexOf bytes t → own bytes t ≡ annex_bytes clauses → MayBePrinted s clauses → AreShallow clauses
    → (found : List Clause) × IsStated bytes t s found × SameClauses found clauses
annex_stated reread stand bytes t s clauses a e may shallow =
    let at = placed stand bytes t clauses a e in
    let again = reread s t.place.file at.before at.after clauses may shallow in
    let kept = subst (λ (z : List ℕ). AreKept Agree t.place.file z (bytes_inside bytes t) again.0) (sym at.front)
    (subst (λ (z : List ℕ). AreKept Agree t.place.file at.before z again.0) (sym at.inside) again.2.kept) in
    (again.1, record { tokens = again.0; kept = kept; read = subst (λ (z : List ℕ). IsAnnex z again.0 s again.1) at.whole again.2.read }, again.2.same)

-- ---- declarations

abbrev OneStates : List ℕ → Site → List Token → List Clause → Type 0
OneStates bytes s ts clauses = (found : List Clause) × AreAllStated bytes s ts found × SameClauses found clauses

annexes_stated : ClausesReread → TokensStand → (bytes : List ℕ) (s : Site) (us ts : List Token) (clauses : List Clause) → map (own bytes) us ≡ expected (is_any ts) clauses → NoneWithout ts clauses → MayBePrinted s clauses → AreShallow clauses
    → AllByRecursion (IsOneOf bytes) (map (λ t. (t, s)) us) → OneStates bytes s us clauses
annexes_stated reread stand bytes s [] [] clauses e none may shallow of_file = ([], refl, ap (map bare_clause) (sym none))
annexes_stated reread stand bytes s [] (t ∷ ts) clauses e none may shallow of_file = absurd cc
annexes_stated reread stand bytes s (u ∷ us) [] clauses e none may shallow of_file = absurd cc
annexes_stated reread stand bytes s (u ∷ []) (t ∷ ts) clauses e none may shallow of_file =
    let one = annex_stated reread stand bytes u s clauses of_file.0 (heads e) may shallow in
    (one.0, (one.0, [], sym (append-nil one.0), one.1, refl), one.2)
annexes_stated reread stand bytes s (u ∷ v ∷ us) (t ∷ ts) clauses e none may shallow of_file =
    let more : own bytes v ∷ map (own bytes) us ≡ [] = tails e in
    absurd cc

site_same : (i : Item) → item_site (bare_item i) ≡ item_site i
site_same (item.Frame f) = refl
site_same (item.Body b) = refl
site_same (item.Library t) = refl

-- declarations that are the same have annexes of one site
pub same_site : (j i : Item) → bare_item j ≡ bare_item i → item_site i ≡ item_site j
same_site j i same = sym (sym (site_same j) ∙ ap item_site same ∙ site_same i)

item_stated : ClausesReread → TokensStand → (bytes : List ℕ) (j i : Item) (clauses : List Clause) → item_texts bytes j ≡ expected (is_any (item_annexes i)) clauses → bare_item j ≡ bare_item i → ItemMayState i clauses → AreShallow clauses
    → AllByRecursion (IsOneOf bytes) (annexes_of_item j) → (found : List Clause) × ItemStates bytes j found × SameClauses found clauses
item_stated reread stand bytes j i clauses e same may shallow of_file =
    annexes_stated reread stand bytes (item_site j) (item_annexes j) (item_annexes i) clauses e may.none (subst (λ (z : Site). MayBePrinted z clauses) (same_site j i same) may.printable) shallow of_file

pub in_two : {A : Type 0} (P : A → Type 0) (xs ys : List A) → AllByRecursion P (xs ++ ys) → AllByRecursion P xs × AllByRecursion P ys
in_two P [] ys all = (tt, all)
in_two P (x ∷ xs) ys all =
    let rest = in_two P xs ys all.1 in
    ((all.0, rest.0), rest.1)

abbrev ItemsAgain : List ℕ → List Item → List (List Clause) → Type 0
ItemsAgain bytes js stated = (found : List (List Clause)) × AllZip (ItemStates bytes) js found × (map (map bare_clause) found ≡ map (map bare_clause) stated)

items_stated : ClausesReread → TokensStand → (bytes : List ℕ) (js is : List Item) (stated : List (List Clause)) → map (item_texts bytes) js ≡ map expected_of (paired is stated) → map bare_item js ≡ map bare_item is → AllZip ItemMayState is stated
    → All AreShallow stated → AllByRecursion (IsOneOf bytes) (flat_map annexes_of_item js) → ItemsAgain bytes js stated
items_stated reread stand bytes [] [] [] e same may shallow of_file = ([], tt, refl)
items_stated reread stand bytes [] [] (c ∷ stated) e same may shallow of_file = absurd may
items_stated reread stand bytes [] (i ∷ is) stated e same may shallow of_file = absurd cc
items_stated reread stand bytes (j ∷ js) [] stated e same may shallow of_file = absurd cc
items_stated reread stand bytes (j ∷ js) (i ∷ is) [] e same may shallow of_file = absurd may
items_stated reread stand bytes (j ∷ js) (i ∷ is) (c ∷ stated) e same may shallow of_file =
    let parts = in_two (IsOneOf bytes) (annexes_of_item j) (flat_map annexes_of_item js) of_file in
    let one = item_stated reread stand bytes j i c (heads e) (heads same) may.0 (All-head AreShallow c stated shallow) parts.0 in
    let more = items_stated reread stand bytes js is stated (tails e) (tails same) may.1 (All-tail AreShallow c stated shallow) parts.1 in
    (one.0 ∷ more.0, (one.1, more.1), two (λ (z : List Clause) (zs : List (List Clause)). z ∷ zs) one.2 more.2)

-- ---- packages

abbrev PackagesAgain : List ℕ → List Package → Stated → Type 0
PackagesAgain bytes found stated = (found_stated : Stated) × PackagesState bytes found found_stated × SameStated found_stated stated

packages_stated : ClausesReread → TokensStand → (bytes : List ℕ) (found ps : List Package) (stated : Stated) → map (package_texts bytes) found ≡ map expected_texts (paired ps stated) → map bare_package found ≡ map bare_package ps
    → StatedMayBePrinted ps stated → AllShallow stated → AllByRecursion (IsOneOf bytes) (annexes_of_packages found) → PackagesAgain bytes found stated
packages_stated reread stand bytes [] [] [] e same may shallow of_file = ([], tt, refl)
packages_stated reread stand bytes [] [] (s ∷ stated) e same may shallow of_file = absurd may
packages_stated reread stand bytes [] (p ∷ ps) stated e same may shallow of_file = absurd cc
packages_stated reread stand bytes (q ∷ qs) [] stated e same may shallow of_file = absurd cc
packages_stated reread stand bytes (q ∷ qs) (p ∷ ps) [] e same may shallow of_file = absurd may
packages_stated reread stand bytes (q ∷ qs) (p ∷ ps) (s ∷ stated) e same may shallow of_file =
    let parts = in_two (IsOneOf bytes) (annexes_of_package q) (annexes_of_packages qs) of_file in
    let here : bare_package q ≡ bare_package p = heads same in
    let one = items_stated reread stand bytes q.items p.items s (heads e) (ap (λ (z : Package). z.items) here) may.0 (All-head (All AreShallow) s stated shallow) parts.0 in
    let more = packages_stated reread stand bytes qs ps stated (tails e) (tails same) may.1 (All-tail (All AreShallow) s stated shallow) parts.1 in
    (one.0 ∷ more.0, (one.1, more.1), two (λ (z : List (List Clause)) (zs : Stated). z ∷ zs) one.2 more.2)

-- ---- the law

pub stated_again : OneClausesText → ClausesReread → TokensStand → AreOfFile → CanonicalSpells → (file : ℕ) (packages : List Package) (stated : Stated) → IsTrue (are_printable packages) → StatedMayBePrinted packages stated
    → AllShallow stated → AreStatedAgain file packages stated
stated_again one reread stand of_file spells file ps stated h may shallow =
    let again = read_again one spells file ps stated h may in
    let bytes = canonical_text ps stated in
    let annexes = recursion_from_All (IsOneOf bytes) (annexes_of_packages again.found) (of_file file bytes again.tokens again.found again.reread.kept again.reread.read) in
    let found = packages_stated reread stand bytes again.found ps stated again.texts again.reread.same may shallow annexes in
    record { tokens = again.tokens; found = again.found; reread = again.reread; found_stated = found.0; state = found.1; same = found.2 }
