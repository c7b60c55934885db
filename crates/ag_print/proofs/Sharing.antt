-- Each declaration takes its share of what all annexes state.
use Rattle.std.proofs.Common.{◌≡◌, ℕ, ◌+◌, ◌<◌, List, [], ◌∷◌, ◌++◌, length, get_or, take, drop, map, refl, sym, ap, subst, ◌∙◌}
use Rattle.std.specs.List.{AllZip, flat_map}
use Rattle.std.proofs.lemmas.List.{append_assoc, drop_more}
use Rattle.ag_lex.specs.declared.token.Token.{Token}
use Rattle.ag_aadl.specs.declared.packages.Item.{Item}
use Rattle.ag_aadl.specs.declared.packages.Package.{Package}
use Rattle.ag_terms.specs.declared.clauses.Clause.{Clause}
use Rattle.ag_terms.specs.declared.clauses.Site.{Site}
use Rattle.ag_print.specs.Annexes.{AreAllStated, ItemStates, PackagesState, item_annexes, item_site, annexes_of_item, annexes_of_packages}
use Rattle.ag_print.specs.Canonical.{item_lines, items_lines, package_lines, canonical_lines}
use Rattle.ag_print.specs.Shares.{StatesThese, joined, item_share, behind_item, items_share, behind_items, shares}
use Rattle.ag_print.specs.Written.{Written, with_lines}
use Rattle.ag_print.proofs.Writing.{lines_more}

-- ---- one more declaration, and one more package

pub items_behind : (items : List Item) (i : ℕ) (item : Item) (rest behind last : List (List Clause)) → i < length items → item ≡ get_or items i item → behind ≡ drop (length (item_annexes item)) rest
    → behind_items (drop i items) rest ≡ last → behind_items (drop (i + 1) items) behind ≡ last
items_behind items i item rest behind last lt is after so_far =
    let split : drop i items ≡ item ∷ drop (i + 1) items = drop_more items i item lt ∙ ap (λ z. z ∷ drop (i + 1) items) (sym is) in
    ap (behind_items (drop (i + 1) items)) after ∙ ap (λ z. behind_items z rest) (sym split) ∙ so_far

pub items_written : (items : List Item) (i : ℕ) (item : Item) (rest own behind : List (List Clause)) (s t whole : Written) → i < length items → item ≡ get_or items i item
    → own ≡ take (length (item_annexes item)) rest → behind ≡ drop (length (item_annexes item)) rest → t ≡ with_lines s (item_lines item (joined own))
    → with_lines s (items_lines (drop i items) (items_share (drop i items) rest)) ≡ whole → with_lines t (items_lines (drop (i + 1) items) (items_share (drop (i + 1) items) behind)) ≡ whole
items_written items i item rest own behind s t whole lt is first after added so_far =
    let more = drop (i + 1) items in
    let split : drop i items ≡ item ∷ more = drop_more items i item lt ∙ ap (λ z. z ∷ more) (sym is) in
    let here : t ≡ with_lines s (item_lines item (item_share item rest)) = added ∙ ap (λ z. with_lines s (item_lines item (joined z))) first in
    ap (λ z. with_lines t (items_lines more (items_share more z))) after ∙ ap (λ z. with_lines z (items_lines more (items_share more (behind_item item rest)))) here
    ∙ sym (lines_more s (item_lines item (item_share item rest)) (items_lines more (items_share more (behind_item item rest))))
    ∙ ap (λ z. with_lines s (items_lines z (items_share z rest))) (sym split) ∙ so_far

pub packages_written : (packages : List Package) (i : ℕ) (p : Package) (rest behind : List (List Clause)) (s t whole : Written) → i < length packages → p ≡ get_or packages i p
    → behind ≡ behind_items p.items rest → t ≡ with_lines s (package_lines p (items_share p.items rest))
    → with_lines s (canonical_lines (drop i packages) (shares (drop i packages) rest)) ≡ whole → with_lines t (canonical_lines (drop (i + 1) packages) (shares (drop (i + 1) packages) behind)) ≡ whole
packages_written packages i p rest behind s t whole lt is after added so_far =
    let more = drop (i + 1) packages in
    let split : drop i packages ≡ p ∷ more = drop_more packages i p lt ∙ ap (λ z. z ∷ more) (sym is) in
    ap (λ z. with_lines t (canonical_lines more (shares more z))) after ∙ ap (λ z. with_lines z (canonical_lines more (shares more (behind_items p.items rest)))) added
    ∙ sym (lines_more s (package_lines p (items_share p.items rest)) (canonical_lines more (shares more (behind_items p.items rest))))
    ∙ ap (λ z. with_lines s (canonical_lines z (shares z rest))) (sym split) ∙ so_far

-- ---- the shares are what the declarations' annexes state

parted : (bytes : List ℕ) (s : Site) (ts : List Token) (others : List (Token × Site)) (clauses : List (List Clause)) → AllZip (StatesThese bytes) (map (λ t. (t, s)) ts ++ others) clauses
    → AreAllStated bytes s ts (joined (take (length ts) clauses)) × AllZip (StatesThese bytes) others (drop (length ts) clauses)
parted bytes s [] others clauses all = (refl, all)
parted bytes s (t ∷ ts) others [] all = absurd all
parted bytes s (t ∷ ts) others (c ∷ cs) all =
    let rest = parted bytes s ts others cs all.1 in
    ((c, joined (take (length ts) cs), refl, all.0, rest.0), rest.1)

items_parted : (bytes : List ℕ) (items : List Item) (others : List (Token × Site)) (clauses : List (List Clause)) → AllZip (StatesThese bytes) (flat_map annexes_of_item items ++ others) clauses
    → AllZip (ItemStates bytes) items (items_share items clauses) × AllZip (StatesThese bytes) others (behind_items items clauses)
items_parted bytes [] others clauses all = (tt, all)
items_parted bytes (i ∷ items) others clauses all =
    let grouped = subst (λ (z : List (Token × Site)). AllZip (StatesThese bytes) z clauses) (append_assoc (annexes_of_item i) (flat_map annexes_of_item items) others) all in
    let first = parted bytes (item_site i) (item_annexes i) (flat_map annexes_of_item items ++ others) clauses grouped in
    let rest = items_parted bytes items others (behind_item i clauses) first.1 in
    ((first.0, rest.0), rest.1)

pub shares_are_stated : (bytes : List ℕ) (packages : List Package) (clauses : List (List Clause)) → AllZip (StatesThese bytes) (annexes_of_packages packages) clauses → PackagesState bytes packages (shares packages clauses)
shares_are_stated bytes [] clauses all = tt
shares_are_stated bytes (p ∷ packages) clauses all =
    let first = items_parted bytes p.items (annexes_of_packages packages) clauses all in
    (first.0, shares_are_stated bytes packages (behind_items p.items clauses) first.1)
