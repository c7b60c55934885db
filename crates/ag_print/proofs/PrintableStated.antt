-- What the annexes of a file state may be printed.
use Rattle.std.proofs.Common.{◌≡◌, ◌<◌, ℕ, zero, suc, Bool, true, List, [], ◌∷◌, ◌++◌, length, take, refl, sym, subst, ◌∙◌, inl, inr, arith}
use Rattle.std.specs.List.{All, AllZip, list_all}
use Rattle.std.specs.Str.{IsUtf8}
use Rattle.std.proofs.lemmas.Bool.{both_ways, cases_Bool, cases_lt, cases_order, and_from}
use Rattle.std.proofs.lemmas.List.{nil_from_length, take_all}
use Rattle.std.proofs.lemmas.List.Elements.{All-head, All-tail}
use Rattle.std.proofs.lemmas.List.Folds.{list_all-append}
use Rattle.std.proofs.lemmas.Str.{IsUtf8-nil, IsUtf8-from_is_utf8, is_utf8-from_IsUtf8}
use Rattle.ag_base.specs.declared.place.Rule.TheVariants.{NotUtf8}
use Rattle.ag_lex.specs.declared.token.Language.TheVariants.{Aadl}
use Rattle.ag_lex.specs.declared.token.Token.{Token}
use Rattle.ag_lex.specs.Answers.{AreKept, IsAnnexOf}
use Rattle.ag_lex.specs.Rules.{KeepsRules}
use Rattle.ag_aadl.specs.declared.packages.Item.{Item}
use Rattle.ag_aadl.specs.declared.packages.Package.{Package}
use Rattle.ag_aadl.specs.Files.{IsFile}
use Rattle.ag_terms.specs.declared.clauses.Clause.{Clause}
use Rattle.ag_terms.specs.declared.clauses.Site.{Site}
use Rattle.ag_annex.specs.Annexes.{AreAnnexTokens, IsAnnex}
use Rattle.ag_unparse.specs.Printable.{AreLabelsText, is_printable_clause, may_stand}
use Rattle.ag_unparse.specs.Rereading.{MayBePrinted}
use Rattle.ag_print.specs.Annexes.{Stated, IsStated, AreAllStated, ItemStates, PackageStates, PackagesState, item_annexes, item_site}
use Rattle.ag_print.specs.Printable.{NoneWithout, ItemMayState, PackageMayState, StatedMayBePrinted}
use Rattle.ag_print.proofs.AnnexItems.{ItemHas, PackageHas, file_has}

-- ---- clauses

-- clauses that may be printed, and whose labels are text
record AreFit (s : Site) (clauses : List Clause) : Type 0 where
  may : MayBePrinted s clauses
  labels : AreLabelsText clauses

none_fit : (s : Site) → AreFit s []
none_fit s = record { may = record { printable = refl; placed = refl }; labels = tt }

labels_joined : (own more : List Clause) → AreLabelsText own → AreLabelsText more → AreLabelsText (own ++ more)
labels_joined [] more h g = g
labels_joined (c ∷ own) more h g = (h.0, labels_joined own more h.1 g)

all_joined : (test : Clause → Bool) (own more : List Clause) → list_all test own ≡ true → list_all test more ≡ true → list_all test (own ++ more) ≡ true
all_joined test own more h g = list_all-append test own more ∙ and_from (list_all test own) (list_all test more) h g

fit_joined : (s : Site) (own more : List Clause) → AreFit s own → AreFit s more → AreFit s (own ++ more)
fit_joined s own more h g = record {
  may = record {
    printable = all_joined is_printable_clause own more h.may.printable g.may.printable;
    placed = all_joined (may_stand s) own more h.may.placed g.may.placed;
  };
  labels = labels_joined own more h.labels g.labels;
}

-- ---- what annexes state

-- the clauses of an annex may be printed, and their labels are text where its file is
abbrev pub AnnexesMayBePrinted : Type 0
AnnexesMayBePrinted = (bytes : List ℕ) (tokens : List Token) (site : Site) (clauses : List Clause) → AreAnnexTokens bytes tokens → IsAnnex bytes tokens site clauses → MayBePrinted site clauses

abbrev pub LabelsAreText : Type 0
LabelsAreText = (bytes : List ℕ) (tokens : List Token) (site : Site) (clauses : List Clause) → IsUtf8 bytes → AreAnnexTokens bytes tokens → IsAnnex bytes tokens site clauses → AreLabelsText clauses

-- a file that breaks no rule is UTF-8
abbrev pub FilesAreText : Type 0
FilesAreText = (bytes : List ℕ) → KeepsRules Aadl bytes → IsUtf8 bytes

-- those of one annex, of several one behind the other, of a declaration, of a package
one_fit : AnnexesMayBePrinted → LabelsAreText → (bytes : List ℕ) → IsUtf8 bytes → (s : Site) (annex : Token) (clauses : List Clause) → IsAnnexOf bytes annex → IsStated bytes annex s clauses → AreFit s clauses
one_fit may text bytes utf8 s annex clauses among stated =
    let tokens : AreAnnexTokens bytes stated.tokens = record { annex = annex; among = among; kept = stated.kept } in
    record { may = may bytes stated.tokens s clauses tokens stated.read; labels = text bytes stated.tokens s clauses utf8 tokens stated.read }

all_fit : AnnexesMayBePrinted → LabelsAreText → (bytes : List ℕ) → IsUtf8 bytes → (s : Site) (annexes : List Token) (clauses : List Clause) → All (IsAnnexOf bytes) annexes → AreAllStated bytes s annexes clauses → AreFit s clauses
all_fit may text bytes utf8 s [] clauses among stated = subst (AreFit s) (sym stated) (none_fit s)
all_fit may text bytes utf8 s (annex ∷ annexes) clauses among stated =
    let first = one_fit may text bytes utf8 s annex stated.0 (All-head (IsAnnexOf bytes) annex annexes among) stated.3 in
    let rest = all_fit may text bytes utf8 s annexes stated.1 (All-tail (IsAnnexOf bytes) annex annexes among) stated.4 in
    subst (AreFit s) (sym stated.2) (fit_joined s stated.0 stated.1 first rest)

none_without : (bytes : List ℕ) (s : Site) (annexes : List Token) (clauses : List Clause) → AreAllStated bytes s annexes clauses → NoneWithout annexes clauses
none_without bytes s [] clauses stated = stated
none_without bytes s (annex ∷ annexes) clauses stated = tt

item_may : AnnexesMayBePrinted → LabelsAreText → (bytes : List ℕ) → IsUtf8 bytes → (i : Item) (clauses : List Clause) → ItemHas (IsAnnexOf bytes) i → ItemStates bytes i clauses → ItemMayState i clauses
item_may may text bytes utf8 i clauses among stated =
    let fit = all_fit may text bytes utf8 (item_site i) (item_annexes i) clauses among stated in
    record { printable = fit.may; labels = fit.labels; none = none_without bytes (item_site i) (item_annexes i) clauses stated }

-- side by side
both_lists : {A B : Type 0} (P : A → Type 0) (R S : A → B → Type 0) → ((x : A) (y : B) → P x → R x y → S x y) → (xs : List A) (ys : List B) → All P xs → AllZip R xs ys → AllZip S xs ys
both_lists P R S holds [] [] all zip = tt
both_lists P R S holds [] (y ∷ ys) all zip = absurd zip
both_lists P R S holds (x ∷ xs) [] all zip = absurd zip
both_lists P R S holds (x ∷ xs) (y ∷ ys) all zip = (holds x y (All-head P x xs all) zip.0, both_lists P R S holds xs ys (All-tail P x xs all) zip.1)

package_may : AnnexesMayBePrinted → LabelsAreText → (bytes : List ℕ) → IsUtf8 bytes → (p : Package) (stated : List (List Clause)) → PackageHas (IsAnnexOf bytes) p → PackageStates bytes p stated → PackageMayState p stated
package_may may text bytes utf8 p stated among states = both_lists (ItemHas (IsAnnexOf bytes)) (ItemStates bytes) ItemMayState (item_may may text bytes utf8) p.items stated among states

-- what the annexes of a file state may be printed
pub stated_may_be_printed : AnnexesMayBePrinted → LabelsAreText → FilesAreText → (file : ℕ) (bytes : List ℕ) (tokens : List Token) (packages : List Package) (stated : Stated) → AreKept Aadl file [] bytes tokens → IsFile bytes tokens packages → PackagesState bytes packages stated
    → StatedMayBePrinted packages stated
stated_may_be_printed may text whole file bytes tokens packages stated kept read states =
    both_lists (PackageHas (IsAnnexOf bytes)) (PackageStates bytes) PackageMayState (package_may may text bytes (whole bytes kept.kept)) packages stated (file_has file bytes tokens packages kept read) states
