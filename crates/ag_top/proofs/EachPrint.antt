-- The print of a text has an answer, since each step of it has one.
use Rattle.std.proofs.Common.{◌≡◌, ◌⊎◌, ℕ, List, [], ◌∷◌, ◌++◌, map, refl, ap, inl, inr}
use Rattle.std.specs.Prelude.{IsTrue}
use Rattle.std.specs.List.{All, AllZip, flat_map}
use Rattle.std.proofs.lemmas.List.Elements.{All-nil, All-cons, All-head, All-tail}
use Rattle.ag_base.specs.declared.place.Refusal.{Refusal}
use Rattle.ag_lex.specs.declared.token.Language.{Language}
use Rattle.ag_lex.specs.declared.token.Language.TheVariants.{Aadl, Agree}
use Rattle.ag_lex.specs.declared.token.Token.{Token}
use Rattle.ag_lex.specs.Answers.{AreKept, bytes_before, bytes_inside}
use Rattle.ag_lex.specs.Rules.{IsFirstBroken}
use Rattle.ag_aadl.specs.declared.packages.Package.{Package}
use Rattle.ag_aadl.specs.Files as files
use Rattle.ag_terms.specs.declared.clauses.Clause.{Clause}
use Rattle.ag_terms.specs.declared.clauses.Site.{Site}
use Rattle.ag_annex.specs.Annexes as annexes
use Rattle.ag_print.specs.Annexes.{Stated, AreAllStated, ItemStates, PackageStates, PackagesState, item_annexes, item_site, annexes_of_item, annexes_of_package, annexes_of_packages, HasTokens, StatesClauses, IsAnnexRefused}
use Rattle.ag_print.specs.Canonical.{canonical_text}
use Rattle.ag_print.specs.Printable.{are_printable, StatedMayBePrinted}
use Rattle.ag_print.specs.Printed.{AllShallow}
use Rattle.ag_print.specs.Rereading.{IsReread, AreStatedAgain}
use Rattle.ag_top.specs.Printing.{Declares, IsPrinted, IsPrintRefused}

-- what the laws of the steps say
pub record Laws : Type 0 where
  pub tokens : (l : Language) (file : ℕ) (before text : List ℕ) → ((tokens : List Token) × AreKept l file before text tokens) ⊎ ((r : Refusal) × IsFirstBroken l file before text r)
  pub packages : (bytes : List ℕ) (tokens : List Token) → ((packages : List Package) × files.IsFile bytes tokens packages) ⊎ ((r : Refusal) × files.IsFirstWrong bytes tokens r)
  pub clauses : (bytes : List ℕ) (tokens : List Token) (site : Site) → ((clauses : List Clause) × annexes.IsAnnex bytes tokens site clauses) ⊎ ((r : Refusal) × annexes.IsFirstWrong bytes tokens site r)
  pub printable : (file : ℕ) (bytes : List ℕ) (tokens : List Token) (packages : List Package) → AreKept Aadl file [] bytes tokens → files.IsFile bytes tokens packages → IsTrue (are_printable packages)
  pub stated : (file : ℕ) (bytes : List ℕ) (tokens : List Token) (packages : List Package) (stated : Stated) → AreKept Aadl file [] bytes tokens → files.IsFile bytes tokens packages → PackagesState bytes packages stated → StatedMayBePrinted packages stated
  pub again : (file : ℕ) (packages : List Package) (stated : Stated) → IsTrue (are_printable packages) → StatedMayBePrinted packages stated → (tokens : List Token) × (found : List Package) × IsReread file packages stated tokens found
  pub shallow : (file : ℕ) (packages : List Package) (stated : Stated) → IsTrue (are_printable packages) → StatedMayBePrinted packages stated → AllShallow stated → AreStatedAgain file packages stated

-- ---- lists

front_of : {X : Type 0} (P : X → Type 0) (xs ys : List X) → All P (xs ++ ys) → All P xs
front_of P [] ys all = All-nil P
front_of P (x ∷ xs) ys all = All-cons P x xs (All-head P x (xs ++ ys) all) (front_of P xs ys (All-tail P x (xs ++ ys) all))

rest_of : {X : Type 0} (P : X → Type 0) (xs ys : List X) → All P (xs ++ ys) → All P ys
rest_of P [] ys all = all
rest_of P (x ∷ xs) ys all = rest_of P xs ys (All-tail P x (xs ++ ys) all)

-- what each item of a list gives makes a list
zip_each : {A B C : Type 0} (P : C → Type 0) (f : A → List C) (R : A → B → Type 0) → ((x : A) → All P (f x) → (y : B) × R x y) → (xs : List A) → All P (flat_map f xs) → (ys : List B) × AllZip R xs ys
zip_each P f R each [] all = ([], tt)
zip_each P f R each (x ∷ xs) all =
    let own = each x (front_of P (f x) (flat_map f xs) all) in
    let more = zip_each P f R each xs (rest_of P (f x) (flat_map f xs) all) in
    (own.0 ∷ more.0, (own.1, more.1))

-- the first item that is bad, behind fine ones
abbrev HasBad : {X : Type 0} (Fine : X → Type 0) (Bad : X → Refusal → Type 0) → List X → Type 0
HasBad {X} Fine Bad xs = (before : List X) × (x : X) × (behind : List X) × (r : Refusal) × (xs ≡ before ++ x ∷ behind) × All Fine before × Bad x r

one_more_fine : {X : Type 0} (Fine : X → Type 0) (Bad : X → Refusal → Type 0) (x : X) (xs : List X) → Fine x → All Fine xs ⊎ HasBad Fine Bad xs → All Fine (x ∷ xs) ⊎ HasBad Fine Bad (x ∷ xs)
one_more_fine Fine Bad x xs fine (inl all) = inl (All-cons Fine x xs fine all)
one_more_fine {X} Fine Bad x xs fine (inr b) = inr (x ∷ b.0, b.1, b.2, b.3, ap (λ (ys : List X). x ∷ ys) b.4, All-cons Fine x b.0 fine b.5, b.6)

-- where each item that has something is fine or bad, all are fine or one is the first bad one
first_bad : {X : Type 0} (Has Fine : X → Type 0) (Bad : X → Refusal → Type 0) → ((x : X) → Has x → Fine x ⊎ ((r : Refusal) × Bad x r)) → (xs : List X) → All Has xs → All Fine xs ⊎ HasBad Fine Bad xs
first_bad Has Fine Bad either [] has = inl (All-nil Fine)
first_bad {X} Has Fine Bad either (x ∷ xs) has = by (either x (All-head Has x xs has)) (first_bad Has Fine Bad either xs (All-tail Has x xs has))
  where
    by : Fine x ⊎ ((r : Refusal) × Bad x r) → All Fine xs ⊎ HasBad Fine Bad xs → All Fine (x ∷ xs) ⊎ HasBad Fine Bad (x ∷ xs)
    by (inl fine) rest = one_more_fine Fine Bad x xs fine rest
    by (inr b) rest = inr ([], x, xs, b.0, refl, All-nil Fine, b.1)

all_have : {X : Type 0} (xs : List X) → All (λ (x : X). Unit {0}) xs
all_have [] = All-nil (λ x. Unit {0})
all_have (x ∷ xs) = All-cons (λ y. Unit {0}) x xs tt (all_have xs)

-- ---- annexes

all_stated : (bytes : List ℕ) (s : Site) (ts : List Token) → All (StatesClauses bytes) (map (λ t. (t, s)) ts) → (clauses : List Clause) × AreAllStated bytes s ts clauses
all_stated bytes s [] all = ([], refl)
all_stated bytes s (t ∷ ts) all =
    let own = All-head (StatesClauses bytes) (t, s) (map (λ t. (t, s)) ts) all in
    let more = all_stated bytes s ts (All-tail (StatesClauses bytes) (t, s) (map (λ t. (t, s)) ts) all) in
    (own.0 ++ more.0, (own.0, more.0, refl, own.1, more.1))

packages_state : (bytes : List ℕ) (packages : List Package) → All (StatesClauses bytes) (annexes_of_packages packages) → (stated : Stated) × PackagesState bytes packages stated
packages_state bytes packages all =
    zip_each (StatesClauses bytes) annexes_of_package (PackageStates bytes)
    (λ p. zip_each (StatesClauses bytes) annexes_of_item (ItemStates bytes) (λ i. all_stated bytes (item_site i) (item_annexes i)) p.items) packages all

-- the annex breaks a rule of tokens, and this is its first
abbrev BreaksTokens : List ℕ → Token × Site → Refusal → Type 0
BreaksTokens bytes a r = IsFirstBroken Agree a.0.place.file (bytes_before bytes a.0) (bytes_inside bytes a.0) r

-- the annex breaks none, and this is the first broken rule of its clauses
abbrev BreaksClauses : List ℕ → Token × Site → Refusal → Type 0
BreaksClauses bytes a r = (tokens : List Token) × AreKept Agree a.0.place.file (bytes_before bytes a.0) (bytes_inside bytes a.0) tokens × annexes.IsFirstWrong bytes tokens a.1 r

has_tokens : Laws → (bytes : List ℕ) (a : Token × Site) → HasTokens bytes a ⊎ ((r : Refusal) × BreaksTokens bytes a r)
has_tokens laws bytes a = laws.tokens Agree a.0.place.file (bytes_before bytes a.0) (bytes_inside bytes a.0)

states_clauses : Laws → (bytes : List ℕ) (a : Token × Site) → HasTokens bytes a → StatesClauses bytes a ⊎ ((r : Refusal) × BreaksClauses bytes a r)
states_clauses laws bytes a has =
    elim (laws.clauses bytes has.0 a.1) [
      | inl c ↦ inl (c.0, record { tokens = has.0; kept = has.1; read = c.1 })
      | inr w ↦ inr (w.0, (has.0, has.1, w.1))
    ]

-- what the annexes of packages state, or their refusal
annexes_either : Laws → (bytes : List ℕ) (packages : List Package) → ((stated : Stated) × PackagesState bytes packages stated) ⊎ ((r : Refusal) × IsAnnexRefused bytes packages r)
annexes_either laws bytes packages = by_tokens (first_bad (λ a. Unit {0}) (HasTokens bytes) (BreaksTokens bytes) (λ a u. has_tokens laws bytes a) (annexes_of_packages packages) (all_have (annexes_of_packages packages)))
  where
    by_clauses : All (HasTokens bytes) (annexes_of_packages packages) → All (StatesClauses bytes) (annexes_of_packages packages) ⊎ HasBad (StatesClauses bytes) (BreaksClauses bytes) (annexes_of_packages packages)
        → ((stated : Stated) × PackagesState bytes packages stated) ⊎ ((r : Refusal) × IsAnnexRefused bytes packages r)
    by_clauses fine (inl all) = inl (packages_state bytes packages all)
    by_clauses fine (inr b) = inr (b.3, inr record { fine = fine; before = b.0; annex = b.1; behind = b.2; order = b.4; stated = b.5; tokens = b.6.0; kept = b.6.1; wrong = b.6.2 })

    by_tokens : All (HasTokens bytes) (annexes_of_packages packages) ⊎ HasBad (HasTokens bytes) (BreaksTokens bytes) (annexes_of_packages packages)
        → ((stated : Stated) × PackagesState bytes packages stated) ⊎ ((r : Refusal) × IsAnnexRefused bytes packages r)
    by_tokens (inl fine) = by_clauses fine (first_bad (HasTokens bytes) (StatesClauses bytes) (BreaksClauses bytes) (states_clauses laws bytes) (annexes_of_packages packages) fine)
    by_tokens (inr b) = inr (b.3, inl record { before = b.0; annex = b.1; behind = b.2; order = b.4; fine = b.5; broken = b.6 })

-- ---- the text

-- what a print answers
abbrev pub Answered : List ℕ → Type 0
Answered text = ((printed : List ℕ) × IsPrinted text printed) ⊎ ((r : Refusal) × IsPrintRefused text r)

printed_by : Laws → (text : List ℕ) (packages : List Package) → Declares text packages → ((stated : Stated) × PackagesState text packages stated) ⊎ ((r : Refusal) × IsAnnexRefused text packages r) → Answered text
printed_by laws text packages d (inl s) =
    let printable = laws.printable 0 text d.tokens packages d.kept d.file in
    let may = laws.stated 0 text d.tokens packages s.0 d.kept d.file s.1 in
    inl (
      canonical_text packages s.0,
      record {
        packages = packages;
        declared = d;
        stated = s.0;
        states = s.1;
        canonical = record { told = refl; again = λ file. laws.again file packages s.0 printable may; clauses = λ shallow file. laws.shallow file packages s.0 printable may shallow };
      },
    )
printed_by laws text packages d (inr b) = inr (b.0, inr (inr record { packages = packages; declared = d; refused = b.1 }))

declared_by : Laws → (text : List ℕ) (tokens : List Token) → AreKept Aadl 0 [] text tokens → ((packages : List Package) × files.IsFile text tokens packages) ⊎ ((r : Refusal) × files.IsFirstWrong text tokens r) → Answered text
declared_by laws text tokens kept (inl p) = printed_by laws text p.0 record { tokens = tokens; kept = kept; file = p.1 } (annexes_either laws text p.0)
declared_by laws text tokens kept (inr w) = inr (w.0, inr (inl record { tokens = tokens; kept = kept; wrong = w.1 }))

answered_by : Laws → (text : List ℕ) → ((tokens : List Token) × AreKept Aadl 0 [] text tokens) ⊎ ((r : Refusal) × IsFirstBroken Aadl 0 [] text r) → Answered text
answered_by laws text (inl t) = declared_by laws text t.0 t.1 (laws.packages text t.0)
answered_by laws text (inr b) = inr (b.0, inl b.1)

-- each text has a canonical text or gets a refusal
pub each_answered : Laws → (text : List ℕ) → Answered text
each_answered laws text = answered_by laws text (laws.tokens Aadl 0 [] text)
