-- What the annexes of packages state, and the refusal of the first that breaks a rule, are one.
use Rattle.std.proofs.Common.{◌≡◌, ℕ, List, [], ◌∷◌, ◌++◌, map, sym, subst, ◌∙◌, inl, inr}
use Rattle.std.specs.List.{All, AllZip, flat_map}
use Rattle.std.proofs.lemmas.List.Elements.{All-nil, All-cons, All-head, All-tail, All-append, All-weaker}
use Rattle.ag_base.specs.declared.place.Refusal.{Refusal}
use Rattle.ag_lex.specs.declared.token.Language.{Language}
use Rattle.ag_lex.specs.declared.token.Language.TheVariants.{Agree}
use Rattle.ag_lex.specs.declared.token.Token.{Token}
use Rattle.ag_lex.specs.Answers.{AreKept, bytes_before, bytes_inside}
use Rattle.ag_lex.specs.Rules.{IsFirstBroken}
use Rattle.ag_aadl.specs.declared.packages.Package.{Package}
use Rattle.ag_terms.specs.declared.clauses.Clause.{Clause}
use Rattle.ag_terms.specs.declared.clauses.Site.{Site}
use Rattle.ag_annex.specs.Annexes.{IsAnnex, IsFirstWrong}
use Rattle.ag_print.specs.Annexes.{Stated, IsStated, AreAllStated, ItemStates, PackageStates, PackagesState, item_annexes, item_site, annexes_of_item, annexes_of_package, annexes_of_packages, HasTokens, StatesClauses, IsTokenRefused, IsAnnexRefused}
use Rattle.ag_print.proofs.RereadingAgain.{heads, tails}
use Rattle.ag_print.proofs.RereadingWhole.{OneTokens}

-- what the laws on tokens and on clauses say
abbrev pub OneBroken : Type 0
OneBroken = (l : Language) (file : ℕ) (before text : List ℕ) (r s : Refusal) → IsFirstBroken l file before text r → IsFirstBroken l file before text s → r ≡ s

abbrev pub OneClauses : Type 0
OneClauses = (bytes : List ℕ) (tokens : List Token) (site : Site) (clauses others : List Clause) → IsAnnex bytes tokens site clauses → IsAnnex bytes tokens site others → clauses ≡ others

abbrev pub OneWrong : Type 0
OneWrong = (bytes : List ℕ) (tokens : List Token) (site : Site) (r s : Refusal) → IsFirstWrong bytes tokens site r → IsFirstWrong bytes tokens site s → r ≡ s

abbrev pub NoneWrong : Type 0
NoneWrong = (bytes : List ℕ) (tokens : List Token) (site : Site) (r : Refusal) (clauses : List Clause) → IsFirstWrong bytes tokens site r → IsAnnex bytes tokens site clauses → ⊥

-- ---- clauses

stated_once : OneTokens → OneClauses → (bytes : List ℕ) (t : Token) (s : Site) (a b : List Clause) → IsStated bytes t s a → IsStated bytes t s b → a ≡ b
stated_once tokens clauses bytes t s a b x y =
    clauses bytes x.tokens s a b x.read (subst (λ (z : List Token). IsAnnex bytes z s b) (tokens Agree t.place.file (bytes_before bytes t) (bytes_inside bytes t) y.tokens x.tokens y.kept.read x.kept.read) y.read)

all_once : OneTokens → OneClauses → (bytes : List ℕ) (s : Site) (ts : List Token) (a b : List Clause) → AreAllStated bytes s ts a → AreAllStated bytes s ts b → a ≡ b
all_once tokens clauses bytes s [] a b x y = x ∙ sym y
all_once tokens clauses bytes s (t ∷ ts) a b x y = cc (stated_once tokens clauses bytes t s x.0 y.0 x.3 y.3, all_once tokens clauses bytes s ts x.1 y.1 x.4 y.4)

-- a relation that gives each item one value gives a list one list
zipped_once : {A B : Type 0} (R : A → B → Type 0) → ((x : A) (y z : B) → R x y → R x z → y ≡ z) → (xs : List A) (ys zs : List B) → AllZip R xs ys → AllZip R xs zs → ys ≡ zs
zipped_once R one [] [] [] a b = cc
zipped_once R one [] [] (z ∷ zs) a b = absurd b
zipped_once R one [] (y ∷ ys) zs a b = absurd a
zipped_once R one (x ∷ xs) [] zs a b = absurd a
zipped_once R one (x ∷ xs) (y ∷ ys) [] a b = absurd b
zipped_once R one (x ∷ xs) (y ∷ ys) (z ∷ zs) a b = cc (one x y z a.0 b.0, zipped_once R one xs ys zs a.1 b.1)

pub states_once : OneTokens → OneClauses → (bytes : List ℕ) (packages : List Package) (a b : Stated) → PackagesState bytes packages a → PackagesState bytes packages b → a ≡ b
states_once tokens clauses bytes =
    zipped_once (PackageStates bytes) (λ p. zipped_once (ItemStates bytes) (λ i. all_once tokens clauses bytes (item_site i) (item_annexes i)) p.items)

-- ---- each annex

annexes_each : (bytes : List ℕ) (s : Site) (ts : List Token) (clauses : List Clause) → AreAllStated bytes s ts clauses → All (StatesClauses bytes) (map (λ t. (t, s)) ts)
annexes_each bytes s [] clauses x = All-nil (StatesClauses bytes)
annexes_each bytes s (t ∷ ts) clauses x = All-cons (StatesClauses bytes) (t, s) (map (λ t. (t, s)) ts) (x.0, x.3) (annexes_each bytes s ts x.1 x.4)

joined_each : {A B C : Type 0} (P : C → Type 0) (f : A → List C) (R : A → B → Type 0) → ((x : A) (y : B) → R x y → All P (f x)) → (xs : List A) (ys : List B) → AllZip R xs ys → All P (flat_map f xs)
joined_each P f R each [] ys a = All-nil P
joined_each P f R each (x ∷ xs) [] a = absurd a
joined_each P f R each (x ∷ xs) (y ∷ ys) a = All-append P (f x) (flat_map f xs) (each x y a.0) (joined_each P f R each xs ys a.1)

-- where packages state clauses each of their annexes does
states_each : (bytes : List ℕ) (packages : List Package) (stated : Stated) → PackagesState bytes packages stated → All (StatesClauses bytes) (annexes_of_packages packages)
states_each bytes =
    joined_each (StatesClauses bytes) annexes_of_package (PackageStates bytes)
    (λ p. joined_each (StatesClauses bytes) annexes_of_item (ItemStates bytes) (λ i. annexes_each bytes (item_site i) (item_annexes i)) p.items)

-- ---- refusals

at_split : {X : Type 0} (P : X → Type 0) (before : List X) (x : X) (behind : List X) → All P (before ++ x ∷ behind) → P x
at_split P [] x behind all = All-head P x behind all
at_split P (b ∷ before) x behind all = at_split P before x behind (All-tail P b (before ++ x ∷ behind) all)

-- The first that is broken stands at one place: what is fine isn't broken, and what is broken gets one refusal.
first_once : {X : Type 0} (Fine : X → Type 0) (Broken : X → Refusal → Type 0) → ((x : X) (r : Refusal) → Fine x → Broken x r → ⊥) → ((x : X) (r s : Refusal) → Broken x r → Broken x s → r ≡ s)
    → (before others : List X) (x y : X) (behind rest : List X) (r s : Refusal) → before ++ x ∷ behind ≡ others ++ y ∷ rest → All Fine before → All Fine others → Broken x r → Broken y s → r ≡ s
first_once Fine Broken none one [] [] x y behind rest r s e fine also a b = one y r s (subst (λ z. Broken z r) (heads e) a) b
first_once Fine Broken none one [] (o ∷ others) x y behind rest r s e fine also a b = absurd (none o r (All-head Fine o others also) (subst (λ z. Broken z r) (heads e) a))
first_once Fine Broken none one (f ∷ before) [] x y behind rest r s e fine also a b = absurd (none f s (All-head Fine f before fine) (subst (λ z. Broken z s) (sym (heads e)) b))
first_once Fine Broken none one (f ∷ before) (o ∷ others) x y behind rest r s e fine also a b =
    first_once Fine Broken none one before others x y behind rest r s (tails e) (All-tail Fine f before fine) (All-tail Fine o others also) a b

-- the annex breaks a rule of tokens, and this is its first
abbrev BreaksTokens : List ℕ → Token × Site → Refusal → Type 0
BreaksTokens bytes a r = IsFirstBroken Agree a.0.place.file (bytes_before bytes a.0) (bytes_inside bytes a.0) r

-- the annex breaks none, and this is the first broken rule of its clauses
abbrev BreaksClauses : List ℕ → Token × Site → Refusal → Type 0
BreaksClauses bytes a r = (tokens : List Token) × AreKept Agree a.0.place.file (bytes_before bytes a.0) (bytes_inside bytes a.0) tokens × IsFirstWrong bytes tokens a.1 r

not_tokens : (bytes : List ℕ) (a : Token × Site) (r : Refusal) → HasTokens bytes a → BreaksTokens bytes a r → ⊥
not_tokens bytes a r has b = has.1.kept b.at r.rule b.broken

same_wrong : OneTokens → (bytes : List ℕ) (a : Token × Site) (r : Refusal) (tokens : List Token) → AreKept Agree a.0.place.file (bytes_before bytes a.0) (bytes_inside bytes a.0) tokens → BreaksClauses bytes a r → IsFirstWrong bytes tokens a.1 r
same_wrong one bytes a r tokens kept b =
    subst (λ (z : List Token). IsFirstWrong bytes z a.1 r) (one Agree a.0.place.file (bytes_before bytes a.0) (bytes_inside bytes a.0) b.0 tokens b.1.read kept.read) b.2

not_clauses : OneTokens → NoneWrong → (bytes : List ℕ) (a : Token × Site) (r : Refusal) → StatesClauses bytes a → BreaksClauses bytes a r → ⊥
not_clauses one none bytes a r states b = none bytes states.1.tokens a.1 r states.0 (same_wrong one bytes a r states.1.tokens states.1.kept b) states.1.read

-- none breaks a rule of tokens where one breaks only a rule of clauses
not_either : (bytes : List ℕ) (annexes : List (Token × Site)) (r : Refusal) → IsTokenRefused bytes annexes r → All (HasTokens bytes) annexes → ⊥
not_either bytes annexes r x fine = not_tokens bytes x.annex r (at_split (HasTokens bytes) x.before x.annex x.behind (subst (All (HasTokens bytes)) x.order fine)) x.broken

pub refused_once : OneTokens → OneBroken → OneWrong → NoneWrong → (bytes : List ℕ) (packages : List Package) (r s : Refusal) → IsAnnexRefused bytes packages r → IsAnnexRefused bytes packages s → r ≡ s
refused_once tokens broken wrong none bytes packages r s (inl x) (inl y) =
    first_once (HasTokens bytes) (BreaksTokens bytes) (not_tokens bytes) (λ a. broken Agree a.0.place.file (bytes_before bytes a.0) (bytes_inside bytes a.0))
    x.before y.before x.annex y.annex x.behind y.behind r s (sym x.order ∙ y.order) x.fine y.fine x.broken y.broken
refused_once tokens broken wrong none bytes packages r s (inl x) (inr y) = absurd (not_either bytes (annexes_of_packages packages) r x y.fine)
refused_once tokens broken wrong none bytes packages r s (inr x) (inl y) = absurd (not_either bytes (annexes_of_packages packages) s y x.fine)
refused_once tokens broken wrong none bytes packages r s (inr x) (inr y) =
    first_once (StatesClauses bytes) (BreaksClauses bytes) (not_clauses tokens none bytes) (λ a q p b c. wrong bytes c.0 a.1 q p (same_wrong tokens bytes a q c.0 c.1 b) c.2)
    x.before y.before x.annex y.annex x.behind y.behind r s (sym x.order ∙ y.order) x.stated y.stated (x.tokens, x.kept, x.wrong) (y.tokens, y.kept, y.wrong)

pub not_refused : OneTokens → NoneWrong → (bytes : List ℕ) (packages : List Package) (stated : Stated) (r : Refusal) → PackagesState bytes packages stated → IsAnnexRefused bytes packages r → ⊥
not_refused tokens none bytes packages stated r states (inl x) =
    let each = states_each bytes packages stated states in
    not_either bytes (annexes_of_packages packages) r x (All-weaker (StatesClauses bytes) (HasTokens bytes) (λ a s. (s.1.tokens, s.1.kept)) (annexes_of_packages packages) each)
not_refused tokens none bytes packages stated r states (inr x) =
    let each = subst (All (StatesClauses bytes)) x.order (states_each bytes packages stated states) in
    not_clauses tokens none bytes x.annex r (at_split (StatesClauses bytes) x.before x.annex x.behind each) (x.tokens, x.kept, x.wrong)
