-- What the use of a package, of a type and of an implementation by a subcomponent breaks.
use Rattle.std.proofs.Common.{◌≡◌, ◌⊎◌, ◌<◌, ℕ, Bool, true, false, cond, not, List, [], ◌∷◌, length, Option, Some, None, refl, ap, sym, subst, ◌∙◌, inl, inr, ltb, arith}
use Rattle.std.specs.Prelude.{◌&&◌, ◌||◌, find, is_none, is_some, option_and_then, position, slice_get, slice_index_or}
use Rattle.std.specs.List.{position_or_len}
use Rattle.std.proofs.lemmas.Bool.{false≢true, cases_lt}
use Rattle.std.proofs.lemmas.List.{get_or_past}
use Rattle.std.proofs.lemmas.List.Folds.{find_at}
use Rattle.std.proofs.lemmas.Option.{slice_get-get_or, slice_get_cases, slice_get_past}
use Rattle.std.proofs.lemmas.List.Quantifiers.{position-Some}
use Rattle.ag_base.specs.declared.place.Place.{Place}
use Rattle.ag_base.specs.declared.place.Refusal.{Refusal}
use Rattle.ag_base.specs.declared.place.Rule.TheVariants.{NoClassifier, NoPackage, NotImported, Recursive}
use Rattle.ag_base.specs.Rules.{comes_before}
use Rattle.ag_aadl.specs.declared.packages.Package.{Package}
use Rattle.ag_aadl.specs.declared.packages.Sub.{Sub}
use Rattle.ag_terms.specs.declared.names.Ident.{Ident}
use Rattle.ag_terms.specs.declared.names.Path.{Path}
use Rattle.ag_names.specs.Broken.{IsMissing, no_type, no_implementation, no_package, not_imported, SubcomponentBreaks, in_use, no_classifier, recursive, UseBreaks, UsesPackage}
use Rattle.ag_names.specs.Containing.{IsInsideItself}
use Rattle.ag_names.specs.Found.{TypeName, implementation_named, is_package, may_use, implementation_as, implementation_of, is_implementation, named_type, type_by, type_named, type_of, implementation_by, use_place}
use Rattle.ag_names.specs.Graph.{AreRecursive, number_as}
use Rattle.ag_names.specs.Order.{IsFirst, earlier}
use Rattle.ag_names.specs.Placed.{Type', Implementation, implementations}
use Rattle.ag_names.specs.Tables.{missing_refusal, recursion_refusal}
use Rattle.ag_names.proofs.First.{at_one_place, first_joined, first_only, first_same, never_before_itself}

-- ---- the use of a package

module _ (all : List Package) (p : Package) (path : Path) (name : Ident) (is : path.«package» ≡ Some name) where
  one_name : (n : Ident) → UsesPackage (Some path) n → n ≡ name
  one_name n u = same_name (ap (λ (z : Path). z.«package») (same_path u.1) ∙ u.2)
    where
      same_path : {q : Path} → Some path ≡ Some q → path ≡ q
      same_path e = cc

      same_name : path.«package» ≡ Some n → n ≡ name
      same_name e = cc (is, e)

  not_there_first : (q : Refusal) → UseBreaks all p (Some path) q → comes_before q (record { place = name.place; rule = NoPackage }) ≡ false
  not_there_first q (no_package n u a b) =
      rw b (rw (one_name n u) (never_before_itself (record { place = name.place; rule = NoPackage })))
  not_there_first q (not_imported n u a b) =
      rw b (rw (one_name n u) (at_one_place name.place NotImported NoPackage refl))

  pub first_not_there : is_package all name.text ≡ false → (r : Refusal) → r ≡ record { place = name.place; rule = NoPackage } → IsFirst (UseBreaks all p (Some path)) (Some r)
  first_not_there b r e = record { broken = no_package name (path, refl, is) b e; first = λ q m. rw e (not_there_first q m) }

  only_import : is_package all name.text ≡ true → (q : Refusal) → UseBreaks all p (Some path) q → q ≡ record { place = name.place; rule = NotImported }
  only_import t q (no_package n u a b) = absurd (false≢true (sym a ∙ ap (λ (z : Ident). is_package all z.text) (one_name n u) ∙ t))
  only_import t q (not_imported n u a b) = b ∙ ap (λ (z : Ident). record { place = z.place; rule = NotImported }) (one_name n u)

  pub first_unimported : is_package all name.text ≡ true → may_use p name.text ≡ false → (r : Refusal) → r ≡ record { place = name.place; rule = NotImported }
      → IsFirst (UseBreaks all p (Some path)) (Some r)
  first_unimported t b r e = first_only (UseBreaks all p (Some path)) r (not_imported name (path, refl, is) b e) (λ q m. only_import t q m ∙ sym e)

  pub first_used : is_package all name.text ≡ true → may_use p name.text ≡ true → IsFirst (UseBreaks all p (Some path)) None
  first_used t u = λ q m. nothing q m
    where
      nothing : (q : Refusal) → UseBreaks all p (Some path) q → ⊥
      nothing q (no_package n w a b) = false≢true (sym a ∙ ap (λ (z : Ident). is_package all z.text) (one_name n w) ∙ t)
      nothing q (not_imported n w a b) = false≢true (sym a ∙ ap (λ (z : Ident). may_use p z.text) (one_name n w) ∙ u)

-- ---- what is missing

missing_is : (t : Option Type') (b : Option Ident) (i : Option Implementation) → (is_none t || (is_some b && is_none i)) ≡ true
    → (t ≡ None) ⊎ ((x : Ident) × (b ≡ Some x) × (i ≡ None))
missing_is None b i e = inl refl
missing_is (Some t) None i e = absurd (false≢true e)
missing_is (Some t) (Some x) None e = inr (x, refl, refl)
missing_is (Some t) (Some x) (Some i) e = absurd (false≢true e)

type_there : (t : Option Type') (b : Option Ident) (i : Option Implementation) → (is_none t || (is_some b && is_none i)) ≡ false → t ≡ None → ⊥
type_there None b i e f = false≢true (sym e)
type_there (Some t) b i e f = cc

implementation_there : (t : Option Type') (b : Option Ident) (i : Option Implementation) → (is_none t || (is_some b && is_none i)) ≡ false → (x : Ident) → b ≡ Some x → i ≡ None → ⊥
implementation_there None b i e x f g = false≢true (sym e)
implementation_there (Some t) None i e x f g = cc
implementation_there (Some t) (Some y) None e x f g = false≢true (sym e)
implementation_there (Some t) (Some y) (Some i) e x f g = cc

module _ (all : List Package) (p : Package) (s : Sub) (path : Path) (is : s.of ≡ Some path) where
  named : TypeName
  named = named_type p s.category path

  type_is : type_of all p s ≡ type_named all (named_type p s.category path)
  type_is = ap (type_by all p s.category) is

  implementation_is : implementation_of all p s ≡ implementation_as all (named_type p s.category path) path.body
  implementation_is = ap (implementation_by all p s.category) is

  abbrev MissingRefused : Refusal → Type 0
  MissingRefused r = IsMissing all p s path × (r ≡ record { place = use_place path; rule = NoClassifier })

  from_test : (type_named all (named_type p s.category path) ≡ None) ⊎ ((x : Ident) × (path.body ≡ Some x) × (implementation_as all (named_type p s.category path) path.body ≡ None)) → IsMissing all p s path
  from_test (inl e) = no_type (type_is ∙ e)
  from_test (inr m) = no_implementation m.0 m.1 (implementation_is ∙ m.2)

  none_missing : (type_named all (named_type p s.category path) ≡ None → ⊥) → ((x : Ident) → path.body ≡ Some x → implementation_as all (named_type p s.category path) path.body ≡ None → ⊥)
      → IsMissing all p s path → ⊥
  none_missing t i (no_type e) = t (sym type_is ∙ e)
  none_missing t i (no_implementation x e f) = i x e (sym implementation_is ∙ f)

  first_missing_by : (b : Bool) → (is_none (type_named all (named_type p s.category path)) || (is_some path.body && is_none (implementation_as all (named_type p s.category path) path.body))) ≡ b
      → IsFirst MissingRefused (cond b (Some (record { place = use_place path; rule = NoClassifier })) None)
  first_missing_by true e =
      first_only MissingRefused (record { place = use_place path; rule = NoClassifier })
      (from_test (missing_is (type_named all (named_type p s.category path)) path.body (implementation_as all (named_type p s.category path) path.body) e), refl) (λ q m. m.1)
  first_missing_by false e = λ q m.
      none_missing (type_there (type_named all (named_type p s.category path)) path.body (implementation_as all (named_type p s.category path) path.body) e)
      (implementation_there (type_named all (named_type p s.category path)) path.body (implementation_as all (named_type p s.category path) path.body) e) m.0

  first_missing : IsFirst MissingRefused (missing_refusal all (named_type p s.category path) path)
  first_missing = first_missing_by _ refl

-- ---- numbers of implementations

find_by_position : {X : Type 0} (test : X → Bool) (xs : List X) → find test xs ≡ option_and_then (slice_get xs) (position test xs)
find_by_position {X} test xs = find_at test xs ∙ by (ltb (position_or_len test xs) (length xs)) refl
  where
    by : (b : Bool) → ltb (position_or_len test xs) (length xs) ≡ b
        → slice_get xs (position_or_len test xs) ≡ option_and_then (slice_get xs) (cond b (Some (position_or_len test xs)) None)
    by true e = refl
    by false e = slice_get_past xs (position_or_len test xs) (grind arith)

implementation_at : (all : List Package) (n : TypeName) (body : Option Ident) → implementation_as all n body ≡ option_and_then (slice_get (implementations all)) (number_as all n body)
implementation_at all n None = refl
implementation_at all n (Some name) = find_by_position (is_implementation n name.text) (implementations all)

-- ---- what is inside itself

module _ (all : List Package) (flags : List Bool) (told : AreRecursive all flags) (place : Place) where
  abbrev Recurs : Option Implementation → Refusal → Type 0
  Recurs o r = (i : Implementation) × (o ≡ Some i) × IsInsideItself all i × (r ≡ record { place = place; rule = Recursive })

  past_false : (n : ℕ) → slice_get (implementations all) n ≡ None → slice_index_or flags n false ≡ false
  past_false n e =
      elim (cases_lt n (length (implementations all))) [
        | inl lt ↦ let h = slice_get_read_some n lt in absurd (some_none (sym h.1 ∙ e))
        | inr le ↦ get_or_past flags n false (omega (arith, told.long))
      ]
    where
      some_none : {i : Implementation} → Some i ≡ None → ⊥
      some_none e = cc

      slice_get_read_some : (n : ℕ) → n < length (implementations all) → (i : Implementation) × (slice_get (implementations all) n ≡ Some i)
      slice_get_read_some n lt = elim (slice_get_cases (implementations all) n).1 [
        | inl h ↦ (h.0, h.2)
        | inr h ↦ absurd (omega (arith, h.0))
      ]

  recurs_by : (n : ℕ) (o : Option Implementation) → slice_get (implementations all) n ≡ o → (b : Bool) → slice_index_or flags n false ≡ b
      → IsFirst (Recurs o) (cond b (Some (record { place = place; rule = Recursive })) None)
  recurs_by n None e true f = absurd (false≢true (sym (past_false n e) ∙ f))
  recurs_by n None e false f = λ q m. no_one m.1
    where
      no_one : {i : Implementation} → None ≡ Some i → ⊥
      no_one e = cc
  recurs_by n (Some i) e true f =
      first_only (Recurs (Some i)) (record { place = place; rule = Recursive }) (i, refl, (told.right n i e).0 f, refl) (λ q m. m.3)
  recurs_by n (Some i) e false f = λ q m.
      let same : m.0 ≡ i = cc (m.1) in
      false≢true (sym f ∙ (told.right n i e).1 (subst (IsInsideItself all) same m.2))

  first_recurs : (m : Option ℕ) (o : Option Implementation) → o ≡ option_and_then (slice_get (implementations all)) m → IsFirst (Recurs o) (recursion_refusal flags m place)
  first_recurs None o e = λ q m. no_one (sym e ∙ m.1)
    where
      no_one : {i : Implementation} → None ≡ Some i → ⊥
      no_one e = cc
  first_recurs (Some n) o e = recurs_by n o (sym e) (slice_index_or flags n false) refl

-- ---- together

module _ (all : List Package) (p : Package) (s : Sub) where
  -- a subcomponent without a path breaks nothing
  pub first_without : s.of ≡ None → IsFirst (SubcomponentBreaks all p s) None
  first_without e = λ q m. nothing q m
    where
      none_some : {path : Path} → None ≡ Some path → ⊥
      none_some f = cc

      none_there : {i : Implementation} → None ≡ Some i → ⊥
      none_there f = cc

      no_use : (q : Refusal) → UseBreaks all p s.of q → ⊥
      no_use q (no_package name u a b) = none_some (sym e ∙ u.1)
      no_use q (not_imported name u a b) = none_some (sym e ∙ u.1)

      nothing : (q : Refusal) → SubcomponentBreaks all p s q → ⊥
      nothing q (in_use u) = no_use q u
      nothing q (no_classifier path f m g) = none_some (sym e ∙ f)
      nothing q (recursive i f m g) = none_there (sym (ap (implementation_by all p s.category) e) ∙ f)

module _ (all : List Package) (p : Package) (s : Sub) (path : Path) (is : s.of ≡ Some path) (flags : List Bool) (told : AreRecursive all flags) where
  abbrev ItsUse : Refusal → Type 0
  ItsUse r = UseBreaks all p (Some path) r ⊎ MissingRefused all p s path is r

  abbrev ItsRecursion : Refusal → Type 0
  ItsRecursion r = Recurs all flags told s.name.place (implementation_of all p s) r

  sub_together : (r : Refusal) → ItsUse r ⊎ ItsRecursion r → SubcomponentBreaks all p s r
  sub_together r (inl (inl u)) = in_use (subst (λ (z : Option Path). UseBreaks all p z r) (sym is) u)
  sub_together r (inl (inr m)) = no_classifier path is m.0 m.1
  sub_together r (inr m) = recursive m.0 m.1 m.2 m.3

  moved : (q : Path) (r : Refusal) → q ≡ path → IsMissing all p s q → r ≡ record { place = use_place q; rule = NoClassifier } → MissingRefused all p s path is r
  moved q r e m f = (subst (IsMissing all p s) e m, f ∙ ap (λ (z : Path). record { place = use_place z; rule = NoClassifier }) e)

  same_path : (q : Path) → s.of ≡ Some q → q ≡ path
  same_path q e = cc (is, e)

  sub_apart : (r : Refusal) → SubcomponentBreaks all p s r → ItsUse r ⊎ ItsRecursion r
  sub_apart r (in_use u) = inl (inl (subst (λ (z : Option Path). UseBreaks all p z r) is u))
  sub_apart r (no_classifier q e m f) = inl (inr (moved q r (same_path q e) m f))
  sub_apart r (recursive i e m f) = inr (i, e, m, f)

  pub first_of_sub : (a b c : Option Refusal) → IsFirst (UseBreaks all p (Some path)) a → b ≡ missing_refusal all (named_type p s.category path) path
      → c ≡ recursion_refusal flags (number_as all (named_type p s.category path) path.body) s.name.place → IsFirst (SubcomponentBreaks all p s) (earlier (earlier a b) c)
  first_of_sub a b c ha hb hc =
      first_same (λ r. ItsUse r ⊎ ItsRecursion r) (SubcomponentBreaks all p s) (earlier (earlier a b) c) sub_together sub_apart
      (first_joined ItsUse ItsRecursion (earlier a b) c
      (first_joined (UseBreaks all p (Some path)) (MissingRefused all p s path is) a b ha (subst (IsFirst (MissingRefused all p s path is)) (sym hb) (first_missing all p s path is)))
      (subst (IsFirst ItsRecursion) (sym hc)
      (first_recurs all flags told s.name.place (number_as all (named_type p s.category path) path.body) (implementation_of all p s)
      (implementation_is all p s path is ∙ implementation_at all (named_type p s.category path) path.body))))

-- ---- whether what is named is there

pub position_finds : {X : Type 0} (test : X → Bool) (xs : List X) → is_some (position test xs) ≡ is_some (find test xs)
position_finds test [] = refl
position_finds {X} test (d ∷ xs) = by (position test (d ∷ xs)) refl
  where
    by : (o : Option ℕ) → position test (d ∷ xs) ≡ o → is_some (position test (d ∷ xs)) ≡ is_some (find test (d ∷ xs))
    by None e = ap is_some e ∙ sym (ap is_some (find_by_position test (d ∷ xs) ∙ ap (option_and_then (slice_get (d ∷ xs))) e))
    by (Some i) e =
        ap is_some e ∙ sym (ap is_some (find_by_position test (d ∷ xs) ∙ ap (option_and_then (slice_get (d ∷ xs))) e
        ∙ slice_get-get_or (d ∷ xs) i d (position-Some test (d ∷ xs) i d e).0))

typeless_missing : (t : Option Type') (b : Option Ident) (i : Option Implementation) → is_some t ≡ false → (is_none t || (is_some b && is_none i)) ≡ true
typeless_missing None b i e = refl
typeless_missing (Some t) b i e = absurd (false≢true (sym e))

type_found : (t : Option Type') (b : Option Ident) (i : Option Implementation) → is_some t ≡ true → b ≡ None → (is_none t || (is_some b && is_none i)) ≡ false
type_found None b i e f = absurd (false≢true e)
type_found (Some t) None i e f = refl
type_found (Some t) (Some x) i e f = cc

body_found : (t : Option Type') (x : Ident) (i : Option Implementation) (b : Bool) → is_some t ≡ true → is_some i ≡ b → (is_none t || (true && is_none i)) ≡ not b
body_found None x i b e f = absurd (false≢true e)
body_found (Some t) x None b e f = ap not f
body_found (Some t) x (Some i) b e f = ap not f

module _ (all : List Package) (n : TypeName) (path : Path) where
  abbrev pub IsThere : Bool → Type 0
  IsThere b = (is_none (type_named all n) || (is_some path.body && is_none (implementation_as all n path.body))) ≡ not b

  pub without_type : is_some (type_named all n) ≡ false → IsThere false
  without_type e = typeless_missing (type_named all n) path.body (implementation_as all n path.body) e

  pub with_type : is_some (type_named all n) ≡ true → path.body ≡ None → IsThere true
  with_type e f = type_found (type_named all n) path.body (implementation_as all n path.body) e f

  pub with_body : (x : Ident) (b : Bool) → is_some (type_named all n) ≡ true → path.body ≡ Some x → is_some (implementation_named all n x.text) ≡ b → IsThere b
  with_body x b e f g =
      ap (λ (o : Option Ident). is_none (type_named all n) || (is_some o && is_none (implementation_as all n o))) f
      ∙ body_found (type_named all n) x (implementation_named all n x.text) b e g

  pub none_there : IsThere true → None ≡ missing_refusal all n path
  none_there e = sym (ap (λ (b : Bool). cond b (Some (record { place = use_place path; rule = NoClassifier })) None) e)

  pub missing_there : IsThere false → (r : Refusal) → r ≡ record { place = use_place path; rule = NoClassifier } → Some r ≡ missing_refusal all n path
  missing_there e r f = ap (λ (z : Refusal). Some z) f ∙ sym (ap (λ (b : Bool). cond b (Some (record { place = use_place path; rule = NoClassifier })) None) e)
