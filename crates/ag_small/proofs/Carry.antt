-- Named runs and numbered runs, and what is true of both.
use Rattle.std.proofs.Common.{◌≡◌, ℕ, ◌+◌, ◌<◌, Bool, true, false, not, List, [], ◌∷◌, length, map, get_or, Option, Some, None, refl, sym, ap, subst, ◌∙◌, arith, All}
use Rattle.std.specs.Prelude.{IsSomeAnd}
use Rattle.std.specs.List.{list_any, AllByRecursion, AllZip}
use Rattle.std.specs.Char.{to_ascii_lowercase}
use Rattle.std.proofs.lemmas.Bool.{and_parts, or_parts, both_ways, not-true, false_from_ne_true}
use Rattle.std.proofs.lemmas.List.{nil_from_length}
use Rattle.std.proofs.lemmas.List.Elements.{All-from_recursion, recursion_from_All, All-nil, All-map}
use Rattle.std.proofs.lemmas.Str.Ascii.{lowercase-lowercase}
use Rattle.ag_stream.specs.declared.problem.Instant.{Instant}
use Rattle.ag_stream.specs.declared.problem.Run.{Run}
use Rattle.ag_stream.specs.Values.{Moment, holds}
use Rattle.ag_stream.specs.Runs.{Keeps, KeepsEquations, AllHold, ClaimIs, moments, moments_of, front, last, IsInstant, IsRun, IsPremisesRun, Breaks}
use Rattle.ag_small.specs.declared.package.Package.{Package}
use Rattle.ag_small.specs.declared.package.Port.{Port}
use Rattle.ag_small.specs.declared.package.Claim.{Claim}
use Rattle.ag_small.specs.declared.package.ClaimKind.TheVariants.{Assume}
use Rattle.ag_small.specs.declared.package.Assign.{Assign}
use Rattle.ag_small.specs.declared.package.Formula.{Formula}
use Rattle.ag_small.specs.Characters.{folded, same}
use Rattle.ag_small.specs.Rules.{IsWellFormed, names_port, ports_differ, all_names}
use Rattle.ag_small.specs.Named.{NamedInstant, value_at, formula_holds, KeepsAssign, KeepsAssigns, KeepsAssumptions, IsNamedRunOfPremises, BreaksNamed, claimed, stand_in, StandsFor}
use Rattle.ag_small.specs.Numbered.{stream_of, formulas, parts_in, all_parts, claim_parts, equations_from, numbers_from, draft_of}
use Rattle.ag_small.proofs.Terminals.{same_is, is_same}
use Rattle.ag_small.proofs.Streams.{stream_later}
use Rattle.ag_small.proofs.Formed.{length_mapped, assign_names, formula_names}
use Rattle.ag_small.proofs.Numbering.{parts_in-claims}
use Rattle.ag_small.proofs.Meaning.{IsMoment, Says, parts_say, says_split, equations_say, numbers_say, IsClaimAt, claim_says}

-- ---- lists that go together

module _ {X Y : Type 0} (R : X → Y → Type 0) (P : X → Type 0) (Q : Y → Type 0) where
  zip_all : ((x : X) (y : Y) → R x y → P x → Q y) → (xs : List X) (ys : List Y) → AllZip R xs ys → AllByRecursion P xs → AllByRecursion Q ys
  zip_all f [] [] z h = tt
  zip_all f [] (y ∷ ys) z h = absurd z
  zip_all f (x ∷ xs) [] z h = tt
  zip_all f (x ∷ xs) (y ∷ ys) z h = (f x y z.0 h.0, zip_all f xs ys z.1 h.1)

  zip_back : ((x : X) (y : Y) → R x y → Q y → P x) → (xs : List X) (ys : List Y) → AllZip R xs ys → AllByRecursion Q ys → AllByRecursion P xs
  zip_back f [] [] z h = tt
  zip_back f [] (y ∷ ys) z h = tt
  zip_back f (x ∷ xs) [] z h = absurd z
  zip_back f (x ∷ xs) (y ∷ ys) z h = (f x y z.0 h.0, zip_back f xs ys z.1 h.1)

  zip_last : ((x : X) (y : Y) → R x y → P x → Q y) → (xs : List X) (ys : List Y) → AllZip R xs ys → IsSomeAnd (last xs) P → IsSomeAnd (last ys) Q
  zip_last f [] ys z h = absurd h
  zip_last f (x ∷ xs) [] z h = absurd z
  zip_last f (x ∷ []) (y ∷ []) z h = f x y z.0 h
  zip_last f (x ∷ []) (y ∷ v ∷ ys) z h = absurd z.1
  zip_last f (x ∷ w ∷ xs) (y ∷ []) z h = absurd z.1
  zip_last f (x ∷ w ∷ xs) (y ∷ v ∷ ys) z h = zip_last f (w ∷ xs) (v ∷ ys) z.1 h

  zip_last_back : ((x : X) (y : Y) → R x y → Q y → P x) → (xs : List X) (ys : List Y) → AllZip R xs ys → IsSomeAnd (last ys) Q → IsSomeAnd (last xs) P
  zip_last_back f xs [] z h = absurd h
  zip_last_back f [] (y ∷ ys) z h = absurd z
  zip_last_back f (x ∷ []) (y ∷ []) z h = f x y z.0 h
  zip_last_back f (x ∷ []) (y ∷ v ∷ ys) z h = absurd z.1
  zip_last_back f (x ∷ w ∷ xs) (y ∷ []) z h = absurd z.1
  zip_last_back f (x ∷ w ∷ xs) (y ∷ v ∷ ys) z h = zip_last_back f (w ∷ xs) (v ∷ ys) z.1 h

-- ---- one instant

module _ (p : Package) (claim : Option ℕ) (sought : ℕ) (kept : IsWellFormed p) (m : Moment) (i : NamedInstant) (at : IsMoment p m i) where
  abbrev pub truth_at : ℕ → Bool
  truth_at k = holds m (all_parts p.ports 0 (formulas p)) k

  say_apart : Says i truth_at 0 (map (λ c. c.formula) p.claims) × Says i truth_at (0 + parts_in (map (λ c. c.formula) p.claims)) (map (λ a. a.value) p.assigns)
  say_apart =
      says_split i truth_at 0 (map (λ (c : Claim). c.formula) p.claims) (map (λ (a : Assign). a.value) p.assigns)
      (parts_say p m i (formulas p) at (recursion_from_All (λ f. all_names (names_port p.ports) f ≡ true) (formulas p) (formula_names p kept)))

  claims_say : Says i truth_at 0 (map (λ c. c.formula) p.claims)
  claims_say = say_apart.0

  assigns_say : Says i truth_at (claim_parts p.claims) (map (λ a. a.value) p.assigns)
  assigns_say = subst (λ (n : ℕ). Says i truth_at n (map (λ (a : Assign). a.value) p.assigns)) (omega (arith, parts_in-claims p.claims)) say_apart.1

  pub equations_to : KeepsEquations (draft_of p claim sought) m → KeepsAssigns p i
  equations_to h =
      let say = equations_say p m i truth_at at (claim_parts p.claims) p.assigns (recursion_from_All (λ a. names_port p.ports a.name ≡ true) p.assigns (assign_names p kept)) assigns_say in
      All-from_recursion (KeepsAssign i) p.assigns (say.0 (recursion_from_All (Keeps m truth_at) (equations_from p.ports (claim_parts p.claims) p.assigns) h))

  pub equations_from_named : KeepsAssigns p i → KeepsEquations (draft_of p claim sought) m
  equations_from_named h =
      let say = equations_say p m i truth_at at (claim_parts p.claims) p.assigns (recursion_from_All (λ a. names_port p.ports a.name ≡ true) p.assigns (assign_names p kept)) assigns_say in
      All-from_recursion (Keeps m truth_at) (equations_from p.ports (claim_parts p.claims) p.assigns) (say.1 (recursion_from_All (KeepsAssign i) p.assigns h))

  pub so_far_to : AllHold (draft_of p claim sought) (numbers_from Assume 0 p.claims) m → KeepsAssumptions p i
  so_far_to h =
      let say = numbers_say p m i truth_at at Assume 0 p.claims claims_say in
      All-from_recursion (λ f. formula_holds i f ≡ true) (claimed Assume p) (say.0 (recursion_from_All (λ part. truth_at part ≡ true) (numbers_from Assume 0 p.claims) h))

  pub so_far_from_named : KeepsAssumptions p i → AllHold (draft_of p claim sought) (numbers_from Assume 0 p.claims) m
  so_far_from_named h =
      let say = numbers_say p m i truth_at at Assume 0 p.claims claims_say in
      All-from_recursion (λ part. truth_at part ≡ true) (numbers_from Assume 0 p.claims) (say.1 (recursion_from_All (λ f. formula_holds i f ≡ true) (claimed Assume p) h))

  pub claim_is : (part : ℕ) (f : Formula) → IsClaimAt p.claims 0 part f → truth_at part ≡ formula_holds i f
  claim_is part f c = claim_says i truth_at 0 p.claims part f claims_say c

-- ---- runs

abbrev pub numbered : Package → List NamedInstant → Run
numbered p named = record { instants = map (stand_in p) named }

moments_zip : (p : Package) (o : Option Instant) (named : List NamedInstant) → AllZip (IsMoment p) (moments o (map (stand_in p) named)) named
moments_zip p o [] = tt
moments_zip p None (i ∷ is) = (record { now = refl }, moments_zip p (Some (stand_in p i)) is)
moments_zip p (Some b) (i ∷ is) = (record { now = refl }, moments_zip p (Some (stand_in p i)) is)

pub numbered_is_run : (p : Package) (claim : Option ℕ) (sought : ℕ) (named : List NamedInstant) → 0 < length named → IsRun (draft_of p claim sought) (numbered p named)
numbered_is_run p claim sought named some = record {
  some = omega (arith, length_mapped (stand_in p) named);
  each = All-map (IsInstant (draft_of p claim sought)) (stand_in p) named (λ k d lt. record { whole = refl; flags = length_mapped (λ (q : Port). value_at (get_or named k d) q.name) p.ports });
}

module _ (p : Package) (claim : Option ℕ) (sought : ℕ) (kept : IsWellFormed p) (named : List NamedInstant) where
  zipped : AllZip (IsMoment p) (moments None (map (stand_in p) named)) named
  zipped = moments_zip p None named

  pub assigns_from : All (KeepsEquations (draft_of p claim sought)) (moments_of (numbered p named)) → All (KeepsAssigns p) named
  assigns_from h =
      All-from_recursion (KeepsAssigns p) named
      (zip_all (IsMoment p) (KeepsEquations (draft_of p claim sought)) (KeepsAssigns p) (λ m i at e. equations_to p claim sought kept m i at e) (moments_of (numbered p named)) named zipped
      (recursion_from_All (KeepsEquations (draft_of p claim sought)) (moments_of (numbered p named)) h))

  pub equations_of : All (KeepsAssigns p) named → All (KeepsEquations (draft_of p claim sought)) (moments_of (numbered p named))
  equations_of h =
      All-from_recursion (KeepsEquations (draft_of p claim sought)) (moments_of (numbered p named))
      (zip_back (IsMoment p) (KeepsEquations (draft_of p claim sought)) (KeepsAssigns p) (λ m i at e. equations_from_named p claim sought kept m i at e) (moments_of (numbered p named)) named zipped
      (recursion_from_All (KeepsAssigns p) named h))

  pub premises_to : IsPremisesRun (draft_of p claim sought) (numbered p named) → IsNamedRunOfPremises p named
  premises_to h = record {
    some = omega (arith, h.is_run.some, length_mapped (stand_in p) named);
    assigns = assigns_from h.equations;
    assumptions =
        All-from_recursion (KeepsAssumptions p) named
        (zip_all (IsMoment p) (AllHold (draft_of p claim sought) (numbers_from Assume 0 p.claims)) (KeepsAssumptions p) (λ m i at e. so_far_to p claim sought kept m i at e) (moments_of (numbered p named)) named zipped
        (recursion_from_All (AllHold (draft_of p claim sought) (numbers_from Assume 0 p.claims)) (moments_of (numbered p named)) h.so_far));
  }

  pub premises_of : IsNamedRunOfPremises p named → IsPremisesRun (draft_of p claim sought) (numbered p named)
  premises_of h = record {
    is_run = numbered_is_run p claim sought named h.some;
    equations = equations_of h.assigns;
    so_far =
        All-from_recursion (AllHold (draft_of p claim sought) (numbers_from Assume 0 p.claims)) (moments_of (numbered p named))
        (zip_back (IsMoment p) (AllHold (draft_of p claim sought) (numbers_from Assume 0 p.claims)) (KeepsAssumptions p) (λ m i at e. so_far_from_named p claim sought kept m i at e) (moments_of (numbered p named)) named zipped
        (recursion_from_All (KeepsAssumptions p) named h.assumptions));
  }

-- a claim whose part is this number
module _ (p : Package) (part sought : ℕ) (f : Formula) (kept : IsWellFormed p) (at : IsClaimAt p.claims 0 part f) (named : List NamedInstant) where
  pub breaks_to : Breaks (draft_of p (Some part) sought) (numbered p named) → BreaksNamed p f named
  breaks_to h = record {
    premises = premises_to p (Some part) sought kept named h.premises;
    fails = zip_last (IsMoment p) (ClaimIs (draft_of p (Some part) sought) false) (λ i. formula_holds i f ≡ false)
        (λ m i now e. sym (claim_is p (Some part) sought kept m i now part f at) ∙ e) (moments_of (numbered p named)) named (moments_zip p None named) h.claim;
  }

  pub breaks_of : BreaksNamed p f named → Breaks (draft_of p (Some part) sought) (numbered p named)
  breaks_of h = record {
    premises = premises_of p (Some part) sought kept named h.premises;
    earlier = λ k d lt. All-nil (λ n. holds (get_or (front (moments_of (numbered p named))) k d) (all_parts p.ports 0 (formulas p)) n ≡ true);
    claim = zip_last_back (IsMoment p) (ClaimIs (draft_of p (Some part) sought) false) (λ i. formula_holds i f ≡ false)
        (λ m i now e. claim_is p (Some part) sought kept m i now part f at ∙ e) (moments_of (numbered p named)) named (moments_zip p None named) h.fails;
  }

-- ---- a named run for a numbered one

map_where : {A B : Type 0} (t : A → Bool) (f g : A → B) (xs : List A) → list_any t xs ≡ false → ((x : A) → t x ≡ false → f x ≡ g x) → map f xs ≡ map g xs
map_where t f g [] h w = refl
map_where t f g (x ∷ xs) h w =
    let p = or_parts (t x) (list_any t xs) h in
    ap (λ y. y ∷ map f xs) (w x p.0) ∙ ap (λ ys. g x ∷ ys) (map_where t f g xs p.1 w)

folded_folded : (n : List ℕ) → folded (folded n) ≡ folded n
folded_folded [] = refl
folded_folded (c ∷ cs) = ap (λ (d : ℕ). d ∷ folded (folded cs)) (lowercase-lowercase c) ∙ ap (λ (ds : List ℕ). to_ascii_lowercase c ∷ ds) (folded_folded cs)

flags_back : (ports : List Port) (flags : List Bool) → ports_differ ports ≡ true → length flags ≡ length ports → map (λ q. get_or flags (stream_of ports (folded q.name)) false) ports ≡ flags
flags_back [] [] differ e = refl
flags_back [] (b ∷ bs) differ e = absurd (omega arith)
flags_back (q ∷ qs) [] differ e = absurd (omega arith)
flags_back (q ∷ qs) (b ∷ bs) differ e =
    let parts = and_parts (not (names_port qs q.name)) (ports_differ qs) differ in
    let alone : list_any (λ r. same q.name r.name) qs ≡ false = not-true (names_port qs q.name) parts.0 in
    let own : same (folded q.name) q.name ≡ true = is_same (folded q.name) q.name (folded_folded q.name) in
    let later = map_where (λ (r : Port). same q.name r.name) (λ (r : Port). get_or (b ∷ bs) (stream_of (q ∷ qs) (folded r.name)) false) (λ (r : Port). get_or bs (stream_of qs (folded r.name)) false) qs alone
    (λ r apart.
    let other : same (folded r.name) q.name ≡ false = false_from_ne_true (same (folded r.name) q.name) (λ h.
    both_ways (same q.name r.name) apart (is_same q.name r.name (sym (sym (folded_folded r.name) ∙ same_is (folded r.name) q.name h)))) in
    rw (stream_later q qs (folded r.name) other) refl) in
    rw own (ap (λ (xs : List Bool). b ∷ xs) (later ∙ flags_back qs bs parts.1 (omega arith)))

abbrev named_of : Package → Instant → NamedInstant
named_of p i = λ name. get_or i.flags (stream_of p.ports name) false

stands_again : (p : Package) (claim : Option ℕ) (sought : ℕ) (i : Instant) → IsWellFormed p → IsInstant (draft_of p claim sought) i → i ≡ stand_in p (named_of p i)
stands_again p claim sought i kept is =
    let whole : i.whole ≡ [] = nil_from_length i.whole is.whole in
    let flags = sym (flags_back p.ports i.flags kept.different_ports is.flags) in
    same_instant i (stand_in p (named_of p i)) whole flags
  where
    same_instant : (a b : Instant) → a.whole ≡ b.whole → a.flags ≡ b.flags → a ≡ b
    same_instant a b w f = λ k. record { whole = w k; flags = f k }

all_stand : (p : Package) (claim : Option ℕ) (sought : ℕ) (xs : List Instant) → IsWellFormed p → AllByRecursion (IsInstant (draft_of p claim sought)) xs → xs ≡ map (stand_in p) (map (named_of p) xs)
all_stand p claim sought [] kept h = refl
all_stand p claim sought (i ∷ is) kept h =
    ap (λ (x : Instant). x ∷ is) (stands_again p claim sought i kept h.0) ∙ ap (λ (xs : List Instant). stand_in p (named_of p i) ∷ xs) (all_stand p claim sought is kept h.1)

pub named_for : (p : Package) (claim : Option ℕ) (sought : ℕ) (run : Run) → IsWellFormed p → IsRun (draft_of p claim sought) run → (named : List NamedInstant) × StandsFor p run named
named_for p claim sought run kept is =
    (map (named_of p) run.instants, all_stand p claim sought run.instants kept (recursion_from_All (IsInstant (draft_of p claim sought)) run.instants is.each))
