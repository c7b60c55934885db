-- What the numbered problem says at an instant is what the names say there.
use Rattle.std.proofs.Common.{◌≡◌, ℕ, zero, suc, ◌+◌, Bool, true, false, not, ◌&&◌, ◌||◌, ◌⊎◌, subst, List, [], ◌∷◌, ◌++◌, length, map, get_or, Some, refl, sym, ap, ◌∙◌, append_assoc, inl, inr, arith}
use Rattle.std.specs.Prelude.{slice_get}
use Rattle.std.specs.List.{filter, flat_map, AllByRecursion}
use Rattle.std.proofs.lemmas.Bool.{cases_Bool, and_parts}
use Rattle.std.proofs.lemmas.List.{append-nil, get_or-map, get_or_append_left, get_or-append-add, length-append}
use Rattle.ag_stream.specs.declared.problem.Instant.{Instant}
use Rattle.ag_stream.specs.declared.problem.Part.{Part}
use Rattle.ag_stream.specs.declared.problem.Part.TheVariants as parts
use Rattle.ag_stream.specs.Values.{Moment, flag_at, truths_after, holds}
use Rattle.ag_stream.specs.Runs.{Keeps}
use Rattle.ag_small.specs.declared.package.Package.{Package}
use Rattle.ag_small.specs.declared.package.Port.{Port}
use Rattle.ag_small.specs.declared.package.Claim.{Claim}
use Rattle.ag_small.specs.declared.package.ClaimKind.{ClaimKind}
use Rattle.ag_small.specs.declared.package.Assign.{Assign}
use Rattle.ag_small.specs.declared.package.Formula.{Formula}
use Rattle.ag_small.specs.Expressions.{Truth, Named, Group, Not, And, Or, Implies}
use Rattle.ag_small.specs.Rules.{names_port, all_names}
use Rattle.ag_small.specs.Named.{NamedInstant, value_at, formula_holds, KeepsAssign, is_of, stand_in}
use Rattle.ag_small.specs.Numbered.{stream_of, part_count, own_part, parts_of, parts_in, all_parts, equations_from, numbers_from}
use Rattle.ag_small.proofs.Terminals.{same_is}
use Rattle.ag_small.proofs.Streams.{stream_below, port_named}
use Rattle.ag_small.proofs.Numbering.{some_parts}

-- ---- flags

-- the flag of a port's name is what the name has
flag_named : (ports : List Port) (i : NamedInstant) (n : List ℕ) → names_port ports n ≡ true → get_or (map (λ q. value_at i q.name) ports) (stream_of ports n) false ≡ value_at i n
flag_named ports i n h =
    get_or-map (λ (q : Port). value_at i q.name) ports (stream_of ports n) nobody false (stream_below ports n h)
    ∙ ap i (sym (same_is n (get_or ports (stream_of ports n) nobody).name (port_named ports n nobody h)))
  where
    nobody : Port
    nobody = record { name = []; outward = false }

-- the moment's own instant is the one that stands for the names
pub record IsMoment (p : Package) (m : Moment) (i : NamedInstant) : Type 0 where
  pub now : m.now ≡ stand_in p i

pub flag_is : (p : Package) (m : Moment) (i : NamedInstant) (n : List ℕ) → IsMoment p m i → names_port p.ports n ≡ true → flag_at m.now (stream_of p.ports n) ≡ value_at i n
flag_is p m i n at h = ap (λ (x : Instant). flag_at x (stream_of p.ports n)) at.now ∙ flag_named p.ports i n h

-- the truths of a formula's parts at an instant
abbrev truths_in : NamedInstant → Formula → List Bool
truths_in i (Truth b) = b ∷ []
truths_in i (Named n) = value_at i n ∷ []
truths_in i (Group f) = truths_in i f
truths_in i (Not f) = truths_in i f ++ formula_holds i (Not f) ∷ []
truths_in i (And f g) = (truths_in i f ++ truths_in i g) ++ formula_holds i (And f g) ∷ []
truths_in i (Or f g) = (truths_in i f ++ truths_in i g) ++ formula_holds i (Or f g) ∷ []
truths_in i (Implies f g) = ((truths_in i f ++ truths_in i g) ++ not (formula_holds i f) ∷ []) ++ formula_holds i (Implies f g) ∷ []

length-push : (xs : List Bool) (x : Bool) → length (xs ++ x ∷ []) ≡ length xs + 1
length-push xs x = length-append xs (x ∷ [])

length-truths_in : (i : NamedInstant) (f : Formula) → length (truths_in i f) ≡ part_count f
length-truths_in i (Truth b) = refl
length-truths_in i (Named n) = refl
length-truths_in i (Group f) = length-truths_in i f
length-truths_in i (Not f) = length-push (truths_in i f) (formula_holds i (Not f)) ∙ omega (arith, length-truths_in i f)
length-truths_in i (And f g) = length-push (truths_in i f ++ truths_in i g) (formula_holds i (And f g)) ∙ omega (arith, length-append (truths_in i f) (truths_in i g), length-truths_in i f, length-truths_in i g)
length-truths_in i (Or f g) = length-push (truths_in i f ++ truths_in i g) (formula_holds i (Or f g)) ∙ omega (arith, length-append (truths_in i f) (truths_in i g), length-truths_in i f, length-truths_in i g)
length-truths_in i (Implies f g) =
    length-push ((truths_in i f ++ truths_in i g) ++ not (formula_holds i f) ∷ []) (formula_holds i (Implies f g))
    ∙ omega (arith, length-push (truths_in i f ++ truths_in i g) (not (formula_holds i f)), length-append (truths_in i f) (truths_in i g), length-truths_in i f, length-truths_in i g)

get_last : (xs : List Bool) (x : Bool) (n : ℕ) → n ≡ length xs → get_or (xs ++ x ∷ []) n false ≡ x
get_last xs x n e = ap (λ (k : ℕ). get_or (xs ++ x ∷ []) k false) (omega (arith, e)) ∙ get_or-append-add xs (x ∷ []) 0 false

last_behind : (known xs : List Bool) (x : Bool) (n : ℕ) → n ≡ length known + length xs → get_or (known ++ (xs ++ x ∷ [])) n false ≡ x
last_behind known xs x n e =
    ap (λ (ys : List Bool). get_or ys n false) (sym (append_assoc known xs (x ∷ [])))
    ∙ get_last (known ++ xs) x n (omega (arith, e, length-append known xs))

-- the last of a formula's truths is its own
own_truth : (i : NamedInstant) (known : List Bool) (f : Formula) (n : ℕ) → n ≡ own_part (length known) f → get_or (known ++ truths_in i f) n false ≡ formula_holds i f
own_truth i known (Truth b) n e = get_last known b n (omega (arith, e))
own_truth i known (Named name) n e = get_last known (value_at i name) n (omega (arith, e))
own_truth i known (Group f) n e = own_truth i known f n e
own_truth i known (Not f) n e = last_behind known (truths_in i f) (formula_holds i (Not f)) n (omega (arith, e, length-truths_in i f))
own_truth i known (And f g) n e =
    last_behind known (truths_in i f ++ truths_in i g) (formula_holds i (And f g)) n (omega (arith, e, length-append (truths_in i f) (truths_in i g), length-truths_in i f, length-truths_in i g))
own_truth i known (Or f g) n e =
    last_behind known (truths_in i f ++ truths_in i g) (formula_holds i (Or f g)) n (omega (arith, e, length-append (truths_in i f) (truths_in i g), length-truths_in i f, length-truths_in i g))
own_truth i known (Implies f g) n e =
    last_behind known ((truths_in i f ++ truths_in i g) ++ not (formula_holds i f) ∷ []) (formula_holds i (Implies f g)) n
    (omega (arith, e, length-push (truths_in i f ++ truths_in i g) (not (formula_holds i f)), length-append (truths_in i f) (truths_in i g), length-truths_in i f, length-truths_in i g))

-- it stays where more truths follow
own_before : (i : NamedInstant) (known more : List Bool) (f : Formula) (n : ℕ) → n ≡ own_part (length known) f → get_or ((known ++ truths_in i f) ++ more) n false ≡ formula_holds i f
own_before i known more f n e =
    get_or_append_left (known ++ truths_in i f) more false n (omega (arith, e, some_parts f, length-append known (truths_in i f), length-truths_in i f))
    ∙ own_truth i known f n e

-- what stands behind the truths of two operands
nested : (known a b : List Bool) (x : Bool) → ((known ++ a) ++ b) ++ x ∷ [] ≡ known ++ ((a ++ b) ++ x ∷ [])
nested known a b x =
    ap (λ (ys : List Bool). ys ++ x ∷ []) (append_assoc known a b) ∙ append_assoc known (a ++ b) (x ∷ [])

-- the parts of two operands, and what serves them
operands_say : (m : Moment) (known one both : List Bool) (pf pg tail rest : List Part)
    → ((more : List Part) → truths_after m known (pf ++ more) ≡ truths_after m one more)
    → ((more : List Part) → truths_after m one (pg ++ more) ≡ truths_after m both more)
    → truths_after m known ((pf ++ (pg ++ tail)) ++ rest) ≡ truths_after m both (tail ++ rest)
operands_say m known one both pf pg tail rest f g =
    ap (truths_after m known) (append_assoc pf (pg ++ tail) rest ∙ ap (λ (xs : List Part). pf ++ xs) (append_assoc pg tail rest))
    ∙ f (pg ++ (tail ++ rest)) ∙ g (tail ++ rest)

module _ (p : Package) (m : Moment) (i : NamedInstant) (at : IsMoment p m i) where
  abbrev NamesPorts : Formula → Type 0
  NamesPorts f = all_names (names_port p.ports) f ≡ true

  longer : (known : List Bool) (first : ℕ) (f : Formula) → first ≡ length known → first + part_count f ≡ length (known ++ truths_in i f)
  longer known first f e = omega (arith, e, length-append known (truths_in i f), length-truths_in i f)

  left_says : (known : List Bool) (first : ℕ) (f g : Formula) → first ≡ length known → get_or ((known ++ truths_in i f) ++ truths_in i g) (own_part first f) false ≡ formula_holds i f
  left_says known first f g e = own_before i known (truths_in i g) f (own_part first f) (omega (arith, e))

  right_says : (known : List Bool) (first : ℕ) (f g : Formula) → first ≡ length known → get_or ((known ++ truths_in i f) ++ truths_in i g) (own_part (first + part_count f) g) false ≡ formula_holds i g
  right_says known first f g e = own_truth i (known ++ truths_in i f) g (own_part (first + part_count f) g) (omega (arith, longer known first f e))

  -- a formula's parts have its truths
  formula_says : (known : List Bool) (first : ℕ) (f : Formula) (rest : List Part) → first ≡ length known → NamesPorts f
      → truths_after m known (parts_of p.ports first f ++ rest) ≡ truths_after m (known ++ truths_in i f) rest
  formula_says known first (Truth b) rest e h = refl
  formula_says known first (Named n) rest e h = ap (λ (x : Bool). truths_after m (known ++ x ∷ []) rest) (flag_is p m i n at h)
  formula_says known first (Group f) rest e h = formula_says known first f rest e h
  formula_says known first (Not f) rest e h =
      ap (truths_after m known) (append_assoc (parts_of p.ports first f) (parts.Not (own_part first f) ∷ []) rest)
      ∙ formula_says known first f (parts.Not (own_part first f) ∷ rest) e h
      ∙ ap (λ (x : Bool). truths_after m ((known ++ truths_in i f) ++ x ∷ []) rest) (ap not (own_truth i known f (own_part first f) (omega (arith, e))))
      ∙ ap (λ (xs : List Bool). truths_after m xs rest) (append_assoc known (truths_in i f) (formula_holds i (Not f) ∷ []))
  formula_says known first (And f g) rest e h =
      let k = and_parts (all_names (names_port p.ports) f) (all_names (names_port p.ports) g) h in
      let one = known ++ truths_in i f in
      let both = one ++ truths_in i g in
      operands_say m known one both (parts_of p.ports first f) (parts_of p.ports (first + part_count f) g) (parts.And (own_part first f) (own_part (first + part_count f) g) ∷ []) rest
      (λ more. formula_says known first f more e k.0) (λ more. formula_says one (first + part_count f) g more (longer known first f e) k.1)
      ∙ ap (λ (x : Bool). truths_after m (both ++ x ∷ []) rest) (λ j. left_says known first f g e j && right_says known first f g e j)
      ∙ ap (λ (xs : List Bool). truths_after m xs rest) (nested known (truths_in i f) (truths_in i g) (formula_holds i (And f g)))
  formula_says known first (Or f g) rest e h =
      let k = and_parts (all_names (names_port p.ports) f) (all_names (names_port p.ports) g) h in
      let one = known ++ truths_in i f in
      let both = one ++ truths_in i g in
      operands_say m known one both (parts_of p.ports first f) (parts_of p.ports (first + part_count f) g) (parts.Or (own_part first f) (own_part (first + part_count f) g) ∷ []) rest
      (λ more. formula_says known first f more e k.0) (λ more. formula_says one (first + part_count f) g more (longer known first f e) k.1)
      ∙ ap (λ (x : Bool). truths_after m (both ++ x ∷ []) rest) (λ j. left_says known first f g e j || right_says known first f g e j)
      ∙ ap (λ (xs : List Bool). truths_after m xs rest) (nested known (truths_in i f) (truths_in i g) (formula_holds i (Or f g)))
  formula_says known first (Implies f g) rest e h =
      let k = and_parts (all_names (names_port p.ports) f) (all_names (names_port p.ports) g) h in
      let one = known ++ truths_in i f in
      let both = one ++ truths_in i g in
      let contrary = not (formula_holds i f) in
      let three = both ++ contrary ∷ [] in
      let last = parts.Or (first + part_count f + part_count g) (own_part (first + part_count f) g) in
      let count : first + part_count f + part_count g ≡ length both = omega (arith, longer known first f e, length-append one (truths_in i g), length-truths_in i g) in
      let left : get_or three (first + part_count f + part_count g) false ≡ contrary = get_last both contrary (first + part_count f + part_count g) count in
      let right : get_or three (own_part (first + part_count f) g) false ≡ formula_holds i g = own_before i one (contrary ∷ []) g (own_part (first + part_count f) g) (omega (arith, longer known first f e)) in
      operands_say m known one both (parts_of p.ports first f) (parts_of p.ports (first + part_count f) g) (parts.Not (own_part first f) ∷ last ∷ []) rest
      (λ more. formula_says known first f more e k.0) (λ more. formula_says one (first + part_count f) g more (longer known first f e) k.1)
      ∙ ap (λ (x : Bool). truths_after m (both ++ x ∷ []) (last ∷ rest)) (ap not (left_says known first f g e))
      ∙ ap (λ (x : Bool). truths_after m (three ++ x ∷ []) rest) (λ j. left j || right j)
      ∙ ap (λ (xs : List Bool). truths_after m (xs ++ formula_holds i (Implies f g) ∷ []) rest) (nested known (truths_in i f) (truths_in i g) contrary)
      ∙ ap (λ (xs : List Bool). truths_after m xs rest) (append_assoc known ((truths_in i f ++ truths_in i g) ++ contrary ∷ []) (formula_holds i (Implies f g) ∷ []))

  all_say : (known : List Bool) (first : ℕ) (fs : List Formula) → first ≡ length known → AllByRecursion NamesPorts fs
      → truths_after m known (all_parts p.ports first fs) ≡ known ++ flat_map (truths_in i) fs
  all_say known first [] e h = sym (append-nil known)
  all_say known first (f ∷ fs) e h =
      formula_says known first f (all_parts p.ports (first + part_count f) fs) e h.0
      ∙ all_say (known ++ truths_in i f) (first + part_count f) fs (longer known first f e) h.1
      ∙ append_assoc known (truths_in i f) (flat_map (truths_in i) fs)

-- each formula's own part, numbered on, has its truth
abbrev pub Says : NamedInstant → (ℕ → Bool) → ℕ → List Formula → Type 0
Says i truth first [] = Unit {0}
Says i truth first (f ∷ fs) = (truth (own_part first f) ≡ formula_holds i f) × Says i truth (first + part_count f) fs

says_behind : (i : NamedInstant) (known : List Bool) (first : ℕ) (fs : List Formula) (truth : ℕ → Bool) → first ≡ length known
    → ((n : ℕ) → truth n ≡ get_or (known ++ flat_map (truths_in i) fs) n false) → Says i truth first fs
says_behind i known first [] truth e h = tt
says_behind i known first (f ∷ fs) truth e h =
    let again = λ (n : ℕ). h n ∙ ap (λ (xs : List Bool). get_or xs n false) (sym (append_assoc known (truths_in i f) (flat_map (truths_in i) fs))) in (
      again (own_part first f) ∙ own_before i known (flat_map (truths_in i) fs) f (own_part first f) (omega (arith, e)),
      says_behind i (known ++ truths_in i f) (first + part_count f) fs truth (omega (arith, e, length-append known (truths_in i f), length-truths_in i f)) again,
    )

pub parts_say : (p : Package) (m : Moment) (i : NamedInstant) (fs : List Formula) → IsMoment p m i → AllByRecursion (λ f. all_names (names_port p.ports) f ≡ true) fs
    → Says i (holds m (all_parts p.ports 0 fs)) 0 fs
parts_say p m i fs at h =
    says_behind i [] 0 fs (holds m (all_parts p.ports 0 fs)) refl (λ n. ap (λ (xs : List Bool). get_or xs n false) (all_say p m i at [] 0 fs refl h))

pub says_split : (i : NamedInstant) (truth : ℕ → Bool) (first : ℕ) (fs gs : List Formula) → Says i truth first (fs ++ gs) → Says i truth first fs × Says i truth (first + parts_in fs) gs
says_split i truth first [] gs h = (tt, subst (λ (n : ℕ). Says i truth n gs) (omega arith) h)
says_split i truth first (f ∷ fs) gs h =
    let k = says_split i truth (first + part_count f) fs gs h.1 in
    ((h.0, k.0), subst (λ (n : ℕ). Says i truth n gs) (omega arith) k.1)

-- ---- equations and claims by number

module _ (p : Package) (m : Moment) (i : NamedInstant) (truth : ℕ → Bool) (at : IsMoment p m i) where
  pub equations_say : (first : ℕ) (xs : List Assign) → AllByRecursion (λ a. names_port p.ports a.name ≡ true) xs → Says i truth first (map (λ a. a.value) xs)
      → (AllByRecursion (Keeps m truth) (equations_from p.ports first xs) → AllByRecursion (KeepsAssign i) xs)
      × (AllByRecursion (KeepsAssign i) xs → AllByRecursion (Keeps m truth) (equations_from p.ports first xs))
  equations_say first [] names says = (λ _. tt, λ _. tt)
  equations_say first (a ∷ xs) names says =
      let flag = flag_is p m i a.name at names.0 in
      let rest = equations_say (first + part_count a.value) xs names.1 says.1 in
      (λ h. (sym flag ∙ h.0 ∙ says.0, rest.0 h.1), λ h. (flag ∙ h.0 ∙ sym says.0, rest.1 h.1))

  pub numbers_say : (kind : ClaimKind) (first : ℕ) (cs : List Claim) → Says i truth first (map (λ c. c.formula) cs)
      → (AllByRecursion (λ part. truth part ≡ true) (numbers_from kind first cs) → AllByRecursion (λ f. formula_holds i f ≡ true) (map (λ c. c.formula) (filter (λ c. is_of kind c.kind) cs)))
      × (AllByRecursion (λ f. formula_holds i f ≡ true) (map (λ c. c.formula) (filter (λ c. is_of kind c.kind) cs)) → AllByRecursion (λ part. truth part ≡ true) (numbers_from kind first cs))
  numbers_say kind first [] says = (λ _. tt, λ _. tt)
  numbers_say kind first (c ∷ cs) says =
      let rest = numbers_say kind (first + part_count c.formula) cs says.1 in
      elim (cases_Bool (is_of kind c.kind)) [
        | inl yes' ↦ rw yes' (λ h. (sym says.0 ∙ h.0, rest.0 h.1), λ h. (says.0 ∙ h.0, rest.1 h.1))
        | inr no' ↦ rw no' rest
      ]

-- the part is that of a claim with this formula, where parts are numbered on
abbrev pub IsClaimAt : List Claim → ℕ → ℕ → Formula → Type 0
IsClaimAt [] first part f = ⊥
IsClaimAt (c ∷ cs) first part f = ((part ≡ own_part first c.formula) × (c.formula ≡ f)) ⊎ IsClaimAt cs (first + part_count c.formula) part f

pub claim_says : (i : NamedInstant) (truth : ℕ → Bool) (first : ℕ) (cs : List Claim) (part : ℕ) (f : Formula) → Says i truth first (map (λ c. c.formula) cs) → IsClaimAt cs first part f
    → truth part ≡ formula_holds i f
claim_says i truth first [] part f says h = absurd h
claim_says i truth first (c ∷ cs) part f says (inl here) = ap truth here.0 ∙ says.0 ∙ ap (formula_holds i) here.1
claim_says i truth first (c ∷ cs) part f says (inr later) = claim_says i truth (first + part_count c.formula) cs part f says.1 later

pub claim_numbered : (kind : ClaimKind) (first : ℕ) (cs : List Claim) (n part : ℕ) → slice_get (numbers_from kind first cs) n ≡ Some part
    → (f : Formula) × (slice_get (map (λ c. c.formula) (filter (λ c. is_of kind c.kind) cs)) n ≡ Some f) × IsClaimAt cs first part f
claim_numbered kind first [] n part e = absurd cc
claim_numbered kind first (c ∷ cs) zero part e =
    elim (cases_Bool (is_of kind c.kind)) [
      | inl yes' ↦
          let here = rw yes' at e in
          let equal : own_part first c.formula ≡ part = cc in
          (c.formula, rw yes' refl, inl (sym equal, refl))
      | inr no' ↦ let k = claim_numbered kind (first + part_count c.formula) cs zero part (rw no' at e) in (k.0, rw no' k.1, inr k.2)
    ]
claim_numbered kind first (c ∷ cs) (suc n) part e =
    elim (cases_Bool (is_of kind c.kind)) [
      | inl yes' ↦ let k = claim_numbered kind (first + part_count c.formula) cs n part (rw yes' at e) in (k.0, rw yes' k.1, inr k.2)
      | inr no' ↦ let k = claim_numbered kind (first + part_count c.formula) cs (suc n) part (rw no' at e) in (k.0, rw no' k.1, inr k.2)
    ]
