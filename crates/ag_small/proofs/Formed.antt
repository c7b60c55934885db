-- The numbered problems of a package that keeps the rules are well formed, plain and without a cycle.
use Rattle.std.proofs.Common.{◌≡◌, ℕ, zero, suc, ◌+◌, ◌-◌, ◌<◌, ◌≤◌, Bool, true, false, ◌&&◌, ◌||◌, append_assoc, ◌⊎◌, List, [], ◌∷◌, ◌++◌, length, map, get_or, take, drop, Option, Some, None, refl, sym, ap, subst, ◌∙◌, inl, inr, arith, All}
use Rattle.std.specs.Prelude.{IfSome, MatchOption, nat_eq, slice_get, Contains}
use Rattle.std.specs.List.{list_all, list_any, AllByRecursion, IsDistinct}
use Rattle.std.proofs.lemmas.Bool.{cases_Bool, and_parts, or_cases, or_left, or_right, both_ways, ne_eqb, cases_order, false_from_ne_true}
use Rattle.std.proofs.lemmas.List.{length-append, get_or-take, length-take, append-nil}
use Rattle.std.proofs.lemmas.List.Elements.{All-from_recursion, recursion_from_All, All-nil, All-append, All-map}
use Rattle.ag_stream.specs.declared.problem.Part.{Part}
use Rattle.ag_stream.specs.declared.problem.Part.TheVariants as parts
use Rattle.ag_stream.specs.declared.problem.Equation.{Equation}
use Rattle.ag_stream.specs.declared.problem.Equation.TheVariants as equations
use Rattle.ag_stream.specs.Forms.{IsPartOf, IsEquationOf, operands, target, IsPlain, IsPlainPart, IsFlagEquation}
use Rattle.ag_stream.specs.Forms.{IsWellFormed as IsFormed}
use Rattle.ag_stream.specs.Dependence.{Names, PartNames, itself, operand, EquationNames, DependsOn, Leads, directly, through, HasNoCycle}
use Rattle.ag_small.specs.declared.package.Package.{Package}
use Rattle.ag_small.specs.declared.package.Port.{Port}
use Rattle.ag_small.specs.declared.package.Claim.{Claim}
use Rattle.ag_small.specs.declared.package.ClaimKind.{ClaimKind}
use Rattle.ag_small.specs.declared.package.ClaimKind.TheVariants.{Assume}
use Rattle.ag_small.specs.declared.package.Assign.{Assign}
use Rattle.ag_small.specs.declared.package.Formula.{Formula}
use Rattle.ag_small.specs.Expressions.{Truth, Named, Group, Not, And, Or, Implies}
use Rattle.ag_small.specs.Characters.{same}
use Rattle.ag_small.specs.Rules.{IsWellFormed, names_port, names_input, all_names, is_assigned, all_follow, may_follow}
use Rattle.ag_small.specs.Named.{is_of}
use Rattle.ag_small.specs.Numbered.{stream_of, part_count, own_part, parts_of, formulas, parts_in, all_parts, claim_parts, equations_from, numbers_from, draft_of}
use Rattle.ag_small.proofs.Numbering.{some_parts, length-parts_of, length-all_parts, parts_in-claims, parts_in-formulas, few_parts}
use Rattle.ag_small.proofs.Placed.{AllFrom, from_append, from_weaker, from_at, IsNamedIn, IsOperand, IsOf, parts_are, none_twice}
use Rattle.ag_small.proofs.Streams.{any_at, at_any, port_from_same, port_from_input, port_from_output, stream_below, same_from_stream, input_apart, Fits, fits_at, same_too, same_back, stream_later}

pub all_from : {A : Type 0} (p : A → Bool) (xs : List A) → list_all p xs ≡ true → AllByRecursion (λ x. p x ≡ true) xs
all_from p [] h = tt
all_from p (x ∷ xs) h = let k = and_parts (p x) (list_all p xs) h in (k.0, all_from p xs k.1)

both_weaker : (t u : List ℕ → Bool) (f g : Formula) → ((n : List ℕ) → t n ≡ true → u n ≡ true) → (all_names t f && all_names t g) ≡ true
    → (all_names t f ≡ true → all_names u f ≡ true) → (all_names t g ≡ true → all_names u g ≡ true) → (all_names u f && all_names u g) ≡ true
both_weaker t u f g w h one other = let k = and_parts (all_names t f) (all_names t g) h in rw (one k.0, other k.1) refl

all_names_weaker : (t u : List ℕ → Bool) (f : Formula) → ((n : List ℕ) → t n ≡ true → u n ≡ true) → all_names t f ≡ true → all_names u f ≡ true
all_names_weaker t u (Truth b) w h = h
all_names_weaker t u (Named n) w h = w n h
all_names_weaker t u (Group f) w h = all_names_weaker t u f w h
all_names_weaker t u (Not f) w h = all_names_weaker t u f w h
all_names_weaker t u (And f g) w h = both_weaker t u f g w h (λ k. all_names_weaker t u f w k) (λ k. all_names_weaker t u g w k)
all_names_weaker t u (Or f g) w h = both_weaker t u f g w h (λ k. all_names_weaker t u f w k) (λ k. all_names_weaker t u g w k)
all_names_weaker t u (Implies f g) w h = both_weaker t u f g w h (λ k. all_names_weaker t u f w k) (λ k. all_names_weaker t u g w k)

-- ---- the assigns

pub fits_of : (p : Package) → IsWellFormed p → (k : ℕ) (d : Assign) → k < length p.assigns → Fits p.ports (take k p.assigns) (get_or p.assigns k d)
fits_of p kept k d lt = fits_at p.ports [] p.assigns kept.assigns_in_order k d lt

pub assign_names : (p : Package) → IsWellFormed p → All (λ a. names_port p.ports a.name ≡ true) p.assigns
assign_names p kept k d lt = port_from_output p.ports (get_or p.assigns k d).name (fits_of p kept k d lt).output

assigned_before : (p : Package) → IsWellFormed p → (k : ℕ) (n : List ℕ) → k < length p.assigns → is_assigned (take k p.assigns) n ≡ true
    → (j : ℕ) × (j < k) × ((d : Assign) → same n (get_or p.assigns j d).name ≡ true)
assigned_before p kept k n lt h =
    let a = any_at (λ x. same n x.name) (take k p.assigns) h in
    let below : a.0 < k = omega (arith, a.1, length-take k p.assigns) in
    (a.0, below, λ d. subst (λ (x : Assign). same n x.name ≡ true) (get_or-take k p.assigns a.0 d below) (a.2 d))

pub assign_values : (p : Package) → IsWellFormed p → All (λ a. all_names (names_port p.ports) a.value ≡ true) p.assigns
assign_values p kept k d lt =
    all_names_weaker (λ n. names_input p.ports n || is_assigned (take k p.assigns) n) (names_port p.ports) (get_or p.assigns k d).value
    (λ n h. elim (or_cases (names_input p.ports n) (is_assigned (take k p.assigns) n) h) [
      | inl input ↦ port_from_input p.ports n input
      | inr earlier ↦
          let a = assigned_before p kept k n lt earlier in
          port_from_same p.ports n (get_or p.assigns a.0 d).name (a.2 d) (assign_names p kept a.0 d (omega (arith, a.1)))
    ])
    (fits_of p kept k d lt).value

pub formula_names : (p : Package) → IsWellFormed p → All (λ f. all_names (names_port p.ports) f ≡ true) (formulas p)
formula_names p kept =
    All-append (λ f. all_names (names_port p.ports) f ≡ true) (map (λ c. c.formula) p.claims) (map (λ a. a.value) p.assigns)
    (All-map (λ f. all_names (names_port p.ports) f ≡ true) (λ (c : Claim). c.formula) p.claims (All-from_recursion (λ (c : Claim). all_names (names_port p.ports) c.formula ≡ true) p.claims (all_from (λ (c : Claim). all_names (names_port p.ports) c.formula) p.claims kept.claims_name_ports)))
    (All-map (λ f. all_names (names_port p.ports) f ≡ true) (λ (a : Assign). a.value) p.assigns (assign_values p kept))

-- two assigns are of different streams
assigns_apart : (p : Package) → IsWellFormed p → (j k : ℕ) (d : Assign) → j < k → k < length p.assigns → stream_of p.ports (get_or p.assigns j d).name ≡ stream_of p.ports (get_or p.assigns k d).name → ⊥
assigns_apart p kept j k d lt long e =
    let name_j = (get_or p.assigns j d).name in
    let name_k = (get_or p.assigns k d).name in
    let alike = same_from_stream p.ports name_k name_j (assign_names p kept k d long) (assign_names p kept j d (omega arith)) (sym e) in
    let there : is_assigned (take k p.assigns) name_k ≡ true =
    at_any (λ x. same name_k x.name) (take k p.assigns) j d (omega (arith, length-take k p.assigns)) (rw (get_or-take k p.assigns j d lt) alike) in
    both_ways (is_assigned (take k p.assigns) name_k) (fits_of p kept k d long).fresh there

-- ---- parts and equations by number

pub length_mapped : {A B : Type 0} (f : A → B) (xs : List A) → length (map f xs) ≡ length xs
length_mapped f [] = refl
length_mapped f (x ∷ xs) = ap suc (length_mapped f xs)

pub length-parts : (p : Package) → length (all_parts p.ports 0 (formulas p)) ≡ parts_in (formulas p)
length-parts p = length-all_parts p.ports 0 (formulas p)

pub length-equations_from : (ports : List Port) (first : ℕ) (xs : List Assign) → length (equations_from ports first xs) ≡ length xs
length-equations_from ports first [] = refl
length-equations_from ports first (a ∷ xs) = omega (arith, length-equations_from ports (first + part_count a.value) xs)

-- the part is the own one of a formula whose parts stand among these
record IsAt (ports : List Port) (whole : List Part) (f : Formula) (part : ℕ) : Type 0 where
  front : List Part
  back : List Part
  is : whole ≡ front ++ (parts_of ports (length front) f ++ back)
  own : part ≡ own_part (length front) f

-- the k-th equation is for the k-th assign, and its part is its value's
record IsEquationAt (ports : List Port) (whole : List Part) (a : Assign) (e : Equation) : Type 0 where
  part : ℕ
  is : e ≡ equations.Flag (stream_of ports a.name) part
  at : IsAt ports whole a.value part

equation_at : (ports : List Port) (whole front : List Part) (first : ℕ) (xs : List Assign) (k : ℕ) (e : Equation) (d : Assign) → first ≡ length front → whole ≡ front ++ all_parts ports first (map (λ a. a.value) xs) → k < length xs
    → IsEquationAt ports whole (get_or xs k d) (get_or (equations_from ports first xs) k e)
equation_at ports whole front first [] k e d long is lt = absurd (omega arith)
equation_at ports whole front first (a ∷ xs) zero e d long is lt = record {
  part = own_part first a.value;
  is = refl;
  at = record {
    front = front;
    back = all_parts ports (first + part_count a.value) (map (λ (x : Assign). x.value) xs);
    is = is ∙ ap (λ (n : ℕ). front ++ (parts_of ports n a.value ++ all_parts ports (first + part_count a.value) (map (λ (x : Assign). x.value) xs))) long;
    own = ap (λ (n : ℕ). own_part n a.value) long;
  };
}
equation_at ports whole front first (a ∷ xs) (suc k) e d long is lt =
    equation_at ports whole (front ++ parts_of ports first a.value) (first + part_count a.value) xs k e d
    (omega (arith, long, length-append front (parts_of ports first a.value), length-parts_of ports first a.value))
    (is ∙ sym (append_assoc front (parts_of ports first a.value) (all_parts ports (first + part_count a.value) (map (λ (x : Assign). x.value) xs))))
    (omega arith)

all_parts-append : (ports : List Port) (first : ℕ) (fs gs : List Formula) → all_parts ports first (fs ++ gs) ≡ all_parts ports first fs ++ all_parts ports (first + parts_in fs) gs
all_parts-append ports first [] gs = ap (λ (n : ℕ). all_parts ports n gs) (omega arith)
all_parts-append ports first (f ∷ fs) gs =
    ap (λ (ps : List Part). parts_of ports first f ++ ps) (all_parts-append ports (first + part_count f) fs gs ∙ ap (λ (n : ℕ). all_parts ports (first + part_count f) fs ++ all_parts ports n gs) (omega arith))
    ∙ sym (append_assoc (parts_of ports first f) (all_parts ports (first + part_count f) fs) (all_parts ports (first + parts_in (f ∷ fs)) gs))

pub claims_before : (p : Package) → all_parts p.ports 0 (formulas p) ≡ all_parts p.ports 0 (map (λ c. c.formula) p.claims) ++ all_parts p.ports (claim_parts p.claims) (map (λ a. a.value) p.assigns)
claims_before p =
    all_parts-append p.ports 0 (map (λ (c : Claim). c.formula) p.claims) (map (λ (a : Assign). a.value) p.assigns)
    ∙ ap (λ (n : ℕ). all_parts p.ports 0 (map (λ (c : Claim). c.formula) p.claims) ++ all_parts p.ports n (map (λ (a : Assign). a.value) p.assigns)) (omega (arith, parts_in-claims p.claims))

drop_done : (cs : List Claim) (k : ℕ) → length cs ≤ k → drop k cs ≡ []
drop_done [] zero le = refl
drop_done [] (suc k) le = refl
drop_done (c ∷ cs) zero le = absurd (omega arith)
drop_done (c ∷ cs) (suc k) le = drop_done cs k (omega arith)

-- where the parts of all claims are made, the assigns' follow
pub claims_done : (p : Package) (ps : List Part) (k : ℕ) → length p.claims ≤ k
    → ps ++ all_parts p.ports (length ps) (map (λ c. c.formula) (drop k p.claims)) ≡ all_parts p.ports 0 (map (λ c. c.formula) p.claims)
    → (ps ++ all_parts p.ports (length ps) (map (λ a. a.value) p.assigns) ≡ all_parts p.ports 0 (formulas p)) × (length ps + parts_in (map (λ a. a.value) p.assigns) ≡ parts_in (formulas p))
claims_done p ps k le e =
    let front = all_parts p.ports 0 (map (λ (c : Claim). c.formula) p.claims) in
    let values = map (λ (a : Assign). a.value) p.assigns in
    let made : ps ≡ front = sym (append-nil ps) ∙ subst (λ (cs : List Claim). ps ++ all_parts p.ports (length ps) (map (λ (c : Claim). c.formula) cs) ≡ front) (drop_done p.claims k le) e in
    let long : length ps ≡ claim_parts p.claims = ap length made ∙ length-all_parts p.ports 0 (map (λ (c : Claim). c.formula) p.claims) ∙ parts_in-claims p.claims in (
      (λ j. made j ++ all_parts p.ports (long j) values) ∙ sym (claims_before p),
      omega (arith, long, parts_in-formulas p),
    )

assign_equation : (p : Package) (k : ℕ) (e : Equation) (d : Assign) → k < length p.assigns → IsEquationAt p.ports (all_parts p.ports 0 (formulas p)) (get_or p.assigns k d) (get_or (equations_from p.ports (claim_parts p.claims) p.assigns) k e)
assign_equation p k e d lt =
    equation_at p.ports (all_parts p.ports 0 (formulas p)) (all_parts p.ports 0 (map (λ (c : Claim). c.formula) p.claims)) (claim_parts p.claims) p.assigns k e d
    (omega (arith, length-all_parts p.ports 0 (map (λ (c : Claim). c.formula) p.claims), parts_in-claims p.claims)) (claims_before p) lt

pub numbers_below : (kind : ClaimKind) (first : ℕ) (cs : List Claim) (limit : ℕ) → first + claim_parts cs ≤ limit → AllByRecursion (λ n. n < limit) (numbers_from kind first cs)
numbers_below kind first [] limit le = tt
numbers_below kind first (c ∷ cs) limit le =
    let rest = numbers_below kind (first + part_count c.formula) cs limit (omega arith) in
    elim (cases_Bool (is_of kind c.kind)) [ inl yes' ↦ rw yes' (omega (arith, some_parts c.formula), rest) | inr no' ↦ rw no' rest ]

pub length-numbers_from : (kind : ClaimKind) (first : ℕ) (cs : List Claim) → length (numbers_from kind first cs) ≤ length cs
length-numbers_from kind first [] = omega arith
length-numbers_from kind first (c ∷ cs) =
    let rest = length-numbers_from kind (first + part_count c.formula) cs in
    elim (cases_Bool (is_of kind c.kind)) [ inl yes' ↦ rw yes' (omega arith) | inr no' ↦ rw no' (omega arith) ]

-- a part of the problem: of its streams, plain, and behind its operands
record IsSound (p : Package) (claim : Option ℕ) (sought n : ℕ) (q : Part) : Type 0 where
  fits : IsPartOf (draft_of p claim sought) q
  plain : IsPlainPart q
  before : All (λ a. a < n) (operands q)

part_sound : (p : Package) (claim : Option ℕ) (sought : ℕ) (f : Formula) → all_names (names_port p.ports) f ≡ true → (first n : ℕ) (q : Part) → IsOf p.ports f first n q → IsSound p claim sought n q
part_sound p claim sought f names first n (parts.Truth b) h = record { fits = tt; plain = tt; before = All-nil (λ a. a < n) }
part_sound p claim sought f names first n (parts.Flag stream before) h = record {
  fits = omega (arith, h.3, stream_below p.ports h.0 (h.1 (names_port p.ports) names));
  plain = h.2;
  before = All-nil (λ a. a < n);
}
part_sound p claim sought f names first n (parts.Not a) h = record { fits = tt; plain = tt; before = All-from_recursion (λ a. a < n) (a ∷ []) (h.below, tt) }
part_sound p claim sought f names first n (parts.And a b) h = record { fits = tt; plain = tt; before = All-from_recursion (λ a. a < n) (a ∷ b ∷ []) (h.0.below, (h.1.below, tt)) }
part_sound p claim sought f names first n (parts.Or a b) h = record { fits = tt; plain = tt; before = All-from_recursion (λ a. a < n) (a ∷ b ∷ []) (h.0.below, (h.1.below, tt)) }
part_sound p claim sought f names first n (parts.Compare row) h = absurd h
part_sound p claim sought f names first n (parts.Same a b) h = absurd h
part_sound p claim sought f names first n (parts.Choice a b c) h = absurd h
part_sound p claim sought f names first n (parts.Arrow a b) h = absurd h

parts_sound : (p : Package) (claim : Option ℕ) (sought first : ℕ) (fs : List Formula) → AllByRecursion (λ f. all_names (names_port p.ports) f ≡ true) fs → AllFrom (IsSound p claim sought) first (all_parts p.ports first fs)
parts_sound p claim sought first [] h = tt
parts_sound p claim sought first (f ∷ fs) h =
    from_append (IsSound p claim sought) first (parts_of p.ports first f) (all_parts p.ports (first + part_count f) fs)
    (from_weaker (IsOf p.ports f first) (IsSound p claim sought) (part_sound p claim sought f h.0 first) first (parts_of p.ports first f) (parts_are p.ports first f))
    (subst (λ (n : ℕ). AllFrom (IsSound p claim sought) n (all_parts p.ports (first + part_count f) fs)) (omega (arith, length-parts_of p.ports first f)) (parts_sound p claim sought (first + part_count f) fs h.1))

all_sound : (p : Package) (claim : Option ℕ) (sought : ℕ) → IsWellFormed p → AllFrom (IsSound p claim sought) 0 (all_parts p.ports 0 (formulas p))
all_sound p claim sought kept = parts_sound p claim sought 0 (formulas p) (recursion_from_All (λ f. all_names (names_port p.ports) f ≡ true) (formulas p) (formula_names p kept))

from_all : (P : ℕ → Part → Type 0) (Q : Part → Type 0) → ((n : ℕ) (q : Part) → P n q → Q q) → (n : ℕ) (qs : List Part) → AllFrom P n qs → AllByRecursion Q qs
from_all P Q w n [] h = tt
from_all P Q w n (q ∷ qs) h = (w n q h.0, from_all P Q w (n + 1) qs h.1)

equations_fit : (p : Package) (claim : Option ℕ) (sought first : ℕ) (xs : List Assign) → AllByRecursion (λ a. names_port p.ports a.name ≡ true) xs
    → first + parts_in (map (λ a. a.value) xs) ≤ length (all_parts p.ports 0 (formulas p)) → AllByRecursion (IsEquationOf (draft_of p claim sought)) (equations_from p.ports first xs)
equations_fit p claim sought first [] h le = tt
equations_fit p claim sought first (a ∷ xs) h le =
    ((stream_below p.ports a.name h.0, omega (arith, some_parts a.value, le)), equations_fit p claim sought (first + part_count a.value) xs h.1 (omega (arith, le)))

-- what stands among the earlier assigns is assigned by them
record Covers (earlier : List Assign) (a : Assign) : Type 0 where
  covers : (n : List ℕ) → same n a.name ≡ true → is_assigned earlier n ≡ true

any_left : {A : Type 0} (t : A → Bool) (xs ys : List A) → list_any t xs ≡ true → list_any t (xs ++ ys) ≡ true
any_left t [] ys h = absurd cc
any_left t (x ∷ xs) ys h =
    elim (or_cases (t x) (list_any t xs) h) [
      | inl here ↦ or_left (t x) (list_any t (xs ++ ys)) here
      | inr later ↦ or_right (t x) (list_any t (xs ++ ys)) (any_left t xs ys later)
    ]

any_last : {A : Type 0} (t : A → Bool) (xs : List A) (y : A) → t y ≡ true → list_any t (xs ++ y ∷ []) ≡ true
any_last t [] y h = or_left (t y) false h
any_last t (x ∷ xs) y h = or_right (t x) (list_any t (xs ++ y ∷ [])) (any_last t xs y h)

target_apart : (ports : List Port) (a : Assign) (earlier : List Assign) (part : ℕ) (later : List Assign) → names_port ports a.name ≡ true → Covers earlier a → all_follow ports earlier later ≡ true
    → AllByRecursion (λ y. nat_eq (0 + stream_of ports a.name) y ≡ false) (map (target 0) (equations_from ports part later))
target_apart ports a earlier first [] port cov h = tt
target_apart ports a earlier first (b ∷ later) port cov h =
    let fit = fits_at ports earlier (b ∷ later) h 0 b (omega arith) in
    let now = and_parts (may_follow ports earlier b) (all_follow ports (earlier ++ b ∷ []) later) h in
    let fresh : is_assigned earlier b.name ≡ false = subst (λ (e : List Assign). is_assigned e b.name ≡ false) (append-nil earlier) fit.fresh in (
      ne_eqb (0 + stream_of ports a.name) (0 + stream_of ports b.name) (λ e.
          let equal : stream_of ports b.name ≡ stream_of ports a.name = omega arith in
          both_ways (is_assigned earlier b.name) fresh (cov.covers b.name (same_from_stream ports b.name a.name (port_from_output ports b.name fit.output) port equal))),
      target_apart ports a (earlier ++ b ∷ []) (first + part_count b.value) later port (record { covers = λ n e. any_left (λ x. same n x.name) earlier (b ∷ []) (cov.covers n e) }) now.1,
    )

targets_distinct : (ports : List Port) (earlier : List Assign) (part : ℕ) (later : List Assign) → all_follow ports earlier later ≡ true → IsDistinct nat_eq (map (target 0) (equations_from ports part later))
unfolding IsDistinct
targets_distinct ports earlier first [] h = tt
targets_distinct ports earlier first (a ∷ later) h =
    let fit = fits_at ports earlier (a ∷ later) h 0 a (omega arith) in
    let now = and_parts (may_follow ports earlier a) (all_follow ports (earlier ++ a ∷ []) later) h in (
      target_apart ports a (earlier ++ a ∷ []) (first + part_count a.value) later (port_from_output ports a.name fit.output) (record { covers = λ n e. any_last (λ x. same n x.name) earlier a e }) now.1,
      targets_distinct ports (earlier ++ a ∷ []) (first + part_count a.value) later now.1,
    )

pub formed : (p : Package) (claim : Option ℕ) (sought : ℕ) → IsWellFormed p → IfSome claim (λ part. part < claim_parts p.claims) → MatchOption claim ((1 ≤ sought) × (sought ≤ 30)) (λ _. sought ≡ 0)
    → IsFormed (draft_of p claim sought)
formed p claim sought kept inside long =
    let few = few_parts p kept in
    let ports = kept.few_ports in
    let whole = all_parts p.ports 0 (formulas p) in
    let long_parts = length-parts p in
    let split = parts_in-formulas p in
    let sound = all_sound p claim sought kept in
    record {
      ints = omega arith;
      flags = omega arith;
      parts = omega arith;
      each_part = All-from_recursion (IsPartOf (draft_of p claim sought)) whole (from_all (IsSound p claim sought) (IsPartOf (draft_of p claim sought)) (λ n q h. h.fits) 0 whole sound);
      before = λ n q e. subst (λ (m : ℕ). All (λ a. a < m) (operands q)) (omega arith) (from_at (IsSound p claim sought) 0 whole n q sound e).before;
      once = none_twice p.ports (formulas p);
      each_equation = All-from_recursion (IsEquationOf (draft_of p claim sought)) (equations_from p.ports (claim_parts p.claims) p.assigns)
          (equations_fit p claim sought (claim_parts p.claims) p.assigns (recursion_from_All (λ a. names_port p.ports a.name ≡ true) p.assigns (assign_names p kept)) (omega arith));
      one_each = targets_distinct p.ports [] (claim_parts p.claims) p.assigns kept.assigns_in_order;
      so_far = All-from_recursion (λ n. n < length whole) (numbers_from Assume 0 p.claims) (numbers_below Assume 0 p.claims (length whole) (omega arith));
      earlier = All-nil (λ n. n < length whole);
      claim = claim_inside claim (claim_parts p.claims) (length whole) (omega arith) inside;
      length = long;
    }
  where
    claim_inside : (claim : Option ℕ) (small large : ℕ) → small ≤ large → IfSome claim (λ part. part < small) → IfSome claim (λ part. part < large)
    claim_inside None small large le h = tt
    claim_inside (Some part) small large le h = omega arith

plain_equations : (ports : List Port) (first : ℕ) (xs : List Assign) → AllByRecursion IsFlagEquation (equations_from ports first xs)
plain_equations ports first [] = tt
plain_equations ports first (a ∷ xs) = (tt, plain_equations ports (first + part_count a.value) xs)

pub plain : (p : Package) (claim : Option ℕ) (sought : ℕ) → IsWellFormed p → IsPlain (draft_of p claim sought)
plain p claim sought kept =
    let whole = all_parts p.ports 0 (formulas p) in
    record {
      ints = refl;
      parts = All-from_recursion IsPlainPart whole (from_all (IsSound p claim sought) IsPlainPart (λ n q h. h.plain) 0 whole (all_sound p claim sought kept));
      equations = All-from_recursion IsFlagEquation (equations_from p.ports (claim_parts p.claims) p.assigns) (plain_equations p.ports (claim_parts p.claims) p.assigns);
      free = omega (arith, kept.few_ports);
    }

-- ---- no cycle

slice_front : (mid back : List Part) (n : ℕ) (q : Part) → n < length mid → slice_get (mid ++ back) n ≡ Some q → slice_get mid n ≡ Some q
slice_front [] back n q lt e = absurd (omega arith)
slice_front (x ∷ mid) back zero q lt e = cc
slice_front (x ∷ mid) back (suc n) q lt e = slice_front mid back n q (omega arith) e

slice_inside : (front mid back : List Part) (n : ℕ) (q : Part) → length front ≤ n → n < length front + length mid → slice_get (front ++ (mid ++ back)) n ≡ Some q → slice_get mid (n - length front) ≡ Some q
slice_inside [] mid back n q le lt e = slice_front mid back (n - 0) q (omega arith) (subst (λ (m : ℕ). slice_get (mid ++ back) m ≡ Some q) (omega arith) e)
slice_inside (x ∷ front) mid back zero q le lt e = absurd (omega arith)
slice_inside (x ∷ front) mid back (suc n) q le lt e =
    subst (λ (m : ℕ). slice_get mid m ≡ Some q) (omega arith) (slice_inside front mid back n q (omega arith) (omega arith) e)

-- a formula's parts name the streams of its names alone
names_of : (ports : List Port) (f : Formula) (first n r : ℕ) (q : Part) → IsOf ports f first n q → Names 0 q r → (name : List ℕ) × IsNamedIn f name × (r ≡ stream_of ports name)
names_of ports f first n r (parts.Flag stream before) h k = (h.0, h.1, omega (arith, k.1, h.3))
names_of ports f first n r (parts.Compare row) h k = absurd h
names_of ports f first n r (parts.Truth b) h k = absurd k
names_of ports f first n r (parts.Not a) h k = absurd k
names_of ports f first n r (parts.And a b) h k = absurd k
names_of ports f first n r (parts.Or a b) h k = absurd k
names_of ports f first n r (parts.Same a b) h k = absurd k
names_of ports f first n r (parts.Choice a b c) h k = absurd k
names_of ports f first n r (parts.Arrow a b) h k = absurd k

among_one : (a m : ℕ) → Contains (a ∷ []) m → a ≡ m
among_one a m h = only a m h.0 h.1 h.2
  where
    only : (a m k : ℕ) → k < 1 → get_or (a ∷ []) k m ≡ m → a ≡ m
    only a m zero lt e = e
    only a m (suc k) lt e = absurd (omega arith)

among_two : (a b m : ℕ) → Contains (a ∷ b ∷ []) m → (a ≡ m) ⊎ (b ≡ m)
among_two a b m h = either a b m h.0 h.1 h.2
  where
    either : (a b m k : ℕ) → k < 2 → get_or (a ∷ b ∷ []) k m ≡ m → (a ≡ m) ⊎ (b ≡ m)
    either a b m zero lt e = inl e
    either a b m (suc zero) lt e = inr e
    either a b m (suc (suc k)) lt e = absurd (omega arith)

one_operand : (first n a m : ℕ) → IsOperand first n a → a ≡ m → IsOperand first n m
one_operand first n a m h e = record { from = omega (arith, h.from, e); below = omega (arith, h.below, e) }

operand_of : (ports : List Port) (f : Formula) (first n m : ℕ) (q : Part) → IsOf ports f first n q → Contains (operands q) m → IsOperand first n m
operand_of ports f first n m (parts.Truth b) h k = absurd (omega (arith, k.1))
operand_of ports f first n m (parts.Flag stream before) h k = absurd (omega (arith, k.1))
operand_of ports f first n m (parts.Not a) h k = one_operand first n a m h (among_one a m k)
operand_of ports f first n m (parts.And a b) h k = elim (among_two a b m k) [ inl e ↦ one_operand first n a m h.0 e | inr e ↦ one_operand first n b m h.1 e ]
operand_of ports f first n m (parts.Or a b) h k = elim (among_two a b m k) [ inl e ↦ one_operand first n a m h.0 e | inr e ↦ one_operand first n b m h.1 e ]
operand_of ports f first n m (parts.Compare row) h k = absurd h
operand_of ports f first n m (parts.Same a b) h k = absurd h
operand_of ports f first n m (parts.Choice a b c) h k = absurd h
operand_of ports f first n m (parts.Arrow a b) h k = absurd h

-- among a formula's parts
part_is : (p : Package) (claim : Option ℕ) (sought n : ℕ) (q : Part) (front back : List Part) (f : Formula) → all_parts p.ports 0 (formulas p) ≡ front ++ (parts_of p.ports (length front) f ++ back)
    → length front ≤ n → n < length front + part_count f → slice_get (all_parts p.ports 0 (formulas p)) n ≡ Some q → IsOf p.ports f (length front) n q
part_is p claim sought n q front back f is le lt e =
    let mid = parts_of p.ports (length front) f in
    let there = slice_inside front mid back n q le (omega (arith, lt, length-parts_of p.ports (length front) f)) (subst (λ (ps : List Part). slice_get ps n ≡ Some q) is e) in
    subst (λ (m : ℕ). IsOf p.ports f (length front) m q) (omega (arith, le)) (from_at (IsOf p.ports f (length front)) (length front) mid (n - length front) q (parts_are p.ports (length front) f) there)

part_names : (p : Package) (claim : Option ℕ) (sought r n : ℕ) → PartNames (draft_of p claim sought) r n → (front back : List Part) (f : Formula) → all_parts p.ports 0 (formulas p) ≡ front ++ (parts_of p.ports (length front) f ++ back)
    → length front ≤ n → n < length front + part_count f → (name : List ℕ) × IsNamedIn f name × (r ≡ stream_of p.ports name)
part_names p claim sought r _ (itself n q e names) front back f is le lt = names_of p.ports f (length front) n r q (part_is p claim sought n q front back f is le lt e) names
part_names p claim sought r _ (operand n m q e among below) front back f is le lt =
    let o = operand_of p.ports f (length front) n m q (part_is p claim sought n q front back f is le lt e) among in
    part_names p claim sought r m below front back f is o.from (omega (arith, o.below, lt))

same_stream : (ports : List Port) (n m : List ℕ) → same n m ≡ true → stream_of ports n ≡ stream_of ports m
same_stream [] n m h = refl
same_stream (q ∷ qs) n m h =
    elim (cases_Bool (same n q.name)) [
      | inl here ↦ rw (here, same_too m n q.name (same_back n m h) here) refl
      | inr other ↦
          let still : same m q.name ≡ false = false_from_ne_true (same m q.name) (λ e. both_ways (same n q.name) other (same_too n m q.name h e)) in
          rw (stream_later q qs n other, stream_later q qs m still) (ap suc (same_stream qs n m h))
    ]

-- a stream of an assign and one that its value names: an input, or the stream of an earlier assign
record Reaches (p : Package) (s r : ℕ) : Type 0 where
  from : ℕ
  long : from < length p.assigns
  is : (d : Assign) → s ≡ stream_of p.ports (get_or p.assigns from d).name
  to : ((name : List ℕ) × (names_input p.ports name ≡ true) × (r ≡ stream_of p.ports name)) ⊎ ((j : ℕ) × (j < from) × ((d : Assign) → r ≡ stream_of p.ports (get_or p.assigns j d).name))

equation_names : (p : Package) (claim : Option ℕ) (sought r : ℕ) (e : Equation) (stream part : ℕ) → e ≡ equations.Flag stream part → EquationNames (draft_of p claim sought) e r → PartNames (draft_of p claim sought) r part
equation_names p claim sought r e stream part is h = subst (λ (x : Equation). EquationNames (draft_of p claim sought) x r) is h

any_assign : Assign
any_assign = record { name = []; value = Truth false }

depends : (p : Package) (claim : Option ℕ) (sought s r : ℕ) → IsWellFormed p → DependsOn (draft_of p claim sought) s r → Reaches p s r
depends p claim sought s r kept h =
    let e = h.0 in
    let k = h.1.0 in
    let xs = p.assigns in
    let long : k < length xs = omega (arith, h.1.1, length-equations_from p.ports (claim_parts p.claims) xs) in
    let at = λ (d : Assign). assign_equation p k e d long in
    let target_is = λ (d : Assign). (let t : target 0 e ≡ 0 + stream_of p.ports (get_or xs k d).name = ap (target 0) (sym h.1.2 ∙ (at d).is) in t) in
    let some = get_or xs k any_assign in
    let own = at any_assign in
    let place = own.at in
    let part = equation_names p claim sought r e (stream_of p.ports some.name) own.part (sym h.1.2 ∙ own.is) h.3 in
    let n = part_names p claim sought r own.part part place.front place.back some.value place.is (omega (arith, place.own, some_parts some.value)) (omega (arith, place.own, some_parts some.value)) in
    let fit = fits_of p kept k any_assign long in
    let uses : (names_input p.ports n.0 || is_assigned (take k xs) n.0) ≡ true = n.1 (λ y. names_input p.ports y || is_assigned (take k xs) y) fit.value in
    record {
      from = k;
      long = long;
      is = λ d. omega (arith, h.2, target_is d);
      to = elim (or_cases (names_input p.ports n.0) (is_assigned (take k xs) n.0) uses) [
        | inl input ↦ inl (n.0, input, n.2)
        | inr earlier ↦
            let b = assigned_before p kept k n.0 long earlier in
            inr (b.0, b.1, λ d. n.2 ∙ same_stream p.ports n.0 (get_or xs b.0 d).name (b.2 d))
      ];
    }

same_assign : (p : Package) → IsWellFormed p → (j k : ℕ) → j < length p.assigns → k < length p.assigns → stream_of p.ports (get_or p.assigns j any_assign).name ≡ stream_of p.ports (get_or p.assigns k any_assign).name → j ≡ k
same_assign p kept j k lj lk e =
    elim (cases_order j k) [
      | inl equal ↦ equal
      | inr differ ↦ elim differ [
        | inl lt ↦ absurd (assigns_apart p kept j k any_assign lt lk e)
        | inr gt ↦ absurd (assigns_apart p kept k j any_assign gt lj (sym e))
      ]
    ]

reach : (p : Package) (claim : Option ℕ) (sought r s : ℕ) → IsWellFormed p → Leads (draft_of p claim sought) r s → Reaches p s r
reach p claim sought r _ kept (directly s dep) = depends p claim sought s r kept dep
reach p claim sought r _ kept (through s t dep rest) = joined p s t r kept (depends p claim sought s t kept dep) (reach p claim sought r t kept rest)
  where
    joined : (p : Package) (s t r : ℕ) → IsWellFormed p → Reaches p s t → Reaches p t r → Reaches p s r
    joined p s t r kept one two =
        elim one.to [
          | inl input ↦
              absurd (input_apart p.ports input.0 (get_or p.assigns two.from any_assign).name kept.different_ports input.1 (fits_of p kept two.from any_assign two.long).output (sym input.2 ∙ two.is any_assign))
          | inr earlier ↦
              let equal : earlier.0 ≡ two.from = same_assign p kept earlier.0 two.from (omega (arith, earlier.1, one.long)) two.long (sym (earlier.2 any_assign) ∙ two.is any_assign) in
              record {
                from = one.from;
                long = one.long;
                is = one.is;
                to = elim two.to [
                  | inl input ↦ inl input
                  | inr still ↦ inr (still.0, omega (arith, still.1, earlier.1, equal), still.2)
                ];
              }
        ]

pub acyclic : (p : Package) (claim : Option ℕ) (sought : ℕ) → IsWellFormed p → HasNoCycle (draft_of p claim sought)
acyclic p claim sought kept s leads =
    let k = reach p claim sought s s kept leads in
    elim k.to [
      | inl input ↦ input_apart p.ports input.0 (get_or p.assigns k.from any_assign).name kept.different_ports input.1 (fits_of p kept k.from any_assign k.long).output (sym input.2 ∙ k.is any_assign)
      | inr earlier ↦ assigns_apart p kept earlier.0 k.from any_assign earlier.1 k.long (sym (earlier.2 any_assign) ∙ k.is any_assign)
    ]
