-- Each part of the grammar is what its reading function finds, and nothing else.
use Rattle.std.proofs.Common.{◌≡◌, ℕ, zero, suc, ◌≤◌, Bool, true, false, cond, eqb, leb, ◌⊎◌, List, [], ◌∷◌, length, Option, Some, None, refl, ap, subst, inl, inr, arith}
use Rattle.std.specs.Prelude.{codes, is_some}
use Rattle.std.specs.List.{list_all, flat_map}
use Rattle.std.proofs.lemmas.Bool.{and_parts, and_from, leb-true, le-leb}
use Rattle.std.proofs.lemmas.List.{length-append}
use Rattle.ag_small.specs.declared.package.Port.{Port}
use Rattle.ag_small.specs.declared.package.Claim.{Claim}
use Rattle.ag_small.specs.declared.package.ClaimKind.{ClaimKind}
use Rattle.ag_small.specs.declared.package.ClaimKind.TheVariants.{Assume, Guarantee}
use Rattle.ag_small.specs.declared.package.Assign.{Assign}
use Rattle.ag_small.specs.declared.package.Formula.{Formula}
use Rattle.ag_small.specs.Characters.{folded}
use Rattle.ag_small.specs.Grammar.{Terminal, Fixed, Stands, Spells, direction_text, port_text, formula_text, kind_text, claim_text, assign_text, is_grouped}
use Rattle.ag_small.specs.Rules.{depth, is_in_form}
use Rattle.ag_small.specs.Reading.{expression_with, below, ◌>>=◌, or_else, either_at, fixed_at, all_fixed_at, name_at, label_at, formula_at, direction_at, kind_at, port_at, claim_at, assign_at, items_at}
use Rattle.ag_small.proofs.Tools.{bind_some, some_is}
use Rattle.ag_small.proofs.Tokens.{claim_tokens, assign_tokens}
use Rattle.ag_small.proofs.Spelled.{spells_joined, spells_split, all_fixed_spell, all_fixed_found, one_fixed}
use Rattle.ag_small.proofs.Sound.{expression_sound, below_sound}
use Rattle.ag_small.proofs.Complete.{Fits, Ends, ends_semicolon, is_found}
use Rattle.ag_small.proofs.Terminals.{visible, first, fixed_stands, fixed_found, fixed_apart, name_stands, name_found, label_stands, label_found, not_annex}

-- a reading function that finds exactly what text spells
pub record IsExact {A : Type 0} (read : List ℕ → Option (A × List ℕ)) (text : A → List Terminal) : Type 0 where
  pub sound : (b : List ℕ) (x : A × List ℕ) → read b ≡ Some x → Spells (text x.0) b x.1
  pub complete : (b : List ℕ) (a : A) (r : List ℕ) → Spells (text a) b r → read b ≡ Some (a, r)

module _ {A : Type 0} (text : A → List ℕ) (x y : A) where
  either_sound : (b : List ℕ) (o p : Option (List ℕ)) (z : A × List ℕ) → fixed_at (text x) b ≡ o → fixed_at (text y) b ≡ p
      → or_else (o >>= λ rest. Some (x, rest)) (p >>= λ rest. Some (y, rest)) ≡ Some z → Spells (Fixed (text z.0) ∷ []) b z.1
  either_sound b (Some r) p z eo ep e = subst (λ (w : A × List ℕ). Spells (Fixed (text w.0) ∷ []) b w.1) (some_is (x, r) z e) (r, fixed_stands (text x) b r eo, refl)
  either_sound b None (Some r) z eo ep e = subst (λ (w : A × List ℕ). Spells (Fixed (text w.0) ∷ []) b w.1) (some_is (y, r) z e) (r, fixed_stands (text y) b r ep, refl)
  either_sound b None None z eo ep e = absurd cc

  either_found : visible (text x) ≡ true → visible (text y) ≡ true → eqb (first (folded (text y))) (first (folded (text x))) ≡ false
      → (b r : List ℕ) (a : A) → (a ≡ x) ⊎ (a ≡ y) → Stands (Fixed (text a)) b r → either_at (text x) x (text y) y b ≡ Some (a, r)
  either_found vx vy apart b r a (inl e) s = rw (fixed_found (text x) b r vx (subst (λ (k : A). Stands (Fixed (text k)) b r) e s), e) refl
  either_found vx vy apart b r a (inr e) s =
      let t = subst (λ (k : A). Stands (Fixed (text k)) b r) e s in
      rw (fixed_apart (text y) (text x) b r t vy vx apart, fixed_found (text y) b r vy t, e) refl

  either_exact : visible (text x) ≡ true → visible (text y) ≡ true → eqb (first (folded (text y))) (first (folded (text x))) ≡ false → ((a : A) → (a ≡ x) ⊎ (a ≡ y))
      → IsExact (either_at (text x) x (text y) y) (λ a. Fixed (text a) ∷ [])
  either_exact vx vy apart cases = record {
    sound = λ b z e. either_sound b (fixed_at (text x) b) (fixed_at (text y) b) z refl refl e;
    complete = λ b a r s. either_found vx vy apart b r a (cases a) (one_fixed (text a) b r s);
  }

outward_cases : (d : Bool) → (d ≡ false) ⊎ (d ≡ true)
outward_cases true = inr refl
outward_cases false = inl refl

kind_cases : (k : ClaimKind) → (k ≡ Assume) ⊎ (k ≡ Guarantee)
kind_cases Assume = inl refl
kind_cases Guarantee = inr refl

direction_exact : IsExact direction_at (λ d. Fixed (direction_text d) ∷ [])
unfolding direction_at
direction_exact = either_exact direction_text false true refl refl refl outward_cases

kind_exact : IsExact kind_at (λ k. Fixed (kind_text k) ∷ [])
unfolding kind_at
kind_exact = either_exact kind_text Assume Guarantee refl refl refl kind_cases

-- ---- formulas

formula_sound : (b : List ℕ) (x : Formula × List ℕ) → formula_at b ≡ Some x → Spells (formula_text x.0) b x.1 × (is_in_form x.0 ≡ true)
unfolding formula_at
formula_sound b x e =
    let a = bind_some (expression_with (below 200) b) _ x e in
    let p = expression_sound 200 (below 200) (below_sound 200) b a.0 a.1 in
    let form = and_from (is_grouped a.0.0.0) (leb (depth a.0.0.0) 200) p.grouped (le-leb (depth a.0.0.0) 200 (omega (arith, p.deep))) in
    subst (λ (w : Formula × List ℕ). Spells (formula_text w.0) b w.1 × (is_in_form w.0 ≡ true)) (some_is (a.0.0.0, a.0.1) x a.2) (p.spelled, form)

-- a formula before what is no operator
formula_found : (b : List ℕ) (f : Formula) (r : List ℕ) → is_in_form f ≡ true → length (formula_text f) ≤ 1000 → Ends r → Spells (formula_text f) b r → formula_at b ≡ Some (f, r)
unfolding formula_at
formula_found b f r form few ends s =
    let parts = and_parts (is_grouped f) (leb (depth f) 200) form in
    let fits : Fits f 200 b r = record { grouped = parts.0; deep = leb-true (depth f) 200 parts.1; few = few; spelled = s } in
    rw ((is_found f).expression 200 b r fits ends) refl

-- ---- ports, claims, assigns

-- a reading function that finds exactly what text spells of the items in form that have few tokens
pub record IsItem {A : Type 0} (read : List ℕ → Option (A × List ℕ)) (text : A → List Terminal) (form : A → Bool) : Type 0 where
  pub sound : (b : List ℕ) (x : A × List ℕ) → read b ≡ Some x → Spells (text x.0) b x.1 × (form x.0 ≡ true)
  pub complete : (b : List ℕ) (a : A) (r : List ℕ) → form a ≡ true → length (text a) ≤ 1000 → Spells (text a) b r → read b ≡ Some (a, r)

abbrev port_type : List (List ℕ)
port_type = codes "data" ∷ codes "port" ∷ codes "Base_Types" ∷ codes "::" ∷ codes "Boolean" ∷ codes ";" ∷ []

port_sound : (b : List ℕ) (x : Port × List ℕ) → port_at b ≡ Some x → Spells (port_text x.0) b x.1
unfolding port_at
port_sound b x e =
    let n = bind_some (name_at b) (λ name. fixed_at (codes ":") name.1 >>= λ rest. direction_at rest >>= λ d. all_fixed_at port_type d.1 >>= λ end. Some (record { name = name.0; outward = d.0 }, end)) x e in
    let c = bind_some (fixed_at (codes ":") n.0.1) (λ rest. direction_at rest >>= λ d. all_fixed_at port_type d.1 >>= λ end. Some (record { name = n.0.0; outward = d.0 }, end)) x n.2 in
    let d = bind_some (direction_at c.0) (λ d. all_fixed_at port_type d.1 >>= λ end. Some (record { name = n.0.0; outward = d.0 }, end)) x c.2 in
    let t = bind_some (all_fixed_at port_type d.0.1) (λ end. Some (record { name = n.0.0; outward = d.0.0 }, end)) x d.2 in
    let made : Port × List ℕ = (record { name = n.0.0; outward = d.0.0 }, t.0) in
    subst (λ (w : Port × List ℕ). Spells (port_text w.0) b w.1) (some_is made x t.2)
    (n.0.1, name_stands b n.0 n.1, (c.0, fixed_stands (codes ":") n.0.1 c.0 c.1, (d.0.1, one_fixed (direction_text d.0.0) c.0 d.0.1 (direction_exact.sound c.0 d.0 d.1), all_fixed_spell port_type d.0.1 t.0 t.1)))

port_found : (b : List ℕ) (q : Port) (r : List ℕ) → Spells (port_text q) b r → port_at b ≡ Some (q, r)
unfolding port_at
port_found b q r s =
    let c = s.2 in
    let d = c.2 in
    rw (name_found q.name b s.0 s.1, fixed_found (codes ":") s.0 c.0 refl c.1, direction_exact.complete c.0 q.outward d.0 (d.0, d.1, refl), all_fixed_found port_type d.0 r refl d.2) refl

abbrev pub port_form : Port → Bool
port_form q = true

pub port_item : IsItem port_at port_text port_form
port_item = record { sound = λ b x e. (port_sound b x e, refl); complete = λ b q r form few s. port_found b q r s }

abbrev pub claim_form : Claim → Bool
claim_form c = is_in_form c.formula

claim_sound : (b : List ℕ) (x : Claim × List ℕ) → claim_at b ≡ Some x → Spells (claim_text x.0) b x.1 × (claim_form x.0 ≡ true)
unfolding claim_at
claim_sound b x e =
    let k = bind_some (kind_at b) (λ kind. label_at kind.1 >>= λ label. fixed_at (codes ":") label.1 >>= λ rest. formula_at rest >>= λ f. fixed_at (codes ";") f.1 >>= λ end. Some (record { kind = kind.0; label = label.0; formula = f.0 }, end)) x e in
    let l = bind_some (label_at k.0.1) (λ label. fixed_at (codes ":") label.1 >>= λ rest. formula_at rest >>= λ f. fixed_at (codes ";") f.1 >>= λ end. Some (record { kind = k.0.0; label = label.0; formula = f.0 }, end)) x k.2 in
    let c = bind_some (fixed_at (codes ":") l.0.1) (λ rest. formula_at rest >>= λ f. fixed_at (codes ";") f.1 >>= λ end. Some (record { kind = k.0.0; label = l.0.0; formula = f.0 }, end)) x l.2 in
    let f = bind_some (formula_at c.0) (λ f. fixed_at (codes ";") f.1 >>= λ end. Some (record { kind = k.0.0; label = l.0.0; formula = f.0 }, end)) x c.2 in
    let t = bind_some (fixed_at (codes ";") f.0.1) (λ end. Some (record { kind = k.0.0; label = l.0.0; formula = f.0.0 }, end)) x f.2 in
    let read = formula_sound c.0 f.0 f.1 in
    let made : Claim × List ℕ = (record { kind = k.0.0; label = l.0.0; formula = f.0.0 }, t.0) in
    let tail = spells_joined (formula_text f.0.0) (Fixed (codes ";") ∷ []) c.0 f.0.1 t.0 read.0 (t.0, fixed_stands (codes ";") f.0.1 t.0 t.1, refl) in
    let stands : Spells (claim_text made.0) b made.1 = (k.0.1, one_fixed (kind_text k.0.0) b k.0.1 (kind_exact.sound b k.0 k.1), (l.0.1, label_stands k.0.1 l.0 l.1, (c.0, fixed_stands (codes ":") l.0.1 c.0 c.1, tail))) in
    subst (λ (w : Claim × List ℕ). Spells (claim_text w.0) b w.1 × (claim_form w.0 ≡ true)) (some_is made x t.2) (stands, read.1)

claim_found : (b : List ℕ) (q : Claim) (r : List ℕ) → claim_form q ≡ true → length (claim_text q) ≤ 1000 → Spells (claim_text q) b r → claim_at b ≡ Some (q, r)
unfolding claim_at
claim_found b q r form few s =
    let l = s.2 in
    let c = l.2 in
    let f = spells_split (formula_text q.formula) (Fixed (codes ";") ∷ []) c.0 r c.2 in
    let stop = one_fixed (codes ";") f.0 r f.2 in
    let found = formula_found c.0 q.formula f.0 form (omega (arith, few, claim_tokens q)) (ends_semicolon f.0 r stop) f.1 in
    rw (kind_exact.complete b q.kind s.0 (s.0, s.1, refl), label_found q.label s.0 l.0 l.1, fixed_found (codes ":") l.0 c.0 refl c.1, found, fixed_found (codes ";") f.0 r refl stop) refl

pub claim_item : IsItem claim_at claim_text claim_form
claim_item = record { sound = claim_sound; complete = claim_found }

abbrev pub assign_form : Assign → Bool
assign_form a = is_in_form a.value

assign_sound : (b : List ℕ) (x : Assign × List ℕ) → assign_at b ≡ Some x → Spells (assign_text x.0) b x.1 × (assign_form x.0 ≡ true)
unfolding assign_at
assign_sound b x e =
    let k = bind_some (fixed_at (codes "assign") b) (λ rest. name_at rest >>= λ name. fixed_at (codes "=") name.1 >>= λ equals. formula_at equals >>= λ f. fixed_at (codes ";") f.1 >>= λ end. Some (record { name = name.0; value = f.0 }, end)) x e in
    let n = bind_some (name_at k.0) (λ name. fixed_at (codes "=") name.1 >>= λ equals. formula_at equals >>= λ f. fixed_at (codes ";") f.1 >>= λ end. Some (record { name = name.0; value = f.0 }, end)) x k.2 in
    let c = bind_some (fixed_at (codes "=") n.0.1) (λ equals. formula_at equals >>= λ f. fixed_at (codes ";") f.1 >>= λ end. Some (record { name = n.0.0; value = f.0 }, end)) x n.2 in
    let f = bind_some (formula_at c.0) (λ f. fixed_at (codes ";") f.1 >>= λ end. Some (record { name = n.0.0; value = f.0 }, end)) x c.2 in
    let t = bind_some (fixed_at (codes ";") f.0.1) (λ end. Some (record { name = n.0.0; value = f.0.0 }, end)) x f.2 in
    let read = formula_sound c.0 f.0 f.1 in
    let made : Assign × List ℕ = (record { name = n.0.0; value = f.0.0 }, t.0) in
    let tail = spells_joined (formula_text f.0.0) (Fixed (codes ";") ∷ []) c.0 f.0.1 t.0 read.0 (t.0, fixed_stands (codes ";") f.0.1 t.0 t.1, refl) in
    let stands : Spells (assign_text made.0) b made.1 = (k.0, fixed_stands (codes "assign") b k.0 k.1, (n.0.1, name_stands k.0 n.0 n.1, (c.0, fixed_stands (codes "=") n.0.1 c.0 c.1, tail))) in
    subst (λ (w : Assign × List ℕ). Spells (assign_text w.0) b w.1 × (assign_form w.0 ≡ true)) (some_is made x t.2) (stands, read.1)

assign_found : (b : List ℕ) (q : Assign) (r : List ℕ) → assign_form q ≡ true → length (assign_text q) ≤ 1000 → Spells (assign_text q) b r → assign_at b ≡ Some (q, r)
unfolding assign_at
assign_found b q r form few s =
    let n = s.2 in
    let c = n.2 in
    let f = spells_split (formula_text q.value) (Fixed (codes ";") ∷ []) c.0 r c.2 in
    let stop = one_fixed (codes ";") f.0 r f.2 in
    let found = formula_found c.0 q.value f.0 form (omega (arith, few, assign_tokens q)) (ends_semicolon f.0 r stop) f.1 in
    rw (fixed_found (codes "assign") b s.0 refl s.1, name_found q.name s.0 n.0 n.1, fixed_found (codes "=") n.0 c.0 refl c.1, found, fixed_found (codes ";") f.0 r refl stop) refl

pub assign_item : IsItem assign_at assign_text assign_form
assign_item = record { sound = assign_sound; complete = assign_found }

-- ---- items

-- at most n items in form stand at b
pub record AreItems {A : Type 0} (text : A → List Terminal) (form : A → Bool) (n : ℕ) (b : List ℕ) (items : List A) (r : List ℕ) : Type 0 where
  pub spelled : Spells (flat_map text items) b r
  pub few : length items ≤ n
  pub in_form : list_all form items ≡ true

item_test : {A : Type 0} (t : Bool) (x y : Option A) (z : Option A) → cond t x y ≡ z → ((t ≡ true) × (x ≡ z)) ⊎ ((t ≡ false) × (y ≡ z))
item_test true x y z e = inl (refl, e)
item_test false x y z e = inr (refl, e)

module _ {A : Type 0} (item_at : List ℕ → Option (A × List ℕ)) (text : A → List Terminal) (form : A → Bool) (item : IsItem item_at text form) (stop : List ℕ) where
  pub items_spell : (n : ℕ) (b : List ℕ) (x : List A × List ℕ) → items_at item_at stop n b ≡ Some x → AreItems text form n b x.0 x.1
  unfolding items_at
  items_spell zero b x e = subst (λ (w : List A × List ℕ). AreItems text form 0 b w.0 w.1) (some_is ([], b) x e) (record { spelled = refl; few = omega arith; in_form = refl })
  items_spell (suc n) b x e =
      elim (item_test (is_some (fixed_at stop b)) (Some ([], b)) (item_at b >>= λ first. items_at item_at stop n first.1 >>= λ others. Some (first.0 ∷ others.0, others.1)) (Some x) e) [
        | inl none ↦ subst (λ (w : List A × List ℕ). AreItems text form (suc n) b w.0 w.1) (some_is ([], b) x none.1) (record { spelled = refl; few = omega arith; in_form = refl })
        | inr more ↦
            let a = bind_some (item_at b) (λ first. items_at item_at stop n first.1 >>= λ others. Some (first.0 ∷ others.0, others.1)) x more.1 in
            let o = bind_some (items_at item_at stop n a.0.1) (λ others. Some (a.0.0 ∷ others.0, others.1)) x a.2 in
            let rest = items_spell n a.0.1 o.0 o.1 in
            let first = item.sound b a.0 a.1 in
            let made : List A × List ℕ = (a.0.0 ∷ o.0.0, o.0.1) in
            subst (λ (w : List A × List ℕ). AreItems text form (suc n) b w.0 w.1) (some_is made x o.2) (record {
              spelled = spells_joined (text a.0.0) (flat_map text o.0.0) b a.0.1 o.0.1 first.0 rest.spelled;
              few = omega (arith, rest.few);
              in_form = and_from (form a.0.0) (list_all form o.0.0) first.1 rest.in_form;
            })
      ]

  pub items_found : ((b : List ℕ) (a : A) (r : List ℕ) → Spells (text a) b r → fixed_at stop b ≡ None) → (items : List A) (n : ℕ) (b r : List ℕ)
      → length items ≤ n → list_all form items ≡ true → length (flat_map text items) ≤ 1000 → Spells (flat_map text items) b r → is_some (fixed_at stop r) ≡ true
      → items_at item_at stop n b ≡ Some (items, r)
  unfolding items_at
  items_found apart [] zero b r short forms few s here = ap (λ (x : List ℕ). Some ([], x)) s
  items_found apart [] (suc n) b r short forms few s here = rw (s, here) refl
  items_found apart (a ∷ items) zero b r short forms few s here = absurd (omega arith)
  items_found apart (a ∷ items) (suc n) b r short forms few s here =
      let k = spells_split (text a) (flat_map text items) b r s in
      let f = and_parts (form a) (list_all form items) forms in
      let tokens = length-append (text a) (flat_map text items) in
      let first = item.complete b a k.0 f.0 (omega (arith, few, tokens)) k.1 in
      rw (apart b a k.0 k.1, first, items_found apart items n k.0 r (omega arith) f.1 (omega (arith, few, tokens)) k.2 here) refl

pub port_apart : (b : List ℕ) (q : Port) (r : List ℕ) → Spells (port_text q) b r → fixed_at (codes "annex") b ≡ None
port_apart b q r s = not_annex q.name b s.0 s.1

pub claim_apart : (b : List ℕ) (q : Claim) (r : List ℕ) → Spells (claim_text q) b r → fixed_at (codes "**}") b ≡ None
claim_apart b q r s = apart_kind q.kind b s.0 s.1
  where
    apart_kind : (k : ClaimKind) (b m : List ℕ) → Stands (Fixed (kind_text k)) b m → fixed_at (codes "**}") b ≡ None
    apart_kind Assume b m s = fixed_apart (codes "assume") (codes "**}") b m s refl refl refl
    apart_kind Guarantee b m s = fixed_apart (codes "guarantee") (codes "**}") b m s refl refl refl

pub assign_apart : (b : List ℕ) (q : Assign) (r : List ℕ) → Spells (assign_text q) b r → fixed_at (codes "**}") b ≡ None
assign_apart b q r s = fixed_apart (codes "assign") (codes "**}") b s.0 s.1 refl refl refl
