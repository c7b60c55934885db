-- Literals of a clause that are seen one after another, until one of them is seen both ways.
use Rattle.std.proofs.Common.{◌≡◌, ◌⊎◌, inl, inr, ℕ, ◌+◌, ◌<◌, ◌≤◌, ◌==◌, Bool, true, false, ◌||◌, if◌then◌else◌, List, [], ◌∷◌, ◌++◌, length, get_or, sym, ap, subst, ◌∙◌, All, Contains}
use Rattle.std.specs.Bool.{beq}
use Rattle.std.specs.List.{AllWithin}
use Rattle.std.proofs.lemmas.List.{get_or_default}
use Rattle.std.proofs.lemmas.List.Elements.{All-push, All-contains, AllWithin-more, Contains-append_left, Contains-append_right, Contains-append_cases, Contains-get_or}
use Rattle.std.proofs.lemmas.Bool.{cases_Bool, and_parts, eqb-true, false≢true}
use Rattle.ag_query.specs.declared.clauses.Lit.{Lit}
use Rattle.ag_query.specs.Meaning.{contrary}
use Rattle.ag_kernel.specs.Sets.{same, has, with_literal}
use Rattle.ag_tree.specs.Facts.{HasNoneBothWays}
use Rattle.ag_tree.proofs.Lits.{same_lit, twice, apart_from_contrary, contains_head, contains_tail, contains_cases, contains_none}
use Rattle.ag_tree.proofs.Looking.{beq_true, all_seen}
use Rattle.ag_tree.proofs.Units.{contains_has}

-- what was seen of the first literals of a clause
pub record AreSeen (clause seen : List Lit) (n : ℕ) : Type 0 where
  pub inside : All (Contains clause) seen
  pub all : AllWithin (Contains seen) clause 0 n
  pub plain : HasNoneBothWays seen

-- ---- a list, and one literal more

same_is : (l m : Lit) → same l m ≡ true → l ≡ m
same_is l m e =
    let p = and_parts (l.atom == m.atom) (beq l.holds m.holds) e in
    same_lit l m (eqb-true l.atom m.atom p.0) (beq_true l.holds m.holds p.1)

has_contains : (lits : List Lit) (l : Lit) → has lits l ≡ true → Contains lits l
has_contains [] l e = absurd (false≢true e)
has_contains (m ∷ ms) l e =
    elim (cases_Bool (same l m)) [
      | inl t ↦ subst (Contains (m ∷ ms)) (sym (same_is l m t)) (contains_head m ms)
      | inr f ↦ contains_tail m l ms (has_contains ms l (subst (λ (b : Bool). b || has ms l ≡ true) f e))
    ]

lacks : (lits : List Lit) (l : Lit) → has lits l ≡ false → Contains lits l → ⊥
lacks lits l free h = false≢true (sym free ∙ contains_has lits l h)

with_old : (lits : List Lit) (l m : Lit) → Contains lits m → Contains (with_literal lits l) m
with_old lits l m h =
    elim (cases_Bool (has lits l)) [
      | inl t ↦ rw t h
      | inr f ↦ rw f (Contains-append_left lits (l ∷ []) m h)
    ]

with_new : (lits : List Lit) (l : Lit) → Contains (with_literal lits l) l
with_new lits l =
    elim (cases_Bool (has lits l)) [
      | inl t ↦ rw t (has_contains lits l t)
      | inr f ↦ rw f (Contains-append_right lits (l ∷ []) l (contains_head l []))
    ]

only : (l m : Lit) → Contains (l ∷ []) m → m ≡ l
only l m h =
    elim (contains_cases l m [] h) [
      | inl e ↦ sym e
      | inr t ↦ absurd (contains_none m t)
    ]

with_cases : (lits : List Lit) (l m : Lit) → Contains (with_literal lits l) m → Contains lits m ⊎ (m ≡ l)
with_cases lits l m h =
    let P : Bool → Type 0 = λ b. Contains (if b then lits else lits ++ l ∷ []) m in
    elim (cases_Bool (has lits l)) [
      | inl t ↦ inl (subst P t h)
      | inr f ↦
          elim (Contains-append_cases lits (l ∷ []) m (subst P f h)) [
            | inl old ↦ inl old
            | inr new ↦ inr (only l m new)
          ]
    ]

all_with : (P : Lit → Type 0) (lits : List Lit) (l : Lit) → All P lits → P l → All P (with_literal lits l)
all_with P lits l h here =
    elim (cases_Bool (has lits l)) [
      | inl t ↦ rw t h
      | inr f ↦ rw f (All-push P lits l h here)
    ]

plain_with : (lits : List Lit) (l : Lit) → HasNoneBothWays lits → has lits (contrary l) ≡ false → HasNoneBothWays (with_literal lits l)
plain_with lits l plain free m h g =
    elim (with_cases lits l m h) [
      | inl old ↦
          elim (with_cases lits l (contrary m) g) [
            | inl too ↦ plain m old too
            | inr e ↦ lacks lits (contrary l) free (subst (Contains lits) (sym (twice m) ∙ ap contrary e) old)
          ]
      | inr e ↦
          elim (with_cases lits l (contrary m) g) [
            | inl too ↦ lacks lits (contrary l) free (subst (λ (x : Lit). Contains lits (contrary x)) e too)
            | inr f ↦ apart_from_contrary l (sym f ∙ ap contrary e)
          ]
    ]

-- ---- the literals of a clause, one after another

pub seen_more : (clause seen : List Lit) (i : ℕ) (d : Lit) → AreSeen clause seen i → i < length clause → has seen (contrary (get_or clause i d)) ≡ false → AreSeen clause (with_literal seen (get_or clause i d)) (i + 1)
seen_more clause seen i d so lt free =
    let l : Lit = get_or clause i d in
    let now : List Lit = with_literal seen l in
    record {
      inside = all_with (Contains clause) seen l so.inside (Contains-get_or clause i d lt);
      all = AllWithin-more (Contains now) clause 0 i (λ k e low under. with_old seen l (get_or clause k e) (so.all k e low under)) (λ e. subst (Contains now) (get_or_default clause i d e lt) (with_new seen l));
      plain = plain_with seen l so.plain free;
    }

pub seen_all : (clause seen : List Lit) (i : ℕ) → AreSeen clause seen i → length clause ≤ i → HasNoneBothWays clause
seen_all clause seen i so e l h g =
    let all : All (Contains seen) clause = all_seen (Contains seen) clause i so.all e in
    so.plain l (All-contains (Contains seen) clause l all h) (All-contains (Contains seen) clause (contrary l) all g)

pub seen_both : (clause seen : List Lit) (i : ℕ) (d : Lit) → AreSeen clause seen i → i < length clause → has seen (contrary (get_or clause i d)) ≡ true → HasNoneBothWays clause → ⊥
seen_both clause seen i d so lt t plain =
    let l : Lit = get_or clause i d in
    plain l (Contains-get_or clause i d lt) (All-contains (Contains clause) seen (contrary l) so.inside (has_contains seen (contrary l) t))
