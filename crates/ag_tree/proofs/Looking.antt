-- How one clause looks along a list of literals.
use Rattle.std.proofs.Common.{◌≡◌, ◌≢◌, ◌⊎◌, inl, inr, ℕ, ◌+◌, ◌<◌, ◌≤◌, Bool, true, false, not, List, length, get_or, Option, Some, None, sym, refl, ap, subst, ◌∙◌, arith, All, Contains}
use Rattle.std.specs.Bool.{beq}
use Rattle.std.specs.List.{AllWithin, HoldsAt}
use Rattle.std.specs.Option.{is_some}
use Rattle.std.proofs.lemmas.List.{get_or_default, get_or_read}
use Rattle.std.proofs.lemmas.List.Elements.{AllWithin-more, Contains-get_or}
use Rattle.ag_query.specs.declared.clauses.Lit.{Lit}
use Rattle.ag_query.specs.Meaning.{contrary}
use Rattle.ag_tree.specs.declared.trail.Trail.TheInside.{Inside}
use Rattle.ag_tree.specs.Facts.{Lacks, IsAtRest, HasNoneBothWays}
use Rattle.ag_tree.specs.Trail.{Seen, literals, truth_in}
use Rattle.ag_tree.specs.Keeping.{seen, IsTrail}
use Rattle.ag_tree.proofs.Lits.{same_lit, same_or_not, truth_has, truth_lacks, lacks_truth, any_at}
use Rattle.ag_tree.proofs.Values.{AreTied}

abbrev pub IsDenied : List Lit → Lit → Type 0
IsDenied lits l = Contains lits (contrary l)

-- what the first literals of a clause say, where one of them or none may be the last that is left
abbrev pub LooksSoFar : List Lit → List Lit → ℕ → Option Lit → Type 0
LooksSoFar lits clause n None = AllWithin (IsDenied lits) clause 0 n
LooksSoFar lits clause n (Some u) = Contains clause u × Lacks lits u.atom × AllWithin (λ l. (l ≡ u) ⊎ IsDenied lits l) clause 0 n

-- a value that is read is what the steps say
pub value_read : (t : Inside) (now : Seen) (a : ℕ) (x : Option Bool) → IsTrail t → seen t ≡ now → a < now.atoms → x ≡ get_or t.values.items a x → truth_in (literals now.steps) a ≡ x
value_read t now a x trail view lt e =
    let tied : AreTied t.values.items (seen t).steps = trail.tied in
    let low : a < length t.values.items = subst (λ (s : Seen). a < s.atoms) (sym view) lt in
    ap (λ (s : Seen). truth_in (literals s.steps) a) (sym view) ∙ sym (tied a) ∙ sym (get_or_read t.values.items a x low e None)

pub beq_true : (a b : Bool) → beq a b ≡ true → a ≡ b
beq_true true true e = refl
beq_true true false e = cc
beq_true false true e = cc
beq_true false false e = refl

beq_false : (a b : Bool) → beq a b ≡ false → a ≡ not b
beq_false true true e = cc
beq_false true false e = refl
beq_false false true e = refl
beq_false false false e = cc

at : {X : Type 0} (P : X → Type 0) (xs : List X) (i : ℕ) (d : X) → i < length xs → P (get_or xs i d) → HoldsAt P xs i
at P xs i d lt p e = subst P (get_or_default xs i d e lt) p

pub found_here : (lits clause : List Lit) (l : Lit) (b : Bool) → Contains clause l → truth_in lits l.atom ≡ Some b → beq b l.holds ≡ true → IsAtRest lits clause
found_here lits clause l b has read same = inl (any_at (Contains lits) clause l has (truth_has lits l (read ∙ ap (λ (v : Bool). Some v) (beq_true b l.holds same))))

pub denied_here : (lits : List Lit) (l : Lit) (b : Bool) → truth_in lits l.atom ≡ Some b → beq b l.holds ≡ false → IsDenied lits l
denied_here lits l b read other = truth_has lits (contrary l) (read ∙ ap (λ (v : Bool). Some v) (beq_false b l.holds other))

pub denied_more : (lits clause : List Lit) (i : ℕ) (d : Lit) (last : Option Lit) → i < length clause → LooksSoFar lits clause i last → IsDenied lits (get_or clause i d) → LooksSoFar lits clause (i + 1) last
denied_more lits clause i d None lt so h = AllWithin-more (IsDenied lits) clause 0 i so (at (IsDenied lits) clause i d lt h)
denied_more lits clause i d (Some u) lt so h =
    let P : Lit → Type 0 = λ l. (l ≡ u) ⊎ IsDenied lits l in
    (so.0, so.1, AllWithin-more P clause 0 i so.2 (at P clause i d lt (inr h)))

pub first_left : (lits clause : List Lit) (i : ℕ) (d : Lit) → i < length clause → LooksSoFar lits clause i None → truth_in lits (get_or clause i d).atom ≡ None → LooksSoFar lits clause (i + 1) (Some (get_or clause i d))
first_left lits clause i d lt so h =
    let u : Lit = get_or clause i d in
    let P : Lit → Type 0 = λ l. (l ≡ u) ⊎ IsDenied lits l in
    (Contains-get_or clause i d lt, truth_lacks lits u.atom h, AllWithin-more P clause 0 i (λ k e low under. inr (so k e low under)) (at P clause i d lt (inl refl)))

pub same_left : (lits clause : List Lit) (i : ℕ) (d u : Lit) → i < length clause → HasNoneBothWays clause → LooksSoFar lits clause i (Some u) → u.atom ≡ (get_or clause i d).atom → LooksSoFar lits clause (i + 1) (Some u)
same_left lits clause i d u lt plain so e =
    let P : Lit → Type 0 = λ l. (l ≡ u) ⊎ IsDenied lits l in
    let l : Lit = get_or clause i d in
    let here : P l =
    elim (same_or_not l.holds u.holds) [
      | inl h ↦ inl (same_lit l u (sym e) h)
      | inr h ↦ absurd (plain u so.0 (subst (Contains clause) (same_lit l (contrary u) (sym e) h) (Contains-get_or clause i d lt)))
    ] in
    (so.0, so.1, AllWithin-more P clause 0 i so.2 (at P clause i d lt here))

pub two_left : (lits clause : List Lit) (i : ℕ) (d u : Lit) → i < length clause → LooksSoFar lits clause i (Some u) → truth_in lits (get_or clause i d).atom ≡ None → u.atom ≢ (get_or clause i d).atom → IsAtRest lits clause
two_left lits clause i d u lt so h apart =
    inr record { one = u; other = get_or clause i d; has_one = so.0; has_other = Contains-get_or clause i d lt; apart = apart; lacks_one = so.1; lacks_other = truth_lacks lits (get_or clause i d).atom h }

pub all_seen : {X : Type 0} (P : X → Type 0) (clause : List X) (i : ℕ) → AllWithin P clause 0 i → length clause ≤ i → All P clause
all_seen P clause i h e k d lt = h k d (omega arith) (omega (arith, lt, e))

is_none_here : (o : Option Bool) (b : Bool) → is_some o ≡ not b → b ≡ true → o ≡ None
is_none_here None b e t = refl
is_none_here (Some x) true e t = cc
is_none_here (Some x) false e t = cc

is_some_here : (b : Bool) → is_some {T = Bool} None ≡ not b → b ≡ false → ⊥
is_some_here true e f = cc
is_some_here false e f = cc

pub lacks_here : (lits : List Lit) (a : ℕ) (x : Option Bool) (b : Bool) → truth_in lits a ≡ x → is_some x ≡ not b → b ≡ true → Lacks lits a
lacks_here lits a x b read e t = truth_lacks lits a (read ∙ is_none_here x b e t)

pub set_here : (lits : List Lit) (a : ℕ) (x : Option Bool) (b : Bool) → truth_in lits a ≡ x → is_some x ≡ not b → b ≡ false → Lacks lits a → ⊥
set_here lits a x b read e f lacks = is_some_here b (subst (λ (o : Option Bool). is_some o ≡ not b) (sym read ∙ lacks_truth lits a lacks) e) f
