-- Segments of marked tokens: what holds of the tokens, and where they lead, goes over to each segment.
use Rattle.std.proofs.Common.{◌≡◌, ℕ, Bool, true, false, ◌==◌, ◌&&◌, ◌||◌, not, cond, if◌then◌else◌, List, [], ◌∷◌, map, Option, Some, None, refl, sym, subst, ◌∙◌, inl, inr}
use Rattle.std.specs.List.{list_all, filter, filter_map, cons_option}
use Rattle.std.proofs.lemmas.Bool.{both_ways, and_parts, and_from, or_cases, not_from_false, eqb-true}
use Rattle.ag_lex.specs.declared.token.Token.{Token}
use Rattle.ag_aadl.specs.declared.marked.Marked.{Marked}
use Rattle.ag_aadl.specs.Marked.{under, has_mark, is_among, up_to, segments}
use Rattle.ag_print.proofs.Situations.{Situation, Quiet, BehindOpening, BehindOwner, BehindDot, BehindSpot, BehindFeature, Lost, move, is_calm, accepted, everything, everywhere}

-- ---- tests

pub given : (a b : Bool) → (not a || b) ≡ true → a ≡ true → b ≡ true
given true b h e = h
given false b h e = absurd cc

pub provided : (a b : Bool) → (a ≡ true → b ≡ true) → (not a || b) ≡ true
provided true b h = h refl
provided false b h = refl

pub all_both : {A : Type 0} (p q : A → Bool) (xs : List A) → list_all p xs ≡ true → list_all q xs ≡ true → list_all (λ x. p x && q x) xs ≡ true
all_both p q [] g h = refl
all_both p q (x ∷ xs) g h =
    let one = and_parts (p x) (list_all p xs) g in
    let two = and_parts (q x) (list_all q xs) h in
    and_from (p x && q x) (list_all (λ y. p y && q y) xs) (and_from (p x) (q x) one.0 two.0) (all_both p q xs one.1 two.1)

pub only : (k j : ℕ) → is_among (k ∷ []) j ≡ true → j ≡ k
only k j h =
    elim (or_cases (k == j) false h) [
      | inl one ↦ sym (eqb-true k j one)
      | inr none ↦ absurd cc
    ]

-- what holds of each of some marks
pub among_holds : (test : ℕ → Bool) (ks : List ℕ) (k : ℕ) → list_all test ks ≡ true → is_among ks k ≡ true → test k ≡ true
among_holds test [] k all h = absurd cc
among_holds test (j ∷ ks) k all h =
    let parts = and_parts (test j) (list_all test ks) all in
    elim (or_cases (j == k) (is_among ks k) h) [
      | inl one ↦ subst (λ (z : ℕ). test z ≡ true) (eqb-true j k one) parts.0
      | inr later ↦ among_holds test ks k parts.1 later
    ]

-- what is kept and changed passes, where each that is kept passes changed
pub kept_pass : {A B : Type 0} (p : B → Bool) (f : A → B) (keep : A → Bool) (xs : List A) → list_all (λ x. not (keep x) || p (f x)) xs ≡ true → list_all p (map f (filter keep xs)) ≡ true
kept_pass p f keep [] h = refl
kept_pass {A = A} p f keep (x ∷ xs) h =
    let parts = and_parts (not (keep x) || p (f x)) (list_all (λ y. not (keep y) || p (f y)) xs) h in
    go (keep x) (p (f x)) refl parts.0 (kept_pass p f keep xs parts.1)
  where
    go : (b c : Bool) → p (f x) ≡ c → (not b || c) ≡ true → list_all p (map f (filter keep xs)) ≡ true → list_all p (map f (cond b (x ∷ filter keep xs) (filter keep xs))) ≡ true
    go true c e one rest = and_from (p (f x)) (list_all p (map f (filter keep xs))) (e ∙ one) rest
    go false c e one rest = rest

abbrev pub passes_if_some : {B : Type 0} → (B → Bool) → Option B → Bool
passes_if_some p None = true
passes_if_some p (Some y) = p y

map_pass : {A B : Type 0} (p : B → Bool) (f : A → Option B) (x : A) (xs : List A) → passes_if_some p (f x) ≡ true → list_all p (filter_map f xs) ≡ true → list_all p (filter_map f (x ∷ xs)) ≡ true
map_pass {B = B} p f x xs one rest = go (f x) one
  where
    go : (o : Option B) → passes_if_some p o ≡ true → list_all p (cons_option o (filter_map f xs)) ≡ true
    go None h = rest
    go (Some y) h = and_from (p y) (list_all p (filter_map f xs)) h rest

pub kept_map_pass : {A B : Type 0} (p : B → Bool) (f : A → Option B) (keep : A → Bool) (xs : List A) → list_all (λ x. not (keep x) || passes_if_some p (f x)) xs ≡ true → list_all p (filter_map f (filter keep xs)) ≡ true
kept_map_pass p f keep [] h = refl
kept_map_pass {A = A} p f keep (x ∷ xs) h =
    let parts = and_parts (not (keep x) || passes_if_some p (f x)) (list_all (λ y. not (keep y) || passes_if_some p (f y)) xs) h in
    go (keep x) (passes_if_some p (f x)) refl parts.0 (kept_map_pass p f keep xs parts.1)
  where
    go : (b c : Bool) → passes_if_some p (f x) ≡ c → (not b || c) ≡ true → list_all p (filter_map f (filter keep xs)) ≡ true → list_all p (filter_map f (cond b (x ∷ filter keep xs) (filter keep xs))) ≡ true
    go true c e one rest = map_pass p f x (filter keep xs) (e ∙ one) rest
    go false c e one rest = rest

-- ---- lost

abbrev is_lost : Situation → Bool
is_lost Lost = true
is_lost _ = false

lost-true : (s : Situation) → is_lost s ≡ true → s ≡ Lost
lost-true Lost h = refl
lost-true Quiet h = absurd cc
lost-true BehindOpening h = absurd cc
lost-true BehindOwner h = absurd cc
lost-true BehindDot h = absurd cc
lost-true BehindSpot h = absurd cc
lost-true BehindFeature h = absurd cc

pub not_lost : (ms : List Marked) → accepted Lost ms ≡ true → ⊥
not_lost [] h = absurd cc
not_lost (m ∷ ms) h = not_lost ms h

-- these marks stand in calm situations alone
abbrev pub are_strict : List ℕ → Bool
are_strict ks = list_all (λ k. list_all (λ s. is_calm s || is_lost (move s k)) everything) ks

calm_before : (ks : List ℕ) (k : ℕ) (s : Situation) (ms : List Marked) → are_strict ks ≡ true → is_among ks k ≡ true → accepted (move s k) ms ≡ true → is_calm s ≡ true
calm_before ks k s ms strict among h =
    let all = among_holds (λ j. list_all (λ q. is_calm q || is_lost (move q j)) everything) ks k strict among in
    elim (or_cases (is_calm s) (is_lost (move s k)) (everywhere (λ q. is_calm q || is_lost (move q k)) all s)) [
      | inl calm ↦ calm
      | inr lost ↦ absurd (not_lost ms (subst (λ (z : Situation). accepted z ms ≡ true) (lost-true (move s k) lost) h))
    ]

-- ---- up to the next mark

pub up_to_accepted : (ks : List ℕ) (ms : List Marked) (s : Situation) → are_strict ks ≡ true → accepted s ms ≡ true → accepted s (up_to ks ms) ≡ true
up_to_accepted ks [] s strict h = h
up_to_accepted ks (m ∷ ms) s strict h = go (is_among ks m.mark) refl (up_to_accepted ks ms (move s m.mark) strict h)
  where
    go : (b : Bool) → is_among ks m.mark ≡ b → accepted (move s m.mark) (up_to ks ms) ≡ true → accepted s (if b then [] else m ∷ up_to ks ms) ≡ true
    go true e later = calm_before ks m.mark s ms strict e h
    go false e later = later

pub all_up_to : (q : Marked → Bool) (ks : List ℕ) (ms : List Marked) → list_all q ms ≡ true → list_all q (up_to ks ms) ≡ true
all_up_to q ks [] h = refl
all_up_to q ks (m ∷ ms) h =
    let parts = and_parts (q m) (list_all q ms) h in
    go (is_among ks m.mark) parts.0 (all_up_to q ks ms parts.1)
  where
    go : (b : Bool) → q m ≡ true → list_all q (up_to ks ms) ≡ true → list_all q (if b then [] else m ∷ up_to ks ms) ≡ true
    go true one later = refl
    go false one later = and_from (q m) (list_all q (up_to ks ms)) one later

-- none of the marks stands there
abbrev pub is_free : List ℕ → Marked → Bool
is_free ks m = not (is_among ks m.mark)

free_up_to : (ks : List ℕ) (ms : List Marked) → list_all (is_free ks) (up_to ks ms) ≡ true
free_up_to ks [] = refl
free_up_to ks (m ∷ ms) = go (is_among ks m.mark) refl (free_up_to ks ms)
  where
    go : (b : Bool) → is_among ks m.mark ≡ b → list_all (is_free ks) (up_to ks ms) ≡ true → list_all (is_free ks) (if b then [] else m ∷ up_to ks ms) ≡ true
    go true e later = refl
    go false e later = and_from (is_free ks m) (list_all (is_free ks) (up_to ks ms)) (not_from_false (is_among ks m.mark) e) later

-- ---- segments

-- a token under one of the marks, and those behind it up to the next one
pub record Segment (q : Marked → Bool) (ks : List ℕ) (head : Marked) (rest : List Marked) : Type 0 where
  pub begins : is_among ks head.mark ≡ true
  pub all : list_all q (head ∷ rest) ≡ true
  pub free : list_all (is_free ks) rest ≡ true

-- the same, and where it leads
pub record Walked (q : Marked → Bool) (ks : List ℕ) (head : Marked) (rest : List Marked) : Type 0 where
  pub segment : Segment q ks head rest
  pub before : Situation
  pub calm : is_calm before ≡ true
  pub walks : accepted before (head ∷ rest) ≡ true

segment_here : (q : Marked → Bool) (ks : List ℕ) (m : Marked) (ms : List Marked) → is_among ks m.mark ≡ true → list_all q (m ∷ ms) ≡ true → Segment q ks m (up_to ks ms)
segment_here q ks m ms e all =
    let parts = and_parts (q m) (list_all q ms) all in
    record { begins = e; all = and_from (q m) (list_all q (up_to ks ms)) parts.0 (all_up_to q ks ms parts.1); free = free_up_to ks ms }

-- a test that holds of each such segment
pub each_segment : (q : Marked → Bool) (ks : List ℕ) (p : List Marked → Bool) → ((head : Marked) (rest : List Marked) → Segment q ks head rest → p (head ∷ rest) ≡ true)
    → (ms : List Marked) → list_all q ms ≡ true → list_all p (segments ks ms) ≡ true
each_segment q ks p holds [] all = refl
each_segment q ks p holds (m ∷ ms) all = go (is_among ks m.mark) refl (each_segment q ks p holds ms (and_parts (q m) (list_all q ms) all).1)
  where
    go : (b : Bool) → is_among ks m.mark ≡ b → list_all p (segments ks ms) ≡ true → list_all p (if b then (m ∷ up_to ks ms) ∷ segments ks ms else segments ks ms) ≡ true
    go true e later = and_from (p (m ∷ up_to ks ms)) (list_all p (segments ks ms)) (holds m (up_to ks ms) (segment_here q ks m ms e all)) later
    go false e later = later

pub each_walked : (q : Marked → Bool) (ks : List ℕ) (p : List Marked → Bool) → are_strict ks ≡ true → ((head : Marked) (rest : List Marked) → Walked q ks head rest → p (head ∷ rest) ≡ true)
    → (ms : List Marked) (s : Situation) → accepted s ms ≡ true → list_all q ms ≡ true → list_all p (segments ks ms) ≡ true
each_walked q ks p strict holds [] s walks all = refl
each_walked q ks p strict holds (m ∷ ms) s walks all = go (is_among ks m.mark) refl (each_walked q ks p strict holds ms (move s m.mark) walks (and_parts (q m) (list_all q ms) all).1)
  where
    here : is_among ks m.mark ≡ true → Walked q ks m (up_to ks ms)
    here e = record {
      segment = segment_here q ks m ms e all;
      before = s;
      calm = calm_before ks m.mark s ms strict e walks;
      walks = up_to_accepted ks ms (move s m.mark) strict walks;
    }

    go : (b : Bool) → is_among ks m.mark ≡ b → list_all p (segments ks ms) ≡ true → list_all p (if b then (m ∷ up_to ks ms) ∷ segments ks ms else segments ks ms) ≡ true
    go true e later = and_from (p (m ∷ up_to ks ms)) (list_all p (segments ks ms)) (holds m (up_to ks ms) (here e)) later
    go false e later = later

-- ---- under one mark

pub some_under : (k : ℕ) (ms : List Marked) → has_mark k ms ≡ true → (t : Token) × (ts : List Token) × (under k ms ≡ t ∷ ts)
some_under k [] h = absurd cc
some_under k (m ∷ ms) h = go (m.mark == k) refl (some_under k ms)
  where
    go : (b : Bool) → (m.mark == k) ≡ b → (has_mark k ms ≡ true → (t : Token) × (ts : List Token) × (under k ms ≡ t ∷ ts)) → (t : Token) × (ts : List Token) × ((if b then m.token ∷ under k ms else under k ms) ≡ t ∷ ts)
    go true e later = (m.token, under k ms, refl)
    go false e later = later (elim (or_cases (m.mark == k) (has_mark k ms) h) [ inl one ↦ absurd (both_ways (m.mark == k) e one) | inr rest ↦ rest ])
