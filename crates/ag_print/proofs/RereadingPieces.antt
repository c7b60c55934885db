-- Taking apart what is seen: lists by the marks that may stand in them.
use Rattle.std.proofs.Common.{◌≡◌, ℕ, Bool, true, false, not, cond, ◌&&◌, List, [], ◌∷◌, ◌++◌, map, refl, ap, ◌∙◌, inl, inr}
use Rattle.std.specs.Prelude.{◌==◌}
use Rattle.std.specs.List.{filter, flat_map, list_any, list_all}
use Rattle.std.proofs.lemmas.Bool.{or_cases, and_parts, not-true}
use Rattle.std.proofs.lemmas.Bool.Decides.{Decides-eqb}
use Rattle.std.proofs.lemmas.List.{append_assoc, append-nil}
use Rattle.std.proofs.lemmas.List.Folds.{list_all-append}
use Rattle.ag_aadl.specs.Marks.{direction_mark}
use Rattle.ag_print.proofs.RereadingSeen.{Seen, texts, has, until, pieces, outward_in, listed_in, two}

-- ---- marks

abbrev pub among : List ℕ → ℕ → Bool
among ks k = list_any (λ j. j == k) ks

-- each mark is one of these
abbrev pub within : List ℕ → List Seen → Bool
within ks ss = list_all (λ s. among ks s.mark) ss

-- none is this one
abbrev pub lacks : ℕ → List Seen → Bool
lacks k ss = list_all (λ s. not (s.mark == k)) ss

-- none is one of these
abbrev pub free : List ℕ → List Seen → Bool
free ks ss = list_all (λ s. not (among ks s.mark)) ss

pub both : {s t : Bool} → s ≡ true → t ≡ true → (s && t) ≡ true
both {s = s} {t = t} p q = rw p q

pub all_both : {A : Type 0} (p : A → Bool) (a b : List A) → list_all p a ≡ true → list_all p b ≡ true → list_all p (a ++ b) ≡ true
all_both p a b l r = list_all-append p a b ∙ both l r

pub among_passes : (p : ℕ → Bool) (ks : List ℕ) (k : ℕ) → list_all p ks ≡ true → among ks k ≡ true → p k ≡ true
among_passes p [] k all some = absurd cc
among_passes p (j ∷ ks) k all some =
    let parts = and_parts (p j) (list_all p ks) all in
    elim (or_cases (j == k) (among ks k) some) [
      | inl this ↦ let e : j ≡ k = (Decides-eqb j k).0 this in rw (← e) parts.0
      | inr later ↦ among_passes p ks k parts.1 later
    ]

-- what holds of the marks that may stand there holds of each that does
pub within_passes : {A : Type 0} (mark : A → ℕ) (ks : List ℕ) (p : ℕ → Bool) (ss : List A) → list_all p ks ≡ true → list_all (λ s. among ks (mark s)) ss ≡ true → list_all (λ s. p (mark s)) ss ≡ true
within_passes mark ks p [] all w = refl
within_passes mark ks p (s ∷ ss) all w =
    let parts = and_parts (among ks (mark s)) (list_all (λ s. among ks (mark s)) ss) w in
    both (among_passes p ks (mark s) all parts.0) (within_passes mark ks p ss all parts.1)

pub seen_passes : (ks : List ℕ) (p : ℕ → Bool) (ss : List Seen) → list_all p ks ≡ true → within ks ss ≡ true → list_all (λ s. p s.mark) ss ≡ true
seen_passes ks p ss all w = within_passes (λ (s : Seen). s.mark) ks p ss all w

none_of : (b : Bool) → not b ≡ true → b ≡ false
none_of b h = not-true b h

-- ---- under one mark

pub texts-append : (k : ℕ) (a b : List Seen) → texts k (a ++ b) ≡ texts k a ++ texts k b
texts-append k [] b = refl
texts-append k (s ∷ a) b = step (s.mark == k) (texts-append k a b)
  where
    step : (c : Bool) → texts k (a ++ b) ≡ texts k a ++ texts k b → cond c (s.text ∷ texts k (a ++ b)) (texts k (a ++ b)) ≡ cond c (s.text ∷ texts k a) (texts k a) ++ texts k b
    step true e = ap (λ (z : List (List ℕ)). s.text ∷ z) e
    step false e = e

pub texts_lacking : (k : ℕ) (ss : List Seen) → lacks k ss ≡ true → texts k ss ≡ []
texts_lacking k [] h = refl
texts_lacking k (s ∷ ss) h =
    let parts = and_parts (not (s.mark == k)) (lacks k ss) h in
    rw (none_of (s.mark == k) parts.0) (texts_lacking k ss parts.1)

pub has_lacking : (k : ℕ) (ss : List Seen) → lacks k ss ≡ true → has k ss ≡ false
has_lacking k [] h = refl
has_lacking k (s ∷ ss) h =
    let parts = and_parts (not (s.mark == k)) (lacks k ss) h in
    rw (none_of (s.mark == k) parts.0) (has_lacking k ss parts.1)

pub outward_lacking : (ss : List Seen) → lacks direction_mark ss ≡ true → outward_in ss ≡ false
outward_lacking [] h = refl
outward_lacking (s ∷ ss) h =
    let parts = and_parts (not (s.mark == direction_mark)) (lacks direction_mark ss) h in
    rw (none_of (s.mark == direction_mark) parts.0) (outward_lacking ss parts.1)

-- ---- up to a mark

pub until_free : (ks : List ℕ) (a b : List Seen) → free ks a ≡ true → until ks (a ++ b) ≡ a ++ until ks b
until_free ks [] b h = refl
until_free ks (s ∷ a) b h =
    let parts = and_parts (not (list_any (λ k. k == s.mark) ks)) (free ks a) h in
    rw (none_of (list_any (λ k. k == s.mark) ks) parts.0) (ap (λ (z : List Seen). s ∷ z) (until_free ks a b parts.1))

pub pieces_free : (ks : List ℕ) (a b : List Seen) → free ks a ≡ true → pieces ks (a ++ b) ≡ pieces ks b
pieces_free ks [] b h = refl
pieces_free ks (s ∷ a) b h =
    let parts = and_parts (not (list_any (λ k. k == s.mark) ks)) (free ks a) h in
    rw (none_of (list_any (λ k. k == s.mark) ks) parts.0) (pieces_free ks a b parts.1)

pub until_within : (ks js : List ℕ) (ss : List Seen) → within js ss ≡ true → within js (until ks ss) ≡ true
until_within ks js [] h = refl
until_within ks js (s ∷ ss) h =
    let parts = and_parts (among js s.mark) (within js ss) h in
    step (list_any (λ k. k == s.mark) ks) (both parts.0 (until_within ks js ss parts.1))
  where
    step : (c : Bool) → within js (s ∷ until ks ss) ≡ true → within js (cond c [] (s ∷ until ks ss)) ≡ true
    step true w = refl
    step false w = w

-- ---- lines that begin with a mark

-- a line that begins with one of the marks and has no further one
pub record BeginsAlone (ks : List ℕ) (line : List Seen) : Type 0 where
  pub head : Seen
  pub rest : List Seen
  pub whole : line ≡ head ∷ rest
  pub first : among ks head.mark ≡ true
  pub others : free ks rest ≡ true

pub piece_of : (ks : List ℕ) (line b : List Seen) → BeginsAlone ks line → pieces ks (line ++ b) ≡ (line ++ until ks b) ∷ pieces ks b
piece_of ks line b l = rw (l.whole, l.first) (two (λ (z : List Seen) (zs : List (List Seen)). (l.head ∷ z) ∷ zs) (until_free ks l.rest b l.others) (pieces_free ks l.rest b l.others))

pub stops_at : (ks : List ℕ) (line b : List Seen) → BeginsAlone ks line → until ks (line ++ b) ≡ []
stops_at ks line b l = rw (l.whole, l.first)

-- such lines are the pieces
pub flat_pieces : {A : Type 0} (ks : List ℕ) (ok : A → Bool) (line : A → List Seen) → ((a : A) → ok a ≡ true → BeginsAlone ks (line a)) → (tail : List Seen) → until ks tail ≡ []
    → (xs : List A) → list_all ok xs ≡ true → (pieces ks (flat_map line xs ++ tail) ≡ map line xs ++ pieces ks tail) × (until ks (flat_map line xs ++ tail) ≡ [])
flat_pieces ks ok line alone tail e [] h = (refl, e)
flat_pieces ks ok line alone tail e (a ∷ xs) h =
    let parts = and_parts (ok a) (list_all ok xs) h in
    let more = flat_pieces ks ok line alone tail e xs parts.1 in
    let rest = flat_map line xs ++ tail in
    let here = alone a parts.0 in
    let split : flat_map line (a ∷ xs) ++ tail ≡ line a ++ rest = append_assoc (line a) (flat_map line xs) tail in (
      ap (pieces ks) split ∙ piece_of ks (line a) rest here ∙ two (λ (z : List Seen) (zs : List (List Seen)). (line a ++ z) ∷ zs) more.1 more.0
          ∙ ap (λ (z : List Seen). z ∷ (map line xs ++ pieces ks tail)) (append-nil (line a)),
      ap (until ks) split ∙ stops_at ks (line a) rest here,
    )

-- what stands before the tail, and the tail itself up to a mark, is of no concern to the last line's reading
pub listed_back : {A B : Type 0} (ks : List ℕ) (k : ℕ) (allowed : List ℕ) (line : A → List Seen) (read : List Seen → B) (bare : A → B)
    → ((a : A) → BeginsAlone ks (line a))
    → ((a : A) (t : List Seen) → has k (line a ++ t) ≡ true)
    → ((a : A) (t : List Seen) → within allowed t ≡ true → read (line a ++ t) ≡ bare a)
    → (tail : List Seen) → pieces ks tail ≡ [] → within allowed (until ks tail) ≡ true
    → (xs : List A) → listed_in ks k read (flat_map line xs ++ tail) ≡ map bare xs
listed_back ks k allowed line read bare alone found reads tail none w [] = ap (λ (z : List (List Seen)). map read (filter (has k) z)) none
listed_back {A = A} ks k allowed line read bare alone found reads tail none w (a ∷ xs) =
    let rest = flat_map line xs ++ tail in
    let split : flat_map line (a ∷ xs) ++ tail ≡ line a ++ rest = append_assoc (line a) (flat_map line xs) tail in
    let more = listed_back ks k allowed line read bare alone found reads tail none w xs in
    ap (listed_in ks k read) split ∙ ap (λ (z : List (List Seen)). map read (filter (has k) z)) (piece_of ks (line a) rest (alone a))
    ∙ ap (λ (c : Bool). map read (cond c ((line a ++ until ks rest) ∷ filter (has k) (pieces ks rest)) (filter (has k) (pieces ks rest)))) (found a (until ks rest))
    ∙ two (λ z zs. z ∷ zs) (reads a (until ks rest) (behind xs)) more
  where
    behind : (xs : List A) → within allowed (until ks (flat_map line xs ++ tail)) ≡ true
    behind [] = w
    behind (b ∷ bs) =
        ap (λ (z : List Seen). within allowed (until ks z)) (append_assoc (line b) (flat_map line bs) tail)
        ∙ ap (within allowed) (stops_at ks (line b) (flat_map line bs ++ tail) (alone b))
