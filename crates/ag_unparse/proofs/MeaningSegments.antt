-- Segments of marked tokens, by the words that they stand for.
use Rattle.std.proofs.Common.{◌≡◌, ℕ, Bool, true, false, not, ◌&&◌, ◌==◌, List, [], ◌∷◌, ◌++◌, refl, sym, ap, ap₂, subst, ◌∙◌, inl, inr, if◌then◌else◌}
use Rattle.std.specs.List.{list_all}
use Rattle.std.proofs.lemmas.Bool.{and_parts, and_from, or_cases, not-true, eqb-true}
use Rattle.std.proofs.lemmas.List.{append-nil}
use Rattle.std.proofs.lemmas.List.Folds.{list_all-append}
use Rattle.ag_lex.specs.declared.token.Token.{Token}
use Rattle.ag_aadl.specs.declared.marked.Marked.{Marked}
use Rattle.ag_aadl.specs.Marked.{has_mark, is_among, up_to, segments}
use Rattle.ag_annex.specs.Clauses.{after}
use Rattle.ag_unparse.specs.Layout.{Spelled}
use Rattle.ag_unparse.specs.Spelling.{StandAs}
use Rattle.ag_unparse.proofs.MeaningPlaced.{placed, Split, placed_join, placed_all}
use Rattle.ag_unparse.proofs.MeaningReads.{at_word}

-- ---- words by their marks

-- each word has one of the marks
abbrev pub within : List ℕ → List Spelled → Bool
within ks ws = list_all (λ w. is_among ks w.mark) ws

-- none has one of them
abbrev pub free : List ℕ → List Spelled → Bool
free ks ws = list_all (λ w. not (is_among ks w.mark)) ws

pub within_join : (ks : List ℕ) (ws vs : List Spelled) → within ks ws ≡ true → within ks vs ≡ true → within ks (ws ++ vs) ≡ true
within_join ks ws vs g h = list_all-append (λ (w : Spelled). is_among ks w.mark) ws vs ∙ and_from (within ks ws) (within ks vs) g h

pub free_join : (ks : List ℕ) (ws vs : List Spelled) → free ks ws ≡ true → free ks vs ≡ true → free ks (ws ++ vs) ≡ true
free_join ks ws vs g h = list_all-append (λ (w : Spelled). not (is_among ks w.mark)) ws vs ∙ and_from (free ks ws) (free ks vs) g h

among_passes : (p : ℕ → Bool) (ks : List ℕ) (k : ℕ) → list_all p ks ≡ true → is_among ks k ≡ true → p k ≡ true
among_passes p [] k all some = absurd cc
among_passes p (j ∷ ks) k all some =
    let parts = and_parts (p j) (list_all p ks) all in
    elim (or_cases (j == k) (is_among ks k) some) [
      | inl this ↦ subst (λ (z : ℕ). p z ≡ true) (eqb-true j k this) parts.0
      | inr later ↦ among_passes p ks k parts.1 later
    ]

-- what holds of the marks that words have
pub within_passes : (ks : List ℕ) (p : ℕ → Bool) (ws : List Spelled) → list_all p ks ≡ true → within ks ws ≡ true → list_all (λ w. p w.mark) ws ≡ true
within_passes ks p [] all h = refl
within_passes ks p (w ∷ ws) all h =
    let parts = and_parts (is_among ks w.mark) (within ks ws) h in
    and_from (p w.mark) (list_all (λ (v : Spelled). p v.mark) ws) (among_passes p ks w.mark all parts.0) (within_passes ks p ws all parts.1)

-- such words have none of other marks
pub within_free : (ks js : List ℕ) (ws : List Spelled) → list_all (λ k. not (is_among js k)) ks ≡ true → within ks ws ≡ true → free js ws ≡ true
within_free ks js ws all h = within_passes ks (λ (k : ℕ). not (is_among js k)) ws all h

-- ---- marked tokens

abbrev frees : List ℕ → List Marked → Bool
frees ks ms = list_all (λ m. not (is_among ks m.mark)) ms

pub placed_free : (bytes : List ℕ) (ks : List ℕ) (ws : List Spelled) (ts : List Token) → free ks ws ≡ true → frees ks (placed bytes ws ts) ≡ true
placed_free bytes ks ws ts h = placed_all bytes (λ (k : ℕ). not (is_among ks k)) ws ts h

pub up_to_free : (ks : List ℕ) (a b : List Marked) → frees ks a ≡ true → up_to ks (a ++ b) ≡ a ++ up_to ks b
up_to_free ks [] b h = refl
up_to_free ks (m ∷ a) b h =
    let parts = and_parts (not (is_among ks m.mark)) (frees ks a) h in
    rw (not-true (is_among ks m.mark) parts.0) (ap (λ (z : List Marked). m ∷ z) (up_to_free ks a b parts.1))

pub segments_free : (ks : List ℕ) (a b : List Marked) → frees ks a ≡ true → segments ks (a ++ b) ≡ segments ks b
segments_free ks [] b h = refl
segments_free ks (m ∷ a) b h =
    let parts = and_parts (not (is_among ks m.mark)) (frees ks a) h in
    rw (not-true (is_among ks m.mark) parts.0) (segments_free ks a b parts.1)

pub after_free : (k : ℕ) (a b : List Marked) → list_all (λ m. not (m.mark == k)) a ≡ true → after k (a ++ b) ≡ after k b
after_free k [] b h = refl
after_free k (m ∷ a) b h =
    let parts = and_parts (not (m.mark == k)) (list_all (λ n. not (n.mark == k)) a) h in
    rw (not-true (m.mark == k) parts.0) (after_free k a b parts.1)

pub no_mark : (k : ℕ) (ms : List Marked) → list_all (λ m. not (m.mark == k)) ms ≡ true → has_mark k ms ≡ false
no_mark k [] h = refl
no_mark k (m ∷ ms) h =
    let parts = and_parts (not (m.mark == k)) (list_all (λ n. not (n.mark == k)) ms) h in
    rw (not-true (m.mark == k) parts.0) (no_mark k ms parts.1)

pub mark_behind : (k : ℕ) (a b : List Marked) → list_all (λ m. not (m.mark == k)) a ≡ true → has_mark k (a ++ b) ≡ has_mark k b
mark_behind k [] b h = refl
mark_behind k (m ∷ a) b h =
    let parts = and_parts (not (m.mark == k)) (list_all (λ n. not (n.mark == k)) a) h in
    rw (not-true (m.mark == k) parts.0) (mark_behind k a b parts.1)

-- ---- segments

-- the first word has one of the marks, and none behind it does
abbrev pub heads : List ℕ → List Spelled → Bool
heads ks [] = false
heads ks (w ∷ ws) = is_among ks w.mark && free ks ws

-- the first word has one of the marks, if there is a word
abbrev pub starts : List ℕ → List Spelled → Bool
starts ks [] = true
starts ks (w ∷ ws) = is_among ks w.mark

pub stops : (bytes : List ℕ) (ks : List ℕ) (ws : List Spelled) (ts : List Token) → starts ks ws ≡ true → up_to ks (placed bytes ws ts) ≡ []
stops bytes ks [] ts h = refl
stops bytes ks (w ∷ ws) [] h = refl
stops bytes ks (w ∷ ws) (t ∷ ts) h = rw h

pub segment_front : (bytes : List ℕ) (ks : List ℕ) (ws : List Spelled) (ts : List Token) (b : List Marked) → StandAs bytes ts ws → heads ks ws ≡ true
    → segments ks (placed bytes ws ts ++ b) ≡ (placed bytes ws ts ++ up_to ks b) ∷ segments ks b
segment_front bytes ks [] ts b s h = absurd cc
segment_front bytes ks (w ∷ ws) [] b s h = absurd s
segment_front bytes ks (w ∷ ws) (t ∷ ts) b s h =
    let parts = and_parts (is_among ks w.mark) (free ks ws) h in
    let none = placed_free bytes ks ws ts parts.1 in
    let m = at_word bytes w t in
    ap (λ (c : Bool). if c then (m ∷ up_to ks (placed bytes ws ts ++ b)) ∷ segments ks (placed bytes ws ts ++ b) else segments ks (placed bytes ws ts ++ b)) parts.0
    ∙ ap₂ (λ (x : List Marked) (y : List (List Marked)). (m ∷ x) ∷ y) (up_to_free ks (placed bytes ws ts) b none) (segments_free ks (placed bytes ws ts) b none)

-- a segment's words, and then those of the next
pub segment_split : (bytes : List ℕ) (ks : List ℕ) (ws vs : List Spelled) (ts : List Token) (s : Split bytes ts ws vs) → heads ks ws ≡ true → starts ks vs ≡ true
    → segments ks (placed bytes (ws ++ vs) ts) ≡ placed bytes ws s.front ∷ segments ks (placed bytes vs s.rest)
segment_split bytes ks ws vs ts s h next =
    ap (λ (z : List Token). segments ks (placed bytes (ws ++ vs) z)) s.whole
    ∙ ap (segments ks) (placed_join bytes ws vs s.front s.rest s.first)
    ∙ segment_front bytes ks ws s.front (placed bytes vs s.rest) s.first h
    ∙ ap (λ (z : List Marked). (placed bytes ws s.front ++ z) ∷ segments ks (placed bytes vs s.rest)) (stops bytes ks vs s.rest next)
    ∙ ap (λ (z : List Marked). z ∷ segments ks (placed bytes vs s.rest)) (append-nil (placed bytes ws s.front))

-- the words of one segment alone
pub segment_alone : (bytes : List ℕ) (ks : List ℕ) (ws : List Spelled) (ts : List Token) → StandAs bytes ts ws → heads ks ws ≡ true → segments ks (placed bytes ws ts) ≡ placed bytes ws ts ∷ []
segment_alone bytes ks ws ts s h =
    ap (segments ks) (sym (append-nil (placed bytes ws ts))) ∙ segment_front bytes ks ws ts [] s h ∙ ap (λ (z : List Marked). z ∷ []) (append-nil (placed bytes ws ts))
