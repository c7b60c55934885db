-- How rows and claims change where claims are retired one by one.
use Rattle.std.proofs.Common.{◌≡◌, ◌∙◌, ◌++◌, ◌∷◌, ◌<◌, ◌+◌, [], ℕ, zero, suc, false, List, length, get_or, set, take, drop, Option, Some, None, refl, sym, ap, subst, arith, append_assoc, drop-cons}
use Rattle.std.proofs.lemmas.List.{take_more, take_more_set, drop-set-lt, length-set}
use Rattle.std.specs.Prelude.{All, slice_get}
use Rattle.std.specs.Option.{option_map_or}
use Rattle.indexmap.specs.IndexMap.{set_value_at}
use Rattle.ag_board.specs.declared.slot.Slot.{Slot}
use Rattle.ag_board.specs.declared.slot.Out.{Out}
use Rattle.ag_board.specs.Inside.{Row, with_slot, with_handle}
use Rattle.ag_board.specs.Planned.{Handle, outs_retired, rows_retired}
use Rattle.ag_board.proofs.Verdicts.{Each, each-from, each-to, each-same}

length-set_value : (rows : List Row) (n : ℕ) (s : Slot) → length (set_value_at rows n s) ≡ length rows
length-set_value [] n s = refl
length-set_value (r ∷ rs) zero s = refl
length-set_value (r ∷ rs) (suc n) s = ap suc (length-set_value rs n s)

pub length-with_slot : (rows : List Row) (n : ℕ) (f : Slot → Slot) → length (with_slot rows n f) ≡ length rows
length-with_slot rows n f = go (slice_get rows n)
  where
    go : (o : Option Row) → length (option_map_or (λ (r : Row). set_value_at rows n (f r.1)) o rows) ≡ length rows
    go None = refl
    go (Some r) = length-set_value rows n (f r.1)

-- what is left of the claims to be retired leads to what all of them lead to
pub record AreLeft (rows rows0 : List Row) (outs outs0 : List Out) (place : ℕ) (hs hs0 : List (Option Handle)) : Type 0 where
  pub many : place + length hs ≡ length outs
  pub numbered : All (λ o. o.problem < length rows) outs
  pub same_outs : take place outs ++ outs_retired (drop place outs) hs ≡ outs_retired outs0 hs0
  pub same_rows : rows_retired rows (drop place outs) hs ≡ rows_retired rows0 outs0 hs0

each-set : (P : Out → Type 0) (os : List Out) (i : ℕ) (o : Out) → Each P os → P o → Each P (set os i o)
each-set P [] i o h g = tt
each-set P (x ∷ xs) zero o h g = (g, h.1)
each-set P (x ∷ xs) (suc i) o h g = (h.0, each-set P xs i o h.1 g)

drop-at : (os : List Out) (i : ℕ) (o : Out) → i < length os → o ≡ get_or os i o → drop i os ≡ o ∷ drop (i + 1) os
drop-at os i o l e =
    let s : i + 1 ≡ suc i = omega arith in
    drop-cons os i o l ∙ (ap (λ (x : Out). x ∷ drop (suc i) os) (sym e) ∙ ap (λ (k : ℕ). o ∷ drop k os) (sym s))

abbrev pub ended : Out → Out
ended o = record o { is_live = false }

pub left-some : (rows rows0 : List Row) (outs outs0 : List Out) (place : ℕ) (x : Handle) (hs hs0 : List (Option Handle)) (o : Out)
    → AreLeft rows rows0 outs outs0 place (Some x ∷ hs) hs0 → o ≡ get_or outs place o
    → AreLeft (with_handle rows o.problem (Some x)) rows0 (set outs place (ended o)) outs0 (place + 1) hs hs0
left-some rows rows0 outs outs0 place x hs hs0 o k e =
    let l : place < length outs = omega (arith, k.many) in
    let n = length-set outs place (ended o) in
    let w = length-with_slot rows o.problem (λ (s : Slot). record s { handle = Some x }) in
    let d = drop-at outs place o l e in
    let r : drop (place + 1) (set outs place (ended o)) ≡ drop (place + 1) outs = drop-set-lt (place + 1) outs place (ended o) (omega arith) in
    let P : Out → Type 0 = λ (y : Out). y.problem < length (with_handle rows o.problem (Some x)) in
    let at : o.problem < length rows = subst (λ (y : Out). y.problem < length rows) (sym e) (k.numbered place o l) in
    record {
      many = omega (arith, k.many, n);
      numbered = each-to P (set outs place (ended o)) (each-set P outs place (ended o)
          (each-same (λ (y : Out). y.problem < length rows) P outs (λ y h. omega (arith, h, w)) (each-from (λ (y : Out). y.problem < length rows) outs k.numbered)) (omega (arith, at, w)));
      same_outs = ap (λ (y : List Out). y ++ outs_retired (drop (place + 1) (set outs place (ended o))) hs) (take_more_set outs place (ended o) l)
          ∙ (ap (λ (y : List Out). (take place outs ++ ended o ∷ []) ++ outs_retired y hs) r
          ∙ (append_assoc (take place outs) (ended o ∷ []) (outs_retired (drop (place + 1) outs) hs)
          ∙ (ap (λ (y : List Out). take place outs ++ outs_retired y (Some x ∷ hs)) (sym d) ∙ k.same_outs)));
      same_rows = ap (λ (y : List Out). rows_retired (with_handle rows o.problem (Some x)) y hs) r
          ∙ (ap (λ (y : List Out). rows_retired rows y (Some x ∷ hs)) (sym d) ∙ k.same_rows);
    }

pub left-none : (rows rows0 : List Row) (outs outs0 : List Out) (place : ℕ) (hs hs0 : List (Option Handle))
    → AreLeft rows rows0 outs outs0 place (None ∷ hs) hs0 → AreLeft rows rows0 outs outs0 (place + 1) hs hs0
left-none rows rows0 outs outs0 place hs hs0 k =
    let l : place < length outs = omega (arith, k.many) in
    let d0 : Out = record { claim = 0; seat = 0; revision = 0; problem = 0; is_live = false } in
    let o = get_or outs place d0 in
    let s : place + 1 ≡ suc place = omega arith in
    let d : drop place outs ≡ o ∷ drop (place + 1) outs = drop-cons outs place d0 l ∙ ap (λ (j : ℕ). o ∷ drop j outs) (sym s) in
    record {
      many = omega (arith, k.many);
      numbered = k.numbered;
      same_outs = ap (λ (y : List Out). y ++ outs_retired (drop (place + 1) outs) hs) (take_more outs place d0 l)
          ∙ (append_assoc (take place outs) (o ∷ []) (outs_retired (drop (place + 1) outs) hs)
          ∙ (ap (λ (y : List Out). take place outs ++ outs_retired y (None ∷ hs)) (sym d) ∙ k.same_outs));
      same_rows = ap (λ (y : List Out). rows_retired rows y (None ∷ hs)) (sym d) ∙ k.same_rows;
    }

past-end : (os : List Out) (n : ℕ) → n ≡ length os → take n os ++ drop n os ≡ os
past-end [] zero e = refl
past-end [] (suc n) e = absurd (omega (arith, e))
past-end (o ∷ os) zero e = refl
past-end (o ∷ os) (suc n) e = ap (λ (y : List Out). o ∷ y) (past-end os n (omega (arith, e)))

none-retired : (os : List Out) → outs_retired os [] ≡ os
none-retired [] = refl
none-retired (o ∷ os) = refl

no-rows : (rows : List Row) (os : List Out) → rows_retired rows os [] ≡ rows
no-rows rows [] = refl
no-rows rows (o ∷ os) = refl

pub left-end : (rows rows0 : List Row) (outs outs0 : List Out) (place : ℕ) (hs hs0 : List (Option Handle))
    → AreLeft rows rows0 outs outs0 place hs hs0 → length hs ≡ 0 → (outs ≡ outs_retired outs0 hs0) × (rows ≡ rows_retired rows0 outs0 hs0)
left-end rows rows0 outs outs0 place [] hs0 k e =
    let m : place ≡ length outs = omega (arith, k.many) in (
      sym (past-end outs place m) ∙ (ap (λ (y : List Out). take place outs ++ y) (sym (none-retired (drop place outs))) ∙ k.same_outs),
      sym (no-rows rows (drop place outs)) ∙ k.same_rows,
    )
left-end rows rows0 outs outs0 place (h ∷ hs) hs0 k e = absurd (omega (arith, e))

pub left-start : (rows : List Row) (outs : List Out) (hs : List (Option Handle)) → length hs ≡ length outs → All (λ o. o.problem < length rows) outs
    → AreLeft rows rows outs outs 0 hs hs
left-start rows outs hs e n = record { many = omega (arith, e); numbered = n; same_outs = refl; same_rows = refl }

pub left-same : (rows rows1 rows0 : List Row) (outs outs1 outs0 : List Out) (place : ℕ) (hs hs0 : List (Option Handle)) → rows1 ≡ rows → outs1 ≡ outs
    → AreLeft rows rows0 outs outs0 place hs hs0 → AreLeft rows1 rows0 outs1 outs0 place hs hs0
left-same rows rows1 rows0 outs outs1 outs0 place hs hs0 e f k =
    let P : List Row → Type 0 = λ r. AreLeft r rows0 outs1 outs0 place hs hs0 in
    let Q : List Out → Type 0 = λ o. AreLeft rows rows0 o outs0 place hs hs0 in
    subst P (sym e) (subst Q (sym f) k)
