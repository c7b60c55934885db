-- What a sum and a difference of factors in order begin with.
use Rattle.std.proofs.Common.{append_assoc, take_all, ◌≡◌, ℕ, ◌+◌, ◌-◌, ◌<◌, Bool, true, false, cond, get_or, take, drop, List, [], ◌∷◌, ◌++◌, length, map, ap, sym, ◌∙◌, refl, arith}
use Rattle.std.specs.Prelude.{ℤ, pos, negsuc, ◌+ℤ◌, ◌-ℤ◌, ◌*ℤ◌}
use Rattle.std.specs.List.{list_all}
use Rattle.std.proofs.lemmas.Bool.Decides.{nat_tests}
use Rattle.std.proofs.lemmas.Int.{ints}
use Rattle.ag_linear.proofs.Merges.{before_all, before_place, both_hold, same_place, plus_both, plus_first, plus_later}
use Rattle.ag_linear.specs.declared.value.Factor.{Factor}
use Rattle.ag_linear.specs.RowOrder.{AreInOrder, AreParts, factor_at}
use Rattle.ag_linear.specs.Rows.{is_zero, plus_factors, precedes, times_factor}

minus_one : (z : ℤ) → negsuc 0 *ℤ z ≡ pos 0 -ℤ z
minus_one z = omega (arith, ints)

-- factors times -1 stand where they stood
all_negated : (f : Factor) (gs : List Factor) → list_all (precedes f) gs ≡ true → list_all (precedes f) (map (times_factor (negsuc 0)) gs) ≡ true
all_negated f [] all = refl
all_negated f (g ∷ gs) all =
    let parts = both_hold (precedes f g) (list_all (precedes f) gs) all in
    rw parts.0 (all_negated f gs parts.1)

factor_alone : (stream : ℕ) (before : Bool) (z y : ℤ) → y ≡ z → is_zero z ≡ false → factor_at stream before y ≡ record { stream = stream; before = before; factor = z } ∷ []
factor_alone stream before z y e nonzero = rw (e, nonzero) refl

negated_nonzero : (z : ℤ) → is_zero z ≡ false → is_zero (negsuc 0 *ℤ z) ≡ false
negated_nonzero z h = let e = minus_one z in grind (arith, nat_tests, ints)

pub parts_left : (f : Factor) (fs gs : List Factor) → AreInOrder (f ∷ fs) → list_all (precedes f) gs ≡ true → AreParts (f ∷ fs) gs f.stream f.before f.factor (pos 0) fs gs
parts_left f fs gs order all = record {
  sum = plus_first f fs gs order.0 all ∙ ap (λ x. x ++ plus_factors fs gs) (sym (factor_alone f.stream f.before f.factor (f.factor +ℤ pos 0) (omega (arith, ints)) order.1));
  difference = plus_first f fs (map (times_factor (negsuc 0)) gs) order.0 (all_negated f gs all)
      ∙ ap (λ x. x ++ plus_factors fs (map (times_factor (negsuc 0)) gs)) (sym (factor_alone f.stream f.before f.factor (f.factor -ℤ pos 0) (omega (arith, ints)) order.1));
  shorter = omega arith;
}

pub parts_right : (g : Factor) (fs gs : List Factor) → AreInOrder (g ∷ gs) → list_all (precedes g) fs ≡ true → AreParts fs (g ∷ gs) g.stream g.before (pos 0) g.factor fs gs
parts_right g fs gs order all = record {
  sum = plus_later g fs gs all ∙ ap (λ x. x ++ plus_factors fs gs) (sym (factor_alone g.stream g.before g.factor (pos 0 +ℤ g.factor) (omega (arith, ints)) order.1));
  difference = plus_later (times_factor (negsuc 0) g) fs (map (times_factor (negsuc 0)) gs) all
      ∙ ap (λ x. x ++ plus_factors fs (map (times_factor (negsuc 0)) gs)) (sym (factor_alone g.stream g.before (negsuc 0 *ℤ g.factor) (pos 0 -ℤ g.factor) (sym (minus_one g.factor)) (negated_nonzero g.factor order.1)));
  shorter = omega arith;
}

pub parts_both : (f g : Factor) (fs gs : List Factor) → AreInOrder (f ∷ fs) → precedes f g ≡ false → precedes g f ≡ false → AreParts (f ∷ fs) (g ∷ gs) g.stream g.before f.factor g.factor fs gs
parts_both f g fs gs order p q =
    let here = same_place f g p q in
    let difference : f.factor +ℤ (negsuc 0 *ℤ g.factor) ≡ f.factor -ℤ g.factor = omega (arith, ints) in
    record {
      sum = plus_both f g fs gs here order.0;
      difference = plus_both f (times_factor (negsuc 0) g) fs (map (times_factor (negsuc 0)) gs) here order.0
          ∙ ap (λ z. factor_at g.stream g.before z ++ plus_factors fs (map (times_factor (negsuc 0)) gs)) difference;
      shorter = omega arith;
    }

-- what stands before the first of a list in order stands before all of it
pub all_from_first : (f g : Factor) (gs : List Factor) → precedes f g ≡ true → AreInOrder (g ∷ gs) → list_all (precedes f) (g ∷ gs) ≡ true
all_from_first f g gs h order = rw h (before_all f g gs (before_place f g h) order.0)

-- ---- the same, where the lists are opened as code opens them

pub all_empty : (p : Factor → Bool) (gs : List Factor) → length gs ≡ 0 → list_all p gs ≡ true
all_empty p [] e = refl
all_empty p (g ∷ gs) e = absurd (omega (arith, e))

pub all_opened : (f : Factor) (gs : List Factor) (d : Factor) → 0 < length gs → precedes f (get_or gs 0 d) ≡ true → AreInOrder gs → list_all (precedes f) gs ≡ true
all_opened f [] d lt h order = refl
all_opened f (g ∷ gs) d lt h order = all_from_first f g gs h order

rest_is : (f : Factor) (fs : List Factor) → take (length (f ∷ fs) - 1) fs ≡ fs
rest_is f fs = let e : length (f ∷ fs) - 1 ≡ length fs = omega arith in rw (e, take_all (length fs) fs (omega arith)) refl

-- these come from the first factor of xs, and from nothing else
pub record IsOpened (xs : List Factor) (d : Factor) (stream : ℕ) (before : Bool) (z : ℤ) (more : List Factor) : Type 0 where
  pub some : 0 < length xs
  pub stream_is : stream ≡ (get_or xs 0 d).stream
  pub before_is : before ≡ (get_or xs 0 d).before
  pub factor_is : z ≡ (get_or xs 0 d).factor
  pub more_is : more ≡ take (length xs - 1) (drop 1 xs)

pub opened_left : (xs gs more others : List Factor) (d : Factor) (s : ℕ) (b : Bool) (x y : ℤ) → IsOpened xs d s b x more → y ≡ pos 0 → others ≡ gs → AreInOrder xs → list_all (precedes (get_or xs 0 d)) gs ≡ true → AreParts xs gs s b x y more others
opened_left [] gs more others d s b x y o ey eo order all = absurd (omega (arith, o.some))
opened_left (f ∷ fs) gs more others d s b x y o ey eo order all =
    let em : more ≡ fs = o.more_is ∙ rest_is f fs in
    rw (o.stream_is, o.before_is, o.factor_is, ey, em, eo) (parts_left f fs gs order all)

pub opened_right : (xs gs more others : List Factor) (d : Factor) (s : ℕ) (b : Bool) (x y : ℤ) → IsOpened gs d s b y others → x ≡ pos 0 → more ≡ xs → AreInOrder gs → list_all (precedes (get_or gs 0 d)) xs ≡ true → AreParts xs gs s b x y more others
opened_right xs [] more others d s b x y o ex em order all = absurd (omega (arith, o.some))
opened_right xs (g ∷ gs) more others d s b x y o ex em order all =
    let eo : others ≡ gs = o.more_is ∙ rest_is g gs in
    rw (o.stream_is, o.before_is, o.factor_is, ex, em, eo) (parts_right g xs gs order all)

pub opened_both : (xs gs more others : List Factor) (d : Factor) (s : ℕ) (b : Bool) (x y : ℤ) → 0 < length xs → x ≡ (get_or xs 0 d).factor → more ≡ take (length xs - 1) (drop 1 xs) → IsOpened gs d s b y others → AreInOrder xs → precedes (get_or xs 0 d) (get_or gs 0 d) ≡ false → precedes (get_or gs 0 d) (get_or xs 0 d) ≡ false → AreParts xs gs s b x y more others
opened_both [] gs more others d s b x y lt ex em o order p q = absurd (omega (arith, lt))
opened_both (f ∷ fs) [] more others d s b x y lt ex em o order p q = absurd (omega (arith, o.some))
opened_both (f ∷ fs) (g ∷ gs) more others d s b x y lt ex em o order p q =
    let more_is : more ≡ fs = em ∙ rest_is f fs in
    let others_is : others ≡ gs = o.more_is ∙ rest_is g gs in
    rw (o.stream_is, o.before_is, ex, o.factor_is, more_is, others_is) (parts_both f g fs gs order p q)

-- ---- a step of the sum of two lists

-- the first factor goes to those that are done, or falls away
pub step_taken : (done finished rest more all : List Factor) (s : ℕ) (b : Bool) (z y : ℤ) → (done ++ rest) ≡ all → rest ≡ factor_at s b z ++ more → is_zero z ≡ false → y ≡ z → finished ≡ done ++ (record { stream = s; before = b; factor = y } ∷ []) → (finished ++ more) ≡ all
step_taken done finished rest more all s b z y whole split nonzero ey e =
    let split' : rest ≡ record { stream = s; before = b; factor = z } ∷ more = split ∙ ap (λ x. x ++ more) (factor_alone s b z z refl nonzero) in
    rw (e, ey) (append_assoc done (record { stream = s; before = b; factor = z } ∷ []) more ∙ ap (λ x. done ++ x) (sym split') ∙ whole)

pub step_passed : (done rest more all : List Factor) (s : ℕ) (b : Bool) (z : ℤ) → (done ++ rest) ≡ all → rest ≡ factor_at s b z ++ more → is_zero z ≡ true → (done ++ more) ≡ all
step_passed done rest more all s b z whole split zero =
    let split' : rest ≡ more = split ∙ ap (λ x. cond x [] (record { stream = s; before = b; factor = z } ∷ []) ++ more) zero in
    ap (λ x. done ++ x) (sym split') ∙ whole

-- each factor passes a test
abbrev pub all_by : (ℤ → Bool) → List Factor → Bool
all_by p fs = list_all (λ f. p f.factor) fs

test_at : (p : ℤ → Bool) (zero : Bool) (s : ℕ) (b : Bool) (z : ℤ) (more : List Factor) → p z ≡ true → all_by p (cond zero [] (record { stream = s; before = b; factor = z } ∷ []) ++ more) ≡ all_by p more
test_at p true s b z more h = refl
test_at p false s b z more h = rw h refl

pub test_step : (p : ℤ → Bool) (rest more : List Factor) (s : ℕ) (b : Bool) (z : ℤ) → rest ≡ factor_at s b z ++ more → p z ≡ true → all_by p rest ≡ all_by p more
test_step p rest more s b z split h = ap (all_by p) split ∙ test_at p (is_zero z) s b z more h

count_at : (zero : Bool) (s : ℕ) (b : Bool) (z : ℤ) (more : List Factor) → length (cond zero [] (record { stream = s; before = b; factor = z } ∷ []) ++ more) ≡ cond zero 0 1 + length more
count_at true s b z more = omega arith
count_at false s b z more = omega arith

-- what a first factor adds to the count
pub count_step : (rest more : List Factor) (s : ℕ) (b : Bool) (z : ℤ) → rest ≡ factor_at s b z ++ more → length rest ≡ cond (is_zero z) 0 1 + length more
count_step rest more s b z split = ap length split ∙ count_at (is_zero z) s b z more

pub count_more : (rest more : List Factor) (s : ℕ) (b : Bool) (z : ℤ) → rest ≡ factor_at s b z ++ more → is_zero z ≡ false → length rest ≡ 1 + length more
count_more rest more s b z split h = count_step rest more s b z split ∙ ap (λ zero. cond zero 0 1 + length more) h

pub count_same : (rest more : List Factor) (s : ℕ) (b : Bool) (z : ℤ) → rest ≡ factor_at s b z ++ more → is_zero z ≡ true → length rest ≡ length more
count_same rest more s b z split h = let e : length rest ≡ 0 + length more = count_step rest more s b z split ∙ ap (λ zero. cond zero 0 1 + length more) h in omega (arith, e)
