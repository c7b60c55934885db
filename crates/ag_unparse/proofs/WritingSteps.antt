-- Words and lines that are written one behind the other.
use Rattle.std.proofs.Common.{◌≡◌, ℕ, suc, ◌+◌, ◌<◌, ◌≤◌, Bool, true, false, cond, ◌&&◌, ◌||◌, eqb, List, [], ◌∷◌, ◌++◌, length, get_or, drop, Option, Some, Result, refl, sym, ap, ◌∙◌, inl, inr, add-one, drop-cons}
use Rattle.std.specs.Prelude.{codes}
use Rattle.std.specs.Result.{OnOk}
use Rattle.std.proofs.lemmas.Bool.{cases_Bool, and_parts, eqb-true}
use Rattle.std.proofs.lemmas.Result.{on_ok_weaker}
use Rattle.std.proofs.lemmas.List.{append_assoc, append-nil, drop_all}
use Rattle.ag_terms.specs.declared.names.Ident.{Ident}
use Rattle.ag_aadl.specs.Names.{put_before, name_parts}
use Rattle.ag_annex.specs.Marks.{part_mark}
use Rattle.ag_unparse.specs.Layout.{Spelled, joins_before, joins_behind, words_bytes, line_bytes, text_bytes}
use Rattle.ag_unparse.specs.Canonical.{name_at, sign, package_parts, part_words, more_part_words}
use Rattle.ag_unparse.specs.Written.{Written, with_bytes, with_word, with_words, with_lines}

-- ---- words behind words

pub words_more : (s : Written) (xs ys : List Spelled) → with_words s (xs ++ ys) ≡ with_words (with_words s xs) ys
words_more s [] ys = refl
words_more s (x ∷ xs) ys = words_more (with_word s x) xs ys

-- what two calls add
pub both : (s t u : Written) (xs ys : List Spelled) → t ≡ with_words s xs → u ≡ with_words t ys → u ≡ with_words s (xs ++ ys)
both s t u xs ys first second = second ∙ ap (λ (w : Written). with_words w ys) first ∙ sym (words_more s xs ys)

pub both_on : {T E : Type 0} (r : Result T E) (s t u : Written) (xs ys : List Spelled) → t ≡ with_words s xs → OnOk r (u ≡ with_words t ys) → OnOk r (u ≡ with_words s (xs ++ ys))
both_on r s t u xs ys first second = on_ok_weaker r (both s t u xs ys first) second

pub same_on : {T E : Type 0} (r : Result T E) (s u : Written) (xs ys : List Spelled) → xs ≡ ys → OnOk r (u ≡ with_words s xs) → OnOk r (u ≡ with_words s ys)
same_on r s u xs ys same h = on_ok_weaker r (λ (e : u ≡ with_words s xs). e ∙ ap (with_words s) same) h

-- ---- the words of a list, one thing behind the other

pub words_step : {X : Type 0} (h : List X → List Spelled) (g : X → List Spelled) → ((x : X) (xs : List X) → h (x ∷ xs) ≡ g x ++ h xs) → (xs : List X) (i : ℕ) (x : X) (s t u : Written) → i < length xs → x ≡ get_or xs i x
    → with_words t (h (drop i xs)) ≡ with_words s (h xs) → u ≡ with_words t (g x) → with_words u (h (drop (i + 1) xs)) ≡ with_words s (h xs)
words_step h g law xs i x s t u lt is before added =
    let split : drop i xs ≡ x ∷ drop (i + 1) xs = rw (add-one, drop-cons xs i x) (ap (λ y. y ∷ drop (suc i) xs) (sym is)) in
    ap (λ (w : Written). with_words w (h (drop (i + 1) xs))) added ∙ sym (words_more t (g x) (h (drop (i + 1) xs))) ∙ ap (with_words t) (sym (law x (drop (i + 1) xs)) ∙ ap h (sym split)) ∙ before

pub words_done : {X : Type 0} (h : List X → List Spelled) → h [] ≡ [] → (xs : List X) (i : ℕ) (s t : Written) → length xs ≤ i → with_words t (h (drop i xs)) ≡ with_words s (h xs) → t ≡ with_words s (h xs)
words_done h none xs i s t le all =
    let gone : drop i xs ≡ [] = drop_all i xs le in
    sym (ap (λ ys. with_words t (h ys)) gone ∙ ap (with_words t) none) ∙ all

-- ---- the parts of a package's name

abbrev more_glued : List (List ℕ) → List ℕ
more_glued [] = []
more_glued (q ∷ qs) = codes "::" ++ (q ++ more_glued qs)

record Filled (parts : List (List ℕ)) : Type 0 where
  first : List ℕ
  others : List (List ℕ)
  is : parts ≡ first ∷ others

onto_filled : (b : ℕ) (parts : List (List ℕ)) → Filled (put_before b parts)
onto_filled b [] = record { first = b ∷ []; others = []; is = refl }
onto_filled b (p ∷ ps) = record { first = b ∷ p; others = ps; is = refl }

abbrev is_colons : ℕ → ℕ → Bool
is_colons b c = eqb b 58 && eqb c 58

some_part : (text : List ℕ) → Filled (name_parts text)
some_part [] = record { first = []; others = []; is = refl }
some_part (b ∷ []) = record { first = b ∷ []; others = []; is = refl }
some_part (b ∷ c ∷ bs) =
    elim (cases_Bool (is_colons b c)) [
      | inl colons ↦ rw colons (record { first = []; others = name_parts bs; is = refl })
      | inr none ↦ rw none (onto_filled b (name_parts (c ∷ bs)))
    ]

-- the parts with `::` between them are the name
abbrev all_glued : List (List ℕ) → List ℕ
all_glued [] = []
all_glued (p ∷ ps) = p ++ more_glued ps

glued_cons : (parts : List (List ℕ)) → Filled parts → all_glued ([] ∷ parts) ≡ codes "::" ++ all_glued parts
glued_cons parts f = rw f.is refl

glued_first : (b : ℕ) (parts : List (List ℕ)) → Filled parts → all_glued (put_before b parts) ≡ b ∷ all_glued parts
glued_first b parts f = rw f.is refl

glued_parts : (text : List ℕ) → all_glued (name_parts text) ≡ text
glued_parts [] = refl
glued_parts (b ∷ []) = refl
glued_parts (b ∷ c ∷ bs) =
    elim (cases_Bool (is_colons b c)) [
      | inl colons ↦
          let are = and_parts (eqb b 58) (eqb c 58) colons in
          let first : b ≡ 58 = eqb-true b 58 are.0 in
          let second : c ≡ 58 = eqb-true c 58 are.1 in
          rw colons (glued_cons (name_parts bs) (some_part bs) ∙ ap (λ (z : List ℕ). 58 ∷ 58 ∷ z) (glued_parts bs) ∙ ap (λ (n : ℕ). n ∷ 58 ∷ bs) (sym first) ∙ ap (λ (n : ℕ). b ∷ n ∷ bs) (sym second))
      | inr none ↦ rw none (glued_first b (name_parts (c ∷ bs)) (some_part (c ∷ bs)) ∙ ap (λ (z : List ℕ). b ∷ z) (glued_parts (c ∷ bs)))
    ]

abbrev pub state : List ℕ → Bool → Written
state bytes joined = record { bytes = bytes; joined = joined }

more_written : (bytes : List ℕ) (parts : List (List ℕ)) → with_words (state bytes false) (more_part_words parts) ≡ state (bytes ++ more_glued parts) false
more_written bytes [] = ap (λ (z : List ℕ). state z false) (sym (append-nil bytes))
more_written bytes (q ∷ qs) =
    more_written ((bytes ++ codes "::") ++ q) qs ∙ ap (λ (z : List ℕ). state z false) (append_assoc (bytes ++ codes "::") q (more_glued qs) ∙ append_assoc bytes (codes "::") (q ++ more_glued qs))

abbrev space_for : Bool → List ℕ
space_for joined = cond (joined || false) [] (codes " ")

parts_written : (bytes : List ℕ) (joined : Bool) (p : List ℕ) (ps : List (List ℕ)) → with_words (state bytes joined) (part_words (p ∷ ps)) ≡ state (bytes ++ (space_for joined ++ (p ++ more_glued ps))) false
parts_written bytes joined p ps =
    more_written (bytes ++ (space_for joined ++ p)) ps ∙ ap (λ (z : List ℕ). state z false) (append_assoc bytes (space_for joined ++ p) (more_glued ps) ∙ ap (λ (z : List ℕ). bytes ++ z) (append_assoc (space_for joined) p (more_glued ps)))

-- a package's name, written as it stands
name_written : (s : Written) (text : List ℕ) → with_words s (part_words (name_parts text)) ≡ with_bytes s false text false
name_written s text =
    let f = some_part text in
    let glue : f.first ++ more_glued f.others ≡ text = ap all_glued (sym f.is) ∙ glued_parts text in
    ap (λ (z : List (List ℕ)). with_words s (part_words z)) f.is ∙ parts_written s.bytes s.joined f.first f.others ∙ ap (λ (z : List ℕ). state (s.bytes ++ (space_for s.joined ++ z)) false) glue

-- the parts of a package's name, and one part more
parts_more : (parts : List (List ℕ)) (own : List ℕ) → Filled parts → part_words (parts ++ own ∷ []) ≡ part_words parts ++ (sign (codes "::") ∷ name_at part_mark own ∷ [])
parts_more parts own f = rw f.is (ap (λ (ws : List Spelled). name_at 51 f.first ∷ ws) (more f.others))
  where
    more : (parts : List (List ℕ)) → more_part_words (parts ++ own ∷ []) ≡ more_part_words parts ++ (sign (codes "::") ∷ name_at part_mark own ∷ [])
    more [] = refl
    more (q ∷ qs) = ap (λ (ws : List Spelled). sign (codes "::") ∷ name_at part_mark q ∷ ws) (more qs)

-- a package's name, `::` and a name behind it
pub front_written : (s t u v : Written) (p : Option Ident) (own : Ident) (n : List ℕ) → p ≡ Some own → t ≡ with_bytes s false own.text false → u ≡ with_bytes t true (codes "::") true → v ≡ with_bytes u false n false
    → v ≡ with_words s (part_words (package_parts p ++ n ∷ []))
front_written s t u v p own n is first second third =
    let named : t ≡ with_words s (part_words (name_parts own.text)) = first ∙ sym (name_written s own.text) in
    let behind : v ≡ with_words t (sign (codes "::") ∷ name_at part_mark n ∷ []) = third ∙ ap (λ (w : Written). with_bytes w false n false) second in
    both s t v (part_words (name_parts own.text)) (sign (codes "::") ∷ name_at part_mark n ∷ []) named behind
    ∙ ap (with_words s) (sym (parts_more (name_parts own.text) n (some_part own.text)) ∙ ap (λ (o : Option Ident). part_words (package_parts o ++ n ∷ [])) (sym is))

-- ---- what is written are the bytes of the lines

words_are : (bytes : List ℕ) (joined : Bool) (ws : List Spelled) → (with_words (state bytes joined) ws).bytes ≡ bytes ++ words_bytes joined ws
words_are bytes joined [] = sym (append-nil bytes)
words_are bytes joined (w ∷ ws) =
    let gap = cond (joined || joins_before w) [] (codes " ") in
    words_are (bytes ++ (gap ++ w.own)) (joins_behind w) ws
    ∙ (append_assoc bytes (gap ++ w.own) (words_bytes (joins_behind w) ws) ∙ ap (λ (z : List ℕ). bytes ++ z) (append_assoc gap w.own (words_bytes (joins_behind w) ws)))

pub lines_are : (bytes : List ℕ) (lines : List (List Spelled)) → (with_lines (state bytes true) lines).bytes ≡ bytes ++ text_bytes lines
lines_are bytes [] = sym (append-nil bytes)
lines_are bytes (line ∷ lines) =
    let here : (with_words (state bytes true) line).bytes ++ codes "\n" ≡ bytes ++ line_bytes line = ap (λ (z : List ℕ). z ++ codes "\n") (words_are bytes true line) ∙ append_assoc bytes (words_bytes true line) (codes "\n") in
    ap (λ (z : List ℕ). (with_lines (state z true) lines).bytes) here ∙ lines_are (bytes ++ line_bytes line) lines ∙ append_assoc bytes (line_bytes line) (text_bytes lines)

-- what a text ends with, once lines were written behind what it began with
pub all_written : {T E : Type 0} (r : Result T E) (bytes : List ℕ) (s t : Written) (out : List ℕ) (lines : List (List Spelled)) → s ≡ state bytes true → OnOk r (t ≡ with_lines s lines) → out ≡ t.bytes → OnOk r (out ≡ bytes ++ text_bytes lines)
all_written r bytes s t out lines start written is =
    on_ok_weaker r (λ (h : t ≡ with_lines s lines). is ∙ ap (λ (w : Written). w.bytes) (h ∙ ap (λ (w : Written). with_lines w lines) start) ∙ lines_are bytes lines) written
