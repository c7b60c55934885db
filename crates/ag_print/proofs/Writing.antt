-- Words and lines that are written one behind the other.
use Rattle.std.proofs.Common.{◌≡◌, ℕ, ◌+◌, ◌<◌, Bool, true, false, cond, ◌&&◌, ◌||◌, eqb, List, [], ◌∷◌, ◌++◌, length, get_or, take, map, Result, refl, sym, ap, ◌∙◌, inl, inr}
use Rattle.std.specs.Prelude.{codes}
use Rattle.std.proofs.lemmas.Bool.{cases_Bool, and_parts, eqb-true}
use Rattle.std.specs.Result.{OnOk}
use Rattle.std.proofs.lemmas.Result.{on_ok_weaker}
use Rattle.std.proofs.lemmas.List.{append_assoc, append-nil, map-append, take_more}
use Rattle.ag_print.specs.Layout.{Word, joins_before, joins_behind, words_bytes, line_bytes, text_bytes}
use Rattle.ag_print.specs.Written.{Written, nothing, name_word, with_word, with_words, with_end, with_lines}
use Rattle.ag_aadl.specs.Marks.{join_mark, part_mark}
use Rattle.ag_aadl.specs.Names.{put_before, name_parts}
use Rattle.ag_terms.specs.declared.clauses.Clause.{Clause}
use Rattle.ag_unparse.specs.Canonical.{clauses_text}
use Rattle.ag_print.specs.Canonical.{Spelled, name_at, sign_at, parts_words, more_parts, annex_bytes, annex_word}

pub words_more : (s : Written) (xs ys : List Spelled) → with_words s (xs ++ ys) ≡ with_words (with_words s xs) ys
words_more s [] ys = refl
words_more s (x ∷ xs) ys = words_more (with_word s x.word) xs ys

pub lines_more : (s : Written) (xs ys : List (List Spelled)) → with_lines s (xs ++ ys) ≡ with_lines (with_lines s xs) ys
lines_more s [] ys = refl
lines_more s (x ∷ xs) ys = lines_more (with_end (with_words s x)) xs ys

-- ---- the parts of a package's name

abbrev more_glued : List (List ℕ) → List ℕ
more_glued [] = []
more_glued (q ∷ qs) = codes "::" ++ (q ++ more_glued qs)

pub record Filled (parts : List (List ℕ)) : Type 0 where
  pub first : List ℕ
  pub others : List (List ℕ)
  pub is : parts ≡ first ∷ others

onto_filled : (b : ℕ) (parts : List (List ℕ)) → Filled (put_before b parts)
onto_filled b [] = record { first = b ∷ []; others = []; is = refl }
onto_filled b (p ∷ ps) = record { first = b ∷ p; others = ps; is = refl }

abbrev is_colons : ℕ → ℕ → Bool
is_colons b c = eqb b 58 && eqb c 58

pub some_part : (text : List ℕ) → Filled (name_parts text)
some_part [] = record { first = []; others = []; is = refl }
some_part (b ∷ []) = record { first = b ∷ []; others = []; is = refl }
some_part (b ∷ c ∷ bs) =
    elim (cases_Bool (is_colons b c)) [
      | inl colons ↦ rw colons (record { first = []; others = name_parts bs; is = refl })
      | inr none ↦ rw none (onto_filled b (name_parts (c ∷ bs)))
    ]

-- the parts with `::` between them are the name
abbrev all_glued : List (List ℕ) → List ℕ
all_glued [] = []
all_glued (p ∷ ps) = p ++ more_glued ps

glued_cons : (parts : List (List ℕ)) → Filled parts → all_glued ([] ∷ parts) ≡ codes "::" ++ all_glued parts
glued_cons parts f = rw f.is refl

glued_first : (b : ℕ) (parts : List (List ℕ)) → Filled parts → all_glued (put_before b parts) ≡ b ∷ all_glued parts
glued_first b parts f = rw f.is refl

glued_parts : (text : List ℕ) → all_glued (name_parts text) ≡ text
glued_parts [] = refl
glued_parts (b ∷ []) = refl
glued_parts (b ∷ c ∷ bs) =
    elim (cases_Bool (is_colons b c)) [
      | inl colons ↦
          let are = and_parts (eqb b 58) (eqb c 58) colons in
          let first : b ≡ 58 = eqb-true b 58 are.0 in
          let second : c ≡ 58 = eqb-true c 58 are.1 in
          rw colons (glued_cons (name_parts bs) (some_part bs) ∙ ap (λ (z : List ℕ). 58 ∷ 58 ∷ z) (glued_parts bs) ∙ ap (λ (n : ℕ). n ∷ 58 ∷ bs) (sym first) ∙ ap (λ (n : ℕ). b ∷ n ∷ bs) (sym second))
      | inr none ↦ rw none (glued_first b (name_parts (c ∷ bs)) (some_part (c ∷ bs)) ∙ ap (λ (z : List ℕ). b ∷ z) (glued_parts (c ∷ bs)))
    ]

abbrev space_for : Bool → List ℕ
space_for joined = cond joined [] (codes " ")

first_word : (bytes : List ℕ) (joined : Bool) (own : List ℕ) → with_word (record { bytes = bytes; joined = joined }) (name_word own) ≡ record { bytes = bytes ++ (space_for joined ++ own); joined = false }
first_word bytes true own = refl
first_word bytes false own = refl

abbrev state : List ℕ → Bool → Written
state bytes joined = record { bytes = bytes; joined = joined }

more_written : (bytes : List ℕ) (parts : List (List ℕ)) → with_words (state bytes false) (more_parts parts) ≡ state (bytes ++ more_glued parts) false
more_written bytes [] = ap (λ (z : List ℕ). state z false) (sym (append-nil bytes))
more_written bytes (q ∷ qs) =
    more_written ((bytes ++ codes "::") ++ q) qs ∙ ap (λ (z : List ℕ). state z false) (append_assoc (bytes ++ codes "::") q (more_glued qs) ∙ append_assoc bytes (codes "::") (q ++ more_glued qs))

parts_written : (bytes : List ℕ) (joined : Bool) (p : List ℕ) (ps : List (List ℕ)) → with_words (state bytes joined) (parts_words (p ∷ ps)) ≡ state (bytes ++ (space_for joined ++ (p ++ more_glued ps))) false
parts_written bytes joined p ps =
    ap (λ (s : Written). with_words s (more_parts ps)) (first_word bytes joined p) ∙ more_written (bytes ++ (space_for joined ++ p)) ps
    ∙ ap (λ (z : List ℕ). state z false) (append_assoc bytes (space_for joined ++ p) (more_glued ps) ∙ ap (λ (z : List ℕ). bytes ++ z) (append_assoc (space_for joined) p (more_glued ps)))

-- a package's name, written as it stands
pub name_written : (s : Written) (text : List ℕ) → with_words s (parts_words (name_parts text)) ≡ state ((s.bytes ++ space_for s.joined) ++ text) false
name_written s text =
    let f = some_part text in
    let glue : f.first ++ more_glued f.others ≡ text = ap all_glued (sym f.is) ∙ glued_parts text in
    ap (λ (z : List (List ℕ)). with_words s (parts_words z)) f.is ∙ parts_written s.bytes s.joined f.first f.others ∙ ap (λ (z : List ℕ). state (s.bytes ++ (space_for s.joined ++ z)) false) glue
    ∙ ap (λ (z : List ℕ). state z false) (sym (append_assoc s.bytes (space_for s.joined) text))

pub name_step : (s t : Written) (text bytes : List ℕ) → t ≡ record s { bytes = s.bytes ++ space_for s.joined } → bytes ≡ t.bytes ++ text → state bytes false ≡ with_words s (parts_words (name_parts text))
name_step s t text bytes space added =
    ap (λ (z : List ℕ). state z false) (added ∙ ap (λ (w : Written). w.bytes ++ text) space) ∙ sym (name_written s text)

-- an annex, written part by part
annex_put : (bytes : List ℕ) (joined : Bool) (clauses : List Clause) → with_word (state bytes joined) (annex_word clauses).word ≡ state (bytes ++ (space_for joined ++ annex_bytes clauses)) false
annex_put bytes true clauses = refl
annex_put bytes false clauses = refl

pub annex_step : (s t : Written) (clauses : List Clause) (opened listed closed : List ℕ) → t ≡ record s { bytes = s.bytes ++ space_for s.joined } → opened ≡ t.bytes ++ codes "{**\n" → listed ≡ opened ++ clauses_text clauses
    → closed ≡ listed ++ codes "**}" → state closed false ≡ with_word s (annex_word clauses).word
annex_step s t clauses opened listed closed space first second third =
    let text = clauses_text clauses in
    let front = s.bytes ++ space_for s.joined in
    let are : closed ≡ ((front ++ codes "{**\n") ++ text) ++ codes "**}" =
    third ∙ ap (λ (z : List ℕ). z ++ codes "**}") (second ∙ ap (λ (z : List ℕ). z ++ text) (first ∙ ap (λ (w : Written). w.bytes ++ codes "{**\n") space)) in
    let grouped : ((front ++ codes "{**\n") ++ text) ++ codes "**}" ≡ s.bytes ++ (space_for s.joined ++ annex_bytes clauses) = simp append_assoc in
    ap (λ (z : List ℕ). state z false) (are ∙ grouped) ∙ sym (annex_put s.bytes s.joined clauses)

-- what two calls add
pub both : (s t u : Written) (xs ys : List Spelled) → t ≡ with_words s xs → u ≡ with_words t ys → u ≡ with_words s (xs ++ ys)
both s t u xs ys first second = second ∙ ap (λ (w : Written). with_words w ys) first ∙ sym (words_more s xs ys)

pub two_words : (s t u : Written) (a b : Spelled) → t ≡ with_word s a.word → u ≡ with_word t b.word → u ≡ with_words s (a ∷ b ∷ [])
two_words s t u a b first second = second ∙ ap (λ (w : Written). with_word w b.word) first

pub three_words : (s t u v : Written) (a b c : Spelled) → t ≡ with_word s a.word → u ≡ with_word t b.word → v ≡ with_word u c.word → v ≡ with_words s (a ∷ b ∷ c ∷ [])
three_words s t u v a b c first second third = third ∙ ap (λ (w : Written). with_word w c.word) (two_words s t u a b first second)

-- what calls add up to the end of a line
pub line_of : {T E : Type 0} (r : Result T E) (s t u : Written) (xs ys : List Spelled) → t ≡ with_words s xs → OnOk r (u ≡ with_lines t (ys ∷ [])) → OnOk r (u ≡ with_lines s ((xs ++ ys) ∷ []))
line_of r s t u xs ys first second =
    let e : with_words t ys ≡ with_words s (xs ++ ys) = both s t (with_words t ys) xs ys first refl in
    on_ok_weaker r (λ (h : u ≡ with_end (with_words t ys)). h ∙ ap with_end e) second

-- ---- lines

pub lines_both : (s t u : Written) (xs ys : List (List Spelled)) → t ≡ with_lines s xs → u ≡ with_lines t ys → u ≡ with_lines s (xs ++ ys)
lines_both s t u xs ys first second = second ∙ ap (λ (w : Written). with_lines w ys) first ∙ sym (lines_more s xs ys)

pub lines_of : {T E : Type 0} (r : Result T E) (s t u : Written) (xs ys : List (List Spelled)) → t ≡ with_lines s xs → OnOk r (u ≡ with_lines t ys) → OnOk r (u ≡ with_lines s (xs ++ ys))
lines_of r s t u xs ys first second = on_ok_weaker r (lines_both s t u xs ys first) second

-- one line more
pub line_more : {X : Type 0} (f : X → List Spelled) (xs : List X) (i : ℕ) (x : X) (s t u : Written) → i < length xs → x ≡ get_or xs i x → t ≡ with_lines s (map f (take i xs)) → u ≡ with_lines t (f x ∷ [])
    → u ≡ with_lines s (map f (take (i + 1) xs))
line_more f xs i x s t u lt is before added =
    let all : map f (take (i + 1) xs) ≡ map f (take i xs) ++ (f x ∷ []) =
    ap (map f) (take_more xs i x lt) ∙ map-append f (take i xs) (get_or xs i x ∷ []) ∙ ap (λ y. map f (take i xs) ++ (f y ∷ [])) (sym is) in
    lines_both s t u (map f (take i xs)) (f x ∷ []) before added ∙ ap (with_lines s) (sym all)

-- ---- what is written are the bytes of the lines

abbrev plain : List Spelled → List Word
plain ws = map (λ s. s.word) ws

words_are : (bytes : List ℕ) (joined : Bool) (ws : List Spelled) → (with_words (state bytes joined) ws).bytes ≡ bytes ++ words_bytes joined (plain ws)
words_are bytes joined [] = sym (append-nil bytes)
words_are bytes joined (w ∷ ws) =
    let gap = space_for (joined || joins_before w.word) in
    let own = w.word.own in
    words_are (bytes ++ (gap ++ own)) (joins_behind w.word) ws
    ∙ (append_assoc bytes (gap ++ own) (words_bytes (joins_behind w.word) (plain ws)) ∙ ap (λ (z : List ℕ). bytes ++ z) (append_assoc gap own (words_bytes (joins_behind w.word) (plain ws))))

lines_are : (bytes : List ℕ) (lines : List (List Spelled)) → with_lines (state bytes true) lines ≡ state (bytes ++ text_bytes (map plain lines)) true
lines_are bytes [] = ap (λ (z : List ℕ). state z true) (sym (append-nil bytes))
lines_are bytes (line ∷ lines) =
    let here : (with_words (state bytes true) line).bytes ++ codes "\n" ≡ bytes ++ line_bytes (plain line) = ap (λ (z : List ℕ). z ++ codes "\n") (words_are bytes true line) ∙ append_assoc bytes (words_bytes true (plain line)) (codes "\n") in
    ap (λ (z : List ℕ). with_lines (state z true) lines) here ∙ lines_are (bytes ++ line_bytes (plain line)) lines ∙ ap (λ (z : List ℕ). state z true) (append_assoc bytes (line_bytes (plain line)) (text_bytes (map plain lines)))

pub all_written : (w : Written) (lines : List (List Spelled)) → w ≡ with_lines nothing lines → w.bytes ≡ text_bytes (map (map (λ s. s.word)) lines)
all_written w lines e = ap (λ (z : Written). z.bytes) (e ∙ lines_are [] lines)

-- ---- classifiers

-- the parts of a package's name, and one part more
parts_more : (parts : List (List ℕ)) (own : List ℕ) → Filled parts → parts_words (parts ++ own ∷ []) ≡ parts_words parts ++ (sign_at join_mark (codes "::") ∷ name_at part_mark own ∷ [])
parts_more parts own f = rw f.is (ap (λ (ws : List Spelled). name_at part_mark f.first ∷ ws) (more f.others))
  where
    more : (parts : List (List ℕ)) → more_parts (parts ++ own ∷ []) ≡ more_parts parts ++ (sign_at join_mark (codes "::") ∷ name_at part_mark own ∷ [])
    more [] = refl
    more (q ∷ qs) = ap (λ (ws : List Spelled). sign_at join_mark (codes "::") ∷ name_at part_mark q ∷ ws) (more qs)

-- a package's name, `::` and a name behind it
pub front_written : (text own : List ℕ) → parts_words (name_parts text ++ own ∷ []) ≡ parts_words (name_parts text) ++ (sign_at join_mark (codes "::") ∷ name_at part_mark own ∷ [])
front_written text own = parts_more (name_parts text) own (some_part text)
