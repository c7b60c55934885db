-- Unit steps along the lines of a trail come to a conflict.
use Rattle.std.proofs.Common.{◌≡◌, ◌⊎◌, inl, inr, ℕ, ◌<◌, ◌==◌, Bool, true, false, ◌||◌, List, [], ◌∷◌, ◌++◌, length, get_or, map, reverse, Option, Some, None, refl, sym, ap, subst, ◌∙◌, All, Contains}
use Rattle.std.specs.List.{list_any, list_all, filter_map}
use Rattle.std.specs.Bool.{beq}
use Rattle.std.specs.Option.{is_some}
use Rattle.std.proofs.lemmas.List.{map-append, reverse-append, append-nil}
use Rattle.std.proofs.lemmas.List.Elements.{All-nil, All-cons, All-head, All-tail, All-append, filter_map-append}
use Rattle.std.proofs.lemmas.Bool.{cond-true, eq-eqb, false≢true}
use Rattle.ag_query.specs.declared.clauses.Lit.{Lit}
use Rattle.ag_query.specs.Meaning.{contrary}
use Rattle.ag_kernel.specs.declared.line.Line.{Line}
use Rattle.ag_kernel.specs.Rules.{line_at}
use Rattle.ag_kernel.specs.Sets.{same, has}
use Rattle.ag_kernel.specs.Units.{left_of, drawn, is_conflict, conflict_along, comes_to_conflict}
use Rattle.ag_tree.specs.declared.trail.Step.{Step}
use Rattle.ag_tree.specs.Trail.{literals, denial, reasons, AreSound, IsSoundStep, IsAgainst}
use Rattle.ag_tree.proofs.Lits.{twice, contains_cases, contains_none, contains_head, contains_tail, contains_map}

beq_itself : (b : Bool) → beq b b ≡ true
beq_itself true = refl
beq_itself false = refl

same_itself : (l : Lit) → same l l ≡ true
same_itself l = let e : (l.atom == l.atom) ≡ true = eq-eqb l.atom l.atom refl in rw (e, beq_itself l.holds) refl

or_true : (b : Bool) → b || true ≡ true
or_true true = refl
or_true false = refl

or_assoc : (a b c : Bool) → (a || b) || c ≡ a || (b || c)
or_assoc true b c = refl
or_assoc false b c = refl

pub contains_has : (lits : List Lit) (l : Lit) → Contains lits l → has lits l ≡ true
contains_has [] l h = absurd (contains_none l h)
contains_has (m ∷ ms) l h =
    elim (contains_cases m l ms h) [
      | inl e ↦ let here : same l m ≡ true = ap (same l) e ∙ same_itself l in rw here refl
      | inr t ↦ let there : has ms l ≡ true = contains_has ms l t in rw there (or_true (same l m))
    ]

has_append : (xs ys : List Lit) (l : Lit) → has ys l ≡ true → has (xs ++ ys) l ≡ true
has_append [] ys l h = h
has_append (x ∷ xs) ys l h = let rest : has (xs ++ ys) l ≡ true = has_append xs ys l h in rw rest (or_true (same l x))

-- the list at the end of the walk
along : List Lit → List (List Lit) → List Lit
along list [] = list
along list (line ∷ lines) = along (drawn (left_of list line) ++ list) lines

along_has : (lines : List (List Lit)) (list : List Lit) (l : Lit) → has list l ≡ true → has (along list lines) l ≡ true
unfolding along
along_has [] list l h = h
along_has (line ∷ lines) list l h = along_has lines (drawn (left_of list line) ++ list) l (has_append (drawn (left_of list line)) list l h)

along_append : (xs ys : List (List Lit)) (list : List Lit) → along list (xs ++ ys) ≡ along (along list xs) ys
unfolding along
along_append [] ys list = refl
along_append (x ∷ xs) ys list = along_append xs ys (drawn (left_of list x) ++ list)

conflict_append : (xs ys : List (List Lit)) (list : List Lit) → conflict_along list (xs ++ ys) ≡ conflict_along list xs || conflict_along (along list xs) ys
unfolding along
conflict_append [] ys list = refl
conflict_append (x ∷ xs) ys list =
    let c : Bool = is_conflict (left_of list x) in
    let next : List Lit = drawn (left_of list x) ++ list in
    ap (λ (b : Bool). c || b) (conflict_append xs ys next) ∙ sym (or_assoc c (conflict_along next xs) (conflict_along (along next xs) ys))

conflict_before : (xs ys : List (List Lit)) (list : List Lit) → conflict_along list xs ≡ true → conflict_along list (xs ++ ys) ≡ true
conflict_before xs ys list h = conflict_append xs ys list ∙ ap (λ (b : Bool). b || conflict_along (along list xs) ys) h

conflict_after : (xs ys : List (List Lit)) (list : List Lit) → conflict_along (along list xs) ys ≡ true → conflict_along list (xs ++ ys) ≡ true
conflict_after xs ys list h = conflict_append xs ys list ∙ ap (λ (b : Bool). conflict_along list xs || b) h ∙ or_true (conflict_along list xs)

-- what is left of a line whose other literals are denied
left_step : (P : Lit → Type 0) (list : List Lit) (m : Lit) (ms : List Lit) (b : Bool) → has list (contrary m) ≡ b → (b ≡ false → P m) → All P (left_of list ms) → All P (left_of list (m ∷ ms))
left_step P list m ms true e h rest = rw e rest
left_step P list m ms false e h rest = rw e (All-cons P m (left_of list ms) (h refl) rest)

left_all : (P : Lit → Type 0) (list line : List Lit) → All (λ m. has list (contrary m) ≡ false → P m) line → All P (left_of list line)
left_all P list [] all = All-nil P
left_all P list (m ∷ ms) all =
    let Q : Lit → Type 0 = λ x. has list (contrary x) ≡ false → P x in
    left_step P list m ms (has list (contrary m)) refl (λ e. All-head Q m ms all e) (left_all P list ms (All-tail Q m ms all))

none_left : (xs : List Lit) → All (λ m. ⊥) xs → is_conflict xs ≡ true
none_left [] all = refl
none_left (x ∷ xs) all = absurd (All-head (λ (m : Lit). ⊥) x xs all)

all_same : (l : Lit) (xs : List Lit) → All (λ m. m ≡ l) xs → list_all (same l) xs ≡ true
all_same l [] all = refl
all_same l (x ∷ xs) all =
    let P : Lit → Type 0 = λ m. m ≡ l in
    let here : same l x ≡ true = ap (same l) (All-head P x xs all) ∙ same_itself l in
    rw here (all_same l xs (All-tail P x xs all))

one_left : (l : Lit) (xs : List Lit) → All (λ m. m ≡ l) xs → (is_conflict xs ≡ true) ⊎ (drawn xs ≡ l ∷ [])
one_left l [] all = inl refl
one_left l (x ∷ xs) all =
    let P : Lit → Type 0 = λ m. m ≡ l in
    let is : x ≡ l = All-head P x xs all in
    let rest : list_all (same x) xs ≡ true = subst (λ (y : Lit). list_all (same y) xs ≡ true) (sym is) (all_same l xs (All-tail P x xs all)) in
    inr (cond-true (list_all (same x) xs) (x ∷ []) [] rest ∙ ap (λ (y : Lit). y ∷ []) is)

abbrev Covers : List Lit → List Lit → Type 0
Covers list lits = (l : Lit) → Contains lits l → has list l ≡ true

abbrev named : List Line → List ℕ → List (List Lit)
named lines numbers = map (λ n. (line_at lines n).lits) numbers

reasons_more : (s : Step) (rest : List Step) → reasons (s ∷ rest) ≡ reasons rest ++ filter_map (λ x. x.reason) (s ∷ [])
reasons_more s rest =
    let f : Step → Option ℕ = λ x. x.reason in
    ap (filter_map f) (reverse-append (s ∷ []) rest) ∙ filter_map-append f (reverse rest) (s ∷ [])

reasons_none : (s : Step) (rest : List Step) → s.reason ≡ None → reasons (s ∷ rest) ≡ reasons rest
reasons_none s rest e =
    let f : Step → Option ℕ = λ x. x.reason in
    let last : filter_map f (s ∷ []) ≡ [] = rw e refl in
    reasons_more s rest ∙ ap (λ (ns : List ℕ). reasons rest ++ ns) last ∙ append-nil (reasons rest)

reasons_some : (s : Step) (rest : List Step) (n : ℕ) → s.reason ≡ Some n → reasons (s ∷ rest) ≡ reasons rest ++ n ∷ []
reasons_some s rest n e =
    let f : Step → Option ℕ = λ x. x.reason in
    let last : filter_map f (s ∷ []) ≡ n ∷ [] = rw e refl in
    reasons_more s rest ∙ ap (λ (ns : List ℕ). reasons rest ++ ns) last

abbrev Walked : List Line → List Lit → List Step → Type 0
Walked lines start steps = (conflict_along start (named lines (reasons steps)) ≡ true) ⊎ Covers (along start (named lines (reasons steps))) (literals steps)

covers_more : (list : List Lit) (s : Step) (rest : List Step) → has list s.lit ≡ true → Covers list (literals rest) → Covers list (literals (s ∷ rest))
covers_more list s rest here there l h =
    elim (contains_cases s.lit l (literals rest) h) [
      | inl e ↦ subst (λ (x : Lit). has list x ≡ true) e here
      | inr t ↦ there l t
    ]

step_none : (lines : List Line) (start : List Lit) (s : Step) (rest : List Step) → s.reason ≡ None → has start s.lit ≡ true → Walked lines start rest → Walked lines start (s ∷ rest)
step_none lines start s rest e h walked =
    let W : List ℕ → Type 0 = λ ns. (conflict_along start (named lines ns) ≡ true) ⊎ Covers (along start (named lines ns)) (literals (s ∷ rest)) in
    subst W (sym (reasons_none s rest e)) (elim walked [
      | inl c ↦ inl c
      | inr covers ↦ inr (covers_more (along start (named lines (reasons rest))) s rest (along_has (named lines (reasons rest)) start s.lit h) covers)
    ])

one_more : (list line : List Lit) (s : Step) (rest : List Step) → Covers list (literals rest) → All (λ m. (m ≡ s.lit) ⊎ Contains (literals rest) (contrary m)) line → (conflict_along list (line ∷ []) ≡ true) ⊎ Covers (along list (line ∷ [])) (literals (s ∷ rest))
unfolding along
one_more list line s rest covers others =
    let all : All (λ m. m ≡ s.lit) (left_of list line) =
    left_all (λ m. m ≡ s.lit) list line (λ k d lt e. elim (others k d lt) [
      | inl is ↦ is
      | inr denied ↦ absurd (false≢true (sym e ∙ covers (contrary (get_or line k d)) denied))
    ]) in
    elim (one_left s.lit (left_of list line) all) [
      | inl c ↦ inl (ap (λ (b : Bool). b || conflict_along (drawn (left_of list line) ++ list) []) c)
      | inr d ↦
          inr (subst (λ (xs : List Lit). Covers (xs ++ list) (literals (s ∷ rest))) (sym d)
          (covers_more (s.lit ∷ list) s rest (contains_has (s.lit ∷ list) s.lit (contains_head s.lit list)) (λ l h. has_append (s.lit ∷ []) list l (covers l h))))
    ]

step_some : (lines : List Line) (start : List Lit) (s : Step) (rest : List Step) (n : ℕ) → s.reason ≡ Some n → IsSoundStep lines s rest → Walked lines start rest → Walked lines start (s ∷ rest)
step_some lines start s rest n e sound walked =
    let f : ℕ → List Lit = λ k. (line_at lines k).lits in
    let before : List (List Lit) = named lines (reasons rest) in
    let line : List Lit = f n in
    let W : List (List Lit) → Type 0 = λ ls. (conflict_along start ls ≡ true) ⊎ Covers (along start ls) (literals (s ∷ rest)) in
    let is : named lines (reasons (s ∷ rest)) ≡ before ++ line ∷ [] = ap (map f) (reasons_some s rest n e) ∙ map-append f (reasons rest) (n ∷ []) in
    subst W (sym is) (elim walked [
      | inl c ↦ inl (conflict_before before (line ∷ []) start c)
      | inr covers ↦
          elim (one_more (along start before) line s rest covers (sound.drawn n e).others) [
            | inl c ↦ inl (conflict_after before (line ∷ []) start c)
            | inr more ↦ inr (subst (λ (xs : List Lit). Covers xs (literals (s ∷ rest))) (sym (along_append before (line ∷ []) start)) more)
          ]
    ])

step_by : (lines : List Line) (start : List Lit) (s : Step) (rest : List Step) (r : Option ℕ) → s.reason ≡ r → IsSoundStep lines s rest → (s.reason ≡ None → has start s.lit ≡ true) → Walked lines start rest → Walked lines start (s ∷ rest)
step_by lines start s rest None e sound h walked = step_none lines start s rest e (h e) walked
step_by lines start s rest (Some n) e sound h walked = step_some lines start s rest n e sound walked

walk : (lines : List Line) (start : List Lit) (steps : List Step) → AreSound lines steps → ((s : Step) → Contains steps s → s.reason ≡ None → has start s.lit ≡ true) → Walked lines start steps
walk lines start [] sound h = inr (λ l c. absurd (contains_none l c))
walk lines start (s ∷ rest) sound h =
    step_by lines start s rest s.reason refl sound.0 (h s (contains_head s rest)) (walk lines start rest sound.1 (λ x c. h x (contains_tail s x rest c)))

denial_step : (s x : Step) (rest : List Step) (r : Option ℕ) → s.reason ≡ r → Contains (denial rest) (contrary x.lit) → Contains (denial (s ∷ rest)) (contrary x.lit)
denial_step s x rest None e h = rw e (contains_tail (contrary s.lit) (contrary x.lit) (denial rest) h)
denial_step s x rest (Some n) e h = rw e h

denial_here : (s : Step) (rest : List Step) → s.reason ≡ None → Contains (denial (s ∷ rest)) (contrary s.lit)
denial_here s rest e = rw e (contains_head (contrary s.lit) (denial rest))

pub denial_has : (steps : List Step) (s : Step) → Contains steps s → s.reason ≡ None → Contains (denial steps) (contrary s.lit)
denial_has [] s h e = absurd (contains_none s h)
denial_has (x ∷ rest) s h e =
    elim (contains_cases x s rest h) [
      | inl is ↦ subst (λ (y : Step). Contains (denial (x ∷ rest)) (contrary y.lit)) is (denial_here x rest (subst (λ (y : Step). y.reason ≡ None) (sym is) e))
      | inr t ↦ denial_step x s rest x.reason refl (denial_has rest s t e)
    ]

-- unit steps from the choices, along the lines of the drawn steps and one that is against them all
pub concludes : (lines : List Line) (steps : List Step) (n : ℕ) → AreSound lines steps → IsAgainst lines steps n → comes_to_conflict (denial steps) (named lines (reasons steps ++ n ∷ [])) ≡ true
concludes lines steps n sound against =
    let f : ℕ → List Lit = λ k. (line_at lines k).lits in
    let start : List Lit = map contrary (denial steps) in
    let before : List (List Lit) = named lines (reasons steps) in
    let chosen : (s : Step) → Contains steps s → s.reason ≡ None → has start s.lit ≡ true =
    λ s c e. subst (λ (x : Lit). has start x ≡ true) (twice s.lit) (contains_has start (contrary (contrary s.lit)) (contains_map contrary (denial steps) (contrary s.lit) (denial_has steps s c e))) in
    let whole : conflict_along start (before ++ f n ∷ []) ≡ true =
    elim (walk lines start steps sound chosen) [
      | inl c ↦ conflict_before before (f n ∷ []) start c
      | inr covers ↦ conflict_after before (f n ∷ []) start (last (along start before) (f n) (literals steps) covers against.denied)
    ] in
    let is : named lines (reasons steps ++ n ∷ []) ≡ before ++ f n ∷ [] = map-append f (reasons steps) (n ∷ []) in
    ap (λ (ls : List (List Lit)). list_any (has start) (denial steps) || conflict_along start ls) is ∙ ap (λ (b : Bool). list_any (has start) (denial steps) || b) whole ∙ or_true (list_any (has start) (denial steps))
  where
    last : (list line lits : List Lit) → Covers list lits → All (λ l. Contains lits (contrary l)) line → conflict_along list (line ∷ []) ≡ true
    last list line lits covers denied =
        let none : All (λ m. ⊥) (left_of list line) = left_all (λ m. ⊥) list line (λ k d lt e. false≢true (sym e ∙ covers (contrary (get_or line k d)) (denied k d lt))) in
        ap (λ (b : Bool). b || conflict_along (drawn (left_of list line) ++ list) []) (none_left (left_of list line) none)

reasons_step : (P : ℕ → Type 0) (s : Step) (rest : List Step) (r : Option ℕ) → s.reason ≡ r → ((n : ℕ) → s.reason ≡ Some n → P n) → All P (reasons rest) → All P (reasons (s ∷ rest))
reasons_step P s rest None e h tail = subst (λ (ns : List ℕ). All P ns) (sym (reasons_none s rest e)) tail
reasons_step P s rest (Some n) e h tail = subst (λ (ns : List ℕ). All P ns) (sym (reasons_some s rest n e)) (All-append P (reasons rest) (n ∷ []) tail (All-cons P n [] (h n e) (All-nil P)))

-- what holds of each line of a drawn step
pub reasons_all : (P : ℕ → Type 0) (steps : List Step) → ((s : Step) (n : ℕ) → Contains steps s → s.reason ≡ Some n → P n) → All P (reasons steps)
reasons_all P [] h = All-nil P
reasons_all P (s ∷ rest) h = reasons_step P s rest s.reason refl (λ n e. h s n (contains_head s rest) e) (reasons_all P rest (λ x n c e. h x n (contains_tail s x rest c) e))

pub sound_drawn : (lines : List Line) (steps : List Step) (s : Step) (n : ℕ) → AreSound lines steps → Contains steps s → s.reason ≡ Some n → (n < length lines) × (is_some (line_at lines n).row ≡ false)
sound_drawn lines [] s n sound h e = absurd (contains_none s h)
sound_drawn lines (x ∷ rest) s n sound h e =
    elim (contains_cases x s rest h) [
      | inl is ↦ let d = sound.0.drawn n (subst (λ (y : Step). y.reason ≡ Some n) (sym is) e) in (d.there, d.no_row)
      | inr t ↦ sound_drawn lines rest s n sound.1 t e
    ]
