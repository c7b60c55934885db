-- Problems in the order in which they first come: how many parts they have, and that no two are equal.
use Rattle.std.proofs.Common.{◌≡◌, ◌∙◌, ◌||◌, ◌++◌, ◌∷◌, ◌+◌, [], ℕ, zero, suc, Bool, true, false, List, length, Some, refl, sym, ap, subst, arith, append_assoc, append-nil}
use Rattle.std.proofs.lemmas.Bool.{false≢true}
use Rattle.std.proofs.lemmas.List.Sums.{sum_by-cons}
use Rattle.std.specs.Prelude.{slice_get, if◌then◌else◌}
use Rattle.std.specs.List.{list_any}
use Rattle.ag_stream.specs.declared.problem.ProblemDraft.{ProblemDraft}
use Rattle.ag_board.specs.Machine.{same_problem}
use Rattle.ag_board.specs.Store.{parts_of}
use Rattle.ag_board.specs.Inside.{Row, problems_in, with_problem, with_problems, different}
use Rattle.ag_board.specs.Planned.{parts_in}
use Rattle.ag_board.proofs.Verdicts.{same-itself, not-same, by-same}
use Rattle.ag_board.proofs.Plans.{any-at, with-there, with-new}

-- how many parts problems have together
abbrev pub total : List ProblemDraft → ℕ
total [] = 0
total (p ∷ ps) = length p.parts + total ps

pub total-append : (xs ys : List ProblemDraft) → total (xs ++ ys) ≡ total xs + total ys
total-append [] ys = omega arith
total-append (x ∷ xs) ys = let h = total-append xs ys in omega (arith, h)

pub total-rows : (rows : List Row) → total (problems_in rows) ≡ parts_in rows
total-rows [] = refl
total-rows (r ∷ rs) =
    let h = total-rows rs in
    let a = sum_by-cons (λ (x : Row). length x.0.value.parts) r rs in
    omega (arith, h, a)

-- how many parts a problem adds in front of these
abbrev weight : ProblemDraft → List ProblemDraft → ℕ
weight p ps = if list_any (same_problem p) ps then 0 else length p.parts

weight-there : (p : ProblemDraft) (ps : List ProblemDraft) → list_any (same_problem p) ps ≡ true → weight p ps ≡ 0
weight-there p ps e = ap (λ (b : Bool). if b then 0 else length p.parts) e

weight-new : (p : ProblemDraft) (ps : List ProblemDraft) → list_any (same_problem p) ps ≡ false → weight p ps ≡ length p.parts
weight-new p ps e = ap (λ (b : Bool). if b then 0 else length p.parts) e

weight-same : (p : ProblemDraft) (ps qs : List ProblemDraft) → list_any (same_problem p) ps ≡ list_any (same_problem p) qs → weight p ps ≡ weight p qs
weight-same p ps qs e = ap (λ (b : Bool). if b then 0 else length p.parts) e

or-right : (a b : Bool) → b ≡ true → (a || b) ≡ true
or-right true b h = refl
or-right false b h = h

or-neither : (a b : Bool) → (a || b) ≡ false → (a ≡ false) × (b ≡ false)
or-neither true b h = absurd (false≢true (sym h))
or-neither false b h = (refl, h)

last-there : (f : ProblemDraft → Bool) (ps : List ProblemDraft) (p : ProblemDraft) → f p ≡ true → list_any f (ps ++ p ∷ []) ≡ true
last-there f [] p e = ap (λ (b : Bool). b || false) e
last-there f (q ∷ qs) p e = or-right (f q) (list_any f (qs ++ p ∷ [])) (last-there f qs p e)

last-other : (f : ProblemDraft → Bool) (ps : List ProblemDraft) (p : ProblemDraft) → f p ≡ false → list_any f (ps ++ p ∷ []) ≡ list_any f ps
last-other f [] p e = ap (λ (b : Bool). b || false) e
last-other f (q ∷ qs) p e = ap (λ (b : Bool). f q || b) (last-other f qs p e)

other-way : (p q : ProblemDraft) → same_problem p q ≡ false → same_problem q p ≡ false
other-way p q f = not-same q p (λ e. false≢true (sym f ∙ same-itself p q (sym e)))

parts-last : (ps : List ProblemDraft) (p : ProblemDraft) → parts_of (ps ++ p ∷ []) ≡ parts_of ps + weight p ps
parts-last [] p = omega arith
parts-last (q ∷ qs) p =
    let i = parts-last qs p in
    by-same q p
    (λ e.
    let a = weight-there q (qs ++ p ∷ []) (last-there (same_problem q) qs p (same-itself q p e)) in
    let b = weight-there p (q ∷ qs) (ap (λ (x : Bool). x || list_any (same_problem p) qs) (same-itself p q (sym e))) in
    let d : weight q qs ≡ weight p qs = ap (λ (x : ProblemDraft). weight x qs) e in
    omega (arith, i, a, b, d))
    (λ f.
    let a = weight-same q (qs ++ p ∷ []) qs (last-other (same_problem q) qs p f) in
    let b = weight-same p (q ∷ qs) qs (ap (λ (x : Bool). x || list_any (same_problem p) qs) (other-way q p f)) in
    omega (arith, i, a, b))

-- the same problems are in both
abbrev SameAny : List ProblemDraft → List ProblemDraft → Type 0
SameAny qs xs = (p : ProblemDraft) → list_any (same_problem p) qs ≡ list_any (same_problem p) xs

same-any-more : (qs xs : List ProblemDraft) (y : ProblemDraft) → SameAny qs xs → SameAny (with_problem qs y) (xs ++ y ∷ [])
same-any-more qs xs y h p = go (list_any (same_problem y) qs) refl
  where
    go : (b : Bool) → list_any (same_problem y) qs ≡ b → list_any (same_problem p) (with_problem qs y) ≡ list_any (same_problem p) (xs ++ y ∷ [])
    go true t = ap (λ (x : List ProblemDraft). list_any (same_problem p) x) (sym (with-there qs y t))
        ∙ by-same p y
        (λ e. ap (λ (x : ProblemDraft). list_any (same_problem x) qs) e ∙ (t ∙ sym (last-there (same_problem p) xs y (same-itself p y e))))
        (λ f. h p ∙ sym (last-other (same_problem p) xs y f))
    go false t = ap (λ (x : List ProblemDraft). list_any (same_problem p) x) (sym (with-new qs y t))
        ∙ by-same p y
        (λ e. last-there (same_problem p) qs y (same-itself p y e) ∙ sym (last-there (same_problem p) xs y (same-itself p y e)))
        (λ f. last-other (same_problem p) qs y f ∙ (h p ∙ sym (last-other (same_problem p) xs y f)))

total-more : (qs : List ProblemDraft) (y : ProblemDraft) → total (with_problem qs y) ≡ total qs + weight y qs
total-more qs y = go (list_any (same_problem y) qs) refl
  where
    go : (b : Bool) → list_any (same_problem y) qs ≡ b → total (with_problem qs y) ≡ total qs + weight y qs
    go true t =
        let a = ap (λ (x : List ProblemDraft). total x) (with-there qs y t) in
        let w = weight-there y qs t in
        omega (arith, a, w)
    go false t =
        let a = ap (λ (x : List ProblemDraft). total x) (with-new qs y t) in
        let w = weight-new y qs t in
        let s = total-append qs (y ∷ []) in
        omega (arith, a, w, s)

total-is : (xs ys qs : List ProblemDraft) → SameAny qs xs → total qs ≡ parts_of xs → total (with_problems qs ys) ≡ parts_of (xs ++ ys)
total-is xs [] qs h t = t ∙ ap (λ (x : List ProblemDraft). parts_of x) (sym (append-nil xs))
total-is xs (y ∷ ys) qs h t =
    let a = total-more qs y in
    let b = parts-last xs y in
    let w = weight-same y qs xs (h y) in
    total-is (xs ++ y ∷ []) ys (with_problem qs y) (same-any-more qs xs y h) (omega (arith, a, b, w, t))
    ∙ ap (λ (x : List ProblemDraft). parts_of x) (append_assoc xs (y ∷ []) ys)

same-any-all : (xs ys qs : List ProblemDraft) → SameAny qs xs → SameAny (with_problems qs ys) (xs ++ ys)
same-any-all xs [] qs h p = h p ∙ ap (λ (x : List ProblemDraft). list_any (same_problem p) x) (sym (append-nil xs))
same-any-all xs (y ∷ ys) qs h p =
    same-any-all (xs ++ y ∷ []) ys (with_problem qs y) (same-any-more qs xs y h) p
    ∙ ap (λ (x : List ProblemDraft). list_any (same_problem p) x) (append_assoc xs (y ∷ []) ys)

-- the parts of problems are those of the different ones
pub parts-different : (ps : List ProblemDraft) → total (different ps) ≡ parts_of ps
parts-different ps = total-is [] ps [] (λ p. refl) refl

-- a problem is among them where it is among the different ones
pub any-different : (ps : List ProblemDraft) (p : ProblemDraft) → list_any (same_problem p) (different ps) ≡ list_any (same_problem p) ps
any-different ps p = same-any-all [] ps [] (λ q. refl) p

with-append : (qs xs ys : List ProblemDraft) → with_problems qs (xs ++ ys) ≡ with_problems (with_problems qs xs) ys
with-append qs [] ys = refl
with-append qs (x ∷ xs) ys = with-append (with_problem qs x) xs ys

pub different-append : (xs ys : List ProblemDraft) → different (xs ++ ys) ≡ with_problems (different xs) ys
different-append xs ys = with-append [] xs ys

-- no two are equal
abbrev pub AreApart : List ProblemDraft → Type 0
AreApart [] = Unit {0}
AreApart (p ∷ ps) = (list_any (same_problem p) ps ≡ false) × AreApart ps

apart-last : (ps : List ProblemDraft) (p : ProblemDraft) → AreApart ps → list_any (same_problem p) ps ≡ false → AreApart (ps ++ p ∷ [])
apart-last [] p h e = (refl, tt)
apart-last (q ∷ qs) p h e =
    let n = or-neither (same_problem p q) (list_any (same_problem p) qs) e in
    (last-other (same_problem q) qs p (other-way p q n.0) ∙ h.0, apart-last qs p h.1 n.1)

apart-with : (qs : List ProblemDraft) (p : ProblemDraft) → AreApart qs → AreApart (with_problem qs p)
apart-with qs p h = go (list_any (same_problem p) qs) refl
  where
    go : (b : Bool) → list_any (same_problem p) qs ≡ b → AreApart (with_problem qs p)
    go true t = subst AreApart (with-there qs p t) h
    go false t = subst AreApart (with-new qs p t) (apart-last qs p h t)

pub apart-all : (qs ps : List ProblemDraft) → AreApart qs → AreApart (with_problems qs ps)
apart-all qs [] h = h
apart-all qs (p ∷ ps) h = apart-all (with_problem qs p) ps (apart-with qs p h)

pub apart-different : (ps : List ProblemDraft) → AreApart (different ps)
apart-different ps = apart-all [] ps tt

pub apart-place : (qs : List ProblemDraft) (p : ProblemDraft) (n m : ℕ) → AreApart qs → slice_get qs n ≡ Some p → slice_get qs m ≡ Some p → n ≡ m
apart-place [] p n m h e f = cc
apart-place (q ∷ qs) p zero zero h e f = refl
apart-place (q ∷ qs) p zero (suc m) h e f =
    let i : q ≡ p = cc in
    absurd (false≢true (sym h.0 ∙ (ap (λ (x : ProblemDraft). list_any (same_problem x) qs) i ∙ any-at p qs m f)))
apart-place (q ∷ qs) p (suc n) zero h e f =
    let i : q ≡ p = cc in
    absurd (false≢true (sym h.0 ∙ (ap (λ (x : ProblemDraft). list_any (same_problem x) qs) i ∙ any-at p qs n e)))
apart-place (q ∷ qs) p (suc n) (suc m) h e f = ap suc (apart-place qs p n m h.1 e f)
