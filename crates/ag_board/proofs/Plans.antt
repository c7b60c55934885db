-- The numbers of problems in a table and behind it.
use Rattle.std.proofs.Common.{◌≡◌, ◌∙◌, ◌||◌, ◌++◌, ◌∷◌, ◌<◌, ◌≤◌, ◌+◌, [], ℕ, zero, suc, Bool, true, false, not, cond, List, length, map, get_or, take, Option, Some, None, refl, sym, ap, subst, arith, append_assoc, length-append, Global}
use Rattle.std.proofs.lemmas.Bool.{false≢true}
use Rattle.std.proofs.lemmas.List.{map-append, take_more}
use Rattle.std.proofs.lemmas.List.Quantifiers.{position-Some}
use Rattle.std.proofs.lemmas.List.Folds.{list_any_none, list_any-append}
use Rattle.std.proofs.lemmas.List.Sums.{fails_before_first, sum_by-cons}
use Rattle.std.proofs.lemmas.Option.{slice_get-get_or, slice_get-map, slice_get_within}
use Rattle.std.specs.Prelude.{All, slice_get, position, nat_lt, is_some, if◌then◌else◌}
use Rattle.std.specs.Option.{option_map}
use Rattle.std.specs.List.{list_any, position_or_len}
use Rattle.std.specs.declared.sync.Arc.{Arc}
use Rattle.indexmap.specs.IndexMap.{insert_entry}
use Rattle.ag_stream.specs.declared.problem.Problem.{Problem}
use Rattle.ag_stream.specs.declared.problem.ProblemDraft.{ProblemDraft}
use Rattle.ag_board.specs.declared.slot.Slot.{Slot}
use Rattle.ag_board.specs.Machine.{same_problem}
use Rattle.ag_board.specs.Inside.{Row, problems_in, with_problem, with_problems}
use Rattle.ag_board.specs.Planned.{IsNew, AreNumbered, problems_listed, told_cancelled, handled, retired_problem, parts_in}
use Rattle.std.proofs.lemmas.Grind.{common_steps}
use Rattle.ag_verdict.specs.declared.key.Key.{Key}
use Rattle.ag_board.specs.declared.entry.Cancelled.{Cancelled}
use Rattle.ag_board.specs.declared.slot.Out.{Out}
use Rattle.ag_board.specs.Entries.{plain_list}
use Rattle.ag_board.proofs.Verdicts.{same-means, same-itself, each-from, each-to, each-append}

abbrev pub Handle : Type 0
Handle = Arc Problem Global

-- two handles are of equal problems
abbrev pub same_handle : Handle → Handle → Bool
same_handle a b = same_problem a.value b.value

abbrev pub handles_of : List Row → List Handle
handles_of rows = map {B = Handle} (λ r. r.0) rows

problems-handles : (rows : List Row) → problems_in rows ≡ map (λ (h : Handle). h.value) (handles_of rows)
problems-handles [] = refl
problems-handles (r ∷ rs) = ap (λ (x : List ProblemDraft). r.0.value ∷ x) (problems-handles rs)

-- a problem that is found stands at its place
pub found-at : (h : Handle) (rows : List Row) (n : ℕ) → position (same_handle h) (handles_of rows) ≡ Some n → slice_get (problems_in rows) n ≡ Some h.value
found-at h rows n e =
    let f = position-Some (same_handle h) (handles_of rows) n h e in
    ap (λ (x : List ProblemDraft). slice_get x n) (problems-handles rows)
    ∙ (slice_get-map (λ (x : Handle). x.value) (handles_of rows) n
    ∙ (ap (option_map (λ (x : Handle). x.value)) (slice_get-get_or (handles_of rows) n h f.0)
    ∙ ap (λ (p : ProblemDraft). Some p) (sym (same-means h.value (get_or (handles_of rows) n h).value f.1))))

no-place : (b : Bool) (n : ℕ) → cond b (Some n) None ≡ None → b ≡ false
no-place true n e = cc
no-place false n e = refl

pub any-handle : (h : Handle) (rows : List Row) → list_any (same_problem h.value) (problems_in rows) ≡ list_any (same_handle h) (handles_of rows)
any-handle h [] = refl
any-handle h (r ∷ rs) = ap (λ (b : Bool). same_problem h.value r.0.value || b) (any-handle h rs)

-- one that isn't found isn't there
pub not-there : (h : Handle) (rows : List Row) → position (same_handle h) (handles_of rows) ≡ None → list_any (same_problem h.value) (problems_in rows) ≡ false
not-there h rows e =
    let n = no-place (nat_lt (position_or_len (same_handle h) (handles_of rows)) (length (handles_of rows))) (position_or_len (same_handle h) (handles_of rows)) e in
    let past : length (handles_of rows) ≤ position_or_len (same_handle h) (handles_of rows) = grind (arith, n) in
    any-handle h rows ∙ list_any_none (same_handle h) (handles_of rows) (λ k d l. fails_before_first (same_handle h) (handles_of rows) k d (omega (arith, l, past)))

-- the place of a handle is the one of its problem
place-same : (h : Handle) (rows : List Row) → position_or_len (same_handle h) (handles_of rows) ≡ position_or_len (same_problem h.value) (problems_in rows)
place-same h [] = refl
place-same h (r ∷ rs) = ap (λ (n : ℕ). cond (not (same_problem h.value r.0.value)) (1 + n) 0) (place-same h rs)

many-same : (rows : List Row) → length (handles_of rows) ≡ length (problems_in rows)
many-same [] = refl
many-same (r ∷ rs) = ap suc (many-same rs)

pub position-same : (h : Handle) (rows : List Row) → position (same_handle h) (handles_of rows) ≡ position (same_problem h.value) (problems_in rows)
position-same h rows =
    let F : ℕ → ℕ → Option ℕ = λ n m. cond (nat_lt n m) (Some n) None in
    ap (λ (n : ℕ). F n (length (handles_of rows))) (place-same h rows) ∙ ap (λ (m : ℕ). F (position_or_len (same_problem h.value) (problems_in rows)) m) (many-same rows)

pub any-at : (p : ProblemDraft) (ps : List ProblemDraft) (n : ℕ) → slice_get ps n ≡ Some p → list_any (same_problem p) ps ≡ true
any-at p [] n e = cc
any-at p (q ∷ qs) zero e =
    let same : p ≡ q = cc in
    ap (λ (b : Bool). b || list_any (same_problem p) qs) (same-itself p q same)
any-at p (q ∷ qs) (suc n) e = or-right (same_problem p q) (list_any (same_problem p) qs) (any-at p qs n e)
  where
    or-right : (a b : Bool) → b ≡ true → (a || b) ≡ true
    or-right true b h = refl
    or-right false b h = h

pub with-there : (ps : List ProblemDraft) (p : ProblemDraft) → list_any (same_problem p) ps ≡ true → ps ≡ with_problem ps p
with-there ps p e = rw e refl

pub with-new : (ps : List ProblemDraft) (p : ProblemDraft) → list_any (same_problem p) ps ≡ false → ps ++ p ∷ [] ≡ with_problem ps p
with-new ps p e = rw e refl

pub insert-new : (h : Handle) (s : Slot) (rows : List Row) → list_any (same_problem h.value) (problems_in rows) ≡ false → insert_entry same_handle rows h s ≡ rows ++ (h, s) ∷ []
insert-new h s [] e = refl
insert-new h s (r ∷ rs) e =
    let a = or-first (same_problem h.value r.0.value) (list_any (same_problem h.value) (problems_in rs)) e in
    rw a.0 (ap (λ (x : List Row). r ∷ x) (insert-new h s rs a.1))
  where
    or-first : (a b : Bool) → (a || b) ≡ false → (a ≡ false) × (b ≡ false)
    or-first true b h = absurd (false≢true (sym h))
    or-first false b h = (refl, h)

pub problems-append : (xs ys : List Row) → problems_in (xs ++ ys) ≡ problems_in xs ++ problems_in ys
problems-append xs ys = map-append {B = ProblemDraft} (λ (r : Row). r.0.value) xs ys

pub slice-last : {A : Type 0} (xs : List A) (x : A) → slice_get (xs ++ x ∷ []) (length xs) ≡ Some x
slice-last [] x = refl
slice-last (y ∷ ys) x = slice-last ys x

pub slice-behind : {A : Type 0} (xs ys : List A) (n : ℕ) → slice_get (xs ++ ys) (length xs + n) ≡ slice_get ys n
slice-behind [] ys n = ap (λ (k : ℕ). slice_get ys k) (omega arith)
slice-behind (x ∷ xs) ys n =
    let e : length (x ∷ xs) + n ≡ suc (length xs + n) = omega arith in
    ap (λ (k : ℕ). slice_get ((x ∷ xs) ++ ys) k) e ∙ slice-behind xs ys n

pub slice-front : {A : Type 0} (xs ys : List A) (n : ℕ) (x : A) → slice_get xs n ≡ Some x → slice_get (xs ++ ys) n ≡ Some x
slice-front [] ys n x e = cc
slice-front (y ∷ ys) zs zero x e = e
slice-front (y ∷ ys) zs (suc n) x e = slice-front ys zs n x e

pub length-problems : (rows : List Row) → length (problems_in rows) ≡ length rows
length-problems [] = refl
length-problems (r ∷ rs) = ap suc (length-problems rs)

-- behind a table that lacks the problem
pub with-behind : (ps qs : List ProblemDraft) (p : ProblemDraft) → list_any (same_problem p) ps ≡ false → ps ++ with_problem qs p ≡ with_problem (ps ++ qs) p
with-behind ps qs p e =
    let a : list_any (same_problem p) (ps ++ qs) ≡ list_any (same_problem p) qs = list_any-append (same_problem p) ps qs ∙ ap (λ (b : Bool). b || list_any (same_problem p) qs) e in
    rw a (by (list_any (same_problem p) qs))
  where
    by : (b : Bool) → ps ++ (if b then qs else qs ++ p ∷ []) ≡ (if b then ps ++ qs else (ps ++ qs) ++ p ∷ [])
    by true = refl
    by false = sym (append_assoc ps qs (p ∷ []))

-- a row more

pub grown-problems-of : (rows new : List Row) (h : Handle) (s : Slot) (p : ProblemDraft) → new ≡ rows ++ (h, s) ∷ [] → h.value ≡ p → problems_in new ≡ problems_in rows ++ p ∷ []
grown-problems-of rows new h s p g e =
    ap (λ (x : List Row). problems_in x) g ∙ (problems-append rows ((h, s) ∷ []) ∙ ap (λ (q : ProblemDraft). problems_in rows ++ q ∷ []) e)

pub grown-number : (rows new : List Row) (h : Handle) (s : Slot) (p : ProblemDraft) (n : ℕ) → new ≡ rows ++ (h, s) ∷ [] → h.value ≡ p → n ≡ length rows → slice_get (problems_in new) n ≡ Some p
grown-number rows new h s p n g e l =
    ap (λ (x : List ProblemDraft). slice_get x n) (grown-problems-of rows new h s p g e)
    ∙ (ap (λ (k : ℕ). slice_get (problems_in rows ++ p ∷ []) k) (l ∙ sym (length-problems rows)) ∙ slice-last (problems_in rows) p)

pub grown-problems : (rows new : List Row) (h : Handle) (s : Slot) (p : ProblemDraft) → new ≡ rows ++ (h, s) ∷ [] → h.value ≡ p
    → list_any (same_problem p) (problems_in rows) ≡ false → problems_in new ≡ with_problem (problems_in rows) p
grown-problems rows new h s p g e n = grown-problems-of rows new h s p g e ∙ with-new (problems_in rows) p n

pub grown-each : (rows new : List Row) (r : Row) → new ≡ rows ++ r ∷ [] → All IsNew rows → IsNew r → All IsNew new
grown-each rows new r g a n =
    let P : List Row → Type 0 = λ x. All IsNew x in
    subst P (sym g) (each-to IsNew (rows ++ r ∷ []) (each-append IsNew rows (r ∷ []) (each-from IsNew rows a) (n, tt)))

pub grown-rows : (rows new : List Row) (h : Handle) (s : Slot) (p : ProblemDraft) → new ≡ insert_entry same_handle rows h s → h.value ≡ p
    → list_any (same_problem p) (problems_in rows) ≡ false → new ≡ rows ++ (h, s) ∷ []
grown-rows rows new h s p g e n =
    g ∙ insert-new h s rows (ap (λ (q : ProblemDraft). list_any (same_problem q) (problems_in rows)) e ∙ n)

-- a list that goes on

fold-snoc : (qs ps : List ProblemDraft) (p : ProblemDraft) → with_problems qs (ps ++ p ∷ []) ≡ with_problem (with_problems qs ps) p
fold-snoc qs [] p = refl
fold-snoc qs (x ∷ xs) p = fold-snoc (with_problem qs x) xs p

stays-in : (qs : List ProblemDraft) (p : ProblemDraft) (m : ℕ) (x : ProblemDraft) → slice_get qs m ≡ Some x → slice_get (with_problem qs p) m ≡ Some x
stays-in qs p m x e = by (list_any (same_problem p) qs)
  where
    by : (b : Bool) → slice_get (if b then qs else qs ++ p ∷ []) m ≡ Some x
    by true = e
    by false = slice-front qs (p ∷ []) m x e

pub some-same : (x y : ProblemDraft) (xs ys : List (Option ProblemDraft)) (o : Option ProblemDraft) → ◌≡◌ {A = List (Option ProblemDraft)} (o ∷ xs) (Some y ∷ ys) → (o ≡ Some y) × (xs ≡ ys)
some-same x y xs ys o e = (cc, cc)

stay-in : (qs new : List ProblemDraft) (p : ProblemDraft) (ns : List ℕ) (ps : List ProblemDraft) → new ≡ with_problem qs p
    → map (slice_get qs) ns ≡ map (λ (x : ProblemDraft). Some x) ps → map (slice_get new) ns ≡ map (λ (x : ProblemDraft). Some x) ps
stay-in qs new p [] ps g e = e
stay-in qs new p (n ∷ ns) [] g e = cc
stay-in qs new p (n ∷ ns) (x ∷ xs) g e =
    let s = some-same x x (map (slice_get qs) ns) (map (λ (y : ProblemDraft). Some y) xs) (slice_get qs n) e in
    let a : slice_get new n ≡ Some x = ap (λ (y : List ProblemDraft). slice_get y n) g ∙ stays-in qs p n x s.0 in
    let i = stay-in qs new p ns xs g s.1 in
    rw (a, i) refl

pub numbered-more : (table ps : List ProblemDraft) (fresh new : List Row) (ns : List ℕ) (p : ProblemDraft) (n : ℕ) → AreNumbered table ps fresh ns
    → table ++ problems_in new ≡ with_problem (table ++ problems_in fresh) p → slice_get (table ++ problems_in new) n ≡ Some p → All IsNew new
    → AreNumbered table (ps ++ p ∷ []) new (ns ++ n ∷ [])
numbered-more table ps fresh new ns p n k g a e =
    record {
      problems = g ∙ (ap (λ (x : List ProblemDraft). with_problem x p) k.problems ∙ sym (fold-snoc table ps p));
      numbers = map-append (slice_get (table ++ problems_in new)) ns (n ∷ [])
          ∙ (ap (λ (x : List (Option ProblemDraft)). x ++ slice_get (table ++ problems_in new) n ∷ []) (stay-in (table ++ problems_in fresh) (table ++ problems_in new) p ns ps g k.numbers)
          ∙ (ap (λ (x : Option ProblemDraft). map (λ (y : ProblemDraft). Some y) ps ++ x ∷ []) a
          ∙ sym (map-append (λ (y : ProblemDraft). Some y) ps (p ∷ []))));
      each = e;
    }

pub listed-more : (xs : List (Key × Handle)) (i : ℕ) (d : Key × Handle) → i < length xs
    → problems_listed (plain_list (take (i + 1) xs)) ≡ problems_listed (plain_list (take i xs)) ++ (get_or xs i d).1.value ∷ []
listed-more xs i d l =
    ap (λ (x : List (Key × Handle)). problems_listed (plain_list x)) (take_more xs i d l)
    ∙ go (take i xs) (get_or xs i d)
  where
    go : (ys : List (Key × Handle)) (y : Key × Handle) → problems_listed (plain_list (ys ++ y ∷ [])) ≡ problems_listed (plain_list ys) ++ y.1.value ∷ []
    go [] y = refl
    go (z ∷ zs) y = ap (λ (x : List ProblemDraft). z.1.value ∷ x) (go zs y)

pub told-append : (os : List Out) (hs : List (Option Handle)) (o : Out) (h : Option Handle) → length hs ≡ length os
    → told_cancelled (os ++ o ∷ []) (hs ++ h ∷ []) ≡ told_cancelled os hs ++ told_cancelled (o ∷ []) (h ∷ [])
told-append [] [] o h e = refl
told-append [] (x ∷ xs) o h e = absurd (omega (arith, e))
told-append (o' ∷ os) [] o h e = absurd (omega (arith, e))
told-append (o' ∷ os) (None ∷ hs) o h e = told-append os hs o h (omega (arith, e))
told-append (o' ∷ os) (Some x ∷ hs) o h e = ap (λ (z : List Cancelled). record { claim = o'.claim; seat = o'.seat } ∷ z) (told-append os hs o h (omega (arith, e)))

pub told-more : (os : List Out) (hs : List (Option Handle)) (i : ℕ) (o : Out) (h : Option Handle) → i < length os → length hs ≡ length os
    → told_cancelled (take (i + 1) os) (take (i + 1) hs) ≡ told_cancelled (take i os) (take i hs) ++ told_cancelled (get_or os i o ∷ []) (get_or hs i h ∷ [])
told-more os hs i o h l e =
    let a = take_more os i o l in
    let b = take_more hs i h (omega (arith, l, e)) in
    let n : length (take i hs) ≡ length (take i os) = grind (arith, common_steps, l, e) in
    ap (λ (x : List Out). told_cancelled x (take (i + 1) hs)) a ∙ (ap (λ (x : List (Option Handle)). told_cancelled (take i os ++ get_or os i o ∷ []) x) b ∙ told-append (take i os) (take i hs) (get_or os i o) (get_or hs i h) n)

pub handled-more : (rows : List Row) (ns : List ℕ) (os : List Out) (hs : List (Option Handle)) (i : ℕ) (o : Out) (h : Option Handle) → i < length os
    → handled hs ≡ map (retired_problem rows ns) (take i os) → option_map (λ (x : Handle). x.value) h ≡ retired_problem rows ns (get_or os i o)
    → handled (hs ++ h ∷ []) ≡ map (retired_problem rows ns) (take (i + 1) os)
handled-more rows ns os hs i o h l e f =
    map-append (option_map (λ (x : Handle). x.value)) hs (h ∷ [])
    ∙ (ap (λ (x : List (Option ProblemDraft)). x ++ option_map (λ (y : Handle). y.value) h ∷ []) e
    ∙ (ap (λ (x : Option ProblemDraft). map (retired_problem rows ns) (take i os) ++ x ∷ []) f
    ∙ (sym (map-append (retired_problem rows ns) (take i os) (get_or os i o ∷ []))
    ∙ ap (map (retired_problem rows ns)) (sym (take_more os i o l)))))

one-told : (o : Out) (h : Option Handle) → is_some h ≡ true → told_cancelled (o ∷ []) (h ∷ []) ≡ record { claim = o.claim; seat = o.seat } ∷ []
one-told o None e = absurd (false≢true e)
one-told o (Some x) e = refl

none-told : (o : Out) (h : Option Handle) → is_some h ≡ false → told_cancelled (o ∷ []) (h ∷ []) ≡ []
none-told o None e = refl
none-told o (Some x) e = absurd (false≢true (sym e))

nil-behind : (xs : List Cancelled) → xs ++ [] ≡ xs
nil-behind [] = refl
nil-behind (x ∷ xs) = ap (λ (y : List Cancelled). x ∷ y) (nil-behind xs)

-- one claim more is told, where it has a handle
pub told-next : (os : List Out) (hs : List (Option Handle)) (i : ℕ) (o : Out) (h : Option Handle) → i < length os → length hs ≡ length os → h ≡ get_or hs i h → is_some h ≡ true
    → told_cancelled (take (i + 1) os) (take (i + 1) hs) ≡ told_cancelled (take i os) (take i hs) ++ record { claim = (get_or os i o).claim; seat = (get_or os i o).seat } ∷ []
told-next os hs i o h l e g s =
    told-more os hs i o h l e
    ∙ ap (λ (x : List Cancelled). told_cancelled (take i os) (take i hs) ++ x)
    (ap (λ (x : Option Handle). told_cancelled (get_or os i o ∷ []) (x ∷ [])) (sym g) ∙ one-told (get_or os i o) h s)

pub told-none : (os : List Out) (hs : List (Option Handle)) (i : ℕ) (o : Out) (h : Option Handle) → i < length os → length hs ≡ length os → h ≡ get_or hs i h → is_some h ≡ false
    → told_cancelled (take (i + 1) os) (take (i + 1) hs) ≡ told_cancelled (take i os) (take i hs)
told-none os hs i o h l e g s =
    told-more os hs i o h l e
    ∙ (ap (λ (x : List Cancelled). told_cancelled (take i os) (take i hs) ++ x)
    (ap (λ (x : Option Handle). told_cancelled (get_or os i o ∷ []) (x ∷ [])) (sym g) ∙ none-told (get_or os i o) h s)
    ∙ nil-behind (told_cancelled (take i os) (take i hs)))

-- the problem with the number at a place of a list is the list's
pub at-number : (all : List ProblemDraft) (ns : List ℕ) (ps : List ProblemDraft) (i : ℕ) (d : ProblemDraft) → map (slice_get all) ns ≡ map (λ (x : ProblemDraft). Some x) ps → i < length ps
    → slice_get all (get_or ns i 0) ≡ Some (get_or ps i d)
at-number all ns [] i d e l = absurd (omega arith)
at-number all [] (p ∷ ps) i d e l = cc
at-number all (n ∷ ns) (p ∷ ps) zero d e l = (some-same p p (map (slice_get all) ns) (map (λ (x : ProblemDraft). Some x) ps) (slice_get all n) e).0
at-number all (n ∷ ns) (p ∷ ps) (suc i) d e l =
    at-number all ns ps i d (some-same p p (map (slice_get all) ns) (map (λ (x : ProblemDraft). Some x) ps) (slice_get all n) e).1 (omega arith)

parts-step : (rows : List Row) (i n : ℕ) → option_map (λ (p : ProblemDraft). length p.parts) (slice_get (problems_in rows) i) ≡ Some n → parts_in (take (suc i) rows) ≡ parts_in (take i rows) + n
parts-step [] i n e = cc
parts-step (r ∷ rs) zero n e = let f : length r.0.value.parts ≡ n = cc in omega (arith, f)
parts-step (r ∷ rs) (suc i) n e =
    let h = parts-step rs i n e in
    let a : parts_in (take (suc (suc i)) (r ∷ rs)) ≡ length r.0.value.parts + parts_in (take (suc i) rs) = sum_by-cons (λ (x : Row). length x.0.value.parts) r (take (suc i) rs) in
    let b : parts_in (take (suc i) (r ∷ rs)) ≡ length r.0.value.parts + parts_in (take i rs) = sum_by-cons (λ (x : Row). length x.0.value.parts) r (take i rs) in
    omega (arith, h, a, b)

pub parts-more : (rows : List Row) (i n : ℕ) → option_map (λ (p : ProblemDraft). length p.parts) (slice_get (problems_in rows) i) ≡ Some n → parts_in (take (i + 1) rows) ≡ parts_in (take i rows) + n
parts-more rows i n e = let s : i + 1 ≡ suc i = omega arith in ap (λ (k : ℕ). parts_in (take k rows)) s ∙ parts-step rows i n e

pub number-within : (table fresh : List Row) (ns : List ℕ) (ps : List ProblemDraft) (i : ℕ) (d : ProblemDraft) → map (slice_get (problems_in table ++ problems_in fresh)) ns ≡ map (λ (x : ProblemDraft). Some x) ps → i < length ps
    → get_or ns i 0 < length table + length fresh
number-within table fresh ns ps i d e l =
    let w = slice_get_within (problems_in table ++ problems_in fresh) (get_or ns i 0) (get_or ps i d) (at-number (problems_in table ++ problems_in fresh) ns ps i d e l) in
    let a = length-append (problems_in table) (problems_in fresh) in
    let b = length-problems table in
    let c = length-problems fresh in
    omega (arith, w, a, b, c)

length-listed : (xs : List (Key × Handle)) → length (problems_listed (plain_list xs)) ≡ length xs
length-listed [] = refl
length-listed (x ∷ xs) = ap suc (length-listed xs)

listed-at : (xs : List (Key × Handle)) (i : ℕ) (d : Key × Handle) → get_or (problems_listed (plain_list xs)) i d.1.value ≡ (get_or xs i d).1.value
listed-at [] i d = refl
listed-at (x ∷ xs) zero d = refl
listed-at (x ∷ xs) (suc i) d = listed-at xs i d

some-one : (o : Option ProblemDraft) (p q : ProblemDraft) → o ≡ Some p → o ≡ Some q → p ≡ q
some-one o p q e f = cc

plain-snoc : (xs : List (Key × Handle)) (k : Key × Handle) → plain_list (xs ++ k ∷ []) ≡ plain_list xs ++ (k.0, k.1.value) ∷ []
plain-snoc [] k = refl
plain-snoc (x ∷ xs) k = ap (λ (y : List (Key × ProblemDraft)). (x.0, x.1.value) ∷ y) (plain-snoc xs k)

-- the number at a place of a list is within
pub listed-within : (table fresh : List Row) (ns : List ℕ) (xs : List (Key × Handle)) (i : ℕ) (d : Key × Handle)
    → map (slice_get (problems_in table ++ problems_in fresh)) ns ≡ map (λ (x : ProblemDraft). Some x) (problems_listed (plain_list xs)) → i < length xs
    → get_or ns i 0 < length table + length fresh
listed-within table fresh ns xs i d e l =
    let n = length-listed xs in
    number-within table fresh ns (problems_listed (plain_list xs)) i d.1.value e (omega (arith, l, n))

-- a list is shared by one further place
pub shared-more : (all : List ProblemDraft) (ns : List ℕ) (xs done : List (Key × Handle)) (i : ℕ) (d new : Key × Handle)
    → map (slice_get all) ns ≡ map (λ (x : ProblemDraft). Some x) (problems_listed (plain_list xs)) → i < length xs
    → plain_list done ≡ plain_list (take i xs) → new.0 ≡ (get_or xs i d).0 → slice_get all (get_or ns i 0) ≡ Some new.1.value
    → plain_list (done ++ new ∷ []) ≡ plain_list (take (i + 1) xs)
shared-more all ns xs done i d new e l g k s =
    let n = length-listed xs in
    let a = at-number all ns (problems_listed (plain_list xs)) i d.1.value e (omega (arith, l, n)) in
    let p : new.1.value ≡ (get_or xs i d).1.value = some-one (slice_get all (get_or ns i 0)) new.1.value (get_or (problems_listed (plain_list xs)) i d.1.value) s a ∙ listed-at xs i d in
    plain-snoc done new
    ∙ (ap (λ (y : List (Key × ProblemDraft)). y ++ (new.0, new.1.value) ∷ []) g
    ∙ (ap (λ (y : Key). plain_list (take i xs) ++ (y, new.1.value) ∷ []) k
    ∙ (ap (λ (y : ProblemDraft). plain_list (take i xs) ++ ((get_or xs i d).0, y) ∷ []) p
    ∙ (sym (plain-snoc (take i xs) (get_or xs i d))
    ∙ ap (λ (y : List (Key × Handle)). plain_list y) (sym (take_more xs i d l))))))

length-with_problem : (qs : List ProblemDraft) (p : ProblemDraft) → length (with_problem qs p) ≤ length qs + 1
length-with_problem qs p = go (list_any (same_problem p) qs)
  where
    go : (b : Bool) → length (if b then qs else qs ++ p ∷ []) ≤ length qs + 1
    go true = omega arith
    go false = let a = length-append qs (p ∷ []) in omega (arith, a)

pub length-with_problems : (qs ps : List ProblemDraft) → length (with_problems qs ps) ≤ length qs + length ps
length-with_problems qs [] = omega arith
length-with_problems qs (p ∷ ps) =
    let a = length-with_problem qs p in
    let b = length-with_problems (with_problem qs p) ps in
    omega (arith, a, b)
