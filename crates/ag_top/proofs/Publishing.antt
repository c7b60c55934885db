-- A check's list: its problems are plain, its keys are different, and an empty store takes it.
use Rattle.std.proofs.Common.{◌≡◌, ◌≢◌, ◌∙◌, ◌+◌, ◌*◌, ◌<◌, ◌≤◌, ◌++◌, ◌∷◌, [], ℕ, Bool, true, false, suc, List, length, map, Option, Some, None, refl, sym, ap, arith, subst, get_or, AllPairs, if◌then◌else◌}
use Rattle.std.specs.Prelude.{All, nat_le, filter, count_by}
use Rattle.std.specs.List.{AllByRecursion, list_any}
use Rattle.std.specs.declared.sync.Arc.{Arc}
use Rattle.std.specs.declared.alloc.Global.{Global}
use Rattle.std.proofs.lemmas.Bool.{le-leb}
use Rattle.std.proofs.lemmas.List.{length-map, map-append}
use Rattle.std.proofs.lemmas.List.Sums.{length-filter}
use Rattle.std.proofs.lemmas.List.Elements.{All-from_recursion, recursion_from_All, All-map, All-push}
use Rattle.std.proofs.lemmas.List.Kept.{AllPairs-cons}
use Rattle.std.proofs.lemmas.List.Quantifiers.{all_pairs_push}
use Rattle.std.proofs.Math.ListN.{get_or-map}
use Rattle.ag_base.specs.declared.limits.Limits.{Limits}
use Rattle.ag_stream.specs.declared.problem.Problem.{Problem}
use Rattle.ag_stream.specs.declared.problem.ProblemDraft.{ProblemDraft}
use Rattle.ag_stream.specs.Forms.{IsPlain}
use Rattle.ag_verdict.specs.declared.key.Key.{Key}
use Rattle.ag_verdict.specs.declared.key.KeyKind.TheVariants as kinds
use Rattle.ag_verdict.specs.declared.key.Obligation.{Obligation}
use Rattle.ag_small.specs.declared.package.Package.{Package}
use Rattle.ag_small.specs.declared.package.ClaimKind.TheVariants.{Guarantee}
use Rattle.ag_small.specs.Numbered.{obligations_of, guarantees_from, numbers_from, key_of, draft_of}
use Rattle.ag_small.specs.Carried.{AreFit}
use Rattle.ag_board.specs.declared.entry.PublishFault.{PublishFault}
use Rattle.ag_board.specs.declared.entry.Published.{Published}
use Rattle.ag_board.specs.Entries.{PlainEntry, plain_list, publish, published}
use Rattle.ag_board.specs.Machine.{Line, State, start, same_problem, new_line, is_undecided, undecided, after_publish}
use Rattle.ag_board.specs.Store.{BoardState, Enters, empty, entry, parts_of, refusal_of}
use Rattle.ag_top.specs.Keeping.{listed, weight}
use Rattle.ag_top.specs.Commands.{editor, listed_of, pairs_of}

-- obligations that are fit are so as listed pairs
pub fit_plain : (l : Limits) (p : Package) → AreFit (obligations_of p l.consistency) → All (λ k. IsPlain k.1) (listed_of l p)
fit_plain l p f = All-map (λ (k : Key × ProblemDraft). IsPlain k.1) (λ (x : Obligation). (x.key, x.problem)) (obligations_of p l.consistency) f.plain

pub fit_few : (l : Limits) (p : Package) → AreFit (obligations_of p l.consistency) → length (listed_of l p) ≤ 1001
fit_few l p f = let a = length-map {B = Key × ProblemDraft} (obligations_of p l.consistency) (λ (x : Obligation). (x.key, x.problem)) in let b = f.few in omega (arith, a, b)

-- ---- no key comes twice

abbrev Apart : Obligation → Obligation → Type 0
Apart a b = a.key ≢ b.key

first_apart : (p : Package) (o : Obligation) (low number : ℕ) (parts : List ℕ) → o.key ≡ key_of p kinds.Guarantee low → low < number → AllByRecursion (Apart o) (guarantees_from p number parts)
first_apart p o low number [] is less = tt
first_apart p o low number (part ∷ parts) is less =
    ((λ e. let n : low ≡ number = ap (λ (k : Key). k.number) (sym is ∙ e) in omega (arith, n, less)), first_apart p o low (number + 1) parts is (omega (arith, less)))

guarantees_apart : (p : Package) (number : ℕ) (parts : List ℕ) → AllPairs Apart (guarantees_from p number parts)
guarantees_apart p number [] = λ i j d lt within. absurd (omega arith)
guarantees_apart p number (part ∷ parts) =
    let o : Obligation = record { key = key_of p kinds.Guarantee number; layer = 0; problem = draft_of p (Some part) 0 } in
    let rest = guarantees_from p (number + 1) parts in
    AllPairs-cons Apart o rest (All-from_recursion (Apart o) rest (first_apart p o number (number + 1) parts refl (omega arith))) (guarantees_apart p (number + 1) parts)

last_apart : (p : Package) (o : Obligation) (number : ℕ) (parts : List ℕ) → o.key ≡ key_of p kinds.Consistent 1 → AllByRecursion (λ g. Apart g o) (guarantees_from p number parts)
last_apart p o number [] is = tt
last_apart p o number (part ∷ parts) is = ((λ e. other_kind (ap (λ (k : Key). k.kind) (e ∙ is))), last_apart p o (number + 1) parts is)
  where
    other_kind : kinds.Guarantee ≡ kinds.Consistent → ⊥
    other_kind e = cc

keys_apart : (p : Package) (n : ℕ) → AllPairs Apart (obligations_of p n)
keys_apart p n =
    let parts = numbers_from Guarantee 0 p.claims in
    let front = guarantees_from p 1 parts in
    let o : Obligation = record { key = key_of p kinds.Consistent 1; layer = 0; problem = draft_of p None n } in
    all_pairs_push Apart front o (guarantees_apart p 1 parts) (All-from_recursion (λ g. Apart g o) front (last_apart p o 1 parts refl))

pub keys_differ : (p : Package) (n : ℕ) (list : List (Key × Arc Problem Global)) → plain_list list ≡ pairs_of (obligations_of p n) → AllPairs (λ a b. a.0 ≢ b.0) list
keys_differ p n list e i j d lt within same =
    let o : Obligation = record { key = d.0; layer = 0; problem = d.1.value } in
    let pair : Key × ProblemDraft = (d.0, d.1.value) in
    let plain : (k : ℕ) → get_or (plain_list list) k pair ≡ ((get_or list k d).0, (get_or list k d).1.value) = λ k. get_or-map {B = Key × ProblemDraft} (λ (x : Key × Arc Problem Global). (x.0, x.1.value)) list k d in
    let own : (k : ℕ) → get_or (pairs_of (obligations_of p n)) k pair ≡ ((get_or (obligations_of p n) k o).key, (get_or (obligations_of p n) k o).problem) = λ k. get_or-map {B = Key × ProblemDraft} (λ (x : Obligation). (x.key, x.problem)) (obligations_of p n) k o in
    let key : (k : ℕ) → (get_or (obligations_of p n) k o).key ≡ (get_or list k d).0 = λ k. ap (λ (x : Key × ProblemDraft). x.0) (sym (own k) ∙ (ap (λ (ks : List (Key × ProblemDraft)). get_or ks k pair) (sym e) ∙ plain k)) in
    let a = length-map {B = Key × ProblemDraft} (obligations_of p n) (λ (x : Obligation). (x.key, x.problem)) in
    let b = length-map {B = Key × ProblemDraft} list (λ (x : Key × Arc Problem Global). (x.0, x.1.value)) in
    let c = ap (λ (ks : List (Key × ProblemDraft)). length ks) e in
    keys_apart p n i j o lt (omega (arith, a, b, c, within)) (key i ∙ (same ∙ sym (key j)))

-- ---- an empty store takes it

few_parts : (ks : List (Key × ProblemDraft)) → AllByRecursion (λ (k : Key × ProblemDraft). length k.1.parts ≤ 16384) ks → parts_of (map (λ k. k.1) ks) ≤ length ks * 16384
few_parts [] h = omega arith
few_parts (k ∷ ks) h = by_case (list_any (same_problem k.1) (map (λ x. x.1) ks)) h.0 (few_parts ks h.1)
  where
    by_case : (b : Bool) → length k.1.parts ≤ 16384 → parts_of (map (λ x. x.1) ks) ≤ length ks * 16384 → (if b then 0 else length k.1.parts) + parts_of (map (λ x. x.1) ks) ≤ suc (length ks) * 16384
    by_case true f m = omega (arith, f, m)
    by_case false f m = omega (arith, f, m)

pub never_refused : (list : List (Key × ProblemDraft)) → length list ≤ 1024 → All (λ k. length k.1.parts ≤ 16384) list → refusal_of empty list ≡ None
never_refused list few parts =
    let p = few_parts list (recursion_from_All (λ (k : Key × ProblemDraft). length k.1.parts ≤ 16384) list parts) in
    let a : nat_le (0 + length list) 1000000 ≡ true = le-leb (0 + length list) 1000000 (omega (arith, few)) in
    let b : nat_le (parts_of (map (λ k. k.1) list)) 16777216 ≡ true = le-leb (parts_of (map (λ k. k.1) list)) 16777216 (omega (arith, few, p)) in
    rw (a, b) refl

pub refused_never : (b : BoardState) (list : List (Key × ProblemDraft)) (f : PublishFault) → b ≡ empty → length list ≤ 1024 → All (λ k. length k.1.parts ≤ 16384) list → refusal_of b list ≡ Some f → ⊥
refused_never b list f e few parts r = no_fault (refusal_of empty list) (never_refused list few parts) (ap (λ (x : BoardState). refusal_of x list) (sym e) ∙ r)
  where
    no_fault : (o : Option PublishFault) → o ≡ None → o ≡ Some f → ⊥
    no_fault o n s = let x = sym n ∙ s in cc

-- ---- what the publish leaves

first_listed : (ks : List (Key × ProblemDraft)) → map {B = Key × ProblemDraft} (λ (l : Line). (l.key, l.problem)) (map (new_line start) ks) ≡ ks
first_listed [] = refl
first_listed (k ∷ ks) = ap (λ (xs : List (Key × ProblemDraft)). k ∷ xs) (first_listed ks)

at_most_all : (ls : List Line) → length (filter is_undecided ls) ≤ length ls
at_most_all [] = omega arith
at_most_all (l ∷ ls) = by_case (is_undecided l) (at_most_all ls)
  where
    by_case : (b : Bool) → length (filter is_undecided ls) ≤ length ls → length (if b then l ∷ filter is_undecided ls else filter is_undecided ls) ≤ suc (length ls)
    by_case true m = omega (arith, m)
    by_case false m = omega (arith, m)

pub record FirstLeft (list : List (Key × ProblemDraft)) (new : BoardState) : Type 0 where
  pub keys : listed new.state ≡ list
  pub one : length new.state.revisions ≡ 1
  pub still_open : new.state.is_closed ≡ false
  pub light : weight new ≤ 1 + (length list + length list)

pub first_left : (b new : BoardState) (list : List (Key × ProblemDraft)) (r : Published) → b ≡ empty → Enters b new editor (publish list) (published r) → FirstLeft list new
first_left b new list r e h =
    let state : new.state ≡ after_publish start list = h.state ∙ ap (λ (x : BoardState). after_publish x.state list) e in
    let history : new.history ≡ entry editor (publish list) (published r) ∷ [] = h.history ∙ ap (λ (x : BoardState). x.history ++ entry editor (publish list) (published r) ∷ []) e in
    record {
      keys = ap listed state ∙ first_listed list;
      one = ap (λ (s : State). length s.revisions) state;
      still_open = ap (λ (s : State). s.is_closed) state;
      light =
          let a : count_by is_undecided (map (new_line start) list) ≡ length (filter is_undecided (map (new_line start) list)) = sym (length-filter is_undecided (map (new_line start) list)) in
          let b = at_most_all (map (new_line start) list) in
          let c = length-map list (new_line start) in
          let d = ap undecided state in
          let f = ap (λ (es : List PlainEntry). length es) history in
          omega (arith, a, b, c, d, f);
    }

-- ---- one obligation more

pub one_more_pair : (old new : List (Key × Arc Problem Global)) (os : List Obligation) (o : Obligation) (a : Arc Problem Global) → plain_list old ≡ pairs_of os → new ≡ old ++ (o.key, a) ∷ [] → a.value ≡ o.problem
    → plain_list new ≡ pairs_of (os ++ o ∷ [])
one_more_pair old new os o a e n v =
    ap (λ (ks : List (Key × Arc Problem Global)). plain_list ks) n
    ∙ (map-append {B = Key × ProblemDraft} (λ (k : Key × Arc Problem Global). (k.0, k.1.value)) old ((o.key, a) ∷ [])
    ∙ (ap (λ (ks : List (Key × ProblemDraft)). ks ++ (o.key, a.value) ∷ []) e
    ∙ (ap (λ (p : ProblemDraft). pairs_of os ++ (o.key, p) ∷ []) v
    ∙ sym (map-append {B = Key × ProblemDraft} (λ (x : Obligation). (x.key, x.problem)) os (o ∷ [])))))

pub one_more_few : (old new : List (Key × Arc Problem Global)) (o : Obligation) (a : Arc Problem Global) → All (λ k. length k.1.parts ≤ 16384) (plain_list old) → new ≡ old ++ (o.key, a) ∷ [] → a.value ≡ o.problem
    → length o.problem.parts ≤ 16384 → All (λ k. length k.1.parts ≤ 16384) (plain_list new)
one_more_few old new o a h n v few =
    let P : Key × ProblemDraft → Type 0 = λ k. length k.1.parts ≤ 16384 in
    let whole : plain_list new ≡ plain_list old ++ (o.key, a.value) ∷ [] =
    ap (λ (ks : List (Key × Arc Problem Global)). plain_list ks) n ∙ map-append {B = Key × ProblemDraft} (λ (k : Key × Arc Problem Global). (k.0, k.1.value)) old ((o.key, a) ∷ []) in
    subst (All P) (sym whole) (All-push P (plain_list old) (o.key, a.value) h (subst (λ (p : ProblemDraft). length p.parts ≤ 16384) (sym v) few))

-- few entries
pub first_light : (l : Limits) (p : Package) (new : BoardState) → AreFit (obligations_of p l.consistency) → FirstLeft (listed_of l p) new → weight new ≤ 2049
first_light l p new f h = let a = h.light in let b = fit_few l p f in omega (arith, a, b)

pub entered_as : {b new : BoardState} {ks list : List (Key × ProblemDraft)} {r : Published} → ks ≡ list → Enters b new editor (publish ks) (published r) → Enters b new editor (publish list) (published r)
entered_as {b} {new} {ks} {list} {r} e h = subst (λ (xs : List (Key × ProblemDraft)). Enters b new editor (publish xs) (published r)) e h
