-- Equations that are settled in an order of dependence stay kept, and no other values keep them.
use Rattle.std.proofs.Common.{◌≡◌, ℕ, ◌+◌, ◌<◌, ◌≤◌, zero, suc, Bool, false, List, [], ◌∷◌, length, get_or, set, sym, refl, ap, subst, ◌∙◌, arith, All, Contains, inl, inr, ◌⊎◌, ℤ, None}
use Rattle.std.specs.List.{AllZip}
use Rattle.std.proofs.lemmas.Bool.{cases_eq, cases_lt}
use Rattle.std.proofs.lemmas.List.{get_or-set_same, get_or-set_other, length-set, get_or_default, get_or_past, ext_get_or, nil_from_length, length-map}
use Rattle.std.proofs.lemmas.List.Elements.{All-nil, All-cons, All-head, All-tail, length_all_zip}
use Rattle.ag_stream.specs.declared.problem.ProblemDraft.{ProblemDraft}
use Rattle.ag_stream.specs.declared.problem.Instant.{Instant}
use Rattle.ag_stream.specs.declared.problem.Run.{Run}
use Rattle.ag_stream.specs.Runs.{KeepsEquations, IsInstant}
use Rattle.ag_stream.specs.Forms.{target, targets}
use Rattle.ag_stream.specs.Dependence.{PartNames, DependsOn}
use Rattle.ag_stream.specs.Evaluation.{AgreesOnFree, IsEvaluation}
use Rattle.ag_stream.specs.Work.{IsPlainForm, IsAt, IsOrder, IsEvaluationAt, alone, holds_in, target_at}
use Rattle.ag_stream.proofs.Truths.{holds_local}
use Rattle.ag_stream.proofs.Equations.{KeptAt, all_kept, kept_at, equation_at, at_within, at_inside, target_is, depends_at, one_at, one_part}
use Rattle.ag_stream.proofs.Moments.{all_moments, all_instants, keeps_at, keeps_alone}
use Rattle.ag_stream.proofs.Naming.{contains_cons}

-- a part that does not name the stream is as true after the stream is set
holds_apart : (d : ProblemDraft) → IsPlainForm d → (flags : List Bool) (s p : ℕ) (v : Bool) → p < length d.parts → (PartNames d (d.ints + s) p → ⊥) → holds_in d (set flags s v) p ≡ holds_in d flags p
holds_apart d form flags s p v within apart =
    holds_local d form (alone (set flags s v)) (alone flags) (suc p) p (omega arith) within
    (λ r names. elim (cases_eq r s) [
      | inl e ↦ let N : ℕ → Type 0 = λ x. PartNames d (d.ints + x) p in absurd (apart (subst N e names))
      | inr ne ↦ get_or-set_other flags s r v false ne
    ])

-- an equation names no stream of itself or of one behind it
unnamed : (d : ProblemDraft) (order : List ℕ) → IsOrder d order → (i j s p t q : ℕ) → i ≤ j → j < length order → IsAt d (get_or order i 0) s p → IsAt d (get_or order j 0) t q → PartNames d (d.ints + t) p → ⊥
unnamed d order kept i j s p t q le lt at other names =
    let D : ℕ → Type 0 = λ x. DependsOn d x (d.ints + t) in
    let E : ℕ → Type 0 = λ x. DependsOn d (target_at d (get_or order i 0)) x in
    kept.pairs i j le lt (subst E (sym (target_is d (get_or order j 0) t q other)) (subst D (sym (target_is d (get_or order i 0) s p at)) (depends_at d (get_or order i 0) s p (d.ints + t) at names)))

-- what is kept while equations are settled one after another
pub record IsSettling (d : ProblemDraft) (order : List ℕ) (given flags : List Bool) (i : ℕ) : Type 0 where
  pub size : length flags ≡ d.flags
  pub done : (j : ℕ) → j < i → KeptAt d flags (get_or order j 0)
  pub free : (s : ℕ) → (Contains (targets d) (d.ints + s) → ⊥) → get_or flags s false ≡ get_or given s false

targeted : (d : ProblemDraft) (k s p : ℕ) → IsAt d k s p → Contains (targets d) (d.ints + s)
targeted d k s p at =
    let within : k < length (targets d) = rw (length-map d.equations (target d.ints)) (at_within d k s p at) in
    (k, within, get_or_default (targets d) k (d.ints + s) 0 within ∙ target_is d k s p at)

pub settles : (d : ProblemDraft) → IsPlainForm d → (order : List ℕ) (given flags : List Bool) (i s p : ℕ) → IsOrder d order → IsSettling d order given flags i → i < length order → IsAt d (get_or order i 0) s p → IsSettling d order given (set flags s (holds_in d flags p)) (i + 1)
settles d form order given flags i s p kept was lt at =
    let v : Bool = holds_in d flags p in
    let inside = at_inside d form (get_or order i 0) s p at in
    let here : s < length flags = omega (arith, was.size, inside.0) in
    let itself : holds_in d (set flags s v) p ≡ v = holds_apart d form flags s p v inside.1 (unnamed d order kept i i s p s p (omega arith) lt at at) in
    record {
      size = length-set flags s v ∙ was.size;
      done = λ j less t q other.
          elim (cases_eq t s) [
            | inl e ↦
                let A : ℕ → Type 0 = λ x. IsAt d (get_or order j 0) x q in
                let G : ℕ → Type 0 = λ x. get_or (set flags s v) x false ≡ holds_in d (set flags s v) q in
                let H : ℕ → Type 0 = λ x. get_or (set flags s v) s false ≡ holds_in d (set flags s v) x in
                subst G (sym e) (subst H (one_part d form (get_or order i 0) (get_or order j 0) s p q at (subst A e other)) (get_or-set_same flags s v false here ∙ sym itself))
            | inr ne ↦
                elim (cases_lt j i) [
                  | inl before ↦
                      get_or-set_other flags s t v false ne ∙ was.done j before t q other
                      ∙ sym (holds_apart d form flags s q v (at_inside d form (get_or order j 0) t q other).1 (unnamed d order kept j i t q s p (omega (arith, before)) lt other at))
                  | inr past ↦
                      let same : j ≡ i = omega (arith, less, past) in
                      let B : ℕ → Type 0 = λ x. IsAt d (get_or order x 0) t q in
                      absurd (ne (one_at d (get_or order i 0) t q s p (subst B same other) at).0)
                ]
          ];
      free = λ t none.
          elim (cases_eq t s) [
            | inl e ↦ let C : ℕ → Type 0 = λ x. Contains (targets d) (d.ints + x) in absurd (none (subst C (sym e) (targeted d (get_or order i 0) s p at)))
            | inr ne ↦ get_or-set_other flags s t v false ne ∙ was.free t none
          ];
    }

-- at the end each equation is kept
pub settled : (d : ProblemDraft) → IsPlainForm d → (order : List ℕ) (given flags : List Bool) (i : ℕ) → IsOrder d order → IsSettling d order given flags i → length order ≤ i → KeepsEquations d (alone flags)
settled d form order given flags i kept was le =
    all_kept d form flags (λ k lt.
    let has = kept.whole k lt in
    let K : ℕ → Type 0 = KeptAt d flags in
    subst K (get_or_default order has.0 0 k has.1 ∙ has.2) (was.done has.0 (omega (arith, has.1, le))))

pub evaluated_at : (d : ProblemDraft) → IsPlainForm d → (order : List ℕ) (given now : Instant) (i : ℕ) → IsOrder d order → IsSettling d order given.flags now.flags i → length order ≤ i → now.whole ≡ [] → IsEvaluationAt d given now
evaluated_at d form order given now i kept was le none =
    let zero' : d.ints ≡ 0 = form.plain.ints in
    let W : List _ → Type 0 = λ xs. length xs ≡ d.ints in
    record {
      is_instant = record { whole = subst W (sym none) (sym zero'); flags = was.size };
      equations = settled d form order given.flags now.flags i kept was le;
      free = record {
        whole = λ s lt apart. absurd (omega (arith, lt, zero'));
        flags = λ s lt apart. was.free s apart;
      };
    }

-- instants that are evaluated from the same free values are the same
is_there : (xs : List ℕ) (x : ℕ) → Contains xs x ⊎ (Contains xs x → ⊥)
is_there [] x = inr (λ c. absurd (omega (arith, c.1)))
is_there (y ∷ ys) x =
    elim (cases_eq y x) [
      | inl e ↦ inl (0, omega arith, e)
      | inr ne ↦ elim (is_there ys x) [
        | inl c ↦ inl (suc c.0, omega (arith, c.1), c.2)
        | inr none ↦ inr (λ c. elim (contains_cons y x ys c) [ inl e ↦ ne e | inr more ↦ none more ])
      ]
    ]

-- the equation of a stream that has one
owner : (d : ProblemDraft) → IsPlainForm d → (s : ℕ) → Contains (targets d) (d.ints + s) → (k : ℕ) × (p : ℕ) × IsAt d k s p
owner d form s has =
    let within : has.0 < length d.equations = rw (← length-map d.equations (target d.ints)) has.1 in
    let at = equation_at d form has.0 within in
    let same : at.0 ≡ s = omega (arith, target_is d has.0 at.0 at.1 at.2, get_or_default (targets d) has.0 (d.ints + s) 0 has.1, has.2) in
    let A : ℕ → Type 0 = λ x. IsAt d has.0 x at.1 in
    (has.0, at.1, subst A same at.2)

-- two instants agree on a stream without an equation
free_same : (d : ProblemDraft) (given a b : Instant) → IsEvaluationAt d given a → IsEvaluationAt d given b → (s : ℕ) → (Contains (targets d) (d.ints + s) → ⊥) → get_or a.flags s false ≡ get_or b.flags s false
free_same d given a b at bt s none =
    elim (cases_lt s d.flags) [
      | inl lt ↦ at.free.flags s lt none ∙ sym (bt.free.flags s lt none)
      | inr past ↦ get_or_past a.flags s false (omega (arith, at.is_instant.flags, past)) ∙ sym (get_or_past b.flags s false (omega (arith, bt.is_instant.flags, past)))
    ]

placed_same : (d : ProblemDraft) → IsPlainForm d → (order : List ℕ) (given a b : Instant) → IsOrder d order → IsEvaluationAt d given a → IsEvaluationAt d given b → (bound j s p : ℕ) → j < bound → j < length order → IsAt d (get_or order j 0) s p → get_or a.flags s false ≡ get_or b.flags s false
placed_same d form order given a b kept at bt zero j s p lt within here = absurd (omega (arith, lt))
placed_same d form order given a b kept at bt (suc bound) j s p lt within here =
    kept_at d a.flags (get_or order j 0) at.equations s p here
    ∙ holds_local d form (alone a.flags) (alone b.flags) (suc p) p (omega arith) (at_inside d form (get_or order j 0) s p here).1
    (λ r names. elim (is_there (targets d) (d.ints + r)) [
      | inr none ↦ free_same d given a b at bt r none
      | inl has ↦
          let own = owner d form r has in
          let place = kept.whole own.0 (at_within d own.0 r own.1 own.2) in
          let A : ℕ → Type 0 = λ x. IsAt d x r own.1 in
          let there : IsAt d (get_or order place.0 0) r own.1 = subst A (sym (get_or_default order place.0 0 own.0 place.1 ∙ place.2)) own.2 in
          elim (cases_lt place.0 j) [
            | inl before ↦ placed_same d form order given a b kept at bt bound place.0 r own.1 (omega (arith, lt, before)) place.1 there
            | inr past ↦ absurd (unnamed d order kept j place.0 s p r own.1 past place.1 here there names)
          ]
    ])
    ∙ sym (kept_at d b.flags (get_or order j 0) bt.equations s p here)

flags_same : (d : ProblemDraft) → IsPlainForm d → (order : List ℕ) (given a b : Instant) → IsOrder d order → IsEvaluationAt d given a → IsEvaluationAt d given b → (s : ℕ) → get_or a.flags s false ≡ get_or b.flags s false
flags_same d form order given a b kept at bt s =
    elim (is_there (targets d) (d.ints + s)) [
      | inr none ↦ free_same d given a b at bt s none
      | inl has ↦
          let own = owner d form s has in
          let place = kept.whole own.0 (at_within d own.0 s own.1 own.2) in
          let A : ℕ → Type 0 = λ x. IsAt d x s own.1 in
          placed_same d form order given a b kept at bt (suc place.0) place.0 s own.1 (omega arith) place.1 (subst A (sym (get_or_default order place.0 0 own.0 place.1 ∙ place.2)) own.2)
    ]

pub one_instant : (d : ProblemDraft) → IsPlainForm d → (order : List ℕ) (given a b : Instant) → IsOrder d order → IsEvaluationAt d given a → IsEvaluationAt d given b → a ≡ b
one_instant d form order given a b kept at bt =
    let none : d.ints ≡ 0 = form.plain.ints in
    let f : a.flags ≡ b.flags = ext_get_or false a.flags b.flags (at.is_instant.flags ∙ sym bt.is_instant.flags) (λ s lt. flags_same d form order given a b kept at bt s) in
    let w : a.whole ≡ b.whole = nil_from_length a.whole (at.is_instant.whole ∙ none) ∙ sym (nil_from_length b.whole (bt.is_instant.whole ∙ none)) in
    ap (λ (xs : List ℤ). let i : Instant = record { whole = xs; flags = a.flags } in i) w ∙ ap (λ (xs : List Bool). let i : Instant = record { whole = b.whole; flags = xs } in i) f

-- runs that are evaluated from the same free values are the same
pub one_list : (d : ProblemDraft) → IsPlainForm d → (order : List ℕ) → IsOrder d order → (is news bs : List Instant) → AllZip (IsEvaluationAt d) is news → AllZip (IsEvaluationAt d) is bs → news ≡ bs
one_list d form order kept [] [] [] x y = refl
one_list d form order kept [] [] (b ∷ bs) x y = absurd y
one_list d form order kept [] (a ∷ news) bs x y = absurd x
one_list d form order kept (i ∷ is) [] bs x y = absurd x
one_list d form order kept (i ∷ is) (a ∷ news) [] x y = absurd y
one_list d form order kept (i ∷ is) (a ∷ news) (b ∷ bs) x y =
    ap (λ (c : Instant). c ∷ news) (one_instant d form order i a b kept x.0 y.0) ∙ ap (λ (cs : List Instant). b ∷ cs) (one_list d form order kept is news bs x.1 y.1)

zip_evaluations : (d : ProblemDraft) (is news : List Instant) → All (IsInstant d) news → All (λ a. KeepsEquations d (alone a.flags)) news → AllZip (AgreesOnFree d) is news → AllZip (IsEvaluationAt d) is news
zip_evaluations d [] [] i k z = z
zip_evaluations d [] (a ∷ news) i k z = z
zip_evaluations d (x ∷ xs) [] i k z = z
zip_evaluations d (x ∷ xs) (a ∷ news) i k z =
    let K : Instant → Type 0 = λ y. KeepsEquations d (alone y.flags) in
    (record { is_instant = All-head (IsInstant d) a news i; equations = All-head K a news k; free = z.0 }, zip_evaluations d xs news (All-tail (IsInstant d) a news i) (All-tail K a news k) z.1)

pub evaluations_of : (d : ProblemDraft) → IsPlainForm d → (given run : Run) → IsEvaluation d given run → AllZip (IsEvaluationAt d) given.instants run.instants
evaluations_of d form given run e =
    let K : Instant → Type 0 = λ y. KeepsEquations d (alone y.flags) in
    zip_evaluations d given.instants run.instants e.is_run.each (all_instants (KeepsEquations d) K (keeps_alone d form) None run.instants e.equations) e.free

zip_instants : (d : ProblemDraft) (is news : List Instant) → AllZip (IsEvaluationAt d) is news → All (IsInstant d) news
zip_instants d [] [] z = All-nil (IsInstant d)
zip_instants d [] (a ∷ news) z = absurd z
zip_instants d (x ∷ xs) [] z = All-nil (IsInstant d)
zip_instants d (x ∷ xs) (a ∷ news) z = All-cons (IsInstant d) a news z.0.is_instant (zip_instants d xs news z.1)

zip_keeps : (d : ProblemDraft) (is news : List Instant) → AllZip (IsEvaluationAt d) is news → All (λ a. KeepsEquations d (alone a.flags)) news
zip_keeps d [] [] z = All-nil (λ a. KeepsEquations d (alone a.flags))
zip_keeps d [] (a ∷ news) z = absurd z
zip_keeps d (x ∷ xs) [] z = All-nil (λ a. KeepsEquations d (alone a.flags))
zip_keeps d (x ∷ xs) (a ∷ news) z = All-cons (λ y. KeepsEquations d (alone y.flags)) a news z.0.equations (zip_keeps d xs news z.1)

zip_free : (d : ProblemDraft) (is news : List Instant) → AllZip (IsEvaluationAt d) is news → AllZip (AgreesOnFree d) is news
zip_free d [] [] z = z
zip_free d [] (a ∷ news) z = z
zip_free d (x ∷ xs) [] z = z
zip_free d (x ∷ xs) (a ∷ news) z = (z.0.free, zip_free d xs news z.1)

pub evaluation_from : (d : ProblemDraft) → IsPlainForm d → (given run : Run) → 0 < length given.instants → AllZip (IsEvaluationAt d) given.instants run.instants → IsEvaluation d given run
evaluation_from d form given run some z =
    let K : Instant → Type 0 = λ y. KeepsEquations d (alone y.flags) in
    let long : length given.instants ≡ length run.instants = length_all_zip (IsEvaluationAt d) given.instants run.instants z in
    record {
      is_run = record { some = omega (arith, some, long); each = zip_instants d given.instants run.instants z };
      long = sym long;
      equations = all_moments (KeepsEquations d) K (keeps_at d form) None run.instants (zip_keeps d given.instants run.instants z);
      free = zip_free d given.instants run.instants z;
    }

pub one_run : (d : ProblemDraft) → IsPlainForm d → (order : List ℕ) → IsOrder d order → (given run : Run) → AllZip (IsEvaluationAt d) given.instants run.instants → (other : Run) → IsEvaluation d given other → other ≡ run
one_run d form order kept given run z other e =
    ap (λ (xs : List Instant). let r : Run = record { instants = xs } in r) (one_list d form order kept given.instants other.instants run.instants (evaluations_of d form given other e) z)
