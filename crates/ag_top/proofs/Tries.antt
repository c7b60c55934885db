-- Trying valuations of the free streams.
use Rattle.std.proofs.Common.{◌≡◌, ◌≢◌, ◌⊎◌, ◌+◌, ◌<◌, ◌∙◌, ◌++◌, ◌∷◌, [], ℕ, ℤ, zero, suc, Bool, true, false, List, length, replicate, Option, Some, None, refl, sym, ap, arith, subst, get_or, set, inl, inr, get_or-set_other, get_or-set_same}
use Rattle.std.specs.Prelude.{All, Contains, IfNone}
use Rattle.std.proofs.lemmas.List.Elements.{All-head, All-tail, All-push, Contains-push, Contains-append_left}
use Rattle.ag_stream.specs.declared.problem.ProblemDraft.{ProblemDraft}
use Rattle.ag_stream.specs.declared.problem.Instant.{Instant}
use Rattle.ag_stream.specs.declared.problem.Run.{Run}
use Rattle.ag_stream.specs.Values.{flag_at}
use Rattle.ag_stream.specs.Forms.{targets, IsPlain}
use Rattle.ag_stream.specs.Runs.{IsPremisesRun}
use Rattle.ag_stream.specs.Evaluation.{IsEvaluation}
use Rattle.ag_verdict.specs.Plain.{single, staying}
use Rattle.ag_top.specs.Trying.{IsSought, IsSoughtBy, AgreesOutside}

-- each stream below a number without an equation is in the list, which has streams alone
pub record IsFreeBelow (d : ProblemDraft) (n : ℕ) (free : List ℕ) : Type 0 where
  pub all : (s : ℕ) → s < n → (Contains (targets d) (d.ints + s) → ⊥) → Contains free s
  pub below : All (λ s. s < d.flags) free

same_or_below : (s n : ℕ) → s < n + 1 → (s < n) ⊎ (s ≡ n)
same_or_below s n l = grind arith

-- one more that is free
pub free_more : (d : ProblemDraft) (n : ℕ) (free : List ℕ) → n < d.flags → IsFreeBelow d n free → IsFreeBelow d (n + 1) (free ++ n ∷ [])
free_more d n free small f = record {
  all = λ s l none. elim (same_or_below s n l) [ inl b ↦ Contains-append_left free (n ∷ []) s (f.all s b none) | inr e ↦ subst (λ m. Contains (free ++ n ∷ []) m) (sym e) (Contains-push free n) ];
  below = All-push (λ s. s < d.flags) free n f.below small;
}

-- one more that isn't
pub owned_more : (d : ProblemDraft) (n : ℕ) (free : List ℕ) → Contains (targets d) (d.ints + n) → IsFreeBelow d n free → IsFreeBelow d (n + 1) free
owned_more d n free owned f = record {
  all = λ s l none. elim (same_or_below s n l) [ inl b ↦ f.all s b none | inr e ↦ absurd (none (subst (λ m. Contains (targets d) (d.ints + m)) (sym e) owned)) ];
  below = f.below;
}

-- an instant of these truths alone
abbrev pub of_flags : List Bool → Instant
of_flags flags = record { whole = []; flags = flags }

pub sought_premises : (d : ProblemDraft) (o : Option ℕ) (run : Run) → IsSoughtBy d o run → IsPremisesRun d run
sought_premises d None run h = h
sought_premises d (Some part) run h = h.premises

-- an instant that is sought and agrees with the given truths is its own evaluation
pub sought_evaluates : (d : ProblemDraft) (flags : List Bool) (i : Instant) → IsPlain d → IsSought d (single i) → AgreesOutside d [] flags i → IsEvaluation d (single (of_flags flags)) (single i)
sought_evaluates d flags i plain sought agrees =
    let p = sought_premises d d.claim (single i) sought in
    let none = plain.ints in
    record {
      is_run = p.is_run;
      long = refl;
      equations = p.equations;
      free = (
        record {
          whole = λ s l n. absurd (omega (arith, none));
          flags = λ s l n. agrees.each s l n (λ c. absurd (let lt = c.1 in omega arith));
        },
        tt,
      );
    }

-- where no stream is free any more but those of the list, nothing is left to agree on
pub agrees_at_first : (d : ProblemDraft) (free : List ℕ) (flags : List Bool) (i : Instant)
    → ((s : ℕ) → s < d.flags → (Contains (targets d) (d.ints + s) → ⊥) → Contains free s) → AgreesOutside d free flags i
agrees_at_first d free flags i all = record { each = λ s l n c. absurd (c (all s l n)) }

same_or_not : (m n : ℕ) → (m ≡ n) ⊎ (m ≢ n)
same_or_not m n = grind arith

contains_head : (x : ℕ) (xs : List ℕ) → Contains (x ∷ xs) x
contains_head x xs = (0, omega arith, refl)

contains_tail : (x y : ℕ) (xs : List ℕ) → Contains xs y → Contains (x ∷ xs) y
contains_tail x y xs c = (suc c.0, (let l = c.1 in omega arith), c.2)

head_differs : (k s : ℕ) (free : List ℕ) → k ≢ s → (Contains free k → ⊥) → Contains (s ∷ free) k → ⊥
head_differs k s free differ out c = at c.0 c.1 c.2
  where
    at : (n : ℕ) → n < length (s ∷ free) → get_or (s ∷ free) n k ≡ k → ⊥
    at zero l e = differ (sym e)
    at (suc n) l e = out (n, omega arith, e)

first_of : (run : Run) (i x : Instant) → run ≡ single i → x ≡ get_or run.instants 0 x → x ≡ i
first_of run i x e h = h ∙ ap (λ (r : Run). get_or r.instants 0 x) e

is_of_flags : (i : Instant) (flags : List Bool) → i.whole ≡ [] → flags ≡ i.flags → of_flags flags ≡ i
is_of_flags i flags w f = ap of_flags f ∙ ap (λ (ns : List ℤ). record { whole = ns; flags = i.flags }) (sym w)

-- what stays at the one instant of a run
pub stays : (run : Run) (j i x : Instant) (flags : List Bool) (n m : ℕ) (instants : List Instant) → run ≡ single j → j.whole ≡ [] → run ≡ single i
    → x ≡ get_or run.instants 0 x → flags ≡ x.flags → instants ≡ replicate n (of_flags flags) → n ≡ m → record { instants = instants } ≡ staying m i
stays run j i x flags n m instants ej w ei hx hf hi hn =
    let same : j ≡ i = sym (first_of run j x ej hx) ∙ first_of run i x ei hx in
    let whole : i.whole ≡ [] = subst (λ (y : Instant). y.whole ≡ []) same w in
    let flags_are : flags ≡ i.flags = hf ∙ ap (λ (y : Instant). y.flags) (first_of run i x ei hx) in
    ap (λ (xs : List Instant). record { instants = xs }) (hi ∙ (ap (λ k. replicate k (of_flags flags)) hn ∙ ap (λ (y : Instant). replicate m y) (is_of_flags i flags whole flags_are)))

-- the first stream is either true or false
pub either : {P : Type 0} (b : Bool) → (b ≡ true → P) → (b ≡ false → P) → P
either true t f = t refl
either false t f = f refl

-- what trying both truths of the first free stream leaves elsewhere
pub kept_twice : (x : ℕ) (others free : List ℕ) (old middle now : List Bool) → free ≡ x ∷ others
    → ((k : ℕ) → (Contains others k → ⊥) → get_or middle k false ≡ get_or (set old x false) k false)
    → ((k : ℕ) → (Contains others k → ⊥) → get_or now k false ≡ get_or (set middle x true) k false)
    → (k : ℕ) → (Contains free k → ⊥) → get_or now k false ≡ get_or old k false
kept_twice x others free old middle now e a b k out =
    let out' : Contains (x ∷ others) k → ⊥ = subst (λ (xs : List ℕ). Contains xs k → ⊥) e out in
    let there : Contains others k → ⊥ = λ c. out' (contains_tail x k others c) in
    let differ : k ≢ x = λ same. out' (subst (λ m. Contains (x ∷ others) m) (sym same) (contains_head x others)) in
    b k there ∙ (get_or-set_other middle x k true false differ ∙ (a k there ∙ get_or-set_other old x k false false differ))

pub kept_once : (x : ℕ) (others free : List ℕ) (old middle : List Bool) (b : Bool) → free ≡ x ∷ others
    → ((k : ℕ) → (Contains others k → ⊥) → get_or middle k false ≡ get_or (set old x b) k false)
    → (k : ℕ) → (Contains free k → ⊥) → get_or middle k false ≡ get_or old k false
kept_once x others free old middle b e a k out =
    let out' : Contains (x ∷ others) k → ⊥ = subst (λ (xs : List ℕ). Contains xs k → ⊥) e out in
    let there : Contains others k → ⊥ = λ c. out' (contains_tail x k others c) in
    let differ : k ≢ x = λ same. out' (subst (λ m. Contains (x ∷ others) m) (sym same) (contains_head x others)) in
    a k there ∙ get_or-set_other old x k b false differ

abbrev pub NoneAgrees : ProblemDraft → List ℕ → List Bool → Type 0
NoneAgrees d free flags = (i : Instant) → IsSought d (single i) → AgreesOutside d free flags i → ⊥

-- where neither truth of the first free stream leads to an instant that is sought, none is
pub none_of_both : (d : ProblemDraft) (x : ℕ) (others free : List ℕ) (old middle : List Bool) → free ≡ x ∷ others → x < length old → length middle ≡ length old
    → ((k : ℕ) → (Contains others k → ⊥) → get_or middle k false ≡ get_or (set old x false) k false)
    → NoneAgrees d others (set old x false) → NoneAgrees d others (set middle x true) → NoneAgrees d free old
none_of_both d x others free old middle e l same kept low high i sought agrees =
    let a : AgreesOutside d (x ∷ others) old i = subst (λ (xs : List ℕ). AgreesOutside d xs old i) e agrees in
    either (flag_at i x)
    (λ is. high i sought (record {
      each = λ k small none out. elim (same_or_not k x) [
        | inl at ↦ subst (λ m. flag_at i m ≡ get_or (set middle x true) m false) (sym at) (is ∙ sym (get_or-set_same middle x true false (omega (arith, same))))
        | inr differ ↦ a.each k small none (λ c. absurd (head_differs k x others differ out c)) ∙ sym (get_or-set_other middle x k true false differ ∙ (kept k out ∙ get_or-set_other old x k false false differ))
      ];
    }))
    (λ is. low i sought (record {
      each = λ k small none out. elim (same_or_not k x) [
        | inl at ↦ subst (λ m. flag_at i m ≡ get_or (set old x false) m false) (sym at) (is ∙ sym (get_or-set_same old x false false l))
        | inr differ ↦ a.each k small none (λ c. absurd (head_differs k x others differ out c)) ∙ sym (get_or-set_other old x k false false differ)
      ];
    }))

pub if_none : {X A B : Type 0} (o : Option X) → (A → B) → IfNone o A → IfNone o B
if_none None f h = f h
if_none (Some x) f h = h

pub is_none_so : {X A : Type 0} (o : Option X) → o ≡ None → IfNone o A → A
is_none_so None e h = h
is_none_so (Some x) e h = cc

pub below_tail : (n x : ℕ) (others free : List ℕ) → free ≡ x ∷ others → All (λ s. s < n) free → All (λ s. s < n) others
below_tail n x others free e h = All-tail (λ s. s < n) x others (subst (λ (xs : List ℕ). All (λ s. s < n) xs) e h)

pub below_head : (n x : ℕ) (others free : List ℕ) → free ≡ x ∷ others → All (λ s. s < n) free → x < n
below_head n x others free e h = All-head (λ s. s < n) x others (subst (λ (xs : List ℕ). All (λ s. s < n) xs) e h)
