-- The contraries of the choices are a new fact.
use Rattle.std.proofs.Common.{◌≡◌, ◌≢◌, ◌⊎◌, inl, inr, ℕ, ◌<◌, ◌==◌, Bool, true, false, not, zero, suc, List, [], ◌∷◌, ◌++◌, length, filter, Option, Some, None, refl, sym, ap, subst, ◌∙◌, arith, All, Contains, IsSome}
use Rattle.std.specs.Bool.{beq}
use Rattle.std.specs.Option.{is_some}
use Rattle.std.specs.List.{Any, AllPairs, list_any, list_all, range_with_len}
use Rattle.std.proofs.lemmas.List.{append-nil, append_assoc, get_or_append_left, length-append}
use Rattle.std.proofs.lemmas.List.Elements.{All-nil, All-cons, All-head, All-tail, All-append, All-contains, All-weaker}
use Rattle.std.proofs.lemmas.List.Folds.{Any-from_list_any}
use Rattle.std.proofs.lemmas.List.FromFn.{length-range_with_len, get_or-range_with_len}
use Rattle.std.proofs.lemmas.List.Sums.{AllPass-from_list_all}
use Rattle.std.proofs.lemmas.Bool.{cases_Bool, and_parts, eqb-true, false≢true}
use Rattle.ag_query.specs.declared.clauses.Lit.{Lit}
use Rattle.ag_query.specs.declared.clauses.LClause.{LClause}
use Rattle.ag_query.specs.declared.query.Query.{Query}
use Rattle.ag_query.specs.Meaning.{Follows, contrary}
use Rattle.ag_kernel.specs.declared.line.Line.{Line}
use Rattle.ag_kernel.specs.Sets.{same}
use Rattle.ag_tree.specs.declared.trail.Step.{Step}
use Rattle.ag_tree.specs.Facts.{is_alone, is_open, open_atoms, HasNoneBothWays, Lacks, IsAtRest, IsAtRestAlong, IsNew, IsFact, AreFacts}
use Rattle.ag_tree.specs.Trail.{literals, denial, AreSound, RestsBefore, IsBackTo}
use Rattle.ag_tree.specs.Keeping.{AreFresh}
use Rattle.ag_tree.proofs.Lits.{twice, contains_cases, contains_none, contains_head, contains_tail, lacks_has}
use Rattle.ag_tree.proofs.Values.{fresh_plain}
use Rattle.ag_tree.proofs.Backing.{denial_drawn}
use Rattle.ag_tree.proofs.Units.{denial_has}
use Rattle.ag_tree.proofs.Drawing.{sound_tail}

pub sound_fresh : (lines : List Line) (steps : List Step) → AreSound lines steps → AreFresh steps
sound_fresh lines [] sound = tt
sound_fresh lines (s ∷ rest) sound = (sound.0.fresh, sound_fresh lines rest sound.1)

-- ---- what is said of each contrary of a choice

denial_step : (P : Lit → Type 0) (s : Step) (rest : List Step) (r : Option ℕ) → s.reason ≡ r → (s.reason ≡ None → P (contrary s.lit)) → All P (denial rest) → All P (denial (s ∷ rest))
denial_step P s rest None e here h = rw e (All-cons P (contrary s.lit) (denial rest) (here e) h)
denial_step P s rest (Some n) e here h = rw e h

pub denial_denied : (steps : List Step) → All (λ l. Contains (literals steps) (contrary l)) (denial steps)
denial_denied [] = All-nil (λ (l : Lit). Contains [] (contrary l))
denial_denied (s ∷ rest) =
    let P : Lit → Type 0 = λ l. Contains (literals (s ∷ rest)) (contrary l) in
    let Q : Lit → Type 0 = λ l. Contains (literals rest) (contrary l) in
    denial_step P s rest s.reason refl (λ e. subst (Contains (literals (s ∷ rest))) (sym (twice s.lit)) (contains_head s.lit (literals rest)))
    (All-weaker Q P (λ l h. contains_tail s.lit (contrary l) (literals rest) h) (denial rest) (denial_denied rest))

pub denial_plain : (steps : List Step) → AreFresh steps → HasNoneBothWays (denial steps)
denial_plain steps fresh l here there =
    let D : Lit → Type 0 = λ x. Contains (literals steps) (contrary x) in
    fresh_plain steps fresh (contrary l) (All-contains D (denial steps) l (denial_denied steps) here) (All-contains D (denial steps) (contrary l) (denial_denied steps) there)

pairs_cons : (R : Lit → Lit → Type 0) (x : Lit) (xs : List Lit) → All (R x) xs → AllPairs R xs → AllPairs R (x ∷ xs)
pairs_cons R x xs all pairs zero zero d lt in' = absurd (omega (arith, lt))
pairs_cons R x xs all pairs zero (suc j) d lt in' = all j d (omega (arith, in'))
pairs_cons R x xs all pairs (suc i) zero d lt in' = absurd (omega (arith, lt))
pairs_cons R x xs all pairs (suc i) (suc j) d lt in' = pairs i j d (omega (arith, lt)) (omega (arith, in'))

once_step : (s : Step) (rest : List Step) (r : Option ℕ) → s.reason ≡ r → Lacks (literals rest) s.lit.atom → AllPairs (λ l m. l.atom ≢ m.atom) (denial rest) → AllPairs (λ l m. l.atom ≢ m.atom) (denial (s ∷ rest))
once_step s rest None e lacks pairs =
    let R : Lit → Lit → Type 0 = λ l m. l.atom ≢ m.atom in
    let D : Lit → Type 0 = λ x. Contains (literals rest) (contrary x) in
    rw e (pairs_cons R (contrary s.lit) (denial rest)
    (All-weaker D (R (contrary s.lit)) (λ m h same. All-contains (λ (x : Lit). x.atom ≢ s.lit.atom) (literals rest) (contrary m) lacks h (sym same)) (denial rest) (denial_denied rest)) pairs)
once_step s rest (Some n) e lacks pairs = rw e pairs

pub denial_once : (steps : List Step) → AreFresh steps → AllPairs (λ l m. l.atom ≢ m.atom) (denial steps)
denial_once [] fresh = λ i j d lt in'. absurd (omega (arith, in'))
denial_once (s ∷ rest) fresh = once_step s rest s.reason refl fresh.0 (denial_once rest fresh.1)

-- ---- open atoms

contains_filter : (p : ℕ → Bool) (xs : List ℕ) (x : ℕ) → Contains xs x → p x ≡ true → Contains (filter p xs) x
contains_filter p [] x h e = absurd (contains_none x h)
contains_filter p (y ∷ ys) x h e =
    elim (contains_cases y x ys h) [
      | inl is ↦
          let here : p y ≡ true = ap p is ∙ e in
          subst (Contains (filter p (y ∷ ys))) is (rw here (contains_head y (filter p ys)))
      | inr t ↦ tail (p y) refl (contains_filter p ys x t e)
    ]
  where
    tail : (b : Bool) → p y ≡ b → Contains (filter p ys) x → Contains (filter p (y ∷ ys)) x
    tail true is c = rw is (contains_tail y x (filter p ys) c)
    tail false is c = rw is c

alone_atom : (a : ℕ) (lits : List Lit) → is_alone a lits ≡ true → (x : Lit) → Contains lits x → x.atom ≡ a
alone_atom a [] e x h = absurd (false≢true e)
alone_atom a (l ∷ ls) e x h =
    let parts = and_parts (l.atom == a) (list_all (same l) ls) e in
    let here : l.atom ≡ a = eqb-true l.atom a parts.0 in
    elim (contains_cases l x ls h) [
      | inl is ↦ ap (λ (y : Lit). y.atom) (sym is) ∙ here
      | inr t ↦
          let same_x : same l x ≡ true = All-contains (λ (y : Lit). same l y ≡ true) ls x (AllPass-from_list_all (same l) ls parts.1) t in
          sym (eqb-true l.atom x.atom (and_parts (l.atom == x.atom) (beq l.holds x.holds) same_x).0) ∙ here
    ]

-- an atom that a list at rest lacks is open
pub open_from_rest : (query : Query) (lits : List Lit) (a : ℕ) → IsAtRestAlong lits query.clauses → Lacks lits a → a < length query.atoms → Contains (open_atoms query) a
open_from_rest query lits a rests lacks lt =
    let n : ℕ = length query.atoms in
    let p : LClause → Bool = λ c. is_alone a c.lits in
    let there : Contains (range_with_len 0 n) a = (a, omega (arith, lt, length-range_with_len 0 n), get_or-range_with_len 0 n a a lt ∙ omega arith) in
    contains_filter (is_open query) (range_with_len 0 n) a there (elim (cases_Bool (list_any p query.clauses)) [
      | inr f ↦ ap not f
      | inl t ↦ absurd (clash (Any-from_list_any p query.clauses t))
    ])
  where
    at : (c : LClause) → Contains query.clauses c → is_alone a c.lits ≡ true → ⊥
    at c h e =
        let R : LClause → Type 0 = λ x. IsAtRest lits x.lits in
        elim (All-contains R query.clauses c rests h) [
          | inl any ↦
              let same_atom : any.1.atom ≡ a = alone_atom a c.lits e any.1 (any.0, any.2, any.3) in
              All-contains (λ (x : Lit). x.atom ≢ a) lits any.1 lacks any.4 same_atom
          | inr two ↦ two.apart (alone_atom a c.lits e two.one two.has_one ∙ sym (alone_atom a c.lits e two.other two.has_other))
        ]

    clash : Any (λ c. is_alone a c.lits ≡ true) query.clauses → ⊥
    clash any = at any.1 (any.0, any.2, any.3) any.4

pub all_left : {X : Type 0} (P : X → Type 0) (xs ys : List X) → All P (xs ++ ys) → All P xs
all_left P xs ys h k d lt = subst P (get_or_append_left xs ys d k lt) (h k d (omega (arith, lt, length-append xs ys)))

open_step : (query : Query) (facts : List LClause) (s : Step) (rest : List Step) (r : Option ℕ) → s.reason ≡ r → AreFresh (s ∷ rest) → All (λ l. l.atom < length query.atoms) (denial (s ∷ rest)) → RestsBefore (query.clauses ++ facts) (s ∷ rest) → (All (λ l. l.atom < length query.atoms) (denial rest) → All (λ l. Contains (open_atoms query) l.atom) (denial rest)) → All (λ l. Contains (open_atoms query) l.atom) (denial (s ∷ rest))
open_step query facts s rest None e fresh below rests h =
    let P : Lit → Type 0 = λ l. Contains (open_atoms query) l.atom in
    let B : Lit → Type 0 = λ l. l.atom < length query.atoms in
    let low : All B (contrary s.lit ∷ denial rest) = rw e at below in
    let R : LClause → Type 0 = λ c. IsAtRest (literals rest) c.lits in
    rw e (All-cons P (contrary s.lit) (denial rest)
    (open_from_rest query (literals rest) s.lit.atom (all_left R query.clauses facts (rests.0 e)) fresh.0 (All-head B (contrary s.lit) (denial rest) low))
    (h (All-tail B (contrary s.lit) (denial rest) low)))
open_step query facts s rest (Some n) e fresh below rests h =
    let low : All (λ l. l.atom < length query.atoms) (denial rest) = rw e at below in
    rw e (h low)

pub denial_open : (query : Query) (facts : List LClause) (steps : List Step) → AreFresh steps → All (λ l. l.atom < length query.atoms) (denial steps) → RestsBefore (query.clauses ++ facts) steps → All (λ l. Contains (open_atoms query) l.atom) (denial steps)
denial_open query facts [] fresh below rests = All-nil (λ (l : Lit). Contains (open_atoms query) l.atom)
denial_open query facts (s ∷ rest) fresh below rests =
    open_step query facts s rest s.reason refl fresh below rests (λ low. denial_open query facts rest fresh.1 low rests.1)

-- ---- the last choice

pub denial_back : (steps new : List Step) (l : Lit) → IsBackTo steps new l → denial steps ≡ contrary l ∷ denial new
denial_back steps new l back = ap denial back.is ∙ denial_drawn back.drawn (record { lit = l; reason = None } ∷ new) back.none_chosen

pub sound_back : (lines : List Line) (steps new : List Step) (l : Lit) → AreSound lines steps → IsBackTo steps new l → AreSound lines (record { lit = l; reason = None } ∷ new)
sound_back lines steps new l sound back = sound_tail lines back.drawn (record { lit = l; reason = None } ∷ new) (subst (AreSound lines) back.is sound)

rests_tail : (cs : List LClause) (drawn rest : List Step) → RestsBefore cs (drawn ++ rest) → RestsBefore cs rest
rests_tail cs [] rest h = h
rests_tail cs (s ∷ drawn) rest h = rests_tail cs drawn rest h.1

pub rests_back : (cs : List LClause) (steps new : List Step) (l : Lit) → RestsBefore cs steps → IsBackTo steps new l → IsAtRestAlong (literals new) cs × RestsBefore cs new
rests_back cs steps new l rests back =
    let here : RestsBefore cs (record { lit = l; reason = None } ∷ new) = rests_tail cs back.drawn (record { lit = l; reason = None } ∷ new) (subst (RestsBefore cs) back.is rests) in
    (here.0 refl, here.1)

pub record HasChoice (steps : List Step) : Type 0 where
  pub lit : Lit
  pub rest : List Step
  pub back : IsBackTo steps rest lit

choice_step : (s : Step) (rest : List Step) (r : Option ℕ) → s.reason ≡ r → (0 < length (denial rest) → HasChoice rest) → 0 < length (denial (s ∷ rest)) → HasChoice (s ∷ rest)
choice_step s rest None e earlier some = record {
  lit = s.lit;
  rest = rest;
  back = record { drawn = []; is = ap (λ (x : Option ℕ). record { lit = s.lit; reason = x } ∷ rest) {y = None} e; none_chosen = All-nil (λ (x : Step). IsSome x.reason) };
}
choice_step s rest (Some n) e earlier some =
    let fewer : 0 < length (denial rest) = rw e at some in
    let h = earlier fewer in
    let known : IsSome s.reason = ap is_some {y = Some n} e in
    record {
      lit = h.lit;
      rest = h.rest;
      back = record {
        drawn = s ∷ h.back.drawn;
        is = ap (λ (xs : List Step). s ∷ xs) h.back.is;
        none_chosen = All-cons (λ (x : Step). IsSome x.reason) s h.back.drawn known h.back.none_chosen;
      };
    }

pub has_choice : (steps : List Step) → 0 < length (denial steps) → HasChoice steps
has_choice [] some = absurd (omega (arith, some))
has_choice (s ∷ rest) some = choice_step s rest s.reason refl (has_choice rest) some

-- ---- the fact

pub is_new : (lines : List Line) (cs : List LClause) (steps : List Step) → AreSound lines steps → RestsBefore cs steps → 0 < length (denial steps) → IsNew cs (denial steps)
is_new lines cs steps sound rests some =
    let h = has_choice steps some in
    let lits : List Lit = literals h.rest in
    let is : denial steps ≡ contrary h.lit ∷ denial h.rest = denial_back steps h.rest h.lit h.back in
    let here = sound_back lines steps h.rest h.lit sound h.back in
    let P : Lit → Type 0 = λ x. (x ≡ contrary h.lit) ⊎ Contains lits (contrary x) in
    let D : Lit → Type 0 = λ x. Contains lits (contrary x) in
    subst (IsNew cs) (sym is) (record {
      along = lits;
      plain = fresh_plain h.rest (sound_fresh lines h.rest here.1);
      rests = (rests_back cs steps h.rest h.lit rests h.back).0;
      last = contrary h.lit;
      has_last = contains_head (contrary h.lit) (denial h.rest);
      others = All-cons P (contrary h.lit) (denial h.rest) (inl refl) (All-weaker D P (λ x c. inr c) (denial h.rest) (denial_denied h.rest));
      lacks_last = λ c. lacks_has lits (contrary h.lit) here.0.fresh c;
    })

pub is_fact : (lines : List Line) (query : Query) (facts : List LClause) (steps : List Step) → AreSound lines steps → RestsBefore (query.clauses ++ facts) steps → Follows query query.atoms (denial steps) None → 0 < length (denial steps) → All (λ l. l.atom < length query.atoms) (denial steps) → IsFact query (query.clauses ++ facts) (denial steps)
is_fact lines query facts steps sound rests follows some below =
    let fresh : AreFresh steps = sound_fresh lines steps sound in
    record {
      follows = follows;
      nonempty = some;
      «open» = denial_open query facts steps fresh below rests;
      once = denial_once steps fresh;
      new = is_new lines (query.clauses ++ facts) steps sound rests some;
    }

pub facts_push : (query : Query) (earlier facts : List LClause) (f : LClause) → AreFacts query earlier facts → IsFact query (earlier ++ facts) f.lits → AreFacts query earlier (facts ++ f ∷ [])
facts_push query earlier [] f h fact = (subst (λ (e : List LClause). IsFact query e f.lits) (append-nil earlier) fact, tt)
facts_push query earlier (g ∷ fs) f h fact =
    (h.0, facts_push query (earlier ++ g ∷ []) fs f h.1 (subst (λ (e : List LClause). IsFact query e f.lits) (sym (append_assoc earlier (g ∷ []) fs)) fact))

-- ---- at rest along the new fact

rests_one : (lines : List Line) (f : LClause) (l : Lit) (steps : List Step) → AreSound lines steps → Contains f.lits (contrary l) → Lacks (literals steps) l.atom → ((m : Lit) → Contains (denial steps) m → Contains f.lits m) → RestsBefore (f ∷ []) steps
rests_one lines f l [] sound has lacks keeps = tt
rests_one lines f l (s ∷ rest) sound has lacks keeps =
    let R : LClause → Type 0 = λ c. IsAtRest (literals rest) c.lits in
    let A : Lit → Type 0 = λ x. x.atom ≢ l.atom in
    let fewer : Lacks (literals rest) l.atom = All-tail A s.lit (literals rest) lacks in (
      (λ e. All-cons R f [] (inr record {
        one = contrary s.lit;
        other = contrary l;
        has_one = keeps (contrary s.lit) (denial_has (s ∷ rest) s (contains_head s rest) e);
        has_other = has;
        apart = All-head A s.lit (literals rest) lacks;
        lacks_one = sound.0.fresh;
        lacks_other = fewer;
      }) (All-nil R)),
      rests_one lines f l rest sound.1 has fewer (λ m h. keeps m (denial_more s rest s.reason refl m h)),
    )
  where
    denial_more : (s : Step) (rest : List Step) (r : Option ℕ) → s.reason ≡ r → (m : Lit) → Contains (denial rest) m → Contains (denial (s ∷ rest)) m
    denial_more s rest None e m h = rw e (contains_tail (contrary s.lit) m (denial rest) h)
    denial_more s rest (Some n) e m h = rw e h

rests_append : (cs ds : List LClause) (steps : List Step) → RestsBefore cs steps → RestsBefore ds steps → RestsBefore (cs ++ ds) steps
rests_append cs ds [] h k = tt
rests_append cs ds (s ∷ rest) h k =
    let R : LClause → Type 0 = λ c. IsAtRest (literals rest) c.lits in
    ((λ e. All-append R cs ds (h.0 e) (k.0 e)), rests_append cs ds rest h.1 k.1)

pub rests_more : (lines : List Line) (cs : List LClause) (f : LClause) (steps new : List Step) (l : Lit) → AreSound lines steps → RestsBefore cs steps → IsBackTo steps new l → f.lits ≡ denial steps → RestsBefore (cs ++ f ∷ []) new
rests_more lines cs f steps new l sound rests back is =
    let here = sound_back lines steps new l sound back in
    let said : f.lits ≡ contrary l ∷ denial new = is ∙ denial_back steps new l back in
    rests_append cs (f ∷ []) new (rests_back cs steps new l rests back).1
    (rests_one lines f l new here.1 (subst (λ (xs : List Lit). Contains xs (contrary l)) (sym said) (contains_head (contrary l) (denial new))) here.0.fresh
    (λ m h. subst (λ (xs : List Lit). Contains xs m) (sym said) (contains_tail (contrary l) m (denial new) h)))
