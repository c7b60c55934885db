-- Steps that are drawn, and clauses that are settled along them.
use Rattle.std.proofs.Common.{◌≡◌, inl, inr, ℕ, ◌+◌, ◌<◌, ◌≤◌, false, List, [], ◌∷◌, ◌++◌, length, get_or, reverse, Option, Some, None, sym, refl, ap, subst, ◌∙◌, arith, All, Contains, IsSome}
use Rattle.std.specs.List.{AllWithin}
use Rattle.std.specs.Option.{is_some}
use Rattle.std.specs.Prelude.{slice_get, nat_le}
use Rattle.std.proofs.lemmas.List.{append_assoc, length-append, length-map, length-reverse, map-append, reverse-append, get_or_append_left, get_or_push, get_or_default}
use Rattle.std.proofs.lemmas.List.Elements.{All-nil, All-cons, All-head, All-tail, All-append, All-contains, AllWithin-more}
use Rattle.std.proofs.lemmas.Bool.{cases_eq, cases_lt, cond-false, lt-leb}
use Rattle.std.proofs.lemmas.Option.{get_or_from_slice_get}
use Rattle.ag_query.specs.declared.clauses.Lit.{Lit}
use Rattle.ag_query.specs.declared.clauses.LClause.{LClause}
use Rattle.ag_query.specs.Meaning.{contrary}
use Rattle.ag_kernel.specs.declared.line.Line.{Line}
use Rattle.ag_kernel.specs.Rules.{line_at}
use Rattle.ag_kernel.specs.Faults.{first_missing}
use Rattle.ag_tree.specs.declared.trail.Step.{Step}
use Rattle.ag_tree.specs.Facts.{IsAtRest}
use Rattle.ag_tree.specs.Trail.{Seen, literals, AreSound, IsSoundStep, IsDrawnBy, RestsBefore, IsSettled, Draws, IsLast}
use Rattle.ag_tree.specs.Going.{IsListed}
use Rattle.ag_tree.specs.Listing.{listed}
use Rattle.ag_tree.proofs.Lits.{same_lit, same_or_not, twice, any_at, contains_head, contains_tail, lacks_cons, none_some, some_same}

pub sound_tail : (lines : List Line) (added rest : List Step) → AreSound lines (added ++ rest) → AreSound lines rest
sound_tail lines [] rest sound = sound
sound_tail lines (s ∷ added) rest sound = sound_tail lines added rest sound.1

pub not_none : (r : Option ℕ) → IsSome r → r ≡ None → ⊥
not_none None some e = cc
not_none (Some n) some e = cc

pub rests_drawn : (cs : List LClause) (added rest : List Step) → All (λ s. IsSome s.reason) added → RestsBefore cs rest → RestsBefore cs (added ++ rest)
rests_drawn cs [] rest all h = h
rests_drawn cs (s ∷ added) rest all h =
    let P : Step → Type 0 = λ x. IsSome x.reason in
    ((λ e. absurd (not_none s.reason (All-head P s added all) e)), rests_drawn cs added rest (All-tail P s added all) h)

-- ---- what is settled stays so

pub rest_more : (l : Lit) (lits clause : List Lit) (x : Lit) → Contains clause x → Contains lits x → IsAtRest (l ∷ lits) clause
rest_more l lits clause x here there = inl (any_at (Contains (l ∷ lits)) clause x here (contains_tail l x lits there))

touched : (from : ℕ) (s : Step) (rest : List Step) (clause : List Lit) (x : Lit) → from ≤ length rest → Contains clause x → s.lit.atom ≡ x.atom → IsSettled from (s ∷ rest) clause
touched from s rest clause x le here e =
    elim (same_or_not s.lit.holds x.holds) [
      | inl h ↦
          let same : s.lit ≡ x = same_lit s.lit x e h in
          inl (inl (any_at (Contains (s.lit ∷ literals rest)) clause x here (subst (Contains (s.lit ∷ literals rest)) same (contains_head s.lit (literals rest)))))
      | inr h ↦
          let same : s.lit ≡ contrary x = same_lit s.lit (contrary x) e h in
          inr record { newer = []; step = s; older = rest; is = refl; late = le; denied = subst (Contains clause) (sym (ap contrary same ∙ twice x)) here }
    ]

pub settled_push : (from : ℕ) (s : Step) (rest : List Step) (clause : List Lit) → from ≤ length rest → IsSettled from rest clause → IsSettled from (s ∷ rest) clause
settled_push from s rest clause le (inl (inl h)) = inl (rest_more s.lit (literals rest) clause h.1 (h.0, h.2, h.3) h.4)
settled_push from s rest clause le (inl (inr t)) =
    elim (cases_eq s.lit.atom t.one.atom) [
      | inl e ↦ touched from s rest clause t.one le t.has_one e
      | inr ne ↦
          elim (cases_eq s.lit.atom t.other.atom) [
            | inl e ↦ touched from s rest clause t.other le t.has_other e
            | inr other ↦ inl (inr record {
              one = t.one;
              other = t.other;
              has_one = t.has_one;
              has_other = t.has_other;
              apart = t.apart;
              lacks_one = lacks_cons s.lit (literals rest) t.one.atom ne t.lacks_one;
              lacks_other = lacks_cons s.lit (literals rest) t.other.atom other t.lacks_other;
            })
          ]
    ]
settled_push from s rest clause le (inr p) =
    inr record { newer = s ∷ p.newer; step = p.step; older = p.older; is = ap (λ (xs : List Step). s ∷ xs) p.is; late = p.late; denied = p.denied }

pub settled_drawn : (from : ℕ) (added rest : List Step) (clause : List Lit) → from ≤ length rest → IsSettled from rest clause → IsSettled from (added ++ rest) clause
settled_drawn from [] rest clause le h = h
settled_drawn from (s ∷ added) rest clause le h =
    settled_push from s (added ++ rest) clause (omega (arith, le, length-append added rest)) (settled_drawn from added rest clause le h)

pub settled_less : (from less : ℕ) (steps : List Step) (clause : List Lit) → less ≤ from → IsSettled from steps clause → IsSettled less steps clause
settled_less from less steps clause le (inl h) = inl h
settled_less from less steps clause le (inr p) = inr record { newer = p.newer; step = p.step; older = p.older; is = p.is; late = omega (arith, le, p.late); denied = p.denied }

-- where no step is left to be looked at, what is settled is at rest
pub settled_rests : (from : ℕ) (steps : List Step) (clause : List Lit) → length steps ≤ from → IsSettled from steps clause → IsAtRest (literals steps) clause
settled_rests from steps clause le (inl h) = h
settled_rests from steps clause le (inr p) = absurd (omega (arith, le, p.late, ap length p.is, length-append p.newer (p.step ∷ p.older)))

-- ---- drawing

pub draws_none : (lines : List Line) (t : Seen) → AreSound lines t.steps → Draws lines t t
draws_none lines t sound = record { atoms = refl; added = []; steps = refl; drawn = All-nil (λ (s : Step). IsSome s.reason); sound = sound }

pub draws_push : (lines : List Line) (before now new : Seen) (s : Step) → Draws lines before now → new ≡ record { atoms = now.atoms; steps = s ∷ now.steps } → IsSome s.reason → IsSoundStep lines s now.steps → Draws lines before new
draws_push lines before now new s d is some sound = record {
  atoms = ap (λ (t : Seen). t.atoms) is ∙ d.atoms;
  added = s ∷ d.added;
  steps = ap (λ (t : Seen). t.steps) is ∙ ap (λ (xs : List Step). s ∷ xs) d.steps;
  drawn = All-cons (λ (x : Step). IsSome x.reason) s d.added some d.drawn;
  sound = subst (λ (t : Seen). AreSound lines t.steps) (sym is) (sound, d.sound);
}

pub draws_more : (lines : List Line) (a b c : Seen) → Draws lines a b → Draws lines b c → Draws lines a c
draws_more lines a b c d e = record {
  atoms = e.atoms ∙ d.atoms;
  added = e.added ++ d.added;
  steps = e.steps ∙ ap (λ (xs : List Step). e.added ++ xs) d.steps ∙ sym (append_assoc e.added d.added a.steps);
  drawn = All-append (λ (x : Step). IsSome x.reason) e.added d.added e.drawn d.drawn;
  sound = e.sound;
}

pub draws_settled : (lines : List Line) (before now : Seen) (from : ℕ) (clause : List Lit) → Draws lines before now → from ≤ length before.steps → IsSettled from before.steps clause → IsSettled from now.steps clause
draws_settled lines before now from clause d le h = subst (λ (xs : List Step). IsSettled from xs clause) (sym d.steps) (settled_drawn from d.added before.steps clause le h)

pub draws_length : (lines : List Line) (before now : Seen) → Draws lines before now → length before.steps ≤ length now.steps
draws_length lines before now d = omega (arith, ap length d.steps, length-append d.added before.steps)

-- ---- one pass

pub record PassedSo (lines : List Line) (numbers : List ℕ) (before now : Seen) (upto : ℕ) : Type 0 where
  pub draws : Draws lines before now
  pub settled : AllWithin (λ n. IsSettled (length before.steps) now.steps (line_at lines n).lits) numbers 0 upto

pub pass_rest : (lines : List Line) (numbers : List ℕ) (before now : Seen) (i d : ℕ) → PassedSo lines numbers before now i → i < length numbers → IsAtRest (literals now.steps) (line_at lines (get_or numbers i d)).lits → PassedSo lines numbers before now (i + 1)
pass_rest lines numbers before now i d so lt rest =
    let P : ℕ → Type 0 = λ n. IsSettled (length before.steps) now.steps (line_at lines n).lits in
    record { draws = so.draws; settled = AllWithin-more P numbers 0 i so.settled (λ e. subst P (get_or_default numbers i d e lt) (inl rest)) }

pub step_sound : (lines : List Line) (n : ℕ) (l : Lit) (rest : List Step) → n < length lines → is_some (line_at lines n).row ≡ false → IsLast (literals rest) (line_at lines n).lits l → IsSoundStep lines (record { lit = l; reason = Some n }) rest
step_sound lines n l rest lt none last = record {
  fresh = last.lacks;
  drawn = λ m e. subst (λ (k : ℕ). IsDrawnBy lines k l (literals rest)) (some_same n m e) (record { there = lt; no_row = none; others = last.others });
}

pub pass_push : (lines : List Line) (numbers : List ℕ) (before now new : Seen) (i d : ℕ) (l : Lit) → PassedSo lines numbers before now i → i < length numbers → get_or numbers i d < length lines → is_some (line_at lines (get_or numbers i d)).row ≡ false → IsLast (literals now.steps) (line_at lines (get_or numbers i d)).lits l → new ≡ record { atoms = now.atoms; steps = record { lit = l; reason = Some (get_or numbers i d) } ∷ now.steps } → PassedSo lines numbers before new (i + 1)
pass_push lines numbers before now new i d l so lt there none last is =
    let s : Step = record { lit = l; reason = Some (get_or numbers i d) } in
    let P : ℕ → Type 0 = λ n. IsSettled (length before.steps) new.steps (line_at lines n).lits in
    let steps : new.steps ≡ s ∷ now.steps = ap (λ (t : Seen). t.steps) is in
    let S : List Lit → List Step → Type 0 = λ c xs. IsSettled (length before.steps) xs c in
    let le : length before.steps ≤ length now.steps = draws_length lines before now so.draws in
    let line : List Lit = (line_at lines (get_or numbers i d)).lits in
    let has : IsAtRest (l ∷ literals now.steps) line = inl (any_at (Contains (l ∷ literals now.steps)) line l last.has (contains_head l (literals now.steps))) in
    record {
      draws = draws_push lines before now new s so.draws is refl (step_sound lines (get_or numbers i d) l now.steps there none last);
      settled = AllWithin-more P numbers 0 i
          (λ k e low below. subst (S (line_at lines (get_or numbers k e)).lits) (sym steps) (settled_push (length before.steps) s now.steps (line_at lines (get_or numbers k e)).lits le (so.settled k e low below)))
          (λ e. subst P (get_or_default numbers i d e lt) (subst (S line) (sym steps) (inl has)));
    }

pub line_is : (lines : List Line) (n : ℕ) (line : Line) → slice_get lines n ≡ Some line → line ≡ line_at lines n
line_is lines n line e = sym (get_or_from_slice_get lines n line (record { lits = []; row = None }) e)

-- ---- going through a step

pub place_here : (newer older : List Step) (s : Step) (d : Lit) → get_or (reverse (literals (newer ++ s ∷ older))) (length older) d ≡ s.lit
place_here newer older s d =
    let f : Step → Lit = λ x. x.lit in
    let whole : reverse (literals (newer ++ s ∷ older)) ≡ (reverse (literals older) ++ s.lit ∷ []) ++ reverse (literals newer) =
    ap (reverse {A = Lit}) (map-append f newer (s ∷ older)) ∙ reverse-append (literals newer) (s.lit ∷ literals older) ∙ ap (λ (xs : List Lit). xs ++ reverse (literals newer)) (reverse-append (s.lit ∷ []) (literals older)) in
    let long : length (reverse (literals older)) ≡ length older = length-reverse (literals older) ∙ length-map older f in
    ap (λ (xs : List Lit). get_or xs (length older) d) whole
    ∙ get_or_append_left (reverse (literals older) ++ s.lit ∷ []) (reverse (literals newer)) d (length older) (omega (arith, long, length-append (reverse (literals older)) (s.lit ∷ [])))
    ∙ get_or_push (reverse (literals older)) s.lit d (length older) long

pub place_kept : (added now : List Step) (k : ℕ) (d : Lit) → k < length now → get_or (reverse (literals (added ++ now))) k d ≡ get_or (reverse (literals now)) k d
place_kept added now k d lt =
    let f : Step → Lit = λ x. x.lit in
    ap (λ (xs : List Lit). get_or xs k d) (ap (reverse {A = Lit}) (map-append f added now) ∙ reverse-append (literals added) (literals now))
    ∙ get_or_append_left (reverse (literals now)) (reverse (literals added)) d k (omega (arith, lt, length-reverse (literals now), length-map now f))

pub record PropagatedSo (lines : List Line) (lists : List (List ℕ)) (from : ℕ) (before now : Seen) (head : ℕ) : Type 0 where
  pub draws : Draws lines before now
  pub within : head ≤ length now.steps
  pub settled : (c : List Lit) → IsListed lines lists c → IsSettled from before.steps c → IsSettled head now.steps c

pub through_one : (lines : List Line) (lists : List (List ℕ)) (now new : Seen) (head : ℕ) (l d : Lit) (c : List Lit) → Draws lines now new → head < length now.steps → l ≡ get_or (reverse (literals now.steps)) head d → All (λ n. IsSettled (length now.steps) new.steps (line_at lines n).lits) (listed lists l) → IsListed lines lists c → IsSettled head now.steps c → IsSettled (head + 1) new.steps c
through_one lines lists now new head l d c draws lt at passed list h =
    elim (draws_settled lines now new head c draws (omega (arith, lt)) h) [
      | inl rest ↦ inl rest
      | inr p ↦
          elim (cases_lt head (length p.older)) [
            | inl past ↦ inr record { newer = p.newer; step = p.step; older = p.older; is = p.is; late = omega (arith, past); denied = p.denied }
            | inr not_past ↦
                let same : length p.older ≡ head = omega (arith, not_past, p.late) in
                let here : p.step.lit ≡ l =
                sym (place_here p.newer p.older p.step d)
                ∙ ap (λ (k : ℕ). get_or (reverse (literals (p.newer ++ p.step ∷ p.older))) k d) same
                ∙ ap (λ (xs : List Step). get_or (reverse (literals xs)) head d) (sym p.is ∙ draws.steps)
                ∙ place_kept draws.added now.steps head d lt
                ∙ sym at in
                let U : Lit → Type 0 = λ x. Contains (listed lists (contrary x)) list.number in
                let under : Contains (listed lists l) list.number =
                subst (λ (x : Lit). Contains (listed lists x) list.number) (twice p.step.lit ∙ here) (All-contains U c (contrary p.step.lit) list.under p.denied) in
                let N : ℕ → Type 0 = λ n. IsSettled (length now.steps) new.steps (line_at lines n).lits in
                settled_less (length now.steps) (head + 1) new.steps c (omega (arith, lt))
                (subst (IsSettled (length now.steps) new.steps) list.is_line (All-contains N (listed lists l) list.number passed under))
          ]
    ]

pub propagated_one : (lines : List Line) (lists : List (List ℕ)) (from : ℕ) (before now new : Seen) (head : ℕ) (l d : Lit) → PropagatedSo lines lists from before now head → Draws lines now new → head < length now.steps → l ≡ get_or (reverse (literals now.steps)) head d → All (λ n. IsSettled (length now.steps) new.steps (line_at lines n).lits) (listed lists l) → PropagatedSo lines lists from before new (head + 1)
propagated_one lines lists from before now new head l d so draws lt at passed = record {
  draws = draws_more lines before now new so.draws draws;
  within = omega (arith, lt, draws_length lines now new draws);
  settled = λ c list h. through_one lines lists now new head l d c draws lt at passed list (so.settled c list h);
}

-- no named line is missing
pub none_missing : (count : ℕ) (named : List ℕ) (n : ℕ) → All (λ k. k < count) named → first_missing count named ≡ Some n → ⊥
none_missing count [] n there e = none_some None n refl e
none_missing count (k ∷ ks) n there e =
    let lt : k < count = All-head (λ (x : ℕ). x < count) k ks there in
    none_missing count ks n (All-tail (λ (x : ℕ). x < count) k ks there) (sym (cond-false (nat_le count k) (Some k) (first_missing count ks) (lt-leb count k lt)) ∙ e)
