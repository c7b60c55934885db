-- What a pass over the equations keeps, up to the equation that is looked at.
use Rattle.std.proofs.Common.{◌≡◌, ◌≢◌, ℕ, ◌+◌, ◌<◌, ◌≤◌, Bool, true, false, not, cond, List, [], ◌∷◌, ◌++◌, length, get_or, set, Contains, inl, inr, ◌⊎◌, sym, subst, ap, ◌∙◌, arith}
use Rattle.std.specs.Bool.{MatchBool}
use Rattle.std.proofs.lemmas.Bool.{true≢false, cases_eq, cases_lt}
use Rattle.std.proofs.lemmas.List.{get_or-set_same, get_or-set_other, length-set, get_or_push, get_or_append_left, length_push}
use Rattle.std.proofs.lemmas.List.Elements.{All-push, Contains-push, Contains-append_left}
use Rattle.std.proofs.lemmas.List.Sums.{sum_by-set}
use Rattle.ag_stream.specs.declared.problem.ProblemDraft.{ProblemDraft}
use Rattle.ag_stream.specs.declared.dependence.Spread.{Spread}
use Rattle.ag_stream.specs.declared.dependence.Spread.TheVariants.{Met, Moved, Rest}
use Rattle.ag_stream.specs.Dependence.{PartNames, DependsOn, Leads, IsFirstOnCycle, directly, through}
use Rattle.ag_stream.specs.Work.{IsPlainForm, IsAt, IsMarked, NamesMarked, IsArranging, IsStuck, target_at, waiting}
use Rattle.ag_stream.specs.Spreading.{IsSpreading, IsSpread, SpreadsAs, bare}
use Rattle.ag_stream.proofs.Equations.{target_is, depends_at, depends_by, one_number, one_part, one_at, at_within}

-- one mark more
pub marked_set : (marks : List Bool) (i s : ℕ) → IsMarked (set marks i true) s → (s ≡ i) ⊎ IsMarked marks s
marked_set marks i s marked =
    elim (cases_eq s i) [
      | inl e ↦ inl e
      | inr ne ↦ inr (sym (get_or-set_other marks i s true false ne) ∙ marked)
    ]

pub marked_more : (marks : List Bool) (i s : ℕ) → i < length marks → IsMarked marks s → IsMarked (set marks i true) s
marked_more marks i s lt marked =
    elim (cases_eq s i) [
      | inl e ↦ let M : ℕ → Type 0 = IsMarked (set marks i true) in subst M (sym e) (get_or-set_same marks i true false lt)
      | inr ne ↦ get_or-set_other marks i s true false ne ∙ marked
    ]

-- one mark less
pub marked_unset : (marks : List Bool) (i s : ℕ) → i < length marks → IsMarked (set marks i false) s → IsMarked marks s × (s ≢ i)
marked_unset marks i s lt marked =
    elim (cases_eq s i) [
      | inl e ↦ let M : ℕ → Type 0 = IsMarked (set marks i false) in absurd (true≢false (sym (subst M e marked) ∙ get_or-set_same marks i false false lt))
      | inr ne ↦ (sym (get_or-set_other marks i s false false ne) ∙ marked, ne)
    ]

pub bare_less : (marks : List Bool) (i : ℕ) → i < length marks → get_or marks i false ≡ false → bare (set marks i true) < bare marks
bare_less marks i lt was =
    let unit : ℕ = 1 in let one : cond (not (get_or marks i false)) 1 0 ≡ unit = ap (λ (b : Bool). cond (not b) 1 0) was in
    omega (arith, one, sum_by-set (λ b. cond (not b) 1 0) marks i true false lt)

pub waiting_less : (waits : List Bool) (i : ℕ) → i < length waits → get_or waits i false ≡ true → waiting (set waits i false) < waiting waits
waiting_less waits i lt was =
    let unit : ℕ = 1 in let one : cond (get_or waits i false) 1 0 ≡ unit = ap (λ (b : Bool). cond b 1 0) was in
    omega (arith, one, sum_by-set (λ b. cond b 1 0) waits i false false lt)

-- a stream that depends on one depends on what that depends on
pub Leads-on : (d : ProblemDraft) (r q s : ℕ) → Leads d r s → DependsOn d r q → Leads d q s
Leads-on d r q s (directly t dep) more = through t r dep (directly r more)
Leads-on d r q s (through t u dep rest) more = through t u dep (Leads-on d r q u rest more)

-- how marks spread, up to an equation
abbrev pub SpreadAt : ProblemDraft → ℕ → List Bool → ℕ → Type 0
SpreadAt d stream marks k = (s p : ℕ) → IsAt d k s p → NamesMarked d marks p → IsMarked marks s × (s ≢ stream)

abbrev pub CameTo : ProblemDraft → ℕ → List Bool → List Bool → ℕ → Spread → Type 0
CameTo d stream old now k Met = ⊥
CameTo d stream old now k Moved = bare now < bare old
CameTo d stream old now k Rest = (now ≡ old) × ((j : ℕ) → j < k → SpreadAt d stream now j)

-- a stream whose part names one with a mark depends on the first of them
pub marked_leads : (d : ProblemDraft) (stream k s p r : ℕ) (marks : List Bool) → IsSpreading d stream marks → IsAt d k s p → IsMarked marks r → PartNames d (d.ints + r) p → Leads d (d.ints + stream) (d.ints + s)
marked_leads d stream k s p r marks kept at marked names =
    let dep : DependsOn d (d.ints + s) (d.ints + r) = depends_at d k s p (d.ints + r) at names in
    elim (kept.depend r marked) [
      | inl e ↦ let D : ℕ → Type 0 = λ x. DependsOn d (d.ints + s) (d.ints + x) in directly (d.ints + s) (subst D e dep)
      | inr leads ↦ through (d.ints + s) (d.ints + r) dep leads
    ]

pub spreads_on : (d : ProblemDraft) (stream s : ℕ) (marks : List Bool) → IsSpreading d stream marks → s < length marks → Leads d (d.ints + stream) (d.ints + s) → IsSpreading d stream (set marks s true)
spreads_on d stream s marks kept lt leads = record {
  size = length-set marks s true ∙ kept.size;
  itself = marked_more marks s stream lt kept.itself;
  depend = λ t marked. elim (marked_set marks s t marked) [
    | inl e ↦ let L : ℕ → Type 0 = λ x. Leads d (d.ints + stream) (d.ints + x) in inr (subst L (sym e) leads)
    | inr old ↦ kept.depend t old
  ];
}

-- at rest, each stream that depends on the first has a mark and is another
pub rest_marks : (d : ProblemDraft) → IsPlainForm d → (stream : ℕ) (marks : List Bool) (t : ℕ) → IsSpreading d stream marks → IsSpread d stream marks → Leads d (d.ints + stream) t → (s : ℕ) × (t ≡ d.ints + s) × IsMarked marks s × (s ≢ stream)
rest_marks d form stream marks t kept rest (directly u dep) =
    let by = depends_by d form u (d.ints + stream) dep in
    let end = rest by.0 by.1 by.2 by.3 (stream, kept.itself, by.5) in
    (by.1, by.4, end.0, end.1)
rest_marks d form stream marks t kept rest (through u v dep leads) =
    let by = depends_by d form u v dep in
    let sub = rest_marks d form stream marks v kept rest leads in
    let N : ℕ → Type 0 = λ x. PartNames d x by.2 in
    let end = rest by.0 by.1 by.2 by.3 (sub.0, sub.2, subst N sub.1 by.5) in
    (by.1, by.4, end.0, end.1)

pub rest_clear : (d : ProblemDraft) → IsPlainForm d → (stream : ℕ) (marks : List Bool) → IsSpreading d stream marks → IsSpread d stream marks → Leads d (d.ints + stream) (d.ints + stream) → ⊥
rest_clear d form stream marks kept rest leads =
    let found = rest_marks d form stream marks (d.ints + stream) kept rest leads in
    found.3 (omega (arith, found.1))

-- a pass that spreads marks
abbrev pub IsPassing : ProblemDraft → ℕ → List Bool → List Bool → ℕ → Spread → Type 0
IsPassing d stream old now k came = IsSpreading d stream now × CameTo d stream old now k came

moved_on : (d : ProblemDraft) (stream : ℕ) (old now next : List Bool) (k : ℕ) (came : Spread) → CameTo d stream old now k came → bare next < bare now → bare next < bare old
moved_on d stream old now next k Met c less = absurd c
moved_on d stream old now next k Moved c less = omega (arith, c, less)
moved_on d stream old now next k Rest c less = let B : List Bool → Type 0 = λ xs. bare next < bare xs in subst B c.0 less

came_on : (d : ProblemDraft) (stream : ℕ) (old now : List Bool) (k : ℕ) (came : Spread) → CameTo d stream old now k came → SpreadAt d stream now k → CameTo d stream old now (k + 1) came
came_on d stream old now k Met c at = absurd c
came_on d stream old now k Moved c at = c
came_on d stream old now k Rest c at = (c.0, λ j lt. elim (cases_lt j k) [ inl less ↦ c.1 j less | inr le ↦ (let e : k ≡ j = omega arith in subst (SpreadAt d stream now) e at) ])

pub met : (d : ProblemDraft) (stream k s p : ℕ) (marks : List Bool) → IsSpreading d stream marks → IsAt d k s p → NamesMarked d marks p → Leads d (d.ints + stream) (d.ints + s)
met d stream k s p marks kept at named = marked_leads d stream k s p named.0 marks kept at named.1 named.2

pub pass_marks : (d : ProblemDraft) (stream k s p : ℕ) (old marks next : List Bool) (came then : Spread) → IsPassing d stream old marks k came → IsAt d k s p → s < length marks → NamesMarked d marks p → get_or marks s false ≡ false → next ≡ set marks s true → then ≡ Moved → IsPassing d stream old next (k + 1) then
pass_marks d stream k s p old marks next came then kept at lt named bare' is was =
    let P : List Bool → Spread → Type 0 = λ xs c. IsPassing d stream old xs (k + 1) c in
    let Q : Spread → Type 0 = λ c. IsPassing d stream old next (k + 1) c in
    let R : List Bool → Type 0 = λ xs. IsPassing d stream old xs (k + 1) Moved in
    subst Q (sym was) (subst R (sym is)
    (spreads_on d stream s marks kept.0 lt (met d stream k s p marks kept.0 at named), moved_on d stream old marks (set marks s true) k came kept.1 (bare_less marks s lt bare')))

pub pass_on : (d : ProblemDraft) (stream k : ℕ) (old marks next : List Bool) (came then : Spread) → IsPassing d stream old marks k came → SpreadAt d stream marks k → next ≡ marks → then ≡ came → IsPassing d stream old next (k + 1) then
pass_on d stream k old marks next came then kept at is was =
    let Q : Spread → Type 0 = λ c. IsPassing d stream old next (k + 1) c in
    let R : List Bool → Type 0 = λ xs. IsPassing d stream old xs (k + 1) came in
    subst Q (sym was) (subst R (sym is) (kept.0, came_on d stream old marks k came kept.1 at))

pub spread_at : (d : ProblemDraft) (stream k s p : ℕ) (marks : List Bool) → IsAt d k s p → IsMarked marks s → s ≢ stream → SpreadAt d stream marks k
spread_at d stream k s p marks at marked apart t q other named =
    let S : ℕ → Type 0 = λ x. IsMarked marks x × (x ≢ stream) in
    subst S (one_at d k s p t q at other).0 (marked, apart)

pub spread_none : (d : ProblemDraft) (stream k s p : ℕ) (marks : List Bool) → IsAt d k s p → (NamesMarked d marks p → ⊥) → SpreadAt d stream marks k
spread_none d stream k s p marks at none t q other named =
    let N : ℕ → Type 0 = NamesMarked d marks in
    absurd (none (subst N (sym (one_at d k s p t q at other).1) named))

pub pass_ends : (d : ProblemDraft) (stream k : ℕ) (old now : List Bool) (came : Spread) → CameTo d stream old now k came → length d.equations ≤ k → SpreadsAs d stream old now came
pass_ends d stream k old now Met c le = absurd c
pass_ends d stream k old now Moved c le = c
pass_ends d stream k old now Rest c le = λ j s p at. c.1 j (let lt : j < length d.equations = at_within d j s p at in omega arith) s p at

-- the first stream on a cycle, where there are no integer streams
pub first_is : (d : ProblemDraft) → IsPlainForm d → (stream : ℕ) → Leads d (d.ints + stream) (d.ints + stream) → ((s : ℕ) → s < stream → Leads d (d.ints + s) (d.ints + s) → ⊥) → IsFirstOnCycle d (d.ints + stream)
first_is d form stream leads none =
    let zero' : d.ints ≡ 0 = form.plain.ints in
    record {
      itself = leads;
      first = λ r lt on. (let e : r ≡ d.ints + r = omega arith in let L : ℕ → Type 0 = λ x. Leads d x x in none r (omega arith) (subst L e on));
    }

-- seen streams lead to the one that is looked at
pub sees_on : (d : ProblemDraft) (stream next : ℕ) (seen : List Bool) → ((v : ℕ) → IsMarked seen v → Leads d (d.ints + stream) (d.ints + v)) → DependsOn d (d.ints + stream) (d.ints + next) → (v : ℕ) → IsMarked (set seen stream true) v → Leads d (d.ints + next) (d.ints + v)
sees_on d stream next seen lead dep v marked =
    elim (marked_set seen stream v marked) [
      | inl e ↦ let L : ℕ → Type 0 = λ x. Leads d (d.ints + next) (d.ints + x) in subst L (sym e) (directly (d.ints + stream) dep)
      | inr old ↦ Leads-on d (d.ints + stream) (d.ints + next) (d.ints + v) (lead v old) dep
    ]

-- what a pass that places equations came to
abbrev pub StuckAt : ProblemDraft → List Bool → ℕ → Type 0
StuckAt d waits k = (s p : ℕ) → IsAt d k s p → IsMarked waits s → NamesMarked d waits p

abbrev pub MovedTo : ProblemDraft → List Bool → List Bool → ℕ → Bool → Type 0
MovedTo d old now k true = waiting now < waiting old
MovedTo d old now k false = (now ≡ old) × ((j : ℕ) → j < k → StuckAt d now j)

abbrev pub IsPlacing : ProblemDraft → List Bool → List ℕ → List Bool → ℕ → Bool → Type 0
IsPlacing d old order now k moved = IsArranging d order now × MovedTo d old now k moved

waits_less : (d : ProblemDraft) (old now next : List Bool) (k : ℕ) (moved : Bool) → MovedTo d old now k moved → waiting next < waiting now → waiting next < waiting old
waits_less d old now next k true m less = omega (arith, m, less)
waits_less d old now next k false m less = let B : List Bool → Type 0 = λ xs. waiting next < waiting xs in subst B m.0 less

moved_more : (d : ProblemDraft) (old now : List Bool) (k : ℕ) (moved : Bool) → MovedTo d old now k moved → StuckAt d now k → MovedTo d old now (k + 1) moved
moved_more d old now k true m at = m
moved_more d old now k false m at = (m.0, λ j lt. elim (cases_lt j k) [ inl less ↦ m.1 j less | inr le ↦ (let e : k ≡ j = omega arith in subst (StuckAt d now) e at) ])

-- no equation that stands, nor the one that is placed, is for a stream that depends on one that waits
none_behind : (d : ProblemDraft) → IsPlainForm d → (order : List ℕ) (waits : List Bool) (k s p : ℕ) → IsArranging d order waits → IsAt d k s p → (NamesMarked d waits p → ⊥) → (i r : ℕ) → i < length (order ++ k ∷ []) → IsMarked waits r → DependsOn d (target_at d (get_or (order ++ k ∷ []) i 0)) (d.ints + r) → ⊥
none_behind d form order waits k s p kept at none i r lt marked dep =
    let T : ℕ → Type 0 = λ x. DependsOn d (target_at d x) (d.ints + r) in
    elim (cases_lt i (length order)) [
      | inl less ↦ kept.behind i r less marked (subst T (get_or_append_left order (k ∷ []) 0 i less) dep)
      | inr past ↦
          let last : length order ≡ i = omega (arith, length_push order k) in
          let D : ℕ → Type 0 = λ x. DependsOn d x (d.ints + r) in
          let dep' : DependsOn d (d.ints + s) (d.ints + r) = subst D (target_is d k s p at) (subst T (get_or_push order k 0 i last) dep) in
          let by = depends_by d form (d.ints + s) (d.ints + r) dep' in
          let same : by.1 ≡ s = omega (arith, by.4) in
          let A : ℕ → Type 0 = λ x. IsAt d by.0 x by.2 in
          let N : ℕ → Type 0 = PartNames d (d.ints + r) in
          none (r, marked, subst N (one_part d form by.0 k s by.2 p (subst A same by.3) at) by.5)
    ]

pub places : (d : ProblemDraft) → IsPlainForm d → (order : List ℕ) (waits : List Bool) (k s p : ℕ) → IsArranging d order waits → IsAt d k s p → s < length waits → IsMarked waits s → (NamesMarked d waits p → ⊥) → IsArranging d (order ++ k ∷ []) (set waits s false)
places d form order waits k s p kept at lt marked none = record {
  size = length-set waits s false ∙ kept.size;
  within = All-push (λ x. x < length d.equations) order k kept.within (at_within d k s p at);
  placed = λ j t q other clear. elim (cases_eq t s) [
    | inl e ↦
        let A : ℕ → Type 0 = λ x. IsAt d j x q in
        let C : ℕ → Type 0 = Contains (order ++ k ∷ []) in
        subst C (one_number d form k j s p q at (subst A e other)) (Contains-push order k)
    | inr ne ↦ Contains-append_left order (k ∷ []) j (kept.placed j t q other (sym (get_or-set_other waits s t false false ne) ∙ clear))
  ];
  owned = λ t on. kept.owned t (marked_unset waits s t lt on).0;
  behind = λ j r less on dep. none_behind d form order waits k s p kept at none j r less (marked_unset waits s r lt on).0 dep;
  pairs = λ i j le less dep.
      let T : ℕ → Type 0 = λ x. DependsOn d (target_at d (get_or (order ++ k ∷ []) i 0)) (target_at d x) in
      elim (cases_lt j (length order)) [
        | inl old ↦
            let U : ℕ → Type 0 = λ x. DependsOn d (target_at d x) (target_at d (get_or order j 0)) in
            kept.pairs i j le old (subst U (get_or_append_left order (k ∷ []) 0 i (omega (arith, le, old))) (subst T (get_or_append_left order (k ∷ []) 0 j old) dep))
        | inr past ↦
            let last : length order ≡ j = omega (arith, length_push order k, less) in
            let V : ℕ → Type 0 = λ x. DependsOn d (target_at d (get_or (order ++ k ∷ []) i 0)) x in
            none_behind d form order waits k s p kept at none i s (omega (arith, le, less)) marked (subst V (target_is d k s p at) (subst T (get_or_push order k 0 j last) dep))
      ];
}

pub pass_places : (d : ProblemDraft) → IsPlainForm d → (old : List Bool) (order next : List ℕ) (waits after : List Bool) (k s p : ℕ) (moved then : Bool) → IsPlacing d old order waits k moved → IsAt d k s p → s < length waits → IsMarked waits s → (NamesMarked d waits p → ⊥) → next ≡ order ++ k ∷ [] → after ≡ set waits s false → then ≡ true → IsPlacing d old next after (k + 1) then
pass_places d form old order next waits after k s p moved then kept at lt marked none is was so =
    let P : List ℕ → Type 0 = λ xs. IsPlacing d old xs after (k + 1) then in
    let Q : List Bool → Type 0 = λ xs. IsPlacing d old (order ++ k ∷ []) xs (k + 1) then in
    let R : Bool → Type 0 = λ b. IsPlacing d old (order ++ k ∷ []) (set waits s false) (k + 1) b in
    subst P (sym is) (subst Q (sym was) (subst R (sym so)
    (places d form order waits k s p kept.0 at lt marked none, waits_less d old waits (set waits s false) k moved kept.1 (waiting_less waits s lt marked))))

pub pass_leaves : (d : ProblemDraft) (old : List Bool) (order next : List ℕ) (waits after : List Bool) (k : ℕ) (moved then : Bool) → IsPlacing d old order waits k moved → StuckAt d waits k → next ≡ order → after ≡ waits → then ≡ moved → IsPlacing d old next after (k + 1) then
pass_leaves d old order next waits after k moved then kept at is was so =
    let P : List ℕ → Type 0 = λ xs. IsPlacing d old xs after (k + 1) then in
    let Q : List Bool → Type 0 = λ xs. IsPlacing d old order xs (k + 1) then in
    let R : Bool → Type 0 = λ b. IsPlacing d old order waits (k + 1) b in
    subst P (sym is) (subst Q (sym was) (subst R (sym so) (kept.0, moved_more d old waits k moved kept.1 at)))

pub stuck_named : (d : ProblemDraft) (k s p : ℕ) (waits : List Bool) → IsAt d k s p → NamesMarked d waits p → StuckAt d waits k
stuck_named d k s p waits at named t q other marked =
    let N : ℕ → Type 0 = NamesMarked d waits in
    subst N (one_at d k s p t q at other).1 named

pub stuck_clear : (d : ProblemDraft) (k s p : ℕ) (waits : List Bool) → IsAt d k s p → get_or waits s false ≡ false → StuckAt d waits k
stuck_clear d k s p waits at clear t q other marked =
    let M : ℕ → Type 0 = IsMarked waits in
    absurd (true≢false (sym (subst M (sym (one_at d k s p t q at other).0) marked) ∙ clear))

pub placing_ends : (d : ProblemDraft) (old now : List Bool) (k : ℕ) (moved : Bool) → MovedTo d old now k moved → length d.equations ≤ k → MatchBool moved (waiting now < waiting old) (IsStuck d now)
placing_ends d old now k true m le = m
placing_ends d old now k false m le = λ j s p at. m.1 j (let lt : j < length d.equations = at_within d j s p at in omega arith) s p at
