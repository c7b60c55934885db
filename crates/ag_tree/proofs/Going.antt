-- What a search keeps from round to round.
use Rattle.std.proofs.Common.{◌≡◌, ◌⊎◌, inl, inr, ℕ, ◌+◌, ◌*◌, ◌<◌, ◌≤◌, ◌||◌, Bool, false, ℤ, List, [], ◌∷◌, ◌++◌, length, get_or, take, reverse, Option, Some, None, Vec, Global, refl, sym, ap, subst, ◌∙◌, arith, All, Contains}
use Rattle.std.specs.Option.{is_some}
use Rattle.std.proofs.lemmas.List.{append_assoc, length-take, get_or-take, get_or_push, length_push, reverse-reverse, take-append-le, take_all}
use Rattle.std.proofs.lemmas.List.Elements.{All-nil, All-cons, All-head, All-tail, All-push, All-weaker, All-contains, Contains-append_left, Contains-push}
use Rattle.std.proofs.lemmas.List.Sums.{sum_by_push}
use Rattle.std.proofs.lemmas.Option.{slice_get-get_or}
use Rattle.std.specs.Bool.{beq}
use Rattle.ag_query.specs.declared.clauses.Lit.{Lit}
use Rattle.ag_query.specs.declared.clauses.LClause.{LClause}
use Rattle.ag_query.specs.declared.rows.Atom.{Atom}
use Rattle.ag_query.specs.declared.rows.Atom.TheVariants.{Free}
use Rattle.ag_query.specs.declared.query.Query.{Query}
use Rattle.ag_query.specs.Meaning.{Assignment, Follows, contrary, one_holds, truth_at, atom_truth, lit_holds, some_row_holds}
use Rattle.ag_kernel.specs.declared.line.Line.{Line}
use Rattle.ag_kernel.specs.State.{State, FollowsAt}
use Rattle.ag_kernel.specs.Rules.{Adds, CanConclude, line_at}
use Rattle.ag_kernel.specs.Theories.{HasGrown, RefutesLits, SatisfiesRows, RowIsAsSaid, numbers_at}
use Rattle.ag_tree.specs.declared.trail.Step.{Step}
use Rattle.ag_tree.specs.declared.rounds.Progress.{Progress}
use Rattle.ag_tree.specs.declared.rounds.Fact.{Fact}
use Rattle.ag_tree.specs.declared.choices.Guide.{Guide}
use Rattle.ag_tree.specs.Facts.{HasNoneBothWays, Lacks, IsAtRest, IsAtRestAlong, IsFact, AreFacts, literal_count}
use Rattle.ag_tree.specs.Trail.{Seen, literals, denial, reasons, AreSound, IsSoundStep, IsDrawnBy, RestsBefore, IsAgainst, IsSettled, Draws, IsBackTo}
use Rattle.ag_tree.specs.Going.{IsClauseLine, IsListed, IsCovered, IsAmong, PassesAs, PropagatesAs, known, IsGoing, IsReady, AreAtRest, IsConcluded, SettlesAs}
use Rattle.ag_tree.specs.Listing.{listed}
use Rattle.ag_tree.proofs.Lits.{contains_all, contains_head, contains_reverse, none_some}
use Rattle.ag_tree.proofs.Covering.{IsRelisted, covered_still, covers_self, rest_part}
use Rattle.ag_tree.proofs.Drawing.{rests_drawn, draws_settled, settled_less, settled_push}
use Rattle.ag_tree.proofs.Units.{concludes, reasons_all, sound_drawn}
use Rattle.ag_tree.proofs.NewFacts.{sound_fresh, sound_back, rests_back, rests_more, denial_plain, is_fact, facts_push}

-- ---- steps are drawn

pub going_draws : (s : Progress) (t : Seen) (head : ℕ) (unseen : Vec ℕ Global) → IsGoing s → Draws s.kernel.lines s.trail t → All (IsClauseLine s.kernel.lines s.trail.atoms) unseen.items → IsGoing (record s { trail = t; head = head; unseen = unseen })
going_draws s t head unseen g d lines =
    let B : List Step → Type 0 = RestsBefore (known s) in
    let C : ℕ → ℕ → Type 0 = λ a n. IsClauseLine s.kernel.lines a n in
    record {
      begins = g.begins;
      atoms = d.atoms ∙ g.atoms;
      sound = d.sound;
      rests = subst B (sym d.steps) (rests_drawn (known s) d.added s.trail.steps d.drawn g.rests);
      kept = g.kept;
      counted = g.counted;
      few = g.few;
      slots = g.slots ∙ ap (λ (n : ℕ). 2 * n) (sym d.atoms);
      lists = λ l n h. subst (λ (a : ℕ). C a n) (sym d.atoms) (g.lists l n h);
      covered = g.covered;
      listed = subst (λ (a : ℕ). All (C a) s.listed.items) (sym d.atoms) g.listed;
      unseen = subst (λ (a : ℕ). All (C a) unseen.items) (sym d.atoms) lines;
    }

pub passed_settled : (s : Progress) (mid : Seen) → IsReady s → Draws s.kernel.lines s.trail mid → PassesAs s.kernel.lines s.unseen.items s.trail mid None → All (λ c. IsSettled s.head mid.steps c.lits) (known s)
passed_settled s mid ready d passed k e lt =
    elim (ready.settled k e lt) [
      | inl h ↦ draws_settled s.kernel.lines s.trail mid s.head (get_or (known s) k e).lits d ready.head h
      | inr among ↦
          let N : ℕ → Type 0 = λ n. IsSettled (length s.trail.steps) mid.steps (line_at s.kernel.lines n).lits in
          settled_less (length s.trail.steps) s.head mid.steps (get_or (known s) k e).lits ready.head
          (subst (IsSettled (length s.trail.steps) mid.steps) among.is_line (All-contains N s.unseen.items among.number passed among.has))
    ]

pub propagated_rests : (s : Progress) (mid now : Seen) → IsGoing s → IsReady s → Draws s.kernel.lines s.trail mid → PassesAs s.kernel.lines s.unseen.items s.trail mid None → PropagatesAs s.kernel.lines s.occurrences s.head mid now None → IsAtRestAlong (literals now.steps) (known s)
propagated_rests s mid now g ready d passed through k e lt =
    let c : IsCovered s.kernel.lines s.occurrences (known s) (get_or (known s) k e).lits = g.covered k e lt in
    let S : LClause → Type 0 = λ x. IsSettled s.head mid.steps x.lits in
    rest_part (literals now.steps) c.part.lits (get_or (known s) k e).lits c.within
    (through c.part.lits c.listed (All-contains S (known s) c.part (passed_settled s mid ready d passed) c.known))

-- ---- the kernel grows

pub record IsLonger (before now : List Line) : Type 0 where
  pub begins : take (length before) now ≡ before

longer_length : (before now : List Line) → IsLonger before now → length before ≤ length now
longer_length before now more = omega (arith, ap length more.begins, length-take (length before) now)

longer_line : (before now : List Line) (n : ℕ) → IsLonger before now → n < length before → line_at now n ≡ line_at before n
longer_line before now n more lt =
    let d : Line = record { lits = []; row = None } in
    sym (get_or-take (length before) now n d lt) ∙ ap (λ (xs : List Line). get_or xs n d) more.begins

longer_clause : (before now : List Line) (atoms n : ℕ) → IsLonger before now → IsClauseLine before atoms n → IsClauseLine now atoms n
longer_clause before now atoms n more c =
    let e : line_at before n ≡ line_at now n = sym (longer_line before now n more c.there) in
    let le = longer_length before now more in
    record {
      there = omega (arith, c.there, le);
      no_row = subst (λ (x : Line). is_some x.row ≡ false) e c.no_row;
      below = subst (λ (x : Line). All (λ l. l.atom < atoms) x.lits) e c.below;
      plain = subst (λ (x : Line). HasNoneBothWays x.lits) e c.plain;
    }

longer_listed : (before now : List Line) (lists : List (List ℕ)) (clause : List Lit) → IsLonger before now → IsListed before lists clause → IsListed now lists clause
longer_listed before now lists clause more c =
    let le = longer_length before now more in
    record { number = c.number; there = omega (arith, c.there, le); is_line = ap (λ (x : Line). x.lits) (longer_line before now c.number more c.there) ∙ c.is_line; under = c.under }

longer_covered : (before now : List Line) (lists : List (List ℕ)) (clauses : List LClause) (clause : List Lit) → IsLonger before now → IsCovered before lists clauses clause → IsCovered now lists clauses clause
longer_covered before now lists clauses clause more c =
    record { part = c.part; known = c.known; within = c.within; listed = longer_listed before now lists c.part.lits more c.listed }

longer_drawn : (before now : List Line) (n : ℕ) (l : Lit) (lits : List Lit) → IsLonger before now → IsDrawnBy before n l lits → IsDrawnBy now n l lits
longer_drawn before now n l lits more d =
    let e : line_at before n ≡ line_at now n = sym (longer_line before now n more d.there) in
    let le = longer_length before now more in
    record {
      there = omega (arith, d.there, le);
      no_row = subst (λ (x : Line). is_some x.row ≡ false) e d.no_row;
      others = subst (λ (x : Line). All (λ m. (m ≡ l) ⊎ Contains lits (contrary m)) x.lits) e d.others;
    }

longer_sound : (before now : List Line) (steps : List Step) → IsLonger before now → AreSound before steps → AreSound now steps
longer_sound before now [] more sound = tt
longer_sound before now (s ∷ rest) more sound =
    (record { fresh = sound.0.fresh; drawn = λ n e. longer_drawn before now n s.lit (literals rest) more (sound.0.drawn n e) }, longer_sound before now rest more sound.1)

pub going_grown : (s : Progress) (k : State) (asked : ℕ) (guide : Guide) → IsGoing s → HasGrown s.kernel k → take (length k.query.atoms) k.atoms ≡ k.query.atoms → IsGoing (record s { kernel = k; asked = asked; guide = guide })
going_grown s k asked guide g grown begins =
    let more : IsLonger s.kernel.lines k.lines = record { begins = grown.lines } in
    let e : s.kernel.query ≡ k.query = sym grown.query in
    let L : LClause → Type 0 = λ c. IsCovered s.kernel.lines s.occurrences (known s) c.lits in
    let M : List LClause → LClause → Type 0 = λ cs c. IsCovered k.lines s.occurrences cs c.lits in
    record {
      begins = begins;
      atoms = g.atoms ∙ ap (λ (q : Query). length q.atoms) e;
      sound = longer_sound s.kernel.lines k.lines s.trail.steps more g.sound;
      rests = subst (λ (q : Query). RestsBefore (q.clauses ++ s.facts) s.trail.steps) e g.rests;
      kept = subst (λ (q : Query). AreFacts q q.clauses s.facts) e g.kept;
      counted = g.counted;
      few = g.few;
      slots = g.slots;
      lists = λ l n h. longer_clause s.kernel.lines k.lines s.trail.atoms n more (g.lists l n h);
      covered = subst (λ (q : Query). All (M (q.clauses ++ s.facts)) (q.clauses ++ s.facts)) e
          (All-weaker L (M (known s)) (λ c h. longer_covered s.kernel.lines k.lines s.occurrences (known s) c.lits more h) (known s) g.covered);
      listed = All-weaker (IsClauseLine s.kernel.lines s.trail.atoms) (IsClauseLine k.lines s.trail.atoms) (λ n h. longer_clause s.kernel.lines k.lines s.trail.atoms n more h) s.listed.items g.listed;
      unseen = All-weaker (IsClauseLine s.kernel.lines s.trail.atoms) (IsClauseLine k.lines s.trail.atoms) (λ n h. longer_clause s.kernel.lines k.lines s.trail.atoms n more h) s.unseen.items g.unseen;
    }

pub going_asked : (s : Progress) (asked : ℕ) (guide : Guide) → IsGoing s → IsGoing (record s { asked = asked; guide = guide })
going_asked s asked guide g = record {
  begins = g.begins;
  atoms = g.atoms;
  sound = g.sound;
  rests = g.rests;
  kept = g.kept;
  counted = g.counted;
  few = g.few;
  slots = g.slots;
  lists = g.lists;
  covered = g.covered;
  listed = g.listed;
  unseen = g.unseen;
}

pub rest_grown : (s : Progress) (k : State) → HasGrown s.kernel k → AreAtRest s → AreAtRest (record s { kernel = k })
rest_grown s k grown rest = subst (λ (q : Query). IsAtRestAlong (literals s.trail.steps) (q.clauses ++ s.facts)) (sym grown.query) rest

pub back_round : (lits : List Lit) (l : Lit) → Contains (reverse lits) l → Contains lits l
back_round lits l h = subst (λ (xs : List Lit). Contains xs l) (reverse-reverse lits) (contains_reverse l (reverse lits) h)

pub line_against : (k : State) (steps : List Step) (lits : List Lit) (n : ℕ) → lits ≡ reverse (literals steps) → RefutesLits k lits n → IsAgainst k.lines steps n
line_against k steps lits n is r =
    let D : Lit → Type 0 = λ l. Contains lits (contrary l) in
    let E : Lit → Type 0 = λ l. Contains (literals steps) (contrary l) in
    record {
      there = r.there;
      no_row = r.no_row;
      denied = All-weaker D E (λ l h. back_round (literals steps) (contrary l) (subst (λ (xs : List Lit). Contains xs (contrary l)) is h)) (line_at k.lines n).lits r.contraries;
    }

pub rows_said : (k : State) (steps : List Step) (lits : List Lit) (numbers : List ℤ) → lits ≡ reverse (literals steps) → SatisfiesRows k lits numbers → SatisfiesRows k (literals steps) numbers
rows_said k steps lits numbers is r =
    let P : Lit → Type 0 = RowIsAsSaid k.atoms (numbers_at numbers) in
    record {
      count = r.count;
      rows = contains_all P (literals steps) (λ l h. All-contains P lits l r.rows (subst (λ (xs : List Lit). Contains xs l) (sym is) (contains_reverse l (literals steps) h)));
    }

-- ---- a conflict

begins_length : (xs ys : List Atom) → take (length ys) xs ≡ ys → length ys ≤ length xs
begins_length xs ys e = omega (arith, ap length e, length-take (length ys) xs)

pub reasons_there : (s : Progress) (n : ℕ) → IsGoing s → IsAgainst s.kernel.lines s.trail.steps n → All (λ k. k < length s.kernel.lines) (reasons s.trail.steps ++ n ∷ [])
reasons_there s n g against =
    let P : ℕ → Type 0 = λ k. k < length s.kernel.lines in
    All-push P (reasons s.trail.steps) n (reasons_all P s.trail.steps (λ x k h e. (sound_drawn s.kernel.lines s.trail.steps x k g.sound h e).0)) against.there

pub can_conclude : (s : Progress) (n : ℕ) → IsGoing s → IsAgainst s.kernel.lines s.trail.steps n → All (λ l. l.atom < s.trail.atoms) (denial s.trail.steps) → CanConclude s.kernel (denial s.trail.steps) (reasons s.trail.steps ++ n ∷ [])
can_conclude s n g against below =
    let P : ℕ → Type 0 = λ k. is_some (line_at s.kernel.lines k).row ≡ false in
    let B : Lit → Type 0 = λ l. l.atom < s.trail.atoms in
    let C : Lit → Type 0 = λ l. l.atom < length s.kernel.atoms in
    let le = begins_length s.kernel.atoms s.kernel.query.atoms g.begins in
    record {
      there = All-weaker B C (λ l h. omega (arith, h, le, g.atoms)) (denial s.trail.steps) below;
      no_rows = All-push P (reasons s.trail.steps) n (reasons_all P s.trail.steps (λ x k h e. (sound_drawn s.kernel.lines s.trail.steps x k g.sound h e).1)) against.no_row;
      conflict = concludes s.kernel.lines s.trail.steps n g.sound against;
    }

pub adds_grown : (old new : State) (n : ℕ) (line : Line) → Adds old new n line → HasGrown old new
adds_grown old new n line adds = subst (λ (k : State). HasGrown old k) (sym adds.1) (record {
  query = refl;
  atoms = take_all (length old.atoms) old.atoms (omega arith);
  lines = take-append-le (length old.lines) old.lines (line ∷ []) (omega arith) ∙ take_all (length old.lines) old.lines (omega arith);
})

pub adds_begins : (old new : State) (n : ℕ) (line : Line) → Adds old new n line → take (length old.query.atoms) old.atoms ≡ old.query.atoms → take (length new.query.atoms) new.atoms ≡ new.query.atoms
adds_begins old new n line adds h = subst (λ (k : State). take (length k.query.atoms) k.atoms ≡ k.query.atoms) (sym adds.1) h

same_truth : (atoms few : List Atom) (v : Assignment) (a : ℕ) → take (length few) atoms ≡ few → a < length few → truth_at atoms v a ≡ truth_at few v a
same_truth atoms few v a e lt =
    ap (λ (x : Atom). atom_truth v a x) (sym (get_or-take (length few) atoms a Free lt) ∙ ap (λ (xs : List Atom). get_or xs a Free) e)

same_holds : (atoms few : List Atom) (v : Assignment) (lits : List Lit) → take (length few) atoms ≡ few → All (λ l. l.atom < length few) lits → one_holds atoms v lits ≡ one_holds few v lits
same_holds atoms few v [] e below = refl
same_holds atoms few v (l ∷ ls) e below =
    let B : Lit → Type 0 = λ x. x.atom < length few in
    let here : lit_holds atoms v l ≡ lit_holds few v l = ap (λ (b : Bool). beq b l.holds) (same_truth atoms few v l.atom e (All-head B l ls below)) in
    ap (λ (b : Bool). b || one_holds atoms v ls) here ∙ ap (λ (b : Bool). lit_holds few v l || b) (same_holds atoms few v ls e (All-tail B l ls below))

pub follows_narrow : (query : Query) (atoms : List Atom) (lits : List Lit) → take (length query.atoms) atoms ≡ query.atoms → All (λ l. l.atom < length query.atoms) lits → Follows query atoms lits None → Follows query query.atoms lits None
follows_narrow query atoms lits e below follows v meets =
    sym (ap (λ (b : Bool). b || some_row_holds v None) (same_holds atoms query.atoms v lits e below)) ∙ follows v meets

pub concluded : (s : Progress) (k : State) (fact : Fact) (lits : List Lit) → IsGoing s → Adds s.kernel k fact.number (record { lits = lits; row = None }) → FollowsAt k fact.number → lits ≡ fact.lits.items → fact.lits.items ≡ denial s.trail.steps → All (λ l. l.atom < s.trail.atoms) fact.lits.items → IsConcluded (record s { kernel = k }) fact
concluded s k fact lits g adds follows same is below =
    let line : Line = record { lits = fact.lits.items; row = None } in
    let d : Line = record { lits = []; row = None } in
    let lines : k.lines ≡ s.kernel.lines ++ line ∷ [] = ap (λ (x : State). x.lines) adds.1 ∙ ap (λ (ls : List Lit). s.kernel.lines ++ record { lits = ls; row = None } ∷ []) same in
    let long : length k.lines ≡ length s.kernel.lines + 1 = ap length lines ∙ length_push s.kernel.lines line in
    let there : fact.number < length k.lines = omega (arith, adds.0, long) in
    let at : line_at k.lines fact.number ≡ line = ap (λ (xs : List Line). get_or xs fact.number d) lines ∙ get_or_push s.kernel.lines line d fact.number (sym adds.0) in
    let query : k.query ≡ s.kernel.query = ap (λ (x : State). x.query) adds.1 in
    let begins : take (length k.query.atoms) k.atoms ≡ k.query.atoms = adds_begins s.kernel k fact.number (record { lits = lits; row = None }) adds g.begins in
    let low : All (λ l. l.atom < length k.query.atoms) fact.lits.items = subst (λ (n : ℕ). All (λ l. l.atom < n) fact.lits.items) (g.atoms ∙ ap (λ (q : Query). length q.atoms) (sym query)) below in
    record {
      lits = is;
      below = below;
      there = there;
      line = at;
      follows = follows_narrow k.query k.atoms fact.lits.items begins low (follows line (slice_get-get_or k.lines fact.number d there ∙ ap (λ (x : Line). Some x) at));
    }

-- ---- a fact is kept

pub fact_of : (s : Progress) (fact : Fact) → IsGoing s → IsConcluded s fact → 0 < length fact.lits.items → IsFact s.kernel.query (known s) fact.lits.items
fact_of s fact g c some =
    let q : Query = s.kernel.query in
    let here : IsFact q (known s) (denial s.trail.steps) =
    is_fact s.kernel.lines q s.facts s.trail.steps g.sound g.rests (subst (λ (xs : List Lit). Follows q q.atoms xs None) c.lits c.follows)
    (subst (λ (xs : List Lit). 0 < length xs) c.lits some)
    (subst (λ (n : ℕ). All (λ l. l.atom < n) (denial s.trail.steps)) g.atoms (subst (λ (xs : List Lit). All (λ l. l.atom < s.trail.atoms) xs) c.lits c.below)) in
    subst (λ (xs : List Lit). IsFact q (known s) xs) (sym c.lits) here

pub fact_line : (s : Progress) (fact : Fact) → IsGoing s → IsConcluded s fact → IsClauseLine s.kernel.lines s.trail.atoms fact.number
fact_line s fact g c =
    let e : record { lits = fact.lits.items; row = None } ≡ line_at s.kernel.lines fact.number = sym c.line in
    let plain : HasNoneBothWays fact.lits.items = subst HasNoneBothWays (sym c.lits) (denial_plain s.trail.steps (sound_fresh s.kernel.lines s.trail.steps g.sound)) in
    record {
      there = c.there;
      no_row = subst (λ (x : Line). is_some x.row ≡ false) e refl;
      below = subst (λ (x : Line). All (λ l. l.atom < s.trail.atoms) x.lits) e c.below;
      plain = subst (λ (x : Line). HasNoneBothWays x.lits) e plain;
    }

pub learned_going : (s : Progress) (fact : Fact) (lists : List (List ℕ)) (t : Seen) (l : Lit) (f : LClause) (facts : List LClause) (count head asked : ℕ) (guide : Guide) (recent unseen : Vec ℕ Global) → IsGoing s → IsConcluded s fact → 0 < length fact.lits.items → s.literals + length fact.lits.items ≤ 600000 → IsRelisted s.kernel.lines s.occurrences lists fact.lits.items fact.number → All (λ n. Contains s.listed.items n ⊎ (n ≡ fact.number)) recent.items → IsBackTo s.trail.steps t.steps l → t.atoms ≡ s.trail.atoms → f.lits ≡ fact.lits.items → facts ≡ s.facts ++ f ∷ [] → count ≡ s.literals + length fact.lits.items → unseen.items ≡ fact.number ∷ [] → IsGoing (record { kernel = s.kernel; occurrences = lists; listed = recent; trail = t; facts = facts; literals = count; head = head; unseen = unseen; asked = asked; guide = guide })
learned_going s fact lists t l f facts count head asked guide recent unseen g c some few a fewer back atoms lits is counted one =
    let q : Query = s.kernel.query in
    let lines : List Line = s.kernel.lines in
    let C : ℕ → ℕ → Type 0 = λ n k. IsClauseLine lines n k in
    let line : C s.trail.atoms fact.number = fact_line s fact g c in
    let fact_is : IsFact q (known s) f.lits = subst (λ (xs : List Lit). IsFact q (known s) xs) (sym lits) (fact_of s fact g c some) in
    let new : IsListed lines lists f.lits = record {
      number = fact.number;
      there = c.there;
      is_line = ap (λ (x : Line). x.lits) c.line ∙ sym lits;
      under = subst (λ (xs : List Lit). All (λ x. Contains (listed lists (contrary x)) fact.number) xs) (sym lits) a.under;
    } in
    let whole : (q.clauses ++ s.facts) ++ f ∷ [] ≡ q.clauses ++ facts = append_assoc q.clauses s.facts (f ∷ []) ∙ ap (λ (xs : List LClause). q.clauses ++ xs) (sym is) in
    let now : List LClause = known s ++ f ∷ [] in
    let M : List LClause → LClause → Type 0 = λ cs x. IsCovered lines lists cs x.lits in
    let L : LClause → Type 0 = λ x. IsCovered lines s.occurrences (known s) x.lits in
    let relisted : IsRelisted lines s.occurrences lists f.lits fact.number = subst (λ (xs : List Lit). IsRelisted lines s.occurrences lists xs fact.number) (sym lits) a in
    let old : All (M now) (known s) =
    All-weaker L (M now) (λ x h. covered_still lines s.occurrences lists (known s) now f fact.number x.lits relisted (λ y has. Contains-append_left (known s) (f ∷ []) y has) (Contains-push (known s) f) new h) (known s) g.covered in
    let N : ℕ → Type 0 = λ n. Contains s.listed.items n ⊎ (n ≡ fact.number) in
    let stands : (n : ℕ) → N n → C s.trail.atoms n =
    λ n h. elim h [
      | inl has ↦ All-contains (C s.trail.atoms) s.listed.items n g.listed has
      | inr e ↦ subst (λ (k : ℕ). C s.trail.atoms k) (sym e) line
    ] in
    record {
      begins = g.begins;
      atoms = atoms ∙ g.atoms;
      sound = (sound_back lines s.trail.steps t.steps l g.sound back).1;
      rests = subst (λ (cs : List LClause). RestsBefore cs t.steps) whole (rests_more lines (known s) f s.trail.steps t.steps l g.sound g.rests back (lits ∙ c.lits));
      kept = subst (AreFacts q q.clauses) (sym is) (facts_push q q.clauses s.facts f g.kept fact_is);
      counted = counted ∙ ap (λ (n : ℕ). n + length fact.lits.items) g.counted ∙ ap (λ (n : ℕ). literal_count s.facts + n) (ap length (sym lits)) ∙ sym (sum_by_push (λ (x : LClause). length x.lits) s.facts f) ∙ ap literal_count (sym is);
      few = omega (arith, few, counted);
      slots = a.slots ∙ g.slots ∙ ap (λ (n : ℕ). 2 * n) (sym atoms);
      lists = λ x n h. subst (λ (k : ℕ). C k n) (sym atoms) (elim (a.only x n h) [
        | inl old ↦ g.lists x n old
        | inr e ↦ subst (λ (k : ℕ). C s.trail.atoms k) (sym e) line
      ]);
      covered = subst (λ (cs : List LClause). All (M cs) cs) whole (All-push (M now) (known s) f old (covers_self lines lists now f (Contains-push (known s) f) new));
      listed = subst (λ (k : ℕ). All (C k) recent.items) (sym atoms) (All-weaker N (C s.trail.atoms) (λ n h. stands n h) recent.items fewer);
      unseen = subst (λ (ns : List ℕ). All (C t.atoms) ns) (sym one) (subst (λ (k : ℕ). All (C k) (fact.number ∷ [])) (sym atoms) (All-cons (C s.trail.atoms) fact.number [] line (All-nil (C s.trail.atoms))));
    }

pub learned_ready : (s : Progress) (fact : Fact) (lists : List (List ℕ)) (t : Seen) (l : Lit) (f : LClause) (facts : List LClause) (count head asked : ℕ) (guide : Guide) (recent unseen : Vec ℕ Global) → IsGoing s → IsConcluded s fact → IsBackTo s.trail.steps t.steps l → f.lits ≡ fact.lits.items → facts ≡ s.facts ++ f ∷ [] → head ≡ length t.steps → unseen.items ≡ fact.number ∷ [] → IsReady (record { kernel = s.kernel; occurrences = lists; listed = recent; trail = t; facts = facts; literals = count; head = head; unseen = unseen; asked = asked; guide = guide })
learned_ready s fact lists t l f facts count head asked guide recent unseen g c back lits is at one =
    let q : Query = s.kernel.query in
    let whole : (q.clauses ++ s.facts) ++ f ∷ [] ≡ q.clauses ++ facts = append_assoc q.clauses s.facts (f ∷ []) ∙ ap (λ (xs : List LClause). q.clauses ++ xs) (sym is) in
    let R : LClause → Type 0 = λ x. IsAtRest (literals t.steps) x.lits in
    let S : LClause → Type 0 = λ x. IsSettled head t.steps x.lits ⊎ IsAmong s.kernel.lines unseen.items x.lits in
    let old : All S (known s) = All-weaker R S (λ x h. inl (inl h)) (known s) (rests_back (known s) s.trail.steps t.steps l g.rests back).0 in
    let new : S f = inr record {
      number = fact.number;
      has = subst (λ (ns : List ℕ). Contains ns fact.number) (sym one) (contains_head fact.number []);
      is_line = ap (λ (x : Line). x.lits) c.line ∙ sym lits;
    } in
    record {
      head = omega (arith, at);
      settled = subst (λ (cs : List LClause). All S cs) whole (All-push S (known s) f old new);
    }

-- ---- a choice

pub chosen_going : (s : Progress) (t : Seen) (l : Lit) (head : ℕ) (guide : Guide) → IsGoing s → AreAtRest s → Lacks (literals s.trail.steps) l.atom → t ≡ record { atoms = s.trail.atoms; steps = record { lit = l; reason = None } ∷ s.trail.steps } → IsGoing (record s { trail = t; head = head; guide = guide })
chosen_going s t l head guide g rest lacks is =
    let step : IsSoundStep s.kernel.lines (record { lit = l; reason = None }) s.trail.steps = record { fresh = lacks; drawn = λ n e. absurd (none_some None n refl e) } in
    subst (λ (x : Seen). IsGoing (record s { trail = x; head = head; guide = guide })) (sym is) (record {
      begins = g.begins;
      atoms = g.atoms;
      sound = (step, g.sound);
      rests = ((λ e. rest), g.rests);
      kept = g.kept;
      counted = g.counted;
      few = g.few;
      slots = g.slots;
      lists = g.lists;
      covered = g.covered;
      listed = g.listed;
      unseen = g.unseen;
    })

pub chosen_ready : (s : Progress) (t : Seen) (l : Lit) (head : ℕ) (guide : Guide) → AreAtRest s → head ≡ length s.trail.steps → t ≡ record { atoms = s.trail.atoms; steps = record { lit = l; reason = None } ∷ s.trail.steps } → IsReady (record s { trail = t; head = head; guide = guide })
chosen_ready s t l head guide rest at is =
    let step : Step = record { lit = l; reason = None } in
    let S : List Step → LClause → Type 0 = λ xs x. IsSettled head xs x.lits in
    let steps : t.steps ≡ step ∷ s.trail.steps = ap (λ (x : Seen). x.steps) is in
    record {
      head = omega (arith, at, ap length steps);
      settled = λ k d lt. inl (subst (λ (xs : List Step). S xs (get_or (known s) k d)) (sym steps) (settled_push head step s.trail.steps (get_or (known s) k d).lits (omega (arith, at)) (inl (rest k d lt))));
    }

pub settles_by : (s : Progress) (mid now : Seen) (head : ℕ) (unseen : Vec ℕ Global) (r : Option ℕ) → IsGoing s → IsReady s → Draws s.kernel.lines s.trail mid → PassesAs s.kernel.lines s.unseen.items s.trail mid None → PropagatesAs s.kernel.lines s.occurrences s.head mid now r → SettlesAs (record s { trail = now; head = head; unseen = unseen }) r
settles_by s mid now head unseen None g ready d passed through = propagated_rests s mid now g ready d passed through
settles_by s mid now head unseen (Some n) g ready d passed through = through
