-- What a search may answer.
use Rattle.std.proofs.Common.{◌≡◌, ◌⊎◌, inl, inr, ℕ, ◌+◌, ◌-◌, ◌*◌, ◌<◌, ◌≤◌, ◌||◌, Bool, true, false, ℤ, List, [], length, get_or, reverse, Option, Some, None, refl, sym, ap, subst, ◌∙◌, arith, All, Contains}
use Rattle.std.specs.Bool.{beq}
use Rattle.std.specs.List.{Any}
use Rattle.std.specs.Option.{MatchOption}
use Rattle.std.proofs.lemmas.List.{get_or-take}
use Rattle.std.proofs.lemmas.List.Elements.{All-contains}
use Rattle.std.proofs.lemmas.List.Folds.{list_any-from_Any}
use Rattle.std.proofs.lemmas.Bool.{false≢true}
use Rattle.ag_query.specs.declared.clauses.Lit.{Lit}
use Rattle.ag_query.specs.declared.clauses.LClause.{LClause}
use Rattle.ag_query.specs.declared.rows.Atom.{Atom}
use Rattle.ag_query.specs.declared.rows.Atom.TheVariants.{Free, Bound}
use Rattle.ag_query.specs.declared.query.Query.{Query}
use Rattle.ag_query.specs.declared.query.Valuation.{Valuation}
use Rattle.ag_query.specs.Meaning.{Follows, contrary, one_holds, truth_at, atom_truth, lit_holds}
use Rattle.ag_query.specs.Rows.{row_holds}
use Rattle.ag_query.specs.Answers.{assignment_of}
use Rattle.ag_kernel.specs.State.{HasNoValuation}
use Rattle.ag_kernel.specs.Rules.{row_of}
use Rattle.ag_kernel.specs.Theories.{SatisfiesRows, RowIsAsSaid, numbers_at}
use Rattle.ag_tree.specs.declared.rounds.Progress.{Progress}
use Rattle.ag_tree.specs.declared.rounds.Fact.{Fact}
use Rattle.ag_tree.specs.Facts.{Lacks, IsAtRest}
use Rattle.ag_tree.specs.Answers.{IsMet, IsSpent, IsLeafOf}
use Rattle.ag_tree.specs.Trail.{literals, truth_in}
use Rattle.ag_tree.specs.declared.rounds.Round.{Round}
use Rattle.ag_tree.specs.declared.rounds.Round.TheVariants.{Going, Sat, Unsat, Spent, Leaf}
use Rattle.ag_tree.specs.Going.{IsGoing, AreAtRest, AreMet, IsConcluded, Keeps, left, EndsAs}
use Rattle.ag_tree.proofs.Lits.{contains_reverse, any_at, truth_has, truth_lacks}
use Rattle.ag_tree.proofs.Values.{fresh_plain}
use Rattle.ag_tree.proofs.NewFacts.{sound_fresh, all_left}
use Rattle.ag_tree.proofs.Going.{fact_of, back_round}

pub unsat_from : (query : Query) (lits : List Lit) → lits ≡ [] → Follows query query.atoms lits None → HasNoValuation query
unsat_from query lits none follows v meets =
    false≢true (subst (λ (ls : List Lit). one_holds query.atoms v ls || false ≡ true) none (follows v meets))

pub spent_from : (s : Progress) (fact : Fact) (work : ℕ) → IsGoing s → IsConcluded s fact → 0 < length fact.lits.items → (length s.facts ≡ work) ⊎ (600000 < s.literals + length fact.lits.items) → IsSpent s.kernel.query work s.facts
spent_from s fact work g c some spent = record {
  kept = g.kept;
  further = fact.lits.items;
  called_for = fact_of s fact g c some;
  spent = elim spent [
    | inl e ↦ inl e
    | inr past ↦ inr (omega (arith, past, g.counted))
  ];
}

-- ---- a trail without an atom that has no value

-- each clause has a literal of the trail
has_literal : (s : Progress) → IsGoing s → AreAtRest s → ((a : ℕ) → a < s.trail.atoms → Lacks (literals s.trail.steps) a → ⊥) → AreMet (literals s.trail.steps) s.kernel.query.clauses
has_literal s g rest full k d lt =
    let q : Query = s.kernel.query in
    let R : LClause → Type 0 = λ c. IsAtRest (literals s.trail.steps) c.lits in
    elim (all_left R q.clauses s.facts rest k d lt) [
      | inl any ↦ any
      | inr two ↦
          let B : Lit → Type 0 = λ l. l.atom < length q.atoms in
          let below : two.one.atom < length q.atoms = All-contains B (get_or q.clauses k d).lits two.one (q.literals k d lt) two.has_one in
          absurd (full two.one.atom (omega (arith, below, g.atoms)) two.lacks_one)
    ]

pub leaf_from : (s : Progress) (lits : List Lit) → IsGoing s → AreAtRest s → ((a : ℕ) → a < s.trail.atoms → Lacks (literals s.trail.steps) a → ⊥) → lits ≡ reverse (literals s.trail.steps) → All (λ l. l.atom < s.trail.atoms) lits → IsLeafOf s.kernel.query lits
leaf_from s lits g rest full is below =
    let q : Query = s.kernel.query in
    let ls : List Lit = literals s.trail.steps in
    let into : (l : Lit) → Contains ls l → Contains lits l = λ l h. subst (λ (xs : List Lit). Contains xs l) (sym is) (contains_reverse l ls h) in
    let back : (l : Lit) → Contains lits l → Contains ls l = λ l h. back_round ls l (subst (λ (xs : List Lit). Contains xs l) is h) in
    record {
      there = subst (λ (n : ℕ). All (λ l. l.atom < n) lits) g.atoms below;
      plain = λ l here there. fresh_plain s.trail.steps (sound_fresh s.kernel.lines s.trail.steps g.sound) l (back l here) (back (contrary l) there);
      bound = λ a lt some. found a (truth_in ls a) refl (omega (arith, lt, g.atoms)) into;
      clauses = λ k d lt. let any = has_literal s g rest full k d lt in (any.0, any.1, any.2, any.3, into any.1 any.4);
    }
  where
    found : (a : ℕ) (o : Option Bool) → truth_in (literals s.trail.steps) a ≡ o → a < s.trail.atoms → ((l : Lit) → Contains (literals s.trail.steps) l → Contains lits l) → Any (λ l. l.atom ≡ a) lits
    found a None e lt into = absurd (full a lt (truth_lacks (literals s.trail.steps) a e))
    found a (Some b) e lt into =
        let l : Lit = record { atom = a; holds = b } in
        any_at (λ (x : Lit). x.atom ≡ a) lits l (into l (truth_has (literals s.trail.steps) l e)) refl

beq_of : (a b : Bool) → a ≡ b → beq a b ≡ true
beq_of true true e = refl
beq_of true false e = cc
beq_of false true e = cc
beq_of false false e = refl

atom_said : (v : Valuation) (n : ℕ) (holds : Bool) (atom : Atom) → get_or v.flags n false ≡ holds → ((row : _) → row_of atom ≡ Some row → row_holds (numbers_at v.whole) row ≡ holds) → atom_truth (assignment_of v) n atom ≡ holds
atom_said v n holds Free flag row = flag
atom_said v n holds (Bound r) flag row = row r refl

-- each literal of the trail is true
lit_said : (s : Progress) (numbers : List ℤ) (flags : List Bool) → IsGoing s → SatisfiesRows s.kernel (literals s.trail.steps) numbers → All (λ l. get_or flags l.atom false ≡ l.holds) (literals s.trail.steps) → (l : Lit) → Contains (literals s.trail.steps) l → l.atom < length s.kernel.query.atoms → lit_holds s.kernel.query.atoms (assignment_of (record { whole = numbers; flags = flags })) l ≡ true
lit_said s numbers flags g sat said l has lt =
    let q : Query = s.kernel.query in
    let v : Valuation = record { whole = numbers; flags = flags } in
    let F : Lit → Type 0 = λ x. get_or flags x.atom false ≡ x.holds in
    let P : Lit → Type 0 = RowIsAsSaid s.kernel.atoms (numbers_at numbers) in
    let row : P l = All-contains P (literals s.trail.steps) l sat.rows has in
    let same : get_or s.kernel.atoms l.atom Free ≡ get_or q.atoms l.atom Free = sym (get_or-take (length q.atoms) s.kernel.atoms l.atom Free lt) ∙ ap (λ (xs : List Atom). get_or xs l.atom Free) g.begins in
    beq_of (truth_at q.atoms (assignment_of v) l.atom) l.holds
    (atom_said v l.atom l.holds (get_or q.atoms l.atom Free) (All-contains F (literals s.trail.steps) l said has) (λ r e. row r (ap row_of same ∙ e)))

-- an atom without a value, or a literal of each clause
pub next_said : (s : Progress) (next : Option ℕ) → IsGoing s → AreAtRest s → MatchOption next ((a : ℕ) → a < s.trail.atoms → Lacks (literals s.trail.steps) a → ⊥) (λ a. (a < s.trail.atoms) × Lacks (literals s.trail.steps) a) → MatchOption next (AreMet (literals s.trail.steps) s.kernel.query.clauses) (λ a. (a < s.trail.atoms) × Lacks (literals s.trail.steps) a)
next_said s None g rest full = has_literal s g rest full
next_said s (Some a) g rest said = said

pub met_from : (s : Progress) (numbers : List ℤ) (flags : List Bool) → IsGoing s → AreMet (literals s.trail.steps) s.kernel.query.clauses → SatisfiesRows s.kernel (literals s.trail.steps) numbers → length flags ≡ s.trail.atoms → All (λ l. get_or flags l.atom false ≡ l.holds) (literals s.trail.steps) → IsMet s.kernel.query (record { whole = numbers; flags = flags })
met_from s numbers flags g each sat count said =
    let q : Query = s.kernel.query in
    let v : Valuation = record { whole = numbers; flags = flags } in
    record {
      whole = sat.count;
      flags = count ∙ g.atoms;
      meets = λ k d lt.
          let any = each k d lt in
          let B : Lit → Type 0 = λ l. l.atom < length q.atoms in
          let below : any.1.atom < length q.atoms = All-contains B (get_or q.clauses k d).lits any.1 (q.literals k d lt) (any.0, any.2, any.3) in
          list_any-from_Any (lit_holds q.atoms (assignment_of v)) (get_or q.clauses k d).lits (any.0, any.1, any.2, any.3, lit_said s numbers flags g sat said any.1 any.4 below);
    }

-- ---- what is left falls

pub kept_left : (work : ℕ) (before now : Progress) → Keeps before now → left work now ≤ left work before
kept_left work before now k =
    let a : ℕ = now.trail.atoms in
    let Le : ℕ → ℕ → Type 0 = λ f n. (work - length now.facts) * (now.trail.atoms + 1) + (now.trail.atoms - length now.trail.steps) ≤ (work - f) * (n + 1) + (n - length before.trail.steps) in
    subst (λ (f : ℕ). Le f before.trail.atoms) (ap length k.facts) (subst (λ (n : ℕ). Le (length now.facts) n) k.atoms (omega (arith, k.more)))

-- what a round ends with stays true where a part of it went before
pub ends_before : (leaves : Bool) (work : ℕ) (before mid now : Progress) → Keeps before mid → (r : Round) → EndsAs leaves work mid now r → EndsAs leaves work before now r
ends_before leaves work before mid now k Going h =
    let le = kept_left work before mid k in
    record { query = h.query ∙ k.query; going = h.going; ready = h.ready; few = h.few; falls = omega (arith, h.falls, le) }
ends_before leaves work before mid now k (Sat v) h = subst (λ (q : Query). IsMet q v) k.query h
ends_before leaves work before mid now k Unsat h = subst HasNoValuation k.query h
ends_before leaves work before mid now k Spent h = subst (λ (q : Query). IsSpent q work now.facts) k.query h
ends_before leaves work before mid now k (Leaf lits) h = (h.0, subst (λ (q : Query). IsLeafOf q lits) k.query h.1)
