-- The clauses of a query are listed, and a search begins.
use Rattle.std.proofs.Common.{◌≡◌, ◌⊎◌, inl, inr, ℕ, ◌+◌, ◌*◌, ◌<◌, List, [], ◌∷◌, ◌++◌, length, get_or, map, None, Vec, Global, refl, sym, ap, subst, ◌∙◌, arith, All, Contains}
use Rattle.std.specs.List.{range_with_len}
use Rattle.std.specs.Option.{is_some}
use Rattle.std.proofs.Common.{false}
use Rattle.std.proofs.lemmas.List.{append-nil, get_or_default, get_or-map, length-map, map-id, take_all}
use Rattle.std.proofs.lemmas.List.FromFn.{length-range_with_len, get_or-range_with_len, map-range_with_len_more}
use Rattle.std.proofs.lemmas.List.Elements.{All-nil, Contains-get_or}
use Rattle.std.proofs.lemmas.Bool.{cases_eq}
use Rattle.ag_query.specs.declared.clauses.Lit.{Lit}
use Rattle.ag_query.specs.declared.clauses.LClause.{LClause}
use Rattle.ag_query.specs.declared.query.Query.{Query}
use Rattle.ag_query.specs.Meaning.{contrary}
use Rattle.ag_kernel.specs.declared.line.Line.{Line}
use Rattle.ag_kernel.specs.State.{State}
use Rattle.ag_kernel.specs.Rules.{line_at, clause_line}
use Rattle.ag_tree.specs.declared.rounds.Progress.{Progress}
use Rattle.ag_tree.specs.declared.choices.Guide.{Guide}
use Rattle.ag_tree.specs.Facts.{HasNoneBothWays}
use Rattle.ag_tree.specs.Trail.{Seen, IsSettled}
use Rattle.ag_tree.specs.Going.{IsClauseLine, IsListed, IsCovered, IsAmong, IsGoing, IsReady}
use Rattle.ag_tree.specs.Listing.{listed}
use Rattle.ag_tree.proofs.Covering.{covers_self}
use Rattle.ag_tree.proofs.Listing.{IsAdded}

-- the first clauses are listed
pub record AreListedTo (clauses : List LClause) (before now : List (List ℕ)) (numbers : List ℕ) (upto : ℕ) : Type 0 where
  pub numbered : numbers ≡ range_with_len 0 upto
  pub slots : length now ≡ length before
  pub only : (l : Lit) (n : ℕ) → Contains (listed now l) n → n < upto
  pub under : (k : ℕ) (c : LClause) → k < upto → get_or clauses k c ≡ c → All (λ l. Contains (listed now (contrary l)) k) c.lits

pub range_more : (n : ℕ) → range_with_len 0 (n + 1) ≡ range_with_len 0 n ++ n ∷ []
range_more n =
    sym (map-id (range_with_len 0 (n + 1))) ∙ map-range_with_len_more (λ (x : ℕ). x) 0 n n (omega arith) ∙ ap (λ (ns : List ℕ). ns ++ n ∷ []) (map-id (range_with_len 0 n))

pub listed_to_more : (clauses : List LClause) (before mid now : List (List ℕ)) (numbers more : List ℕ) (i number : ℕ) (c : LClause) → AreListedTo clauses before mid numbers i → i < length clauses → c ≡ get_or clauses i c → number ≡ length numbers → IsAdded mid now c.lits number → more ≡ numbers ++ number ∷ [] → AreListedTo clauses before now more (i + 1)
listed_to_more clauses before mid now numbers more i number c so lt at named added is =
    let n : number ≡ i = named ∙ ap length so.numbered ∙ length-range_with_len 0 i in
    record {
      numbered = is ∙ ap (λ (xs : List ℕ). xs ++ number ∷ []) so.numbered ∙ ap (λ (k : ℕ). range_with_len 0 i ++ k ∷ []) n ∙ sym (range_more i);
      slots = added.slots ∙ so.slots;
      only = λ l k h. elim (added.only l k h) [
        | inl old ↦ let lower : k < i = so.only l k old in omega (arith, lower)
        | inr e ↦ omega (arith, e, n)
      ];
      under = λ k x low there.
          elim (cases_eq k i) [
            | inl same ↦
                let is_c : c ≡ x = at ∙ get_or_default clauses i c x lt ∙ ap (λ (j : ℕ). get_or clauses j x) (sym same) ∙ there in
                let U : LClause → ℕ → Type 0 = λ y m. All (λ l. Contains (listed now (contrary l)) m) y.lits in
                subst (λ (m : ℕ). U x m) (n ∙ sym same) (subst (λ (y : LClause). U y number) is_c added.under)
            | inr ne ↦
                λ j d in'. added.kept (contrary (get_or x.lits j d)) k (so.under k x (omega (arith, low, ne)) there j d in')
          ];
    }

-- ---- the beginning

first : Query → State
first query = record { query = query; atoms = query.atoms; lines = map clause_line query.clauses }

line_of : (query : Query) (n : ℕ) → n < length query.clauses → line_at (map clause_line query.clauses) n ≡ clause_line (get_or query.clauses n (record { lits = [] }))
line_of query n lt = get_or-map clause_line query.clauses n (record { lits = [] }) (record { lits = []; row = None }) lt

first_line : (query : Query) (n : ℕ) → All (λ c. HasNoneBothWays c.lits) query.clauses → n < length query.clauses → IsClauseLine (map clause_line query.clauses) (length query.atoms) n
first_line query n plain lt =
    let c : LClause = get_or query.clauses n (record { lits = [] }) in
    let e : clause_line c ≡ line_at (map clause_line query.clauses) n = sym (line_of query n lt) in
    record {
      there = omega (arith, lt, length-map query.clauses clause_line);
      no_row = subst (λ (x : Line). is_some x.row ≡ false) e refl;
      below = subst (λ (x : Line). All (λ l. l.atom < length query.atoms) x.lits) e (query.literals n (record { lits = [] }) lt);
      plain = subst (λ (x : Line). HasNoneBothWays x.lits) e (plain n (record { lits = [] }) lt);
    }

begun_lists : (query : Query) (lists : List (List ℕ)) → ((k : ℕ) (c : LClause) → k < length query.clauses → get_or query.clauses k c ≡ c → All (λ l. Contains (listed lists (contrary l)) k) c.lits) → All (λ c. IsListed (map clause_line query.clauses) lists c.lits) query.clauses
begun_lists query lists under k c lt =
    let d : LClause = record { lits = [] } in
    let x : LClause = get_or query.clauses k c in
    record {
      number = k;
      there = omega (arith, lt, length-map query.clauses clause_line);
      is_line = ap (λ (y : Line). y.lits) (line_of query k lt) ∙ ap (λ (y : LClause). y.lits) (get_or_default query.clauses k d c lt);
      under = under k x lt (get_or_default query.clauses k x c lt);
    }

begun_among : (query : Query) (numbers : List ℕ) → numbers ≡ range_with_len 0 (length query.clauses) → All (λ c. IsAmong (map clause_line query.clauses) numbers c.lits) query.clauses
begun_among query numbers is k c lt =
    let n : ℕ = length query.clauses in
    let d : LClause = record { lits = [] } in
    let there : Contains (range_with_len 0 n) k = (k, omega (arith, lt, length-range_with_len 0 n), get_or-range_with_len 0 n k k lt ∙ omega arith) in
    record {
      number = k;
      has = subst (λ (ns : List ℕ). Contains ns k) (sym is) there;
      is_line = ap (λ (y : Line). y.lits) (line_of query k lt) ∙ ap (λ (y : LClause). y.lits) (get_or_default query.clauses k d c lt);
    }

begun_unseen : (query : Query) (numbers : List ℕ) → All (λ c. HasNoneBothWays c.lits) query.clauses → numbers ≡ range_with_len 0 (length query.clauses) → All (IsClauseLine (map clause_line query.clauses) (length query.atoms)) numbers
begun_unseen query numbers plain is =
    let n : ℕ = length query.clauses in
    let P : ℕ → Type 0 = IsClauseLine (map clause_line query.clauses) (length query.atoms) in
    subst (λ (ns : List ℕ). All P ns) (sym is) (λ k d lt.
    let low : k < n = omega (arith, lt, length-range_with_len 0 n) in
    subst P (sym (get_or-range_with_len 0 n k d low ∙ omega arith)) (first_line query k plain low))

pub started_going : (query : Query) (k : State) (lists : List (List ℕ)) (t : Seen) (facts : List LClause) (recent unseen : Vec ℕ Global) (guide : Guide) → All (λ c. HasNoneBothWays c.lits) query.clauses → k ≡ record { query = query; atoms = query.atoms; lines = map clause_line query.clauses } → t ≡ record { atoms = length query.atoms; steps = [] } → facts ≡ [] → length lists ≡ 2 * length query.atoms → ((l : Lit) (n : ℕ) → Contains (listed lists l) n → n < length query.clauses) → ((k : ℕ) (c : LClause) → k < length query.clauses → get_or query.clauses k c ≡ c → All (λ l. Contains (listed lists (contrary l)) k) c.lits) → recent.items ≡ [] → unseen.items ≡ range_with_len 0 (length query.clauses) → IsGoing (record { kernel = k; occurrences = lists; listed = recent; trail = t; facts = facts; literals = 0; head = 0; unseen = unseen; asked = 0; guide = guide })
unfolding first
started_going query k lists t facts recent unseen guide plain of at none slots only under empty is =
    let lines : List Line = map clause_line query.clauses in
    let M : List LClause → LClause → Type 0 = λ cs c. IsCovered lines lists cs c.lits in
    let P : State → Seen → List LClause → Progress = λ x y z. record { kernel = x; occurrences = lists; listed = recent; trail = y; facts = z; literals = 0; head = 0; unseen = unseen; asked = 0; guide = guide } in
    let here : IsGoing (P (first query) (record { atoms = length query.atoms; steps = [] }) []) = record {
      begins = take_all (length query.atoms) query.atoms (omega arith);
      atoms = refl;
      sound = tt;
      rests = tt;
      kept = tt;
      counted = refl;
      few = omega arith;
      slots = slots;
      lists = λ l n h. first_line query n plain (only l n h);
      covered = subst (λ (cs : List LClause). All (M cs) cs) (sym (append-nil query.clauses))
          (λ n c lt. covers_self lines lists query.clauses (get_or query.clauses n c) (Contains-get_or query.clauses n c lt) (begun_lists query lists under n c lt));
      listed = subst (λ (ns : List ℕ). All (IsClauseLine lines (length query.atoms)) ns) (sym empty) (All-nil (IsClauseLine lines (length query.atoms)));
      unseen = begun_unseen query unseen.items plain is;
    } in
    subst (λ (x : State). IsGoing (P x t facts)) (sym of)
    (subst (λ (y : Seen). IsGoing (P (first query) y facts)) (sym at)
    (subst (λ (z : List LClause). IsGoing (P (first query) (record { atoms = length query.atoms; steps = [] }) z)) (sym none) here))

pub started_ready : (query : Query) (k : State) (lists : List (List ℕ)) (t : Seen) (facts : List LClause) (recent unseen : Vec ℕ Global) (guide : Guide) → k ≡ record { query = query; atoms = query.atoms; lines = map clause_line query.clauses } → facts ≡ [] → unseen.items ≡ range_with_len 0 (length query.clauses) → IsReady (record { kernel = k; occurrences = lists; listed = recent; trail = t; facts = facts; literals = 0; head = 0; unseen = unseen; asked = 0; guide = guide })
unfolding first
started_ready query k lists t facts recent unseen guide of none is =
    let P : State → List LClause → Progress = λ x z. record { kernel = x; occurrences = lists; listed = recent; trail = t; facts = z; literals = 0; head = 0; unseen = unseen; asked = 0; guide = guide } in
    let lines : List Line = map clause_line query.clauses in
    let A : LClause → Type 0 = λ c. IsSettled 0 t.steps c.lits ⊎ IsAmong lines unseen.items c.lits in
    let here : IsReady (P (first query) []) = record {
      head = omega arith;
      settled = subst (λ (cs : List LClause). All A cs) (sym (append-nil query.clauses)) (λ k c lt. inr (begun_among query unseen.items is k c lt));
    } in
    subst (λ (x : State). IsReady (P x facts)) (sym of) (subst (λ (z : List LClause). IsReady (P (first query) z)) (sym none) here)
