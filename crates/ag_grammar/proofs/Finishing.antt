-- A reader comes to an end, where no nonterminal begins with itself.
use Rattle.std.proofs.Common.{◌≡◌, ℕ, zero, suc, ◌+◌, ◌<◌, Bool, true, false, not, ◌&&◌, ◌||◌, List, [], ◌∷◌, ◌++◌, ◌⊎◌, length, drop, get_or, Option, Some, None, refl, sym, subst, inl, inr, arith}
use Rattle.std.specs.Prelude.{nat_lt, slice_index_or}
use Rattle.std.specs.List.{list_all}
use Rattle.std.proofs.lemmas.Bool.{cases_lt, cases_order, and_parts, and_from, ltb-true}
use Rattle.ag_grammar.specs.declared.grammar.Symbol.{Symbol}
use Rattle.ag_grammar.specs.declared.grammar.Symbol.TheVariants.{Terminal, Nonterminal}
use Rattle.ag_grammar.specs.declared.grammar.Step.{Step}
use Rattle.ag_grammar.specs.declared.grammar.Step.TheVariants.{Expand, Shift}
use Rattle.ag_grammar.specs.Grammar.{PlainProduction, PlainGrammar, productions_of, IsProductionOf}
use Rattle.ag_grammar.specs.Texts.{IsReading, IsFirstBad, AreForced}
use Rattle.ag_grammar.specs.Deterministic.{next_of, has, chosen, Certificate, may_be_empty, all_empty, IsLl1}
use Rattle.ag_grammar.specs.Founded.{rank_of, begins_lower, are_founded, IsFounded}
use Rattle.ag_grammar.specs.Reading.{IsReached}
use Rattle.ag_grammar.proofs.Sets.{all_at, find_at}
use Rattle.ag_grammar.proofs.Laws.{laws}
use Rattle.ag_grammar.proofs.Reaching.{reached_start, reached_shift, reached_expand, reached_end, refuse_terminal, refuse_nonterminal, refuse_rest, begins, force_shift, force_expand, none_forced, one_more_forced}

-- ---- what the test says

-- one test implies another
implied : (a b : Bool) → (not a || b) ≡ true → a ≡ true → b ≡ true
implied true b h e = h
implied false b h e = absurd cc

-- what the test says of the productions at one position
founded_at : (c : Certificate) (ranks : List ℕ) (n : ℕ) (pss : List (List PlainProduction)) (i : ℕ) → are_founded c ranks n pss ≡ true
    → list_all (λ p. begins_lower c ranks (rank_of ranks (n + i)) p.right) (slice_index_or pss i []) ≡ true
founded_at c ranks n [] i h = refl
founded_at c ranks n (ps ∷ pss) zero h =
    let parts = and_parts (list_all (λ p. begins_lower c ranks (rank_of ranks n) p.right) ps) (are_founded c ranks (suc n) pss) h in
    let same : n ≡ n + 0 = omega arith in
    subst (λ (k : ℕ). list_all (λ p. begins_lower c ranks (rank_of ranks k) p.right) ps ≡ true) same parts.0
founded_at c ranks n (ps ∷ pss) (suc i) h =
    let parts = and_parts (list_all (λ p. begins_lower c ranks (rank_of ranks n) p.right) ps) (are_founded c ranks (suc n) pss) h in
    let same : suc n + i ≡ n + suc i = omega arith in
    subst (λ (k : ℕ). list_all (λ p. begins_lower c ranks (rank_of ranks k) p.right) (slice_index_or pss i []) ≡ true) same (founded_at c ranks (suc n) pss i parts.1)

-- a production begins with nonterminals of lower rank alone
lower_right : (g : PlainGrammar) (f : IsFounded g) (n : ℕ) (p : PlainProduction) → IsProductionOf g n p → begins_lower f.0 f.1 (rank_of f.1 n) p.right ≡ true
lower_right g f n p is =
    let same : 0 + n ≡ n = omega arith in
    let here = subst (λ (k : ℕ). list_all (λ q. begins_lower f.0 f.1 (rank_of f.1 k) q.right) (productions_of g n) ≡ true) same (founded_at f.0 f.1 0 g.nonterminals n f.3) in
    all_at (λ q. begins_lower f.0 f.1 (rank_of f.1 n) q.right) (productions_of g n) is.0 p here is.1

-- where its whole right side may be empty, its nonterminal may
empty_right : (g : PlainGrammar) (f : IsFounded g) (n : ℕ) (p : PlainProduction) → IsProductionOf g n p → all_empty f.0 p.right ≡ true → may_be_empty f.0 n ≡ true
empty_right g f n p is e = ((laws g f.0 f.2).productions n p is).empty e

-- ---- one step

-- the terminals are derived, or they fail, and each step up to there is forced
abbrev pub IsRead : PlainGrammar → List ℕ → Type 0
IsRead g xs = (steps : List Step) × (bad : Option ℕ) × IsReading g xs steps bad × AreForced g xs steps

-- a reader stands here, and each of its steps was forced
record Stands (g : PlainGrammar) (xs : List ℕ) (at : ℕ) (symbols : List Symbol) : Type 0 where
  pub steps : List Step
  pub reached : IsReached g xs at steps symbols
  pub forced : AreForced g xs steps

-- it stands behind this place
record Moved (g : PlainGrammar) (xs : List ℕ) (at : ℕ) : Type 0 where
  pub next : ℕ
  pub up : at < next
  pub symbols : List Symbol
  pub stands : Stands g xs next symbols

-- a production has taken its nonterminal's place
record Opened (g : PlainGrammar) (xs : List ℕ) (at n : ℕ) (symbols : List Symbol) : Type 0 where
  pub production : PlainProduction
  pub is : IsProductionOf g n production
  pub stands : Stands g xs at (production.right ++ symbols)

-- symbols that may be empty came to nothing
record Vanished (g : PlainGrammar) (xs : List ℕ) (at : ℕ) (empty : Bool) (symbols : List Symbol) : Type 0 where
  pub may : empty ≡ true
  pub stands : Stands g xs at symbols

-- what symbols come to that others stand behind
abbrev Comes : PlainGrammar → List ℕ → ℕ → Bool → List Symbol → Type 0
Comes g xs at empty symbols = IsRead g xs ⊎ (Moved g xs at ⊎ Vanished g xs at empty symbols)

-- the terminals fail here
failed : (g : PlainGrammar) → IsLl1 g → (xs : List ℕ) (at : ℕ) (symbols : List Symbol) → Stands g xs at symbols → IsFirstBad g xs at → IsRead g xs
failed g ll1 xs at symbols s bad = (s.steps, Some at, (sym s.reached.count, begins g ll1 xs at s.steps symbols s.reached, bad), s.forced)

-- the terminal that is next is the one that has to be, and is shifted
shift : (g : PlainGrammar) → IsLl1 g → (xs : List ℕ) (at t mark : ℕ) (symbols : List Symbol) → Stands g xs at (Terminal t mark ∷ symbols) → at < length xs → get_or xs at 0 ≡ t → Moved g xs at
shift g ll1 xs at t mark symbols s lt same = record {
  next = at + 1;
  up = omega arith;
  symbols = symbols;
  stands = record {
    steps = s.steps ++ Shift mark ∷ [];
    reached = reached_shift g xs at s.steps t mark symbols s.reached lt same;
    forced = one_more_forced g xs s.steps (Shift mark) s.forced (force_shift g ll1 xs at s.steps t mark symbols s.reached lt);
  };
}

-- it isn't that one
not_it : (g : PlainGrammar) → IsLl1 g → (xs : List ℕ) (at t mark : ℕ) (symbols : List Symbol) → Stands g xs at (Terminal t mark ∷ symbols) → (at < length xs → get_or xs at 0 ≡ t → ⊥) → IsRead g xs
not_it g ll1 xs at t mark symbols s differs = failed g ll1 xs at (Terminal t mark ∷ symbols) s (refuse_terminal g ll1 xs at s.steps t mark symbols s.reached differs)

-- what a terminal comes to
at_terminal : (g : PlainGrammar) → IsLl1 g → (xs : List ℕ) (at t mark : ℕ) (symbols : List Symbol) → Stands g xs at (Terminal t mark ∷ symbols) → IsRead g xs ⊎ Moved g xs at
at_terminal g ll1 xs at t mark symbols s =
    elim (cases_lt at (length xs)) [
      | inr end ↦ inl (not_it g ll1 xs at t mark symbols s (λ lt e. omega arith))
      | inl lt ↦ elim (cases_order (get_or xs at 0) t) [
        | inl same ↦ inr (shift g ll1 xs at t mark symbols s lt same)
        | inr differ ↦ elim differ [
          | inl less ↦ inl (not_it g ll1 xs at t mark symbols s (λ h e. omega arith))
          | inr more ↦ inl (not_it g ll1 xs at t mark symbols s (λ h e. omega arith))
        ]
      ]
    ]

-- what a nonterminal comes to, by the production that is chosen
open_by : (g : PlainGrammar) → IsLl1 g → (xs : List ℕ) (at n : ℕ) (symbols : List Symbol) → Stands g xs at (Nonterminal n ∷ symbols) → (o : Option PlainProduction) → chosen g n (next_of (drop at xs)) ≡ o → IsRead g xs ⊎ Opened g xs at n symbols
open_by g ll1 xs at n symbols s None e = inl (failed g ll1 xs at (Nonterminal n ∷ symbols) s (refuse_nonterminal g ll1 xs at s.steps n symbols s.reached e))
open_by g ll1 xs at n symbols s (Some p) e =
    let is = find_at (λ q. has q.ahead (next_of (drop at xs))) (productions_of g n) p e in
    inr (record {
      production = p;
      is = is;
      stands = record {
        steps = s.steps ++ Expand p.name ∷ [];
        reached = reached_expand g ll1 xs at s.steps n p symbols s.reached is e;
        forced = one_more_forced g xs s.steps (Expand p.name) s.forced (force_expand g ll1 xs at s.steps n p symbols s.reached e);
      };
    })

-- it is opened, or no production is chosen
at_nonterminal : (g : PlainGrammar) → IsLl1 g → (xs : List ℕ) (at n : ℕ) (symbols : List Symbol) → Stands g xs at (Nonterminal n ∷ symbols) → IsRead g xs ⊎ Opened g xs at n symbols
at_nonterminal g ll1 xs at n symbols s = open_by g ll1 xs at n symbols s (chosen g n (next_of (drop at xs))) refl

-- ---- at one terminal

-- one terminal ahead tells which production to take
abbrev pub ll1_of : (g : PlainGrammar) → IsFounded g → IsLl1 g
ll1_of g f = (f.0, f.2)

-- nonterminals of lower rank come to something
abbrev ComeBelow : (g : PlainGrammar) → IsFounded g → List ℕ → ℕ → ℕ → Type 0
ComeBelow g f xs at rank = (m : ℕ) (symbols : List Symbol) → rank_of f.1 m < rank → Stands g xs at (Nonterminal m ∷ symbols) → Comes g xs at (may_be_empty f.0 m) symbols

-- what vanished, behind another that did
both_vanished : (g : PlainGrammar) (xs : List ℕ) (at : ℕ) (one others : Bool) (symbols : List Symbol) → one ≡ true → Comes g xs at others symbols → Comes g xs at (one && others) symbols
both_vanished g xs at one others symbols e (inl read) = inl read
both_vanished g xs at one others symbols e (inr (inl moved)) = inr (inl moved)
both_vanished g xs at one others symbols e (inr (inr gone)) = inr (inr (record { may = and_from one others e gone.may; stands = gone.stands }))

-- a right side, symbol by symbol
along : (g : PlainGrammar) (f : IsFounded g) (xs : List ℕ) (at rank : ℕ) → ComeBelow g f xs at rank → (right symbols : List Symbol) → begins_lower f.0 f.1 rank right ≡ true
    → Stands g xs at (right ++ symbols) → Comes g xs at (all_empty f.0 right) symbols
along g f xs at rank below [] symbols h s = inr (inr (record { may = refl; stands = s }))
along g f xs at rank below (Terminal t mark ∷ right) symbols h s =
    elim (at_terminal g (ll1_of g f) xs at t mark (right ++ symbols) s) [ inl read ↦ inl read | inr moved ↦ inr (inl moved) ]
along g f xs at rank below (Nonterminal m ∷ right) symbols h s =
    let rest = begins_lower f.0 f.1 rank right in
    let parts = and_parts (nat_lt (rank_of f.1 m) rank) (not (may_be_empty f.0 m) || rest) h in
    elim (below m (right ++ symbols) (ltb-true (rank_of f.1 m) rank parts.0) s) [
      | inl read ↦ inl read
      | inr on ↦ elim on [
        | inl moved ↦ inr (inl moved)
        | inr gone ↦
            both_vanished g xs at (may_be_empty f.0 m) (all_empty f.0 right) symbols gone.may
            (along g f xs at rank below right symbols (implied (may_be_empty f.0 m) rest parts.1 gone.may) gone.stands)
      ]
    ]

-- a nonterminal of a rank below this
come_below : (g : PlainGrammar) (f : IsFounded g) (xs : List ℕ) (at rank : ℕ) → ComeBelow g f xs at rank
come_below g f xs at zero n symbols h s = absurd (omega arith)
come_below g f xs at (suc rank) n symbols h s =
    let mine = rank_of f.1 n in
    let below : ComeBelow g f xs at mine = λ m others lower there. come_below g f xs at rank m others (omega arith) there in
    elim (at_nonterminal g (ll1_of g f) xs at n symbols s) [
      | inl read ↦ inl read
      | inr o ↦ elim (along g f xs at mine below o.production.right symbols (lower_right g f n o.production o.is) o.stands) [
        | inl read ↦ inl read
        | inr on ↦ elim on [
          | inl moved ↦ inr (inl moved)
          | inr gone ↦ inr (inr (record { may = empty_right g f n o.production o.is gone.may; stands = gone.stands }))
        ]
      ]
    ]

-- ---- from terminal to terminal

-- what is left, symbol by symbol, where a reader behind this place comes to its end
through : (g : PlainGrammar) (f : IsFounded g) (xs : List ℕ) (at : ℕ) → (Moved g xs at → IsRead g xs) → (symbols : List Symbol) → Stands g xs at symbols → IsRead g xs
through g f xs at later [] s =
    elim (cases_lt at (length xs)) [
      | inl lt ↦ failed g (ll1_of g f) xs at [] s (refuse_rest g (ll1_of g f) xs at s.steps s.reached lt)
      | inr end ↦ (s.steps, None, reached_end g xs at s.steps s.reached end, s.forced)
    ]
through g f xs at later (Terminal t mark ∷ symbols) s = elim (at_terminal g (ll1_of g f) xs at t mark symbols s) [ inl read ↦ read | inr moved ↦ later moved ]
through g f xs at later (Nonterminal n ∷ symbols) s =
    elim (come_below g f xs at (suc (rank_of f.1 n)) n symbols (omega arith) s) [
      | inl read ↦ read
      | inr on ↦ elim on [ inl moved ↦ later moved | inr gone ↦ through g f xs at later symbols gone.stands ]
    ]

-- a reader comes to its end, by how many terminals are left
finish : (g : PlainGrammar) (f : IsFounded g) (xs : List ℕ) (left at : ℕ) (symbols : List Symbol) → length xs < at + left → Stands g xs at symbols → IsRead g xs
finish g f xs zero at symbols h s = let within = s.reached.within in absurd (omega arith)
finish g f xs (suc left) at symbols h s = through g f xs at (λ moved. let up = moved.up in finish g f xs left moved.next moved.symbols (omega arith) moved.stands) symbols s

-- from the start on
pub one_of_the_two : (g : PlainGrammar) → IsFounded g → (xs : List ℕ) → IsRead g xs
one_of_the_two g f xs = finish g f xs (suc (length xs)) 0 (Nonterminal g.start ∷ []) (omega arith) (record { steps = []; reached = reached_start g xs; forced = none_forced g xs })
