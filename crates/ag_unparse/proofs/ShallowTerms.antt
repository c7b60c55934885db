-- Where the words of an expression break no rule, no level in them passes the limit.
use Rattle.std.proofs.Common.{◌≡◌, ◌≤◌, ℕ, ◌+◌, List, [], ◌∷◌, ◌++◌, Option, Some, Bool, true, false, refl, sym, ap, subst, ◌∙◌}
use Rattle.std.specs.Prelude.{Result, Ok, Err, nat_lt, if◌then◌else◌}
use Rattle.std.proofs.lemmas.Bool.{ltb-false}
use Rattle.ag_base.specs.declared.place.Refusal.{Refusal}
use Rattle.ag_base.specs.declared.place.Rule.TheVariants.{TooDeep, Misplaced}
use Rattle.ag_lex.specs.declared.token.Token.{Token}
use Rattle.ag_aadl.specs.declared.marked.Marked.{Marked}
use Rattle.ag_aadl.specs.Rules.{refused_at}
use Rattle.ag_terms.specs.declared.clauses.Site.{Site}
use Rattle.ag_annex.specs.declared.nesting.Open.{Open}
use Rattle.ag_annex.specs.declared.nesting.Open.TheVariants.{Bracket, Test, Yes, No, Prefix, Chain}
use Rattle.ag_terms.specs.declared.terms.Term.{Term, Number, Truth, Named, Unary', Binary', Choice', Call', Row_of-Term, end_of-Term, more_of-Term}
use Rattle.ag_terms.specs.declared.terms.Unary.TheVariants as unary
use Rattle.ag_annex.specs.Nesting.{behind, levels, most_levels}
use Rattle.ag_annex.specs.Operators.{rank}
use Rattle.ag_annex.specs.Rules.{is_misplaced, opened, run_from}
use Rattle.ag_unparse.specs.Canonical.{path_words, open_word, term_words, argument_words}
use Rattle.ag_unparse.specs.Depth.{Fits, AllFit}
use Rattle.ag_unparse.specs.Layout.{Spelled}
use Rattle.ag_unparse.specs.Spelling.{StandAs}
use Rattle.ag_unparse.proofs.MeaningPlaced.{placed, split}
use Rattle.ag_unparse.proofs.MeaningReads.{at_word, comma_word}
use Rattle.ag_unparse.proofs.MeaningRules.{Runs, run_split, deeper, twice, operator_opens, path_keeps, term_keeps}

-- ---- words that break no rule

-- behind so many levels, no more than the limit, some tokens that the words stand as break no rule
pub record Passes (site : Site) (bytes : List ℕ) (n : ℕ) (opens : List Open) (ws : List Spelled) : Type 0 where
  pub level : levels opens ≡ n
  pub low : n ≤ most_levels
  pub tokens : List Token
  pub stand : StandAs bytes tokens ws
  pub last : List Open
  pub run : run_from site (Ok opens) (placed bytes ws tokens) ≡ Ok last

-- a choice between refusals and what goes on, of which no refusal was taken
goes_on : (site : Site) (b c : Bool) (f g : Refusal) (mid last : List Open) (ms : List Marked) → run_from site (if b then Err f else (if c then Err g else Ok mid)) ms ≡ Ok last
    → (c ≡ false) × (run_from site (Ok mid) ms ≡ Ok last)
goes_on site true c f g mid last ms h = absurd cc
goes_on site false true f g mid last ms h = absurd cc
goes_on site false false f g mid last ms h = (refl, h)

-- behind the first token, and so behind the first word
behind_token : (site : Site) (bytes : List ℕ) (opens mid last : List Open) (w : Spelled) (ws : List Spelled) (n : ℕ) → behind w.mark opens ≡ Some mid → levels mid ≡ n → (ts : List Token) → StandAs bytes ts (w ∷ ws)
    → run_from site (Ok opens) (placed bytes (w ∷ ws) ts) ≡ Ok last → Passes site bytes n mid ws
behind_token site bytes opens mid last w ws n step e [] h r = absurd h
behind_token site bytes opens mid last w ws n step e (t ∷ ts) h r =
    let ms = placed bytes ws ts in
    let on = goes_on site (is_misplaced site w.mark) (nat_lt most_levels (levels mid)) (refused_at Misplaced t) (refused_at TooDeep t) mid last ms
    (ap (λ (z : Option (List Open)). run_from site (if is_misplaced site w.mark then Err (refused_at Misplaced t) else opened (at_word bytes w t) z) ms) (sym step) ∙ r) in
    record { level = e; low = subst (λ (k : ℕ). k ≤ most_levels) e (ltb-false most_levels (levels mid) on.0); tokens = ts; stand = h.2; last = last; run = on.1 }

pub behind_word : {site : Site} {bytes : List ℕ} {n : ℕ} {opens : List Open} {w : Spelled} {ws : List Spelled} → Passes site bytes n opens (w ∷ ws) → (mid : List Open) (k : ℕ) → behind w.mark opens ≡ Some mid → levels mid ≡ k
    → Passes site bytes k mid ws
behind_word {site} {bytes} {n} {opens} {w} {ws} p mid k step e = behind_token site bytes opens mid p.last w ws k step e p.tokens p.stand p.run

reached : (site : Site) (r : Result (List Open) Refusal) (ms : List Marked) (last : List Open) → run_from site r ms ≡ Ok last → (mid : List Open) × (r ≡ Ok mid)
reached site (Err r) ms last h = absurd cc
reached site (Ok mid) ms last h = (mid, refl)

-- the first of two parts, and the second behind a first that leaves open what was open
pub front : {site : Site} {bytes : List ℕ} {n : ℕ} {opens : List Open} (ws vs : List Spelled) → Passes site bytes n opens (ws ++ vs) → Passes site bytes n opens ws
front {site} {bytes} {n} {opens} ws vs p =
    let s = split bytes ws vs p.tokens p.stand in
    let mid = reached site (run_from site (Ok opens) (placed bytes ws s.front)) (placed bytes vs s.rest) p.last (sym (run_split site bytes opens ws vs p.tokens s) ∙ p.run) in
    record { level = p.level; low = p.low; tokens = s.front; stand = s.first; last = mid.0; run = mid.1 }

pub rest : {site : Site} {bytes : List ℕ} {n : ℕ} {opens : List Open} (ws vs : List Spelled) → Runs site bytes opens ws opens → Passes site bytes n opens (ws ++ vs) → Passes site bytes n opens vs
rest {site} {bytes} {n} {opens} ws vs r p =
    let s = split bytes ws vs p.tokens p.stand in
    record {
      level = p.level;
      low = p.low;
      tokens = s.rest;
      stand = s.second;
      last = p.last;
      run = ap (λ (z : Result (List Open) Refusal). run_from site z (placed bytes vs s.rest)) (sym (r s.front s.first)) ∙ (sym (run_split site bytes opens ws vs p.tokens s) ∙ p.run);
    }

-- ---- expressions

-- a `(`
within : {site : Site} {bytes : List ℕ} {n : ℕ} {opens : List Open} {w : Spelled} {ws : List Spelled} → Passes site bytes n opens (w ∷ ws) → behind w.mark opens ≡ Some (Bracket ∷ opens) → Passes site bytes (n + 1) (Bracket ∷ opens) ws
within {site} {bytes} {n} {opens} p step = behind_word p (Bracket ∷ opens) (n + 1) step (deeper opens n p.level)

-- what opens a level behind a `(`
in_two : {site : Site} {bytes : List ℕ} {n : ℕ} {opens : List Open} {w : Spelled} {ws : List Spelled} (o : Open) → levels (o ∷ []) ≡ 1 → behind w.mark (Bracket ∷ opens) ≡ Some (o ∷ Bracket ∷ opens)
    → Passes site bytes n opens (open_word ∷ w ∷ ws) → Passes site bytes (n + 2) (o ∷ Bracket ∷ opens) ws
in_two {site} {bytes} {n} {opens} o one step p = behind_word (within p refl) (o ∷ Bracket ∷ opens) (n + 2) step (twice o opens n one p.level)

mutual
  pub term_fits : {site : Site} {bytes : List ℕ} {opens : List Open} (t : Term) (n : ℕ) → Passes site bytes n opens (term_words t) → Fits n t
  term_fits (Number value place) n p = tt
  term_fits (Truth value place) n p = tt
  term_fits (Named path) n p = tt
  term_fits (Unary' unary.Pre place _ (more_of-Term t end_of-Term)) n p =
      let q = within (behind_word p _ n refl p.level) refl in
      (q.low, term_fits t (n + 1) (front (term_words t) _ q))
  term_fits (Unary' unary.Minus place _ (more_of-Term t end_of-Term)) n p =
      let q = in_two Prefix refl refl p in
      (q.low, term_fits t (n + 2) (front (term_words t) _ q))
  term_fits (Unary' unary.Not place _ (more_of-Term t end_of-Term)) n p =
      let q = in_two Prefix refl refl p in
      (q.low, term_fits t (n + 2) (front (term_words t) _ q))
  term_fits {site} {bytes} {opens} (Binary' op place _ (more_of-Term left end_of-Term) _ (more_of-Term right end_of-Term)) n p =
      let q = within p refl in
      let of_left = term_fits left (n + 1) (front (term_words left) _ q) in
      let chain = Chain (rank op) 1 in
      let r = behind_word (rest (term_words left) _ (term_keeps site bytes left (n + 1) q.low of_left _ q.level) q) (chain ∷ Bracket ∷ opens) (n + 2) (operator_opens op opens) (twice chain opens n refl p.level) in
      (r.low, of_left, term_fits right (n + 2) (front (term_words right) _ r))
  term_fits {site} {bytes} {opens} (Choice' place _ (more_of-Term test end_of-Term) _ (more_of-Term chosen end_of-Term) _ (more_of-Term other end_of-Term)) n p =
      let q = in_two Test refl refl p in
      let of_test = term_fits test (n + 2) (front (term_words test) _ q) in
      let r = behind_word (rest (term_words test) _ (term_keeps site bytes test (n + 2) q.low of_test _ q.level) q) (Yes ∷ Bracket ∷ opens) (n + 2) refl (twice Yes opens n refl p.level) in
      let of_chosen = term_fits chosen (n + 2) (front (term_words chosen) _ r) in
      let s = behind_word (rest (term_words chosen) _ (term_keeps site bytes chosen (n + 2) r.low of_chosen _ r.level) r) (No ∷ Bracket ∷ opens) (n + 2) refl (twice No opens n refl p.level) in
      (q.low, of_test, of_chosen, term_fits other (n + 2) (front (term_words other) _ s))
  term_fits {site} {bytes} (Call' path _ args) n p =
      let q = within (rest (path_words path) _ (path_keeps site bytes n p.low path _ p.level) p) refl in
      (q.low, all_fit args (n + 1) (front (argument_words [] args) _ q))

  all_fit : {site : Site} {bytes : List ℕ} {opens : List Open} {m : _} (row : Row_of-Term m) (n : ℕ) → Passes site bytes n (Bracket ∷ opens) (argument_words [] row) → AllFit n row
  all_fit end_of-Term n p = tt
  all_fit {site} {bytes} (more_of-Term t row) n p =
      let of_first = term_fits t n (front (term_words t) _ p) in
      (of_first, more_fit row n (rest (term_words t) _ (term_keeps site bytes t n p.low of_first _ p.level) p))

  more_fit : {site : Site} {bytes : List ℕ} {opens : List Open} {m : _} (row : Row_of-Term m) (n : ℕ) → Passes site bytes n (Bracket ∷ opens) (argument_words (comma_word ∷ []) row) → AllFit n row
  more_fit end_of-Term n p = tt
  more_fit {site} {bytes} {opens} (more_of-Term t row) n p =
      let q = behind_word p (Bracket ∷ opens) n refl p.level in
      let of_first = term_fits t n (front (term_words t) _ q) in
      (of_first, more_fit row n (rest (term_words t) _ (term_keeps site bytes t n q.low of_first _ q.level) q))
