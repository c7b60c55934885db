-- The words of an expression break no rule, and leave open what was open before them.
use Rattle.std.proofs.Common.{◌≡◌, ◌≤◌, ℕ, ◌+◌, Bool, true, false, ◌||◌, ◌==◌, List, [], ◌∷◌, ◌++◌, Option, Some, None, refl, ap, ◌∙◌, codes, arith}
use Rattle.std.specs.Prelude.{Result, Ok, Err, if◌then◌else◌}
use Rattle.std.proofs.lemmas.Bool.{le-ltb}
use Rattle.ag_base.specs.declared.place.Refusal.{Refusal}
use Rattle.ag_base.specs.declared.place.Rule.TheVariants.{TooDeep, Misplaced}
use Rattle.ag_lex.specs.declared.token.Token.{Token}
use Rattle.ag_aadl.specs.declared.marked.Marked.{Marked}
use Rattle.ag_terms.specs.declared.names.Ident.{Ident}
use Rattle.ag_terms.specs.declared.names.Path.{Path}
use Rattle.ag_aadl.specs.Rules.{refused_at}
use Rattle.ag_terms.specs.declared.clauses.Site.{Site}
use Rattle.ag_terms.specs.declared.clauses.Site.TheVariants.{Library, Frame, Body}
use Rattle.ag_annex.specs.declared.nesting.Open.{Open}
use Rattle.ag_annex.specs.declared.nesting.Open.TheVariants.{Bracket, Test, Yes, No, Prefix, Chain}
use Rattle.ag_terms.specs.declared.terms.Binary.{Binary}
use Rattle.ag_terms.specs.declared.terms.Binary.TheVariants.{Arrow, Implies, Iff, Or, And, Less, AtMost, More, AtLeast, Same, Differs, Plus, Minus, Times, Div, Mod}
use Rattle.ag_terms.specs.declared.terms.Term.{Term, Number, Truth, Named, Unary', Binary', Choice', Call', Row_of-Term, end_of-Term, more_of-Term}
use Rattle.ag_terms.specs.declared.terms.Unary.TheVariants as unary
use Rattle.ag_annex.specs.Marks.{negative_mark, not_mark, pre_mark, if_mark, then_mark, else_mark, operand_mark, call_mark, assume_mark, guarantee_mark, lemma_mark, eq_mark, assign_mark}
use Rattle.ag_annex.specs.Nesting.{behind, levels, most_levels}
use Rattle.ag_annex.specs.Operators.{rank}
use Rattle.ag_annex.specs.Rules.{is_misplaced, opened, obey, run_from}
use Rattle.ag_unparse.specs.Canonical.{name_at, sign_at, number_word, truth_word, more_part_words, part_words, package_parts, body_words, path_words, binary_word, open_word, close_word, term_words, argument_words}
use Rattle.ag_unparse.specs.Depth.{Fits, AllFit}
use Rattle.ag_unparse.specs.Layout.{Spelled}
use Rattle.ag_unparse.specs.Spelling.{StandAs}
use Rattle.ag_unparse.proofs.MeaningPlaced.{placed, Split, split, placed_join}
use Rattle.ag_unparse.proofs.MeaningReads.{at_word, comma_word}

-- ---- runs

-- behind the words, wherever they stand, this is open
abbrev pub Runs : Site → List ℕ → List Open → List Spelled → List Open → Type 0
Runs site bytes opens ws last = (ts : List Token) → StandAs bytes ts ws → run_from site (Ok opens) (placed bytes ws ts) ≡ Ok last

pub runs_nothing : (site : Site) (bytes : List ℕ) (opens : List Open) → Runs site bytes opens [] opens
runs_nothing site bytes opens ts h = refl

run_join : (site : Site) (r : Result (List Open) Refusal) (a b : List Marked) → run_from site r (a ++ b) ≡ run_from site (run_from site r a) b
run_join site (Err r) a b = refl
run_join site (Ok opens) [] b = refl
run_join site (Ok opens) (m ∷ a) b = run_join site (obey site opens m) a b

-- words behind words, taken apart
pub run_split : (site : Site) (bytes : List ℕ) (opens : List Open) (ws vs : List Spelled) (ts : List Token) (s : Split bytes ts ws vs)
    → run_from site (Ok opens) (placed bytes (ws ++ vs) ts) ≡ run_from site (run_from site (Ok opens) (placed bytes ws s.front)) (placed bytes vs s.rest)
run_split site bytes opens ws vs ts s =
    ap (λ (z : List Token). run_from site (Ok opens) (placed bytes (ws ++ vs) z)) s.whole
    ∙ ap (run_from site (Ok opens)) (placed_join bytes ws vs s.front s.rest s.first)
    ∙ run_join site (Ok opens) (placed bytes ws s.front) (placed bytes vs s.rest)

-- words behind words
pub runs_join : (site : Site) (bytes : List ℕ) (opens mid last : List Open) (ws vs : List Spelled) → Runs site bytes opens ws mid → Runs site bytes mid vs last → Runs site bytes opens (ws ++ vs) last
runs_join site bytes opens mid last ws vs r q ts h =
    let s = split bytes ws vs ts h in
    run_split site bytes opens ws vs ts s
    ∙ ap (λ (z : Result (List Open) Refusal). run_from site z (placed bytes vs s.rest)) (r s.front s.first)
    ∙ q s.rest s.second

-- what may stand in each annex
weaker : (a b c d e : Bool) → (a || (b || (c || (d || e)))) ≡ false → ((c || e) ≡ false) × ((a || b) ≡ false)
weaker true b c d e h = absurd cc
weaker false true c d e h = absurd cc
weaker false false true d e h = absurd cc
weaker false false false true e h = absurd cc
weaker false false false false e h = (h, refl)

pub well_placed : (site : Site) (k : ℕ) → is_misplaced Library k ≡ false → is_misplaced site k ≡ false
well_placed Library k h = h
well_placed Frame k h = (weaker (k == assume_mark) (k == guarantee_mark) (k == lemma_mark) (k == eq_mark) (k == assign_mark) h).0
well_placed Body k h = (weaker (k == assume_mark) (k == guarantee_mark) (k == lemma_mark) (k == eq_mark) (k == assign_mark) h).1

-- a word before words
pub runs_word : (site : Site) (bytes : List ℕ) (opens mid last : List Open) (w : Spelled) (ws : List Spelled) → is_misplaced site w.mark ≡ false → behind w.mark opens ≡ Some mid → levels mid ≤ most_levels
    → Runs site bytes mid ws last → Runs site bytes opens (w ∷ ws) last
runs_word site bytes opens mid last w ws free step shallow r [] h = absurd h
runs_word site bytes opens mid last w ws free step shallow r (t ∷ ts) h =
    let m = at_word bytes w t in
    ap (λ (c : Bool). run_from site (if c then Err (refused_at Misplaced t) else opened m (behind w.mark opens)) (placed bytes ws ts)) free
    ∙ ap (λ (z : Option (List Open)). run_from site (opened m z) (placed bytes ws ts)) step
    ∙ ap (λ (c : Bool). run_from site (if c then Err (refused_at TooDeep t) else Ok mid) (placed bytes ws ts)) (le-ltb most_levels (levels mid) shallow)
    ∙ r ts h.2

-- a word that may stand everywhere
inner : (site : Site) (bytes : List ℕ) (opens mid last : List Open) (w : Spelled) (ws : List Spelled) → is_misplaced Library w.mark ≡ false → behind w.mark opens ≡ Some mid → levels mid ≤ most_levels
    → Runs site bytes mid ws last → Runs site bytes opens (w ∷ ws) last
inner site bytes opens mid last w ws free step shallow r = runs_word site bytes opens mid last w ws (well_placed site w.mark free) step shallow r

-- ---- expressions

-- behind so many levels the words leave open what was open
abbrev pub Keeps : Site → List ℕ → ℕ → List Spelled → Type 0
Keeps site bytes n ws = (opens : List Open) → levels opens ≡ n → Runs site bytes opens ws opens

pub deeper : (opens : List Open) (n : ℕ) → levels opens ≡ n → levels (Bracket ∷ opens) ≡ n + 1
deeper opens n e = omega arith

pub twice : (o : Open) (opens : List Open) (n : ℕ) → levels (o ∷ []) ≡ 1 → levels opens ≡ n → levels (o ∷ Bracket ∷ opens) ≡ n + 2
twice o opens n d e = omega arith

most : (opens : List Open) (n k : ℕ) → levels opens ≡ n → n ≤ k → k ≤ most_levels → levels opens ≤ most_levels
most opens n k e h g = omega arith

one_word : (site : Site) (bytes : List ℕ) (n : ℕ) (w : Spelled) → n ≤ most_levels → is_misplaced Library w.mark ≡ false → ((opens : List Open) → behind w.mark opens ≡ Some opens) → Keeps site bytes n (w ∷ [])
one_word site bytes n w fits free step opens e = inner site bytes opens opens opens w [] free (step opens) (most opens n n e (omega arith) fits) (runs_nothing site bytes opens)

more_parts_keep : (site : Site) (bytes : List ℕ) (n : ℕ) → n ≤ most_levels → (ps : List (List ℕ)) → Keeps site bytes n (more_part_words ps)
more_parts_keep site bytes n fits [] opens e = runs_nothing site bytes opens
more_parts_keep site bytes n fits (p ∷ ps) opens e =
    let low = most opens n n e (omega arith) fits in
    inner site bytes opens opens opens _ _ refl refl low (inner site bytes opens opens opens _ _ refl refl low (more_parts_keep site bytes n fits ps opens e))

parts_keep : (site : Site) (bytes : List ℕ) (n : ℕ) → n ≤ most_levels → (ps : List (List ℕ)) → Keeps site bytes n (part_words ps)
parts_keep site bytes n fits [] opens e = runs_nothing site bytes opens
parts_keep site bytes n fits (p ∷ ps) opens e = inner site bytes opens opens opens _ _ refl refl (most opens n n e (omega arith) fits) (more_parts_keep site bytes n fits ps opens e)

body_keeps : (site : Site) (bytes : List ℕ) (n : ℕ) → n ≤ most_levels → (o : Option Ident) → Keeps site bytes n (body_words o)
body_keeps site bytes n fits None opens e = runs_nothing site bytes opens
body_keeps site bytes n fits (Some i) opens e =
    let low = most opens n n e (omega arith) fits in
    inner site bytes opens opens opens _ _ refl refl low (inner site bytes opens opens opens _ _ refl refl low (runs_nothing site bytes opens))

pub path_keeps : (site : Site) (bytes : List ℕ) (n : ℕ) → n ≤ most_levels → (p : Path) → Keeps site bytes n (path_words p)
path_keeps site bytes n fits p opens e =
    let parts = part_words (package_parts p.«package» ++ p.name.text ∷ []) in
    runs_join site bytes opens opens opens parts (body_words p.body) (parts_keep site bytes n fits (package_parts p.«package» ++ p.name.text ∷ []) opens e) (body_keeps site bytes n fits p.body opens e)

truth_keeps : (site : Site) (bytes : List ℕ) (n : ℕ) → n ≤ most_levels → (value : Bool) → Keeps site bytes n (truth_word value ∷ [])
truth_keeps site bytes n fits true = one_word site bytes n (truth_word true) fits refl (λ opens. refl)
truth_keeps site bytes n fits false = one_word site bytes n (truth_word false) fits refl (λ opens. refl)

-- an operator before its operand, in parentheses
prefix_keeps : (site : Site) (bytes : List ℕ) (n : ℕ) (w : Spelled) (ws : List Spelled) → n + 2 ≤ most_levels → is_misplaced Library w.mark ≡ false → ((opens : List Open) → behind w.mark opens ≡ Some (Prefix ∷ opens))
    → Keeps site bytes (n + 2) ws → Keeps site bytes n (open_word ∷ w ∷ (ws ++ close_word ∷ []))
prefix_keeps site bytes n w ws fits free step r opens e =
    let within = Bracket ∷ opens in
    let deep = twice Prefix opens n refl e in
    inner site bytes opens within opens open_word _ refl refl (most within (n + 1) (n + 2) (deeper opens n e) (omega arith) fits)
    (inner site bytes within (Prefix ∷ within) opens w _ free (step within) (most (Prefix ∷ within) (n + 2) (n + 2) deep (omega arith) fits)
    (runs_join site bytes (Prefix ∷ within) (Prefix ∷ within) opens ws (close_word ∷ []) (r (Prefix ∷ within) deep)
    (inner site bytes (Prefix ∷ within) opens opens close_word [] refl refl (most opens n (n + 2) e (omega arith) fits) (runs_nothing site bytes opens))))

pre_keeps : (site : Site) (bytes : List ℕ) (n : ℕ) (ws : List Spelled) → n + 1 ≤ most_levels → Keeps site bytes (n + 1) ws
    → Keeps site bytes n (name_at pre_mark (codes "pre") ∷ sign_at operand_mark (codes "(") ∷ (ws ++ close_word ∷ []))
pre_keeps site bytes n ws fits r opens e =
    let within = Bracket ∷ opens in
    let deep = deeper opens n e in
    let low = most opens n (n + 1) e (omega arith) fits in
    inner site bytes opens opens opens _ _ refl refl low
    (inner site bytes opens within opens _ _ refl refl (most within (n + 1) (n + 1) deep (omega arith) fits)
    (runs_join site bytes within within opens ws (close_word ∷ []) (r within deep)
    (inner site bytes within opens opens close_word [] refl refl low (runs_nothing site bytes opens))))

operator_placed : (op : Binary) → is_misplaced Library (binary_word op).mark ≡ false
operator_placed Arrow = refl
operator_placed Implies = refl
operator_placed Iff = refl
operator_placed Or = refl
operator_placed And = refl
operator_placed Less = refl
operator_placed AtMost = refl
operator_placed More = refl
operator_placed AtLeast = refl
operator_placed Same = refl
operator_placed Differs = refl
operator_placed Plus = refl
operator_placed Minus = refl
operator_placed Times = refl
operator_placed Div = refl
operator_placed Mod = refl

pub operator_opens : (op : Binary) (opens : List Open) → behind (binary_word op).mark (Bracket ∷ opens) ≡ Some (Chain (rank op) 1 ∷ Bracket ∷ opens)
operator_opens Arrow opens = refl
operator_opens Implies opens = refl
operator_opens Iff opens = refl
operator_opens Or opens = refl
operator_opens And opens = refl
operator_opens Less opens = refl
operator_opens AtMost opens = refl
operator_opens More opens = refl
operator_opens AtLeast opens = refl
operator_opens Same opens = refl
operator_opens Differs opens = refl
operator_opens Plus opens = refl
operator_opens Minus opens = refl
operator_opens Times opens = refl
operator_opens Div opens = refl
operator_opens Mod opens = refl

binary_keeps : (site : Site) (bytes : List ℕ) (n : ℕ) (op : Binary) (ws vs : List Spelled) → n + 2 ≤ most_levels → Keeps site bytes (n + 1) ws → Keeps site bytes (n + 2) vs
    → Keeps site bytes n (open_word ∷ (ws ++ binary_word op ∷ (vs ++ close_word ∷ [])))
binary_keeps site bytes n op ws vs fits r q opens e =
    let within = Bracket ∷ opens in
    let chain = Chain (rank op) 1 in
    let one = deeper opens n e in
    let two = twice chain opens n refl e in
    inner site bytes opens within opens open_word _ refl refl (most within (n + 1) (n + 2) one (omega arith) fits)
    (runs_join site bytes within within opens ws (binary_word op ∷ (vs ++ close_word ∷ [])) (r within one)
    (inner site bytes within (chain ∷ within) opens (binary_word op) _ (operator_placed op) (operator_opens op opens) (most (chain ∷ within) (n + 2) (n + 2) two (omega arith) fits)
    (runs_join site bytes (chain ∷ within) (chain ∷ within) opens vs (close_word ∷ []) (q (chain ∷ within) two)
    (inner site bytes (chain ∷ within) opens opens close_word [] refl refl (most opens n (n + 2) e (omega arith) fits) (runs_nothing site bytes opens)))))

choice_keeps : (site : Site) (bytes : List ℕ) (n : ℕ) (ws vs us : List Spelled) → n + 2 ≤ most_levels → Keeps site bytes (n + 2) ws → Keeps site bytes (n + 2) vs → Keeps site bytes (n + 2) us
    → Keeps site bytes n (open_word ∷ name_at if_mark (codes "if") ∷ (ws ++ name_at then_mark (codes "then") ∷ (vs ++ name_at else_mark (codes "else") ∷ (us ++ close_word ∷ []))))
choice_keeps site bytes n ws vs us fits q r s opens e =
    let within = Bracket ∷ opens in
    let then_word = name_at then_mark (codes "then") in
    let else_word = name_at else_mark (codes "else") in
    let test = twice Test opens n refl e in
    let yes = twice Yes opens n refl e in
    let no = twice No opens n refl e in
    inner site bytes opens within opens open_word _ refl refl (most within (n + 1) (n + 2) (deeper opens n e) (omega arith) fits)
    (inner site bytes within (Test ∷ within) opens _ _ refl refl (most (Test ∷ within) (n + 2) (n + 2) test (omega arith) fits)
    (runs_join site bytes (Test ∷ within) (Test ∷ within) opens ws (then_word ∷ (vs ++ else_word ∷ (us ++ close_word ∷ []))) (q (Test ∷ within) test)
    (inner site bytes (Test ∷ within) (Yes ∷ within) opens then_word _ refl refl (most (Yes ∷ within) (n + 2) (n + 2) yes (omega arith) fits)
    (runs_join site bytes (Yes ∷ within) (Yes ∷ within) opens vs (else_word ∷ (us ++ close_word ∷ [])) (r (Yes ∷ within) yes)
    (inner site bytes (Yes ∷ within) (No ∷ within) opens else_word _ refl refl (most (No ∷ within) (n + 2) (n + 2) no (omega arith) fits)
    (runs_join site bytes (No ∷ within) (No ∷ within) opens us (close_word ∷ []) (s (No ∷ within) no)
    (inner site bytes (No ∷ within) opens opens close_word [] refl refl (most opens n (n + 2) e (omega arith) fits) (runs_nothing site bytes opens))))))))

-- within a bracket the words leave open what was open
abbrev KeepsInside : Site → List ℕ → ℕ → List Spelled → Type 0
KeepsInside site bytes n ws = (opens : List Open) → levels opens ≡ n → Runs site bytes (Bracket ∷ opens) ws (Bracket ∷ opens)

next_keeps : (site : Site) (bytes : List ℕ) (n : ℕ) (ws vs : List Spelled) → n + 1 ≤ most_levels → Keeps site bytes (n + 1) ws → KeepsInside site bytes n vs → KeepsInside site bytes n (comma_word ∷ (ws ++ vs))
next_keeps site bytes n ws vs fits r q opens e =
    let within = Bracket ∷ opens in
    let deep = deeper opens n e in
    inner site bytes within within within comma_word _ refl refl (most within (n + 1) (n + 1) deep (omega arith) fits)
    (runs_join site bytes within within within ws vs (r within deep) (q opens e))

call_keeps : (site : Site) (bytes : List ℕ) (n : ℕ) (ws vs : List Spelled) → n + 1 ≤ most_levels → Keeps site bytes n ws → KeepsInside site bytes n vs
    → Keeps site bytes n (ws ++ sign_at call_mark (codes "(") ∷ (vs ++ close_word ∷ []))
call_keeps site bytes n ws vs fits p q opens e =
    let within = Bracket ∷ opens in
    let call_word = sign_at call_mark (codes "(") in
    runs_join site bytes opens opens opens ws (call_word ∷ (vs ++ close_word ∷ [])) (p opens e)
    (inner site bytes opens within opens call_word _ refl refl (most within (n + 1) (n + 1) (deeper opens n e) (omega arith) fits)
    (runs_join site bytes within within opens vs (close_word ∷ []) (q opens e)
    (inner site bytes within opens opens close_word [] refl refl (most opens n (n + 1) e (omega arith) fits) (runs_nothing site bytes opens))))

mutual
  pub term_keeps : (site : Site) (bytes : List ℕ) (t : Term) (n : ℕ) → n ≤ most_levels → Fits n t → Keeps site bytes n (term_words t)
  term_keeps site bytes (Number value place) n fits f = one_word site bytes n (number_word value) fits refl (λ opens. refl)
  term_keeps site bytes (Truth value place) n fits f = truth_keeps site bytes n fits value
  term_keeps site bytes (Named path) n fits f = path_keeps site bytes n fits path
  term_keeps site bytes (Unary' unary.Pre place _ (more_of-Term t end_of-Term)) n fits f = pre_keeps site bytes n (term_words t) f.0 (term_keeps site bytes t (n + 1) f.0 f.1)
  term_keeps site bytes (Unary' unary.Minus place _ (more_of-Term t end_of-Term)) n fits f = prefix_keeps site bytes n (sign_at negative_mark (codes "-")) (term_words t) f.0 refl (λ opens. refl) (term_keeps site bytes t (n + 2) f.0 f.1)
  term_keeps site bytes (Unary' unary.Not place _ (more_of-Term t end_of-Term)) n fits f = prefix_keeps site bytes n (name_at not_mark (codes "not")) (term_words t) f.0 refl (λ opens. refl) (term_keeps site bytes t (n + 2) f.0 f.1)
  term_keeps site bytes (Binary' op place _ (more_of-Term left end_of-Term) _ (more_of-Term right end_of-Term)) n fits f =
      let fewer : n + 1 ≤ most_levels = omega (arith, f.0) in
      binary_keeps site bytes n op (term_words left) (term_words right) f.0 (term_keeps site bytes left (n + 1) fewer f.1) (term_keeps site bytes right (n + 2) f.0 f.2)
  term_keeps site bytes (Choice' place _ (more_of-Term test end_of-Term) _ (more_of-Term chosen end_of-Term) _ (more_of-Term other end_of-Term)) n fits f =
      choice_keeps site bytes n (term_words test) (term_words chosen) (term_words other) f.0
      (term_keeps site bytes test (n + 2) f.0 f.1) (term_keeps site bytes chosen (n + 2) f.0 f.2) (term_keeps site bytes other (n + 2) f.0 f.3)
  term_keeps site bytes (Call' path _ args) n fits f = call_keeps site bytes n (path_words path) (argument_words [] args) f.0 (path_keeps site bytes n fits path) (all_keep site bytes args n f.0 f.1)

  all_keep : (site : Site) (bytes : List ℕ) {m : _} (row : Row_of-Term m) (n : ℕ) → n + 1 ≤ most_levels → AllFit (n + 1) row → KeepsInside site bytes n (argument_words [] row)
  all_keep site bytes end_of-Term n fits f opens e = runs_nothing site bytes (Bracket ∷ opens)
  all_keep site bytes (more_of-Term t rest) n fits f opens e =
      runs_join site bytes (Bracket ∷ opens) (Bracket ∷ opens) (Bracket ∷ opens) (term_words t) (argument_words (comma_word ∷ []) rest)
      (term_keeps site bytes t (n + 1) fits f.0 (Bracket ∷ opens) (deeper opens n e)) (more_keep site bytes rest n fits f.1 opens e)

  more_keep : (site : Site) (bytes : List ℕ) {m : _} (row : Row_of-Term m) (n : ℕ) → n + 1 ≤ most_levels → AllFit (n + 1) row → KeepsInside site bytes n (argument_words (comma_word ∷ []) row)
  more_keep site bytes end_of-Term n fits f opens e = runs_nothing site bytes (Bracket ∷ opens)
  more_keep site bytes (more_of-Term t rest) n fits f opens e = next_keeps site bytes n (term_words t) (argument_words (comma_word ∷ []) rest) fits (term_keeps site bytes t (n + 1) fits f.0) (more_keep site bytes rest n fits f.1) opens e
