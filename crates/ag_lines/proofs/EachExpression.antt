-- The expressions of an annex stand behind a `:` or `=`, up to the next `;`, and each is one by the lines of the grammar.
use Rattle.std.proofs.Common.{not, ◌≤◌, ◌≡◌, ◌<◌, inl, inr, ℕ, zero, suc, Bool, true, false, ◌==◌, ◌&&◌, if◌then◌else◌, List, [], ◌∷◌, ◌++◌, Some, None, refl, sym, ap, subst, ◌∙◌, arith}
use Rattle.std.specs.Prelude.{nat_lt}
use Rattle.std.specs.List.{All}
use Rattle.std.proofs.lemmas.Bool.{and_parts, and_from, eqb-true, eqb-false, eq-eqb, ne_eqb, ltb-true, or_from, cases_lt, lt-ltb}
use Rattle.std.proofs.lemmas.List.{length-map}
use Rattle.std.proofs.lemmas.List.Elements.{All-nil, All-cons}
use Rattle.ag_grammar.specs.declared.grammar.Step.{Step}
use Rattle.ag_grammar.specs.declared.grammar.Symbol.{Symbol}
use Rattle.ag_grammar.specs.declared.grammar.Symbol.TheVariants.{Terminal, Nonterminal}
use Rattle.ag_grammar.specs.Texts.{IsText}
use Rattle.ag_lex.specs.declared.token.Token.{Token}
use Rattle.ag_aadl.specs.declared.marked.Marked.{Marked}
use Rattle.ag_aadl.specs.Marked.{marked, up_to, is_among}
use Rattle.ag_aadl.specs.Page.{Line}
use Rattle.ag_terms.specs.declared.clauses.Site.{Site}
use Rattle.ag_annex.specs.declared.nesting.Open.{Open}
use Rattle.ag_terms.specs.declared.terms.Binary.{Binary}
use Rattle.ag_annex.specs.Expressions.{unread, read_tokens, finished, term_of}
use Rattle.ag_annex.specs.Grammar.{annex}
use Rattle.ag_lines.specs.Lines.{AreAsMarked, GoesOn, name_ends, next_part, a_body, expressions_in}
use Rattle.ag_lines.specs.Reach.{IsStated}
use Rattle.ag_annex.specs.Marks.{value_mark, end_mark}
use Rattle.ag_annex.specs.Nonterminals.{expression}
use Rattle.ag_annex.specs.Operators.{binary_of}
use Rattle.ag_annex.specs.Page.{lines}
use Rattle.ag_annex.specs.Rules.{Obeys}
use Rattle.ag_annex.specs.Words.{terminals_of}
use Rattle.ag_lines.proofs.Deriving.{expression-flat}
use Rattle.ag_lines.proofs.Flat.{IsFlat, flat_choice, flat_prefix, flat_alone, flat_between, IsPrimary, flat_number, flat_truth, flat_falsity, flat_group, flat_pre, flat_prev, flat_name, flat_bare_call, flat_call, AreFlat, flat_last, flat_more, Opens, opens-apart, opens-next, opens-behind}
use Rattle.ag_lines.proofs.FlatReading.{read-flat}
use Rattle.ag_lines.proofs.Levels.{nothing}
use Rattle.ag_lines.proofs.AsMarked.{meant-apart, derived-meant}
use Rattle.ag_lines.proofs.Parsing.{IsOneOf, rights_in, rights_of, At, left, size, shift, expand, nothing-left, retake}
use Rattle.ag_lines.proofs.Reaching.{stops-first, ended}

-- ---- one expression

-- the tokens of a flat operand, by themselves, state what the lines of the grammar give them
pub expression-read : (bytes : List ℕ) (es : List Marked) (opened : List Open) → IsFlat es → Opens [] es opened → IsStated bytes 0 es (term_of bytes es)
expression-read bytes es opened is o =
    let b = read-flat bytes is [] [] stops-first [] [] [] nothing es opened refl o in
    let e = ended bytes [] [] stops-first es (read_tokens bytes unread es) opened b in
    let same : term_of bytes es ≡ e.last = ap (finished bytes) e.read ∙ ap (λ c. c.1) e.closes in
    subst (λ t. IsStated bytes 0 es t) (sym same) e.ranked

-- ---- where expressions stand

-- some tokens with each expression between its `:` or `=` and its `;`
pub data AreParted : List Marked → Type 0 where
  parted_none : AreParted []
  parted_other : (m : Marked) (ms : List Marked) → m.mark ≤ end_mark → (m.mark ≡ value_mark → ⊥) → AreParted ms → AreParted (m ∷ ms)
  parted_value : (v : Marked) (es : List Marked) (e : Marked) (ms : List Marked) → v.mark ≡ value_mark → IsFlat es → e.mark ≡ end_mark → AreParted ms → AreParted (v ∷ (es ++ e ∷ ms))

-- what comes next
data Phase : Type 0 where
  anything : Phase
  an_expression : Phase
  an_end : Phase

-- the symbols have an expression behind each such mark alone, and an end behind it
abbrev are_parted : Phase → List Symbol → Bool
are_parted anything [] = true
are_parted an_expression [] = false
are_parted an_end [] = false
are_parted anything (Terminal t k ∷ symbols) = not (nat_lt end_mark k) && (if k == value_mark then are_parted an_expression symbols else are_parted anything symbols)
are_parted anything (Nonterminal n ∷ symbols) = nat_lt n expression && are_parted anything symbols
are_parted an_expression (Terminal t k ∷ symbols) = false
are_parted an_expression (Nonterminal n ∷ symbols) = n == expression && are_parted an_end symbols
are_parted an_end (Terminal t k ∷ symbols) = k == end_mark && are_parted anything symbols
are_parted an_end (Nonterminal n ∷ symbols) = false

-- a terminal before other symbols, by whether an expression has to follow it
by-mark : (c : Bool) (a b : List Symbol) → (are_parted an_expression a ≡ true → are_parted an_expression (a ++ b) ≡ true) → (are_parted anything a ≡ true → are_parted anything (a ++ b) ≡ true)
    → (if c then are_parted an_expression a else are_parted anything a) ≡ true → (if c then are_parted an_expression (a ++ b) else are_parted anything (a ++ b)) ≡ true
by-mark true a b value other g = value g
by-mark false a b value other g = other g

-- symbols before others
parted-append : (phase : Phase) (a b : List Symbol) → are_parted phase a ≡ true → are_parted anything b ≡ true → are_parted phase (a ++ b) ≡ true
parted-append anything [] b h k = k
parted-append an_expression [] b h k = absurd cc
parted-append an_end [] b h k = absurd cc
parted-append anything (Terminal t m ∷ a) b h k =
    let p = and_parts (not (nat_lt end_mark m)) (if m == value_mark then are_parted an_expression a else are_parted anything a) h in
    and_from (not (nat_lt end_mark m)) (if m == value_mark then are_parted an_expression (a ++ b) else are_parted anything (a ++ b)) p.0
    (by-mark (m == value_mark) a b (λ g. parted-append an_expression a b g k) (λ g. parted-append anything a b g k) p.1)
parted-append anything (Nonterminal n ∷ a) b h k =
    let p = and_parts (nat_lt n expression) (are_parted anything a) h in
    and_from (nat_lt n expression) (are_parted anything (a ++ b)) p.0 (parted-append anything a b p.1 k)
parted-append an_expression (Terminal t m ∷ a) b h k = absurd cc
parted-append an_expression (Nonterminal n ∷ a) b h k =
    let p = and_parts (n == expression) (are_parted an_end a) h in
    and_from (n == expression) (are_parted an_end (a ++ b)) p.0 (parted-append an_end a b p.1 k)
parted-append an_end (Terminal t m ∷ a) b h k =
    let p = and_parts (m == end_mark) (are_parted anything a) h in
    and_from (m == end_mark) (are_parted anything (a ++ b)) p.0 (parted-append anything a b p.1 k)
parted-append an_end (Nonterminal n ∷ a) b h k = absurd cc

-- each production of a line, and of the first lines
abbrev is_parted_line : List Line → Bool
is_parted_line [] = true
is_parted_line (l ∷ ls) = are_parted anything l.right && is_parted_line ls

-- the same of the first of some nonterminals
abbrev are_parted_lines : ℕ → List (List Line) → Bool
are_parted_lines zero ls = true
are_parted_lines (suc count) [] = true
are_parted_lines (suc count) (l ∷ ls) = is_parted_line l && are_parted_lines count ls

-- what one nonterminal may be replaced by
one-parted : (ls : List Line) (right : List Symbol) → is_parted_line ls ≡ true → IsOneOf (rights_in ls) right → are_parted anything right ≡ true
one-parted [] right h is = absurd is
one-parted (l ∷ ls) right h (inl e) = ap (are_parted anything) e ∙ (and_parts (are_parted anything l.right) (is_parted_line ls) h).0
one-parted (l ∷ ls) right h (inr is) = one-parted ls right (and_parts (are_parted anything l.right) (is_parted_line ls) h).1 is

-- the same by the nonterminal's number
right-parted : (count : ℕ) (ls : List (List Line)) (n : ℕ) (right : List Symbol) → are_parted_lines count ls ≡ true → n < count → IsOneOf (rights_of ls n) right → are_parted anything right ≡ true
right-parted zero ls n right h k is = absurd (omega arith)
right-parted (suc count) [] n right h k is = absurd is
right-parted (suc count) (l ∷ ls) zero right h k is = one-parted l right (and_parts (is_parted_line l) (are_parted_lines count ls) h).0 is
right-parted (suc count) (l ∷ ls) (suc n) right h k is = right-parted count ls n right (and_parts (is_parted_line l) (are_parted_lines count ls) h).1 (omega arith) is

-- each nonterminal up to that of expressions is so
lines-parted : are_parted_lines expression lines ≡ true
lines-parted = refl

-- ---- derivations

-- the tokens that the symbols derive
abbrev Parted : Phase → List Marked → Type 0
Parted anything ms = AreParted ms
Parted an_expression ms = (es : List Marked) × (e : Marked) × (more : List Marked) × (ms ≡ es ++ e ∷ more) × IsFlat es × (e.mark ≡ end_mark) × AreParted more
Parted an_end ms = (e : Marked) × (more : List Marked) × (ms ≡ e ∷ more) × (e.mark ≡ end_mark) × AreParted more

-- a token before others, by whether an expression has to follow it
behind-mark : (k : ℕ) (m : Marked) (ms all : List Marked) (c : Bool) → (k == value_mark) ≡ c → m.mark ≡ k → k ≤ end_mark → all ≡ m ∷ ms → (c ≡ true → Parted an_expression ms) → (c ≡ false → AreParted ms) → AreParted all
behind-mark k m ms all true e f h g value other =
    let p = value refl in
    subst AreParted (sym (g ∙ ap (λ z. m ∷ z) p.3)) (parted_value m p.0 p.1 p.2 (f ∙ eqb-true k value_mark e) p.4 p.5 p.6)
behind-mark k m ms all false e f h g value other = subst AreParted (sym g) (parted_other m ms (omega (arith, f, h)) (λ n. eqb-false k value_mark e (sym f ∙ n)) (other refl))

-- a mark that doesn't stand in expressions
not-within : (k : ℕ) → not (nat_lt end_mark k) ≡ true → k ≤ end_mark
not-within k h = elim (cases_lt end_mark k) [
  | inl g ↦ let two : not true ≡ true = sym (ap not (lt-ltb end_mark k g)) ∙ h in absurd cc
  | inr g ↦ g
]

-- what symbols derive is parted as they are
parted : (bound : ℕ) (phase : Phase) (symbols : List Symbol) (a : At symbols) → size a < bound → are_parted phase symbols ≡ true → Parted phase (left a)
parted zero phase symbols a h k = absurd (omega arith)
parted (suc bound) anything [] a h k = subst AreParted (sym (nothing-left a)) parted_none
parted (suc bound) an_expression [] a h k = absurd cc
parted (suc bound) an_end [] a h k = absurd cc
parted (suc bound) anything (Terminal t m ∷ symbols) a h k =
    let p = and_parts (not (nat_lt end_mark m)) (if m == value_mark then are_parted an_expression symbols else are_parted anything symbols) k in
    let s = shift t m symbols a in
    behind-mark m s.token (left s.to) (left a) (m == value_mark) refl s.mark (not-within m p.0) s.parts
    (λ e. parted bound an_expression symbols s.to (omega arith) (sym (ap (λ (c : Bool). if c then are_parted an_expression symbols else are_parted anything symbols) e) ∙ p.1))
    (λ e. parted bound anything symbols s.to (omega arith) (sym (ap (λ (c : Bool). if c then are_parted an_expression symbols else are_parted anything symbols) e) ∙ p.1))
parted (suc bound) anything (Nonterminal n ∷ symbols) a h k =
    let p = and_parts (nat_lt n expression) (are_parted anything symbols) k in
    let x = expand n symbols a in
    let right = right-parted expression lines n x.right lines-parted (ltb-true n expression p.0) x.among in
    subst AreParted (sym x.parts) (parted bound anything (x.right ++ symbols) x.to (omega arith) (parted-append anything x.right symbols right p.1))
parted (suc bound) an_expression (Terminal t m ∷ symbols) a h k = absurd cc
parted (suc bound) an_expression (Nonterminal n ∷ symbols) a h k =
    let p = and_parts (n == expression) (are_parted an_end symbols) k in
    let e : Nonterminal n ∷ symbols ≡ Nonterminal expression ∷ symbols = ap (λ z. Nonterminal z ∷ symbols) (eqb-true n expression p.0) in
    let q = expression-flat symbols (retake (Nonterminal n ∷ symbols) (Nonterminal expression ∷ symbols) e a) in
    let r = parted bound an_end symbols q.to (let j = q.shorter in omega (arith, j)) p.1 in
    (q.front, r.0, r.1, q.parts ∙ ap (λ z. q.front ++ z) r.2, q.kind, r.3, r.4)
parted (suc bound) an_end (Terminal t m ∷ symbols) a h k =
    let p = and_parts (m == end_mark) (are_parted anything symbols) k in
    let s = shift t m symbols a in
    (s.token, left s.to, s.parts, s.mark ∙ eqb-true m end_mark p.0, parted bound anything symbols s.to (omega arith) p.1)
parted (suc bound) an_end (Nonterminal n ∷ symbols) a h k = absurd cc

-- ---- the tokens of an expression

-- none of these marks stands in an expression
abbrev IsWithin : Marked → Type 0
IsWithin m = (m.mark ≡ value_mark → ⊥) × (m.mark ≡ end_mark → ⊥)

-- each of some tokens is so
abbrev AreWithin : List Marked → Type 0
AreWithin [] = Unit {0}
AreWithin (m ∷ ms) = IsWithin m × AreWithin ms

-- tokens before others
within-append : (a b : List Marked) → AreWithin a → AreWithin b → AreWithin (a ++ b)
within-append [] b x y = y
within-append (m ∷ a) b x y = (x.0, within-append a b x.1 y)

-- a mark beyond both
beyond : (m : Marked) (k : ℕ) → m.mark ≡ k → end_mark < k → IsWithin m
beyond m k e h = (λ f. absurd (omega arith), λ f. absurd (omega arith))

-- so is an operator
operator-within : (m : Marked) (op : Binary) → binary_of m.mark ≡ Some op → IsWithin m
operator-within m op b = (
  λ f. let two : None ≡ Some op = sym (ap binary_of f) ∙ b in absurd cc,
  λ f. let two : None ≡ Some op = sym (ap binary_of f) ∙ b in absurd cc,
)

-- and what goes on a name
name-within : {ms : List Marked} → GoesOn ms → AreWithin ms
name-within name_ends = tt
name-within (next_part c m ms x y z g) = ((λ f. absurd (omega arith), λ f. absurd (omega arith)), ((λ f. absurd (omega arith), λ f. absurd (omega arith)), name-within g))
name-within (a_body d m x y z) = ((λ f. absurd (omega arith), λ f. absurd (omega arith)), ((λ f. absurd (omega arith), λ f. absurd (omega arith)), tt))

mutual
  -- each token of a flat operand
  pub flat-within : {ms : List Marked} → IsFlat ms → AreWithin ms
  flat-within (flat_choice w m n tests firsts others x y z a b c) =
      (beyond w 40 x (omega arith), within-append tests (m ∷ (firsts ++ n ∷ others)) (flat-within a) (beyond m 41 y (omega arith), within-append firsts (n ∷ others) (flat-within b) (beyond n 42 z (omega arith), flat-within c)))
  flat-within (flat_prefix m ms (inl e) is) = (beyond m 36 e (omega arith), flat-within is)
  flat-within (flat_prefix m ms (inr e) is) = (beyond m 37 e (omega arith), flat-within is)
  flat-within (flat_alone ps is) = primary-within is
  flat-within (flat_between op ps m ms p b is) = within-append ps (m ∷ ms) (primary-within p) (operator-within m op b, flat-within is)

  -- each token of an operand without operators
  primary-within : {ms : List Marked} → IsPrimary ms → AreWithin ms
  primary-within (flat_number m x) = (beyond m 43 x (omega arith), tt)
  primary-within (flat_truth m x) = (beyond m 44 x (omega arith), tt)
  primary-within (flat_falsity m x) = (beyond m 45 x (omega arith), tt)
  primary-within (flat_group m n ms x y is) = (beyond m 46 x (omega arith), within-append ms (n ∷ []) (flat-within is) (beyond n 50 y (omega arith), tt))
  primary-within (flat_pre w m n ms v x y is) = (beyond w 38 v (omega arith), (beyond m 47 x (omega arith), within-append ms (n ∷ []) (flat-within is) (beyond n 50 y (omega arith), tt)))
  primary-within (flat_prev w m c n es is v x y z a b) =
      (beyond w 39 v (omega arith), (beyond m 47 x (omega arith), within-append es (c ∷ (is ++ n ∷ [])) (flat-within a) (beyond c 49 y (omega arith), within-append is (n ∷ []) (flat-within b) (beyond n 50 z (omega arith), tt))))
  primary-within (flat_name m ms x g) = (beyond m 51 x (omega arith), name-within g)
  primary-within (flat_bare_call m ms o n x g y z) = (beyond m 51 x (omega arith), within-append ms (o ∷ n ∷ []) (name-within g) (beyond o 48 y (omega arith), (beyond n 50 z (omega arith), tt)))
  primary-within (flat_call m ms o n args x g y z are) =
      (beyond m 51 x (omega arith), within-append ms (o ∷ (args ++ n ∷ [])) (name-within g) (beyond o 48 y (omega arith), within-append args (n ∷ []) (arguments-within are) (beyond n 50 z (omega arith), tt)))

  -- each token of arguments
  arguments-within : {ms : List Marked} → AreFlat ms → AreWithin ms
  arguments-within (flat_last ms is) = flat-within is
  arguments-within (flat_more c ms more x is are) = within-append ms (c ∷ more) (flat-within is) (beyond c 49 x (omega arith), arguments-within are)

-- ---- all expressions

-- an expression goes up to the first end
pub up-to-end : (es : List Marked) (e : Marked) (ms : List Marked) → AreWithin es → e.mark ≡ end_mark → up_to (end_mark ∷ []) (es ++ e ∷ ms) ≡ es
up-to-end [] e ms w h = ap (λ (b : Bool). if b then [] else e ∷ up_to (end_mark ∷ []) ms) (ap (is_among (end_mark ∷ [])) h)
up-to-end (m ∷ es) e ms w h =
    ap (λ (b : Bool). if b then [] else m ∷ up_to (end_mark ∷ []) (es ++ e ∷ ms)) (or_from (end_mark == m.mark) false (ne_eqb end_mark m.mark (λ f. w.0.1 (sym f))) refl)
    ∙ ap (λ z. m ∷ z) (up-to-end es e ms w.1 h)

-- no expression begins within another
pub past-expression : (es : List Marked) (e : Marked) (ms : List Marked) → AreWithin es → e.mark ≡ end_mark → expressions_in (es ++ e ∷ ms) ≡ expressions_in ms
past-expression [] e ms w h = ap (λ (b : Bool). if b then up_to (end_mark ∷ []) ms ∷ expressions_in ms else expressions_in ms) (ap (λ k. k == value_mark) h)
past-expression (m ∷ es) e ms w h =
    ap (λ (b : Bool). if b then up_to (end_mark ∷ []) (es ++ e ∷ ms) ∷ expressions_in (es ++ e ∷ ms) else expressions_in (es ++ e ∷ ms)) (ne_eqb m.mark value_mark w.0.0) ∙ past-expression es e ms w.1 h

-- an expression is the one that the lines give its tokens, which are such as their marks say
abbrev IsByLines : List ℕ → List Marked → Type 0
IsByLines bytes ms = IsStated bytes 0 ms (term_of bytes ms) × AreAsMarked ms

-- each expression of parted tokens is one by the lines
each-ranked : (bytes : List ℕ) {ms : List Marked} → AreParted ms → AreAsMarked ms → (opens opened : List Open) → Opens opens ms opened → All (IsByLines bytes) (expressions_in ms)
each-ranked bytes parted_none meant opens opened o = All-nil (IsByLines bytes)
each-ranked bytes (parted_other m ms low other are) meant opens opened o =
    let e : expressions_in (m ∷ ms) ≡ expressions_in ms = ap (λ (b : Bool). if b then up_to (end_mark ∷ []) ms ∷ expressions_in ms else expressions_in ms) (ne_eqb m.mark value_mark other) in
    subst (λ z. All (IsByLines bytes) z) (sym e) (each-ranked bytes are meant.1 o.0 opened o.2)
each-ranked bytes (parted_value v es e ms x is y are) meant opens opened o =
    let w = flat-within is in
    let same : expressions_in (v ∷ (es ++ e ∷ ms)) ≡ es ∷ expressions_in ms =
    ap (λ (b : Bool). if b then up_to (end_mark ∷ []) (es ++ e ∷ ms) ∷ expressions_in (es ++ e ∷ ms) else expressions_in (es ++ e ∷ ms)) (eq-eqb v.mark value_mark x)
    ∙ ap (λ z. z ∷ expressions_in (es ++ e ∷ ms)) (up-to-end es e ms w y) ∙ ap (λ z. es ∷ z) (past-expression es e ms w y) in
    let p = opens-apart [] es (e ∷ ms) opened (opens-next opens v (es ++ e ∷ ms) opened value_mark [] x refl o) in
    let q = meant-apart es (e ∷ ms) meant.1 in
    subst (λ z. All (IsByLines bytes) z) (sym same) (All-cons (IsByLines bytes) es (expressions_in ms) (expression-read bytes es p.0 is p.1, q.0) (each-ranked bytes are q.1.1 p.2.0 opened p.2.2))

-- the tokens of an annex stand so
pub text-parted : (bytes : List ℕ) (tokens : List Token) (steps : List Step) → IsText annex (terminals_of bytes tokens) steps → AreParted (marked (terminals_of bytes tokens) tokens steps)
text-parted bytes tokens steps text =
    let a : At (Nonterminal annex.start ∷ []) = record { steps = steps; xs = terminals_of bytes tokens; ts = tokens; even = simp length-map; derives = text } in
    parted (suc (size a)) anything (Nonterminal annex.start ∷ []) a (omega arith) refl

-- each expression of an annex is one by the lines
pub by-lines : (bytes : List ℕ) (tokens : List Token) (site : Site) (steps : List Step) → IsText annex (terminals_of bytes tokens) steps → Obeys site (marked (terminals_of bytes tokens) tokens steps)
    → All (λ ms. IsStated bytes 0 ms (term_of bytes ms) × AreAsMarked ms) (expressions_in (marked (terminals_of bytes tokens) tokens steps))
by-lines bytes tokens site steps text obeyed =
    let a : At (Nonterminal annex.start ∷ []) = record { steps = steps; xs = terminals_of bytes tokens; ts = tokens; even = simp length-map; derives = text } in
    let are : AreParted (left a) = parted (suc (size a)) anything (Nonterminal annex.start ∷ []) a (omega arith) refl in
    let meant = derived-meant (suc (size a)) (Nonterminal annex.start ∷ []) a (omega arith) refl in
    each-ranked bytes are meant [] obeyed.0 (opens-behind site [] (marked (terminals_of bytes tokens) tokens steps) obeyed.0 obeyed.1)
