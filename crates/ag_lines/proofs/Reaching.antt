-- What is known behind the tokens of operands, and what is open there.
use Rattle.std.proofs.Common.{◌≡◌, inl, inr, ℕ, Bool, false, if◌then◌else◌, List, [], ◌∷◌, ◌++◌, Option, Some, None, refl, sym, ap, subst, ◌∙◌, append_assoc, arith}
use Rattle.std.proofs.lemmas.Bool.{cases_eq, eq-eqb, ne_eqb}
use Rattle.ag_base.specs.declared.place.Place.{Place}
use Rattle.ag_aadl.specs.declared.marked.Marked.{Marked}
use Rattle.ag_terms.specs.declared.names.Path.{Path}
use Rattle.ag_annex.specs.declared.frames.Frame.{Frame}
use Rattle.ag_annex.specs.declared.frames.Frame.TheVariants as frame
use Rattle.ag_annex.specs.declared.frames.Operand.{Operand}
use Rattle.ag_annex.specs.declared.frames.Operand.TheVariants.{Nothing}
use Rattle.ag_annex.specs.declared.frames.Reading.{Reading}
use Rattle.ag_annex.specs.declared.nesting.Open.{Open}
use Rattle.ag_annex.specs.declared.nesting.Open.TheVariants.{Bracket, Test, Yes, No, Prefix, Chain}
use Rattle.ag_terms.specs.declared.terms.Binary.{Binary}
use Rattle.ag_terms.specs.declared.terms.Term.{Term}
use Rattle.ag_annex.specs.Expressions.{operand_term, is_nothing, close_before, close_all, behind_infix, behind_other, read_token, read_tokens}
use Rattle.ag_lines.specs.Lines.{factor}
use Rattle.ag_lines.specs.Reach.{NoChoice, IsFar, IsStated}
use Rattle.ag_annex.specs.Nesting.{outside, inside, behind_then, behind_else, behind_operator, behind_comparison, behind_rank, behind_mark, behind}
use Rattle.ag_annex.specs.Operators.{binary_of, rank, comparison}
use Rattle.ag_lines.proofs.Ranks.{left_most, rank_within}
use Rattle.ag_lines.proofs.Levels.{Level, nothing, before_one, behind_else as waits_behind_else, between, Continues, Stops, Closed, hole-most}
use Rattle.ag_lines.proofs.Joining.{closing, comparing, ending}

-- ---- tokens

-- a token by its mark
pub marked-as : (m : Marked) (k : ℕ) → m.mark ≡ k → m ≡ record { mark = k; terminal = m.terminal; token = m.token }
marked-as m k e = ap (λ (z : ℕ). let x : Marked = record { mark = z; terminal = m.terminal; token = m.token } in x) e

-- what is known behind a token, by its mark
pub read-as : (bytes : List ℕ) (r : Reading) (m : Marked) (k : ℕ) → m.mark ≡ k → read_token bytes r m ≡ read_token bytes r (record { mark = k; terminal = m.terminal; token = m.token })
read-as bytes r m k e = ap (read_token bytes r) (marked-as m k e)

-- some tokens are read, and then those behind them
pub read-apart : (bytes : List ℕ) (r : Reading) (ms more : List Marked) → read_tokens bytes r (ms ++ more) ≡ read_tokens bytes (read_tokens bytes r ms) more
read-apart bytes r [] more = refl
read-apart bytes r (m ∷ ms) more = read-apart bytes (read_token bytes r m) ms more

-- ---- what is open in a level

-- brackets and choices that go on are none of these
abbrev pub AreInner : List Open → Type 0
AreInner [] = Unit {0}
AreInner (Prefix ∷ opens) = AreInner opens
AreInner (No ∷ opens) = AreInner opens
AreInner (Chain r count ∷ opens) = AreInner opens
AreInner (o ∷ opens) = ⊥

-- what is open with a chain or without it lies within a bracket alike
still-inner : (r : ℕ) (inner opens : List Open) → Continues r inner opens → AreInner inner → AreInner opens
still-inner r inner opens (inl e) a = subst AreInner e a
still-inner r inner opens (inr c) a = subst AreInner c.1 a

-- what waits in a level has nothing open but what lies within a bracket
level-inner : (bytes : List ℕ) {level : List Frame} {ms : List Marked} {opens : List Open} → Level bytes level ms opens → AreInner opens
level-inner bytes nothing = tt
level-inner bytes (before_one op m level ms opens p lv) = level-inner bytes lv
level-inner bytes (waits_behind_else w m n tests firsts test first level ms opens x y z a b lv) = level-inner bytes lv
level-inner bytes (between op m lefts left count level ms inner opens b low goes l p lv) = still-inner (rank op) inner opens goes (level-inner bytes lv)

-- a `)` ends what lies within its bracket
pub crosses-close : (opens outer : List Open) → AreInner opens → outside (opens ++ Bracket ∷ outer) ≡ outer
crosses-close [] outer a = refl
crosses-close (Prefix ∷ opens) outer a = crosses-close opens outer a
crosses-close (No ∷ opens) outer a = crosses-close opens outer a
crosses-close (Chain r count ∷ opens) outer a = crosses-close opens outer a
crosses-close (Bracket ∷ opens) outer a = absurd a
crosses-close (Test ∷ opens) outer a = absurd a
crosses-close (Yes ∷ opens) outer a = absurd a

-- so does a `,`, which goes on with the bracket
pub crosses-comma : (opens outer : List Open) → AreInner opens → inside (opens ++ Bracket ∷ outer) ≡ Bracket ∷ outer
crosses-comma [] outer a = refl
crosses-comma (Prefix ∷ opens) outer a = crosses-comma opens outer a
crosses-comma (No ∷ opens) outer a = crosses-comma opens outer a
crosses-comma (Chain r count ∷ opens) outer a = crosses-comma opens outer a
crosses-comma (Bracket ∷ opens) outer a = absurd a
crosses-comma (Test ∷ opens) outer a = absurd a
crosses-comma (Yes ∷ opens) outer a = absurd a

-- a `then` ends what lies behind its `if`
pub crosses-then : (opens outer : List Open) → AreInner opens → behind_then (opens ++ Test ∷ outer) ≡ Yes ∷ outer
crosses-then [] outer a = refl
crosses-then (Prefix ∷ opens) outer a = crosses-then opens outer a
crosses-then (No ∷ opens) outer a = crosses-then opens outer a
crosses-then (Chain r count ∷ opens) outer a = crosses-then opens outer a
crosses-then (Bracket ∷ opens) outer a = absurd a
crosses-then (Test ∷ opens) outer a = absurd a
crosses-then (Yes ∷ opens) outer a = absurd a

-- an `else` ends what lies behind its `then`
pub crosses-else : (opens outer : List Open) → AreInner opens → behind_else (opens ++ Yes ∷ outer) ≡ No ∷ outer
crosses-else [] outer a = refl
crosses-else (Prefix ∷ opens) outer a = crosses-else opens outer a
crosses-else (No ∷ opens) outer a = crosses-else opens outer a
crosses-else (Chain r count ∷ opens) outer a = crosses-else opens outer a
crosses-else (Bracket ∷ opens) outer a = absurd a
crosses-else (Test ∷ opens) outer a = absurd a
crosses-else (Yes ∷ opens) outer a = absurd a

-- ---- what stops

-- the beginning of an expression
pub stops-first : Stops [] []
stops-first = record { before = λ r t. refl; ends = λ t. refl; operator = λ r. refl; compared = refl; choice = refl }

-- a `(` by itself
pub stops-group : (frames : List Frame) (outer : List Open) → Stops (frame.Group ∷ frames) (Bracket ∷ outer)
stops-group frames outer = record { before = λ r t. refl; ends = λ t. refl; operator = λ r. refl; compared = refl; choice = refl }

-- the `(` of `pre`
pub stops-pre : (place : Place) (frames : List Frame) (outer : List Open) → Stops (frame.Pre place ∷ frames) (Bracket ∷ outer)
stops-pre place frames outer = record { before = λ r t. refl; ends = λ t. refl; operator = λ r. refl; compared = refl; choice = refl }

-- the `(` of `prev`, with its first operand to come
pub stops-prev : (place : Place) (frames : List Frame) (outer : List Open) → Stops (frame.Prev place ∷ frames) (Bracket ∷ outer)
stops-prev place frames outer = record { before = λ r t. refl; ends = λ t. refl; operator = λ r. refl; compared = refl; choice = refl }

-- the same with its second operand to come
pub stops-start : (place : Place) (arg : Term) (frames : List Frame) (outer : List Open) → Stops (frame.Start place arg ∷ frames) (Bracket ∷ outer)
stops-start place arg frames outer = record { before = λ r t. refl; ends = λ t. refl; operator = λ r. refl; compared = refl; choice = refl }

-- the `(` of a call
pub stops-call : (path : Path) (args : List Term) (frames : List Frame) (outer : List Open) → Stops (frame.Call path args ∷ frames) (Bracket ∷ outer)
stops-call path args frames outer = record { before = λ r t. refl; ends = λ t. refl; operator = λ r. refl; compared = refl; choice = refl }

-- an `if` with its test to come
pub stops-test : (place : Place) (frames : List Frame) (outer : List Open) → Stops (frame.Test place ∷ frames) (Test ∷ outer)
stops-test place frames outer = record { before = λ r t. refl; ends = λ t. refl; operator = λ r. refl; compared = refl; choice = refl }

-- a `then` with its operand to come
pub stops-yes : (place : Place) (test : Term) (frames : List Frame) (outer : List Open) → Stops (frame.Yes place test ∷ frames) (Yes ∷ outer)
stops-yes place test frames outer = record { before = λ r t. refl; ends = λ t. refl; operator = λ r. refl; compared = refl; choice = refl }

-- ---- behind an operand, and behind an operator

-- some tokens are read, with an operand last
pub record Behind (bytes : List ℕ) (base : List Frame) (outer : List Open) (all : List Marked) (r : Reading) (opened : List Open) : Type 0 where
  pub level : List Frame
  pub before : List Marked
  pub os : List Marked
  pub opens : List Open
  pub operand : Operand
  pub read : r ≡ record { frames = level ++ base; operand = operand }
  pub opening : opened ≡ opens ++ outer
  pub parts : all ≡ before ++ os
  pub stands : Level bytes level before opens
  pub ranked : IsFar bytes factor os (operand_term bytes operand) NoChoice false
  pub some : is_nothing operand ≡ false

-- what is known, in other words
pub arrived : (bytes : List ℕ) (base : List Frame) (outer : List Open) (all : List Marked) (r s : Reading) (opened : List Open) → r ≡ s → Behind bytes base outer all s opened → Behind bytes base outer all r opened
arrived bytes base outer all r s opened e b = record {
  level = b.level;
  before = b.before;
  os = b.os;
  opens = b.opens;
  operand = b.operand;
  read = e ∙ b.read;
  opening = b.opening;
  parts = b.parts;
  stands = b.stands;
  ranked = b.ranked;
  some = b.some;
}

-- some tokens are read, and all that ends with them is an expression
pub record Ended (bytes : List ℕ) (base : List Frame) (outer : List Open) (all : List Marked) (r : Reading) (opened : List Open) : Type 0 where
  pub frames : List Frame
  pub operand : Operand
  pub last : Term
  pub opens : List Open
  pub read : r ≡ record { frames = frames; operand = operand }
  pub closes : close_all frames (operand_term bytes operand) ≡ (base, last)
  pub opening : opened ≡ opens ++ outer
  pub inner : AreInner opens
  pub ranked : IsStated bytes 0 all last
  pub some : is_nothing operand ≡ false

-- behind an operand all that waits in the level can end
pub ended : (bytes : List ℕ) (base : List Frame) (outer : List Open) → Stops base outer → (all : List Marked) (r : Reading) (opened : List Open) → Behind bytes base outer all r opened → Ended bytes base outer all r opened
ended bytes base outer stops all r opened b =
    let e = ending bytes base outer stops b.stands factor all b.os (operand_term bytes b.operand) b.parts (omega arith) (hole-most b.level) (record { tail = NoChoice; waiting = false; far = b.ranked }) in
    record {
      frames = b.level ++ base;
      operand = b.operand;
      last = e.0;
      opens = b.opens;
      read = b.read;
      closes = e.1;
      opening = b.opening;
      inner = level-inner bytes b.stands;
      ranked = e.2;
      some = b.some;
    }

-- some tokens are read, and the next operand is waited for
pub record Waits (bytes : List ℕ) (base : List Frame) (outer : List Open) (all : List Marked) (r : Reading) (opened : List Open) : Type 0 where
  pub level : List Frame
  pub opens : List Open
  pub read : r ≡ record { frames = level ++ base; operand = Nothing }
  pub opening : opened ≡ opens ++ outer
  pub stands : Level bytes level all opens

-- behind an operator its right operand is waited for
waits : (bytes : List ℕ) (base : List Frame) (outer : List Open) (op : Binary) (m : Marked) (all : List Marked) (closed : List Frame × Term) (opened : List Open) → binary_of m.mark ≡ Some op
    → Closed bytes (rank op) base outer all closed opened → Waits bytes base outer (all ++ m ∷ []) (behind_infix op m.token.place closed) opened
waits bytes base outer op m all closed opened b c =
    let e : c.before ++ (c.lefts ++ m ∷ []) ≡ all ++ m ∷ [] = sym (append_assoc c.before c.lefts (m ∷ [])) ∙ ap (λ (z : List Marked). z ++ m ∷ []) (sym c.parts) in
    record {
      level = frame.Infix op m.token.place c.last ∷ c.level;
      opens = Chain (rank op) c.count ∷ c.opens;
      read = ap (behind_infix op m.token.place) c.closes;
      opening = c.opening;
      stands = subst (λ (z : List Marked). Level bytes (frame.Infix op m.token.place c.last ∷ c.level) z (Chain (rank op) c.count ∷ c.opens)) e
          (between op m c.lefts c.last c.count c.level c.before c.inner c.opens b c.low c.goes c.ranked c.fits c.stands);
    }

-- what is known behind an operator
pub read-operator : (bytes : List ℕ) (r : Reading) (m : Marked) (op : Binary) → binary_of m.mark ≡ Some op → read_token bytes r m ≡ behind_infix op m.token.place (close_before (rank op) r.frames (operand_term bytes r.operand))
read-operator bytes r m op b = ap (λ (o : Option Binary). let x : Reading = elim o [
  | None ↦ behind_other bytes r m
  | Some q ↦ behind_infix q m.token.place (close_before (rank q) r.frames (operand_term bytes r.operand))
] in x) b

-- what is open behind an operator
pub opens-operator : (mark : ℕ) (opens : List Open) (op : Binary) → binary_of mark ≡ Some op → behind mark opens ≡ behind_rank (rank op) opens
opens-operator mark opens op b = ap (λ (o : Option Binary). let x : Option (List Open) = elim o [
  | None ↦ Some (behind_mark mark opens)
  | Some q ↦ behind_rank (rank q) opens
] in x) b

-- the same where it is a comparison
pub rank-compared : (r : ℕ) (opens : List Open) → r ≡ comparison → behind_rank r opens ≡ behind_comparison opens
rank-compared r opens e = ap (λ (b : Bool). if b then behind_comparison opens else Some (behind_operator r opens)) (eq-eqb r comparison e)

-- and where it is none
pub rank-other : (r : ℕ) (opens : List Open) → (r ≡ comparison → ⊥) → behind_rank r opens ≡ Some (behind_operator r opens)
rank-other r opens e = ap (λ (b : Bool). if b then behind_comparison opens else Some (behind_operator r opens)) (ne_eqb r comparison e)

-- an operator behind an operand
pub operator-read : (bytes : List ℕ) (base : List Frame) (outer : List Open) → Stops base outer → (level : List Frame) (ms : List Marked) (opens : List Open) → Level bytes level ms opens
    → (os : List Marked) (operand : Operand) (m : Marked) (op : Binary) → binary_of m.mark ≡ Some op → IsFar bytes factor os (operand_term bytes operand) NoChoice false
    → (opened : List Open) → behind m.mark (opens ++ outer) ≡ Some opened → Waits bytes base outer ((ms ++ os) ++ m ∷ []) (read_token bytes (record { frames = level ++ base; operand = operand }) m) opened
operator-read bytes base outer stops level ms opens lv os operand m op b is opened f =
    let t = operand_term bytes operand in
    let g = opens-operator m.mark (opens ++ outer) op b in
    let found : Closed bytes (rank op) base outer (ms ++ os) (close_before (rank op) (level ++ base) t) opened = elim (cases_eq (rank op) comparison) [
      | inl e ↦
          subst (λ (r : ℕ). Closed bytes r base outer (ms ++ os) (close_before r (level ++ base) t) opened) (sym e)
          (comparing bytes base outer stops lv factor (ms ++ os) os t refl (omega arith) (hole-most level) (omega arith) (record { tail = NoChoice; waiting = false; far = is }) (λ k. absurd cc) opened (sym (rank-compared (rank op) (opens ++ outer) e) ∙ sym g ∙ f))
      | inr e ↦
          let two : Some opened ≡ Some (behind_operator (rank op) (opens ++ outer)) = sym f ∙ g ∙ rank-other (rank op) (opens ++ outer) e in
          let same : behind_operator (rank op) (opens ++ outer) ≡ opened = cc in
          subst (λ (z : List Open). Closed bytes (rank op) base outer (ms ++ os) (close_before (rank op) (level ++ base) t) z) same
          (closing bytes base outer stops (rank op) e (rank_within op) lv factor (ms ++ os) os t refl (omega arith) (hole-most level) (let k = left_most (rank op) in let w = rank_within op in omega (arith, k, w)) (record { tail = NoChoice; waiting = false; far = is }) refl)
    ] in
    subst (λ (r : Reading). Waits bytes base outer ((ms ++ os) ++ m ∷ []) r opened) (sym (read-operator bytes (record { frames = level ++ base; operand = operand }) m op b))
    (waits bytes base outer op m (ms ++ os) (close_before (rank op) (level ++ base) t) opened b found)
