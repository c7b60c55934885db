-- The grammar's derivations of expressions are flat operands.
use Rattle.std.proofs.Common.{◌≡◌, ◌<◌, ◌≤◌, ◌⊎◌, inl, inr, ℕ, zero, suc, List, [], ◌∷◌, ◌++◌, Some, refl, sym, ap, subst, ◌∙◌, append_assoc, arith}
use Rattle.std.proofs.lemmas.List.{append-nil}
use Rattle.ag_grammar.specs.declared.grammar.Symbol.{Symbol}
use Rattle.ag_grammar.specs.declared.grammar.Symbol.TheVariants.{Terminal, Nonterminal}
use Rattle.ag_aadl.specs.declared.marked.Marked.{Marked}
use Rattle.ag_aadl.specs.Marks.{unmarked}
use Rattle.ag_terms.specs.declared.terms.Binary.{Binary}
use Rattle.ag_terms.specs.declared.terms.Binary.TheVariants.{Arrow, Implies, Iff, Or, And, Less, AtMost, More, AtLeast, Same, Differs, Plus, Minus, Times, Div, Mod}
use Rattle.ag_lines.specs.Lines.{GoesOn, name_ends, next_part, a_body}
use Rattle.ag_annex.specs.Marks.{arrow_mark, implies_mark, iff_mark, or_mark, and_mark, less_mark, at_most_mark, more_mark, at_least_mark, same_mark, differs_mark, plus_mark, minus_mark, times_mark, div_mark, mod_mark, negative_mark, not_mark, pre_mark, prev_mark, if_mark, then_mark, else_mark, number_mark, true_mark, false_mark, group_mark, operand_mark, call_mark, argument_mark, close_mark, path_mark, part_mark, path_body_mark}
use Rattle.ag_annex.specs.Nonterminals.{expression, operand, rest, choice, prefix, arithmetic, comparison, logical, primary, path, more_parts, some_body, some_arguments, arguments, more_arguments}
use Rattle.ag_annex.specs.Operators.{binary_of}
use Rattle.ag_annex.specs.Terminals as terminal
use Rattle.ag_lines.proofs.Flat.{IsFlat, flat_choice, flat_prefix, flat_alone, flat_between, IsPrimary, flat_number, flat_truth, flat_falsity, flat_group, flat_pre, flat_prev, flat_name, flat_bare_call, flat_call, AreFlat, flat_last, flat_more}
use Rattle.ag_lines.proofs.Parsing.{At, left, size, retake, shift, expand, Parsed, Parser}

-- ---- kinds of tokens

-- an operator before one operand
abbrev IsPrefixing : List Marked → Type 0
IsPrefixing ms = (m : Marked) × (ms ≡ m ∷ []) × ((m.mark ≡ negative_mark) ⊎ (m.mark ≡ not_mark))

-- an operator between two
abbrev IsBetween : List Marked → Type 0
IsBetween ms = (m : Marked) × (op : Binary) × (ms ≡ m ∷ []) × (binary_of m.mark ≡ Some op)

-- what may follow an operand
data IsRest : List Marked → Type 0 where
  rest_none : IsRest []
  rest_some : (op : Binary) (m : Marked) (ms : List Marked) → binary_of m.mark ≡ Some op → IsFlat ms → IsRest (m ∷ ms)

-- a name
abbrev IsNaming : List Marked → Type 0
IsNaming ms = (m : Marked) × (more : List Marked) × (ms ≡ m ∷ more) × (m.mark ≡ path_mark) × GoesOn more

-- what may follow a name
data IsCalling : List Marked → Type 0 where
  calling_none : IsCalling []
  calling_bare : (o n : Marked) → o.mark ≡ call_mark → n.mark ≡ close_mark → IsCalling (o ∷ n ∷ [])
  calling_some : (o n : Marked) (args : List Marked) → o.mark ≡ call_mark → n.mark ≡ close_mark → AreFlat args → IsCalling (o ∷ (args ++ n ∷ []))

-- some arguments, or none
data AreSome : List Marked → Type 0 where
  arguments_none : AreSome []
  arguments_some : (ms : List Marked) → AreFlat ms → AreSome ms

-- further arguments, or none
data AreMore : List Marked → Type 0 where
  more_none : AreMore []
  more_some : (c : Marked) (ms : List Marked) → c.mark ≡ argument_mark → AreFlat ms → AreMore (c ∷ ms)

-- an operand with what follows it
joined-rest : {ps ms : List Marked} → IsPrimary ps → IsRest ms → IsFlat (ps ++ ms)
joined-rest {ps} p rest_none = subst IsFlat (sym (append-nil ps)) (flat_alone ps p)
joined-rest {ps} p (rest_some op m ms b is) = flat_between op ps m ms p b is

-- a name with what follows it
joined-call : (m : Marked) (more : List Marked) {ms : List Marked} → m.mark ≡ path_mark → GoesOn more → IsCalling ms → IsPrimary ((m ∷ more) ++ ms)
joined-call m more e g calling_none = subst IsPrimary (sym (append-nil (m ∷ more))) (flat_name m more e g)
joined-call m more e g (calling_bare o n x y) = flat_bare_call m more o n e g x y
joined-call m more e g (calling_some o n args x y are) = flat_call m more o n args e g x y are

-- an argument with those that follow it
joined-more : {ms more : List Marked} → IsFlat ms → AreMore more → AreFlat (ms ++ more)
joined-more {ms} is more_none = subst AreFlat (sym (append-nil ms)) (flat_last ms is)
joined-more {ms} is (more_some c more x are) = flat_more c ms more x is are

-- the arguments in their brackets
joined-arguments : (o n : Marked) {ms : List Marked} → o.mark ≡ call_mark → n.mark ≡ close_mark → AreSome ms → IsCalling (o ∷ (ms ++ n ∷ []))
joined-arguments o n x y arguments_none = calling_bare o n x y
joined-arguments o n x y (arguments_some ms are) = calling_some o n ms x y are

-- further parts of a name
data AreParts : List Marked → Type 0 where
  no_part : AreParts []
  one_part : (c m : Marked) (ms : List Marked) → c.mark ≡ unmarked → c.terminal ≡ terminal.colons → m.mark ≡ part_mark → AreParts ms → AreParts (c ∷ m ∷ ms)

-- a name's body, or none
data IsBody : List Marked → Type 0 where
  no_body : IsBody []
  one_body : (d m : Marked) → d.mark ≡ unmarked → d.terminal ≡ terminal.dot → m.mark ≡ path_body_mark → IsBody (d ∷ m ∷ [])

-- a body goes on a name by itself
goes-body : {b : List Marked} → IsBody b → GoesOn b
goes-body no_body = name_ends
goes-body (one_body d m x y z) = a_body d m x y z

-- and behind parts
goes-joined : {a b : List Marked} → AreParts a → IsBody b → GoesOn (a ++ b)
goes-joined no_part y = goes-body y
goes-joined {b = b} (one_part c m ms x y z is) w = next_part c m (ms ++ b) x y z (goes-joined is w)

-- ---- operators and names

-- a production that is one terminal
one-token : (t k : ℕ) (Kind : List Marked → Type 0) (symbols : List Symbol) (tokens : List Marked) (bound : ℕ) → ((m : Marked) → m.mark ≡ k → Kind (m ∷ [])) → (right : List Symbol) (to : At (right ++ symbols)) → right ≡ Terminal t k ∷ []
    → tokens ≡ left to → size to < bound → Parsed Kind symbols tokens bound
one-token t k Kind symbols tokens bound kind right to e parts h =
    let s = shift t k symbols (retake (right ++ symbols) (Terminal t k ∷ symbols) (ap (λ z. z ++ symbols) e) to) in
    record { front = s.token ∷ []; kind = kind s.token s.mark; to = s.to; parts = parts ∙ s.parts; shorter = let j = s.shorter in omega (arith, j, h) }

-- the operators before one operand
prefixing : (symbols : List Symbol) (a : At (Nonterminal prefix ∷ symbols)) → Parsed IsPrefixing symbols (left a) (size a)
prefixing symbols a =
    let x = expand prefix symbols a in
    elim x.among [
      | inl e ↦ one-token terminal.minus negative_mark IsPrefixing symbols _ _ (λ m k. (m, refl, inl k)) x.right x.to e x.parts x.shorter
      | inr (inl e) ↦ one-token terminal.not_word not_mark IsPrefixing symbols _ _ (λ m k. (m, refl, inr k)) x.right x.to e x.parts x.shorter
      | inr (inr n) ↦ absurd n
    ]

-- an operator between two operands, by the one token that it is
one-operator : (t k : ℕ) (op : Binary) (symbols : List Symbol) (tokens : List Marked) (bound : ℕ) → binary_of k ≡ Some op → (right : List Symbol) (to : At (right ++ symbols)) → right ≡ Terminal t k ∷ []
    → tokens ≡ left to → size to < bound → Parsed IsBetween symbols tokens bound
one-operator t k op symbols tokens bound b right to e parts h = one-token t k IsBetween symbols tokens bound (λ m x. (m, op, refl, ap binary_of x ∙ b)) right to e parts h

-- the arithmetic operators
summing : (symbols : List Symbol) (a : At (Nonterminal arithmetic ∷ symbols)) → Parsed IsBetween symbols (left a) (size a)
summing symbols a =
    let x = expand arithmetic symbols a in
    elim x.among [
      | inl e ↦ one-operator terminal.plus plus_mark Plus symbols _ _ refl x.right x.to e x.parts x.shorter
      | inr (inl e) ↦ one-operator terminal.minus minus_mark Minus symbols _ _ refl x.right x.to e x.parts x.shorter
      | inr (inr (inl e)) ↦ one-operator terminal.times times_mark Times symbols _ _ refl x.right x.to e x.parts x.shorter
      | inr (inr (inr (inl e))) ↦ one-operator terminal.div_word div_mark Div symbols _ _ refl x.right x.to e x.parts x.shorter
      | inr (inr (inr (inr (inl e)))) ↦ one-operator terminal.mod_word mod_mark Mod symbols _ _ refl x.right x.to e x.parts x.shorter
      | inr (inr (inr (inr (inr n)))) ↦ absurd n
    ]

-- the comparisons
comparing : (symbols : List Symbol) (a : At (Nonterminal comparison ∷ symbols)) → Parsed IsBetween symbols (left a) (size a)
comparing symbols a =
    let x = expand comparison symbols a in
    elim x.among [
      | inl e ↦ one-operator terminal.less less_mark Less symbols _ _ refl x.right x.to e x.parts x.shorter
      | inr (inl e) ↦ one-operator terminal.at_most at_most_mark AtMost symbols _ _ refl x.right x.to e x.parts x.shorter
      | inr (inr (inl e)) ↦ one-operator terminal.more more_mark More symbols _ _ refl x.right x.to e x.parts x.shorter
      | inr (inr (inr (inl e))) ↦ one-operator terminal.at_least at_least_mark AtLeast symbols _ _ refl x.right x.to e x.parts x.shorter
      | inr (inr (inr (inr (inl e)))) ↦ one-operator terminal.equals same_mark Same symbols _ _ refl x.right x.to e x.parts x.shorter
      | inr (inr (inr (inr (inr (inl e))))) ↦ one-operator terminal.differs differs_mark Differs symbols _ _ refl x.right x.to e x.parts x.shorter
      | inr (inr (inr (inr (inr (inr n))))) ↦ absurd n
    ]

-- the logical operators
combining : (symbols : List Symbol) (a : At (Nonterminal logical ∷ symbols)) → Parsed IsBetween symbols (left a) (size a)
combining symbols a =
    let x = expand logical symbols a in
    elim x.among [
      | inl e ↦ one-operator terminal.and_word and_mark And symbols _ _ refl x.right x.to e x.parts x.shorter
      | inr (inl e) ↦ one-operator terminal.or_word or_mark Or symbols _ _ refl x.right x.to e x.parts x.shorter
      | inr (inr (inl e)) ↦ one-operator terminal.iff iff_mark Iff symbols _ _ refl x.right x.to e x.parts x.shorter
      | inr (inr (inr (inl e))) ↦ one-operator terminal.implies implies_mark Implies symbols _ _ refl x.right x.to e x.parts x.shorter
      | inr (inr (inr (inr (inl e)))) ↦ one-operator terminal.arrow arrow_mark Arrow symbols _ _ refl x.right x.to e x.parts x.shorter
      | inr (inr (inr (inr (inr n)))) ↦ absurd n
    ]

-- the further parts of a name
parts-by : (bound : ℕ) → Parser bound more_parts AreParts
parts-by zero symbols a h = absurd (omega arith)
parts-by (suc bound) symbols a h =
    let x = expand more_parts symbols a in
    elim x.among [
      | inl e ↦
          let s = shift terminal.colons unmarked (Terminal terminal.name part_mark ∷ Nonterminal more_parts ∷ symbols) (retake (x.right ++ symbols) _ (ap (λ z. z ++ symbols) e) x.to) in
          let u = shift terminal.name part_mark (Nonterminal more_parts ∷ symbols) s.to in
          let p = parts-by bound symbols u.to (omega arith) in
          record {
            front = s.token ∷ u.token ∷ p.front;
            kind = one_part s.token u.token p.front s.mark s.terminal u.mark p.kind;
            to = p.to;
            parts = x.parts ∙ s.parts ∙ ap (λ z. s.token ∷ z) (u.parts ∙ ap (λ z. u.token ∷ z) p.parts);
            shorter = omega arith;
          }
      | inr (inl e) ↦ record { front = []; kind = no_part; to = retake (x.right ++ symbols) symbols (ap (λ z. z ++ symbols) e) x.to; parts = x.parts; shorter = x.shorter }
      | inr (inr n) ↦ absurd n
    ]

-- the name behind its dot
body-of : (symbols : List Symbol) (a : At (Nonterminal some_body ∷ symbols)) → Parsed IsBody symbols (left a) (size a)
body-of symbols a =
    let x = expand some_body symbols a in
    elim x.among [
      | inl e ↦
          let s = shift terminal.dot unmarked (Terminal terminal.name path_body_mark ∷ symbols) (retake (x.right ++ symbols) _ (ap (λ z. z ++ symbols) e) x.to) in
          let u = shift terminal.name path_body_mark symbols s.to in
          record {
            front = s.token ∷ u.token ∷ [];
            kind = one_body s.token u.token s.mark s.terminal u.mark;
            to = u.to;
            parts = x.parts ∙ s.parts ∙ ap (λ z. s.token ∷ z) u.parts;
            shorter = omega arith;
          }
      | inr (inl e) ↦ record { front = []; kind = no_body; to = retake (x.right ++ symbols) symbols (ap (λ z. z ++ symbols) e) x.to; parts = x.parts; shorter = x.shorter }
      | inr (inr n) ↦ absurd n
    ]

-- a name
naming : (symbols : List Symbol) (a : At (Nonterminal path ∷ symbols)) → Parsed IsNaming symbols (left a) (size a)
naming symbols a =
    let x = expand path symbols a in
    elim x.among [
      | inl e ↦
          let s = shift terminal.name path_mark (Nonterminal more_parts ∷ Nonterminal some_body ∷ symbols) (retake (x.right ++ symbols) _ (ap (λ z. z ++ symbols) e) x.to) in
          let p = parts-by (suc (size s.to)) (Nonterminal some_body ∷ symbols) s.to (omega arith) in
          let q = body-of symbols p.to in
          record {
            front = s.token ∷ (p.front ++ q.front);
            kind = (s.token, p.front ++ q.front, refl, s.mark, goes-joined p.kind q.kind);
            to = q.to;
            parts = x.parts ∙ s.parts ∙ ap (λ z. s.token ∷ z) (p.parts ∙ ap (λ z. p.front ++ z) q.parts ∙ sym (append_assoc p.front q.front (left q.to)));
            shorter = omega arith;
          }
      | inr n ↦ absurd n
    ]

-- ---- expressions, where the operands with less steps are known

-- an expression
expressing : (bound : ℕ) → Parser bound operand IsFlat → Parser (suc bound) expression IsFlat
expressing bound operands symbols a h =
    let x = expand expression symbols a in
    elim x.among [
      | inl e ↦
          let p = operands symbols (retake (x.right ++ symbols) (Nonterminal operand ∷ symbols) (ap (λ z. z ++ symbols) e) x.to) (let k = x.shorter in omega (arith, k)) in
          record { front = p.front; kind = p.kind; to = p.to; parts = x.parts ∙ p.parts; shorter = omega arith }
      | inr n ↦ absurd n
    ]

-- an `if` with its three expressions
choosing : (bound : ℕ) → Parser bound operand IsFlat → Parser (suc bound) choice IsFlat
choosing bound operands symbols a h =
    let x = expand choice symbols a in
    elim x.among [
      | inl e ↦
          let w = shift terminal.if_word if_mark (Nonterminal expression ∷ Terminal terminal.then_word then_mark ∷ Nonterminal expression ∷ Terminal terminal.else_word else_mark ∷ Nonterminal expression ∷ symbols)
          (retake (x.right ++ symbols) _ (ap (λ z. z ++ symbols) e) x.to) in
          let p = expressing bound operands (Terminal terminal.then_word then_mark ∷ Nonterminal expression ∷ Terminal terminal.else_word else_mark ∷ Nonterminal expression ∷ symbols) w.to (omega arith) in
          let m = shift terminal.then_word then_mark (Nonterminal expression ∷ Terminal terminal.else_word else_mark ∷ Nonterminal expression ∷ symbols) p.to in
          let q = expressing bound operands (Terminal terminal.else_word else_mark ∷ Nonterminal expression ∷ symbols) m.to (omega arith) in
          let n = shift terminal.else_word else_mark (Nonterminal expression ∷ symbols) q.to in
          let r = expressing bound operands symbols n.to (omega arith) in
          record {
            front = w.token ∷ (p.front ++ m.token ∷ (q.front ++ n.token ∷ r.front));
            kind = flat_choice w.token m.token n.token p.front q.front r.front w.mark m.mark n.mark p.kind q.kind r.kind;
            to = r.to;
            parts =
                x.parts ∙ w.parts
                ∙ ap (λ z. w.token ∷ z) (
                p.parts
                ∙ ap (λ z. p.front ++ z) (m.parts ∙ ap (λ z. m.token ∷ z) (q.parts ∙ ap (λ z. q.front ++ z) (n.parts ∙ ap (λ z. n.token ∷ z) r.parts) ∙ sym (append_assoc q.front (n.token ∷ r.front) (left r.to))))
                ∙ sym (append_assoc p.front (m.token ∷ (q.front ++ n.token ∷ r.front)) (left r.to)));
            shorter = omega arith;
          }
      | inr n ↦ absurd n
    ]

-- further arguments, each behind a `,`
more-arguments : (bound : ℕ) → Parser bound operand IsFlat → (fuel : ℕ) → fuel ≤ suc bound → Parser fuel more_arguments AreMore
more-arguments bound operands zero k symbols a h = absurd (omega arith)
more-arguments bound operands (suc fuel) k symbols a h =
    let x = expand more_arguments symbols a in
    elim x.among [
      | inl e ↦
          let c = shift terminal.comma argument_mark (Nonterminal expression ∷ Nonterminal more_arguments ∷ symbols) (retake (x.right ++ symbols) _ (ap (λ z. z ++ symbols) e) x.to) in
          let p = expressing bound operands (Nonterminal more_arguments ∷ symbols) c.to (omega arith) in
          let q = more-arguments bound operands fuel (omega arith) symbols p.to (omega arith) in
          record {
            front = c.token ∷ (p.front ++ q.front);
            kind = more_some c.token (p.front ++ q.front) c.mark (joined-more p.kind q.kind);
            to = q.to;
            parts = x.parts ∙ c.parts ∙ ap (λ z. c.token ∷ z) (p.parts ∙ ap (λ z. p.front ++ z) q.parts ∙ sym (append_assoc p.front q.front (left q.to)));
            shorter = omega arith;
          }
      | inr (inl e) ↦ record { front = []; kind = more_none; to = retake (x.right ++ symbols) symbols (ap (λ z. z ++ symbols) e) x.to; parts = x.parts; shorter = x.shorter }
      | inr (inr n) ↦ absurd n
    ]

-- the arguments of a call
argument-list : (bound : ℕ) → Parser bound operand IsFlat → Parser (suc bound) arguments AreSome
argument-list bound operands symbols a h =
    let x = expand arguments symbols a in
    elim x.among [
      | inl e ↦
          let p = expressing bound operands (Nonterminal more_arguments ∷ symbols) (retake (x.right ++ symbols) _ (ap (λ z. z ++ symbols) e) x.to) (let k = x.shorter in omega (arith, k)) in
          let q = more-arguments bound operands (suc bound) (omega arith) symbols p.to (omega arith) in
          record {
            front = p.front ++ q.front;
            kind = arguments_some (p.front ++ q.front) (joined-more p.kind q.kind);
            to = q.to;
            parts = x.parts ∙ p.parts ∙ ap (λ z. p.front ++ z) q.parts ∙ sym (append_assoc p.front q.front (left q.to));
            shorter = omega arith;
          }
      | inr (inl e) ↦ record { front = []; kind = arguments_none; to = retake (x.right ++ symbols) symbols (ap (λ z. z ++ symbols) e) x.to; parts = x.parts; shorter = x.shorter }
      | inr (inr n) ↦ absurd n
    ]

-- the arguments in their brackets, if they stand there
calling : (bound : ℕ) → Parser bound operand IsFlat → Parser (suc bound) some_arguments IsCalling
calling bound operands symbols a h =
    let x = expand some_arguments symbols a in
    elim x.among [
      | inl e ↦
          let o = shift terminal.open_paren call_mark (Nonterminal arguments ∷ Terminal terminal.close_paren close_mark ∷ symbols) (retake (x.right ++ symbols) _ (ap (λ z. z ++ symbols) e) x.to) in
          let p = argument-list bound operands (Terminal terminal.close_paren close_mark ∷ symbols) o.to (omega arith) in
          let n = shift terminal.close_paren close_mark symbols p.to in
          record {
            front = o.token ∷ (p.front ++ n.token ∷ []);
            kind = joined-arguments o.token n.token o.mark n.mark p.kind;
            to = n.to;
            parts = x.parts ∙ o.parts ∙ ap (λ z. o.token ∷ z) (p.parts ∙ ap (λ z. p.front ++ z) n.parts ∙ sym (append_assoc p.front (n.token ∷ []) (left n.to)));
            shorter = omega arith;
          }
      | inr (inl e) ↦ record { front = []; kind = calling_none; to = retake (x.right ++ symbols) symbols (ap (λ z. z ++ symbols) e) x.to; parts = x.parts; shorter = x.shorter }
      | inr (inr n) ↦ absurd n
    ]

-- ---- operands without operators

-- an expression in parentheses
grouping : (bound : ℕ) → Parser bound operand IsFlat → (symbols right : List Symbol) (to : At (right ++ symbols)) → right ≡ Terminal terminal.open_paren group_mark ∷ Nonterminal expression ∷ Terminal terminal.close_paren close_mark ∷ []
    → size to < suc bound → (tokens : List Marked) (most : ℕ) → tokens ≡ left to → size to < most → Parsed IsPrimary symbols tokens most
grouping bound operands symbols right to e h tokens most parts k =
    let m = shift terminal.open_paren group_mark (Nonterminal expression ∷ Terminal terminal.close_paren close_mark ∷ symbols) (retake (right ++ symbols) _ (ap (λ z. z ++ symbols) e) to) in
    let p = expressing bound operands (Terminal terminal.close_paren close_mark ∷ symbols) m.to (omega arith) in
    let n = shift terminal.close_paren close_mark symbols p.to in
    record {
      front = m.token ∷ (p.front ++ n.token ∷ []);
      kind = flat_group m.token n.token p.front m.mark n.mark p.kind;
      to = n.to;
      parts = parts ∙ m.parts ∙ ap (λ z. m.token ∷ z) (p.parts ∙ ap (λ z. p.front ++ z) n.parts ∙ sym (append_assoc p.front (n.token ∷ []) (left n.to)));
      shorter = omega arith;
    }

-- a `pre`
previously : (bound : ℕ) → Parser bound operand IsFlat → (symbols right : List Symbol) (to : At (right ++ symbols))
    → right ≡ Terminal terminal.pre_word pre_mark ∷ Terminal terminal.open_paren operand_mark ∷ Nonterminal expression ∷ Terminal terminal.close_paren close_mark ∷ []
    → size to < suc bound → (tokens : List Marked) (most : ℕ) → tokens ≡ left to → size to < most → Parsed IsPrimary symbols tokens most
previously bound operands symbols right to e h tokens most parts k =
    let w = shift terminal.pre_word pre_mark (Terminal terminal.open_paren operand_mark ∷ Nonterminal expression ∷ Terminal terminal.close_paren close_mark ∷ symbols) (retake (right ++ symbols) _ (ap (λ z. z ++ symbols) e) to) in
    let m = shift terminal.open_paren operand_mark (Nonterminal expression ∷ Terminal terminal.close_paren close_mark ∷ symbols) w.to in
    let p = expressing bound operands (Terminal terminal.close_paren close_mark ∷ symbols) m.to (omega arith) in
    let n = shift terminal.close_paren close_mark symbols p.to in
    record {
      front = w.token ∷ m.token ∷ (p.front ++ n.token ∷ []);
      kind = flat_pre w.token m.token n.token p.front w.mark m.mark n.mark p.kind;
      to = n.to;
      parts = parts ∙ w.parts ∙ ap (λ z. w.token ∷ z) (m.parts ∙ ap (λ z. m.token ∷ z) (p.parts ∙ ap (λ z. p.front ++ z) n.parts ∙ sym (append_assoc p.front (n.token ∷ []) (left n.to))));
      shorter = omega arith;
    }

-- a `prev`
starting : (bound : ℕ) → Parser bound operand IsFlat → (symbols right : List Symbol) (to : At (right ++ symbols))
    → right ≡ Terminal terminal.prev_word prev_mark ∷ Terminal terminal.open_paren operand_mark ∷ Nonterminal expression ∷ Terminal terminal.comma argument_mark ∷ Nonterminal expression ∷ Terminal terminal.close_paren close_mark ∷ []
    → size to < suc bound → (tokens : List Marked) (most : ℕ) → tokens ≡ left to → size to < most → Parsed IsPrimary symbols tokens most
starting bound operands symbols right to e h tokens most parts k =
    let w = shift terminal.prev_word prev_mark (Terminal terminal.open_paren operand_mark ∷ Nonterminal expression ∷ Terminal terminal.comma argument_mark ∷ Nonterminal expression ∷ Terminal terminal.close_paren close_mark ∷ symbols)
    (retake (right ++ symbols) _ (ap (λ z. z ++ symbols) e) to) in
    let m = shift terminal.open_paren operand_mark (Nonterminal expression ∷ Terminal terminal.comma argument_mark ∷ Nonterminal expression ∷ Terminal terminal.close_paren close_mark ∷ symbols) w.to in
    let p = expressing bound operands (Terminal terminal.comma argument_mark ∷ Nonterminal expression ∷ Terminal terminal.close_paren close_mark ∷ symbols) m.to (omega arith) in
    let c = shift terminal.comma argument_mark (Nonterminal expression ∷ Terminal terminal.close_paren close_mark ∷ symbols) p.to in
    let q = expressing bound operands (Terminal terminal.close_paren close_mark ∷ symbols) c.to (omega arith) in
    let n = shift terminal.close_paren close_mark symbols q.to in
    record {
      front = w.token ∷ m.token ∷ (p.front ++ c.token ∷ (q.front ++ n.token ∷ []));
      kind = flat_prev w.token m.token c.token n.token p.front q.front w.mark m.mark c.mark n.mark p.kind q.kind;
      to = n.to;
      parts =
          parts ∙ w.parts
          ∙ ap (λ z. w.token ∷ z) (
          m.parts
          ∙ ap (λ z. m.token ∷ z) (
          p.parts
          ∙ ap (λ z. p.front ++ z) (c.parts ∙ ap (λ z. c.token ∷ z) (q.parts ∙ ap (λ z. q.front ++ z) n.parts ∙ sym (append_assoc q.front (n.token ∷ []) (left n.to))))
          ∙ sym (append_assoc p.front (c.token ∷ (q.front ++ n.token ∷ [])) (left n.to))));
      shorter = omega arith;
    }

-- a name with its arguments, or without
by-name : (bound : ℕ) → Parser bound operand IsFlat → (symbols right : List Symbol) (to : At (right ++ symbols)) → right ≡ Nonterminal path ∷ Nonterminal some_arguments ∷ []
    → size to < suc bound → (tokens : List Marked) (most : ℕ) → tokens ≡ left to → size to < most → Parsed IsPrimary symbols tokens most
by-name bound operands symbols right to e h tokens most parts k =
    let p = naming (Nonterminal some_arguments ∷ symbols) (retake (right ++ symbols) _ (ap (λ z. z ++ symbols) e) to) in
    let q = calling bound operands symbols p.to (omega arith) in
    record {
      front = (p.kind.0 ∷ p.kind.1) ++ q.front;
      kind = joined-call p.kind.0 p.kind.1 p.kind.3 p.kind.4 q.kind;
      to = q.to;
      parts = parts ∙ p.parts ∙ ap (λ z. z ++ left p.to) p.kind.2 ∙ ap (λ z. (p.kind.0 ∷ p.kind.1) ++ z) q.parts ∙ sym (append_assoc (p.kind.0 ∷ p.kind.1) q.front (left q.to));
      shorter = omega arith;
    }

-- an operand without operators
primaries : (bound : ℕ) → Parser bound operand IsFlat → Parser (suc bound) primary IsPrimary
primaries bound operands symbols a h =
    let x = expand primary symbols a in
    let within : size x.to < suc bound = let k = x.shorter in omega (arith, k) in
    elim x.among [
      | inl e ↦ one-token terminal.number number_mark IsPrimary symbols _ _ flat_number x.right x.to e x.parts x.shorter
      | inr (inl e) ↦ one-token terminal.true_word true_mark IsPrimary symbols _ _ flat_truth x.right x.to e x.parts x.shorter
      | inr (inr (inl e)) ↦ one-token terminal.false_word false_mark IsPrimary symbols _ _ flat_falsity x.right x.to e x.parts x.shorter
      | inr (inr (inr (inl e))) ↦ grouping bound operands symbols x.right x.to e within _ _ x.parts x.shorter
      | inr (inr (inr (inr (inl e)))) ↦ previously bound operands symbols x.right x.to e within _ _ x.parts x.shorter
      | inr (inr (inr (inr (inr (inl e))))) ↦ starting bound operands symbols x.right x.to e within _ _ x.parts x.shorter
      | inr (inr (inr (inr (inr (inr (inl e)))))) ↦ by-name bound operands symbols x.right x.to e within _ _ x.parts x.shorter
      | inr (inr (inr (inr (inr (inr (inr n)))))) ↦ absurd n
    ]

-- ---- operands with operators

-- an operator and the operand behind it
behind-one : (bound : ℕ) → Parser bound operand IsFlat → (n : ℕ) → ((symbols : List Symbol) (a : At (Nonterminal n ∷ symbols)) → Parsed IsBetween symbols (left a) (size a)) → (symbols right : List Symbol) (to : At (right ++ symbols))
    → right ≡ Nonterminal n ∷ Nonterminal operand ∷ [] → size to < suc bound → (tokens : List Marked) (most : ℕ) → tokens ≡ left to → size to < most → Parsed IsRest symbols tokens most
behind-one bound operands n operators symbols right to e h tokens most parts k =
    let p = operators (Nonterminal operand ∷ symbols) (retake (right ++ symbols) _ (ap (λ z. z ++ symbols) e) to) in
    let q = operands symbols p.to (omega arith) in
    record {
      front = p.kind.0 ∷ q.front;
      kind = rest_some p.kind.1 p.kind.0 q.front p.kind.3 q.kind;
      to = q.to;
      parts = parts ∙ p.parts ∙ ap (λ z. z ++ left p.to) p.kind.2 ∙ ap (λ z. p.kind.0 ∷ z) q.parts;
      shorter = omega arith;
    }

-- what follows an operand
rests : (bound : ℕ) → Parser bound operand IsFlat → Parser (suc bound) rest IsRest
rests bound operands symbols a h =
    let x = expand rest symbols a in
    let within : size x.to < suc bound = let k = x.shorter in omega (arith, k) in
    elim x.among [
      | inl e ↦ behind-one bound operands arithmetic summing symbols x.right x.to e within _ _ x.parts x.shorter
      | inr (inl e) ↦ behind-one bound operands comparison comparing symbols x.right x.to e within _ _ x.parts x.shorter
      | inr (inr (inl e)) ↦ behind-one bound operands logical combining symbols x.right x.to e within _ _ x.parts x.shorter
      | inr (inr (inr (inl e))) ↦ record { front = []; kind = rest_none; to = retake (x.right ++ symbols) symbols (ap (λ z. z ++ symbols) e) x.to; parts = x.parts; shorter = x.shorter }
      | inr (inr (inr (inr n))) ↦ absurd n
    ]

-- an operand with all that follows it
operand-by : (bound : ℕ) → Parser bound operand IsFlat → Parser (suc bound) operand IsFlat
operand-by bound operands symbols a h =
    let x = expand operand symbols a in
    let within : size x.to < suc bound = let k = x.shorter in omega (arith, k) in
    elim x.among [
      | inl e ↦
          let p = choosing bound operands symbols (retake (x.right ++ symbols) _ (ap (λ z. z ++ symbols) e) x.to) within in
          record { front = p.front; kind = p.kind; to = p.to; parts = x.parts ∙ p.parts; shorter = omega arith }
      | inr (inl e) ↦
          let p = prefixing (Nonterminal operand ∷ symbols) (retake (x.right ++ symbols) _ (ap (λ z. z ++ symbols) e) x.to) in
          let q = operands symbols p.to (omega arith) in
          record {
            front = p.kind.0 ∷ q.front;
            kind = flat_prefix p.kind.0 q.front p.kind.2 q.kind;
            to = q.to;
            parts = x.parts ∙ p.parts ∙ ap (λ z. z ++ left p.to) p.kind.1 ∙ ap (λ z. p.kind.0 ∷ z) q.parts;
            shorter = omega arith;
          }
      | inr (inr (inl e)) ↦
          let p = primaries bound operands (Nonterminal rest ∷ symbols) (retake (x.right ++ symbols) _ (ap (λ z. z ++ symbols) e) x.to) within in
          let q = rests bound operands symbols p.to (omega arith) in
          record {
            front = p.front ++ q.front;
            kind = joined-rest p.kind q.kind;
            to = q.to;
            parts = x.parts ∙ p.parts ∙ ap (λ z. p.front ++ z) q.parts ∙ sym (append_assoc p.front q.front (left q.to));
            shorter = omega arith;
          }
      | inr (inr (inr n)) ↦ absurd n
    ]

-- operands of any count of steps
operands-by : (bound : ℕ) → Parser bound operand IsFlat
operands-by zero symbols a h = absurd (omega arith)
operands-by (suc bound) symbols a h = operand-by bound (operands-by bound) symbols a h

-- an expression's tokens are a flat operand
pub expression-flat : (symbols : List Symbol) (a : At (Nonterminal expression ∷ symbols)) → Parsed IsFlat symbols (left a) (size a)
expression-flat symbols a = expressing (size a) (operands-by (size a)) symbols a (omega arith)
