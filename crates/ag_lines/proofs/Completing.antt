-- The grammar derives each expression that its lines give.
use Rattle.std.proofs.Common.{◌≡◌, ◌⊎◌, inl, inr, ℕ, zero, suc, Bool, true, false, ◌==◌, if◌then◌else◌, List, [], ◌∷◌, ◌++◌, Option, Some, map, slice_get, slice_index_or, refl, sym, ap₂, subst, append_assoc}
use Rattle.std.proofs.lemmas.Bool.{eqb-true}
use Rattle.std.proofs.lemmas.List.{append-nil}
use Rattle.ag_grammar.specs.declared.grammar.Step.{Step}
use Rattle.ag_grammar.specs.declared.grammar.Step.TheVariants.{Expand, Shift}
use Rattle.ag_grammar.specs.declared.grammar.Symbol.{Symbol}
use Rattle.ag_grammar.specs.declared.grammar.Symbol.TheVariants.{Terminal, Nonterminal}
use Rattle.ag_grammar.specs.Deterministic.{Certificate, follow_of, starts}
use Rattle.ag_grammar.specs.Grammar.{PlainProduction, IsProductionOf, Derives}
use Rattle.ag_grammar.specs.Texts.{marks_of}
use Rattle.ag_aadl.specs.declared.marked.Marked.{Marked}
use Rattle.ag_terms.specs.declared.names.Path.{Path}
use Rattle.ag_aadl.specs.Grammar.{with_ahead}
use Rattle.ag_aadl.specs.Marks.{unmarked}
use Rattle.ag_aadl.specs.Page.{Line}
use Rattle.ag_terms.specs.declared.terms.Binary.{Binary}
use Rattle.ag_terms.specs.declared.terms.Binary.TheVariants.{Arrow, Implies, Iff, Or, And, Less, AtMost, More, AtLeast, Same, Differs, Plus, Minus, Times, Div, Mod}
use Rattle.ag_terms.specs.declared.terms.Term.{Term}
use Rattle.ag_annex.specs.Certificate.{certificate}
use Rattle.ag_annex.specs.Grammar.{annex}
use Rattle.ag_lines.specs.Lines.{IsRanked, tighter, leftward, rightward, compared, negative, negated, number, truth, falsity, grouped, previous, started, chosen, named, called, AreArguments, no_argument, last_argument, next_argument, IsName, GoesOn, name_ends, next_part, a_body, IsAsMarked, AreAsMarked, terminal_beside, terminals_by_mark}
use Rattle.ag_annex.specs.Marks.{arrow_mark, implies_mark, iff_mark, or_mark, and_mark, less_mark, at_most_mark, more_mark, at_least_mark, same_mark, differs_mark, plus_mark, minus_mark, times_mark, div_mark, mod_mark, negative_mark, not_mark, pre_mark, prev_mark, if_mark, then_mark, else_mark, number_mark, true_mark, false_mark, group_mark, operand_mark, call_mark, argument_mark, close_mark, path_mark, part_mark, path_body_mark}
use Rattle.ag_annex.specs.Nonterminals.{expression, operand, rest, choice, prefix, arithmetic, comparison, logical, primary, path, more_parts, some_body, some_arguments, arguments, more_arguments}
use Rattle.ag_annex.specs.Operators.{binary_of}
use Rattle.ag_annex.specs.Page.{lines}
use Rattle.ag_annex.specs.Terminals as terminal
use Rattle.ag_lines.proofs.AsMarked.{meant, meant-apart}
use Rattle.ag_lines.proofs.Parsing.{IsOneOf, rights_in, rights_of, productions_in}

-- ---- derivations, symbol by symbol

-- the symbols derive the tokens, under their marks
pub record Made (symbols : List Symbol) (ms : List Marked) : Type 0 where
  pub steps : List Step
  pub derives : Derives annex steps symbols (map (λ (m : Marked). m.terminal) ms)
  pub marks : marks_of steps ≡ map (λ (m : Marked). m.mark) ms

made-nothing : Made [] []
made-nothing = record { steps = []; derives = tt; marks = refl }

-- a terminal
shifted : (t k : ℕ) (symbols : List Symbol) (m : Marked) (ms : List Marked) → m.terminal ≡ t → m.mark ≡ k → Made symbols ms → Made (Terminal t k ∷ symbols) (m ∷ ms)
shifted t k symbols m ms e f w = record { steps = Shift k ∷ w.steps; derives = (e, refl, w.derives); marks = ap₂ (λ (z : ℕ) (zs : List ℕ). z ∷ zs) (sym f) w.marks }

-- one of a nonterminal's productions, where it stands in the grammar
record Stands (n : ℕ) (right : List Symbol) : Type 0 where
  production : PlainProduction
  is : IsProductionOf annex n production
  same : production.right ≡ right

in-line : (c : Certificate) (k : ℕ) (ls : List Line) (right : List Symbol) → IsOneOf (rights_in ls) right → (p : PlainProduction) × (i : ℕ) × (slice_get (productions_in c k ls) i ≡ Some p) × (p.right ≡ right)
in-line c k [] right is = absurd is
in-line c k (l ∷ ls) right (inl e) = (record { name = l.name; ahead = starts c (follow_of c k) l.right; right = l.right }, 0, refl, sym e)
in-line c k (l ∷ ls) right (inr is) = let w = in-line c k ls right is in (w.0, suc w.1, w.2, w.3)

in-lines : (c : Certificate) (k : ℕ) (ls : List (List Line)) (n : ℕ) (right : List Symbol) → IsOneOf (rights_of ls n) right → (p : PlainProduction) × (i : ℕ) × (slice_get (slice_index_or (with_ahead c k ls) n []) i ≡ Some p) × (p.right ≡ right)
in-lines c k [] n right is = absurd is
in-lines c k (l ∷ ls) zero right is = in-line c k l right is
in-lines c k (l ∷ ls) (suc n) right is = in-lines c (suc k) ls n right is

-- a nonterminal
expanded : (n : ℕ) (right symbols : List Symbol) (ms : List Marked) → IsOneOf (rights_of lines n) right → Made (right ++ symbols) ms → Made (Nonterminal n ∷ symbols) ms
expanded n right symbols ms is w =
    let p = in-lines certificate 0 lines n right is in
    record {
      steps = Expand p.0.name ∷ w.steps;
      derives = (p.0, (p.1, p.2), refl, subst (λ (z : List Symbol). Derives annex w.steps (z ++ symbols) (map (λ (m : Marked). m.terminal) ms)) (sym p.3) w.derives);
      marks = w.marks;
    }

-- ---- operands

-- an operand, with what may follow it
abbrev AsOperand : List Marked → Type 0
AsOperand ms = (symbols : List Symbol) (more : List Marked) → Made (Nonterminal rest ∷ symbols) more → Made (Nonterminal operand ∷ symbols) (ms ++ more)

-- an operand without operators
abbrev AsPrimary : List Marked → Type 0
AsPrimary ms = (symbols : List Symbol) (more : List Marked) → Made symbols more → Made (Nonterminal primary ∷ symbols) (ms ++ more)

-- an expression with what may follow it
abbrev AsElse : List Marked → Type 0
AsElse ms = (symbols : List Symbol) (more : List Marked) → Made (Nonterminal rest ∷ symbols) more → Made (Nonterminal expression ∷ symbols) (ms ++ more)

-- nothing follows
without-rest : (symbols : List Symbol) (more : List Marked) → Made symbols more → Made (Nonterminal rest ∷ symbols) more
without-rest symbols more w = expanded rest [] symbols more (inr (inr (inr (inl refl)))) w

-- an expression
as-expression : (ms : List Marked) → AsOperand ms → (symbols : List Symbol) (more : List Marked) → Made symbols more → Made (Nonterminal expression ∷ symbols) (ms ++ more)
as-expression ms is symbols more w = expanded expression (Nonterminal operand ∷ []) symbols (ms ++ more) (inl refl) (is symbols more (without-rest symbols more w))

-- a primary as an operand
as-operand : (ms : List Marked) → AsPrimary ms → AsOperand ms
as-operand ms is symbols more w = expanded operand (Nonterminal primary ∷ Nonterminal rest ∷ []) symbols (ms ++ more) (inr (inr (inl refl))) (is (Nonterminal rest ∷ symbols) more w)

-- ---- operators

-- an operator as one of a kind
one-operator : (n t k : ℕ) (m : Marked) (symbols : List Symbol) (more : List Marked) → IsOneOf (rights_of lines n) (Terminal t k ∷ []) → terminal_beside k terminals_by_mark ≡ Some t → IsAsMarked m → m.mark ≡ k → Made symbols more
    → Made (Nonterminal n ∷ symbols) (m ∷ more)
one-operator n t k m symbols more is h q e w = expanded n (Terminal t k ∷ []) symbols (m ∷ more) is (shifted t k symbols m more (meant m k t q e h) e w)

arithmetic-rest : (t k : ℕ) (m : Marked) (symbols : List Symbol) (more : List Marked) → IsOneOf (rights_of lines arithmetic) (Terminal t k ∷ []) → terminal_beside k terminals_by_mark ≡ Some t → IsAsMarked m → m.mark ≡ k
    → Made (Nonterminal operand ∷ symbols) more → Made (Nonterminal rest ∷ symbols) (m ∷ more)
arithmetic-rest t k m symbols more is h q e w = expanded rest (Nonterminal arithmetic ∷ Nonterminal operand ∷ []) symbols (m ∷ more) (inl refl) (one-operator arithmetic t k m (Nonterminal operand ∷ symbols) more is h q e w)

comparison-rest : (t k : ℕ) (m : Marked) (symbols : List Symbol) (more : List Marked) → IsOneOf (rights_of lines comparison) (Terminal t k ∷ []) → terminal_beside k terminals_by_mark ≡ Some t → IsAsMarked m → m.mark ≡ k
    → Made (Nonterminal operand ∷ symbols) more → Made (Nonterminal rest ∷ symbols) (m ∷ more)
comparison-rest t k m symbols more is h q e w = expanded rest (Nonterminal comparison ∷ Nonterminal operand ∷ []) symbols (m ∷ more) (inr (inl refl)) (one-operator comparison t k m (Nonterminal operand ∷ symbols) more is h q e w)

logical-rest : (t k : ℕ) (m : Marked) (symbols : List Symbol) (more : List Marked) → IsOneOf (rights_of lines logical) (Terminal t k ∷ []) → terminal_beside k terminals_by_mark ≡ Some t → IsAsMarked m → m.mark ≡ k
    → Made (Nonterminal operand ∷ symbols) more → Made (Nonterminal rest ∷ symbols) (m ∷ more)
logical-rest t k m symbols more is h q e w = expanded rest (Nonterminal logical ∷ Nonterminal operand ∷ []) symbols (m ∷ more) (inr (inr (inl refl))) (one-operator logical t k m (Nonterminal operand ∷ symbols) more is h q e w)

pick-by : (k a : ℕ) (x : Binary) (others : Option Binary) (op : Binary) (b : Bool) → (k == a) ≡ b → (if b then Some x else others) ≡ Some op → (k ≡ a) ⊎ (others ≡ Some op)
pick-by k a x others op true e f = inl (eqb-true k a e)
pick-by k a x others op false e f = inr f

-- what has the mark of an operator, or of a later one
pick : (k a : ℕ) (x : Binary) (others : Option Binary) (op : Binary) → (if k == a then Some x else others) ≡ Some op → (k ≡ a) ⊎ (others ≡ Some op)
pick k a x others op e = pick-by k a x others op (k == a) refl e

-- an operator between two operands
operator-made : (m : Marked) (op : Binary) → binary_of m.mark ≡ Some op → IsAsMarked m → (symbols : List Symbol) (more : List Marked) → Made (Nonterminal operand ∷ symbols) more → Made (Nonterminal rest ∷ symbols) (m ∷ more)
operator-made m op b q symbols more w =
    elim (pick m.mark arrow_mark Arrow _ op b) [
      | inl e ↦ logical-rest terminal.arrow arrow_mark m symbols more (inr (inr (inr (inr (inl refl))))) refl q e w
      | inr b ↦
          elim (pick m.mark implies_mark Implies _ op b) [
            | inl e ↦ logical-rest terminal.implies implies_mark m symbols more (inr (inr (inr (inl refl)))) refl q e w
            | inr b ↦
                elim (pick m.mark iff_mark Iff _ op b) [
                  | inl e ↦ logical-rest terminal.iff iff_mark m symbols more (inr (inr (inl refl))) refl q e w
                  | inr b ↦
                      elim (pick m.mark or_mark Or _ op b) [
                        | inl e ↦ logical-rest terminal.or_word or_mark m symbols more (inr (inl refl)) refl q e w
                        | inr b ↦
                            elim (pick m.mark and_mark And _ op b) [
                              | inl e ↦ logical-rest terminal.and_word and_mark m symbols more (inl refl) refl q e w
                              | inr b ↦
                                  elim (pick m.mark less_mark Less _ op b) [
                                    | inl e ↦ comparison-rest terminal.less less_mark m symbols more (inl refl) refl q e w
                                    | inr b ↦
                                        elim (pick m.mark at_most_mark AtMost _ op b) [
                                          | inl e ↦ comparison-rest terminal.at_most at_most_mark m symbols more (inr (inl refl)) refl q e w
                                          | inr b ↦
                                              elim (pick m.mark more_mark More _ op b) [
                                                | inl e ↦ comparison-rest terminal.more more_mark m symbols more (inr (inr (inl refl))) refl q e w
                                                | inr b ↦
                                                    elim (pick m.mark at_least_mark AtLeast _ op b) [
                                                      | inl e ↦ comparison-rest terminal.at_least at_least_mark m symbols more (inr (inr (inr (inl refl)))) refl q e w
                                                      | inr b ↦
                                                          elim (pick m.mark same_mark Same _ op b) [
                                                            | inl e ↦ comparison-rest terminal.equals same_mark m symbols more (inr (inr (inr (inr (inl refl))))) refl q e w
                                                            | inr b ↦
                                                                elim (pick m.mark differs_mark Differs _ op b) [
                                                                  | inl e ↦ comparison-rest terminal.differs differs_mark m symbols more (inr (inr (inr (inr (inr (inl refl)))))) refl q e w
                                                                  | inr b ↦
                                                                      elim (pick m.mark plus_mark Plus _ op b) [
                                                                        | inl e ↦ arithmetic-rest terminal.plus plus_mark m symbols more (inl refl) refl q e w
                                                                        | inr b ↦
                                                                            elim (pick m.mark minus_mark Minus _ op b) [
                                                                              | inl e ↦ arithmetic-rest terminal.minus minus_mark m symbols more (inr (inl refl)) refl q e w
                                                                              | inr b ↦
                                                                                  elim (pick m.mark times_mark Times _ op b) [
                                                                                    | inl e ↦ arithmetic-rest terminal.times times_mark m symbols more (inr (inr (inl refl))) refl q e w
                                                                                    | inr b ↦
                                                                                        elim (pick m.mark div_mark Div _ op b) [
                                                                                          | inl e ↦ arithmetic-rest terminal.div_word div_mark m symbols more (inr (inr (inr (inl refl)))) refl q e w
                                                                                          | inr b ↦
                                                                                              elim (pick m.mark mod_mark Mod _ op b) [
                                                                                                | inl e ↦ arithmetic-rest terminal.mod_word mod_mark m symbols more (inr (inr (inr (inr (inl refl))))) refl q e w
                                                                                                | inr b ↦ absurd cc
                                                                                              ]
                                                                                        ]
                                                                                  ]
                                                                            ]
                                                                      ]
                                                                ]
                                                          ]
                                                    ]
                                              ]
                                        ]
                                  ]
                            ]
                      ]
                ]
          ]
    ]

-- ---- names

-- what goes on a name
name-made : (ms : List Marked) → GoesOn ms → AreAsMarked ms → (symbols : List Symbol) (more : List Marked) → Made symbols more → Made (Nonterminal more_parts ∷ Nonterminal some_body ∷ symbols) (ms ++ more)
name-made [] name_ends q symbols more w =
    expanded more_parts [] (Nonterminal some_body ∷ symbols) more (inr (inl refl)) (expanded some_body [] symbols more (inr (inl refl)) w)
name-made _ (next_part c m ms x y z g) q symbols more w =
    expanded more_parts (Terminal terminal.colons unmarked ∷ Terminal terminal.name part_mark ∷ Nonterminal more_parts ∷ []) (Nonterminal some_body ∷ symbols) (c ∷ m ∷ (ms ++ more)) (inl refl)
    (shifted terminal.colons unmarked (Terminal terminal.name part_mark ∷ Nonterminal more_parts ∷ Nonterminal some_body ∷ symbols) c (m ∷ (ms ++ more)) y x
    (shifted terminal.name part_mark (Nonterminal more_parts ∷ Nonterminal some_body ∷ symbols) m (ms ++ more) (meant m part_mark terminal.name q.1.0 z refl) z (name-made ms g q.1.1 symbols more w)))
name-made _ (a_body d m x y z) q symbols more w =
    expanded more_parts [] (Nonterminal some_body ∷ symbols) (d ∷ m ∷ more) (inr (inl refl))
    (expanded some_body (Terminal terminal.dot unmarked ∷ Terminal terminal.name path_body_mark ∷ []) symbols (d ∷ m ∷ more) (inl refl)
    (shifted terminal.dot unmarked (Terminal terminal.name path_body_mark ∷ symbols) d (m ∷ more) y x
    (shifted terminal.name path_body_mark symbols m more (meant m path_body_mark terminal.name q.1.0 z refl) z w)))

-- a name with what follows it
path-made : (bytes : List ℕ) (ms : List Marked) (p : Path) → IsName bytes ms p → AreAsMarked ms → (symbols : List Symbol) (more : List Marked) → Made (Nonterminal some_arguments ∷ symbols) more → Made (Nonterminal primary ∷ symbols) (ms ++ more)
path-made bytes ms p n q symbols more w =
    let r = subst AreAsMarked n.tokens q in
    subst (λ (z : List Marked). Made (Nonterminal primary ∷ symbols) (z ++ more)) (sym n.tokens)
    (expanded primary (Nonterminal path ∷ Nonterminal some_arguments ∷ []) symbols (n.first ∷ (n.more ++ more)) (inr (inr (inr (inr (inr (inr (inl refl)))))))
    (expanded path (Terminal terminal.name path_mark ∷ Nonterminal more_parts ∷ Nonterminal some_body ∷ []) (Nonterminal some_arguments ∷ symbols) (n.first ∷ (n.more ++ more)) (inl refl)
    (shifted terminal.name path_mark (Nonterminal more_parts ∷ Nonterminal some_body ∷ Nonterminal some_arguments ∷ symbols) n.first (n.more ++ more) (meant n.first path_mark terminal.name r.0 n.begins refl) n.begins
    (name-made n.more n.goes r.1 (Nonterminal some_arguments ∷ symbols) more w))))

-- ---- expressions

-- one token is an operand
token-made : (m : Marked) (t k : ℕ) → m.mark ≡ k → IsAsMarked m → terminal_beside k terminals_by_mark ≡ Some t → IsOneOf (rights_of lines primary) (Terminal t k ∷ []) → AsPrimary (m ∷ [])
token-made m t k e q h is symbols more w = expanded primary (Terminal t k ∷ []) symbols (m ∷ more) is (shifted t k symbols m more (meant m k t q e h) e w)

-- an operator before an operand
prefix-made : (m : Marked) (t k : ℕ) (ms : List Marked) → m.mark ≡ k → IsAsMarked m → terminal_beside k terminals_by_mark ≡ Some t → IsOneOf (rights_of lines prefix) (Terminal t k ∷ []) → AsOperand ms → AsOperand (m ∷ ms)
prefix-made m t k ms e q h is operands symbols more w =
    expanded operand (Nonterminal prefix ∷ Nonterminal operand ∷ []) symbols (m ∷ (ms ++ more)) (inr (inl refl))
    (expanded prefix (Terminal t k ∷ []) (Nonterminal operand ∷ symbols) (m ∷ (ms ++ more)) is (shifted t k (Nonterminal operand ∷ symbols) m (ms ++ more) (meant m k t q e h) e (operands symbols more w)))

-- an operator between two operands
between-made : (op : Binary) (m : Marked) (before behind : List Marked) → binary_of m.mark ≡ Some op → IsAsMarked m → AsOperand before → AsOperand behind → AsOperand (before ++ m ∷ behind)
between-made op m before behind b q lefts rights symbols more w =
    subst (λ (z : List Marked). Made (Nonterminal operand ∷ symbols) z) (sym (append_assoc before (m ∷ behind) more))
    (lefts symbols (m ∷ (behind ++ more)) (operator-made m op b q symbols (behind ++ more) (rights symbols more w)))

-- an expression before its `)`
bracket-made : (ms : List Marked) (n : Marked) → AsOperand ms → IsAsMarked n → n.mark ≡ close_mark → (symbols : List Symbol) (more : List Marked) → Made symbols more → Made (Nonterminal expression ∷ Terminal terminal.close_paren close_mark ∷ symbols) ((ms ++ n ∷ []) ++ more)
bracket-made ms n is q e symbols more w =
    subst (λ (z : List Marked). Made (Nonterminal expression ∷ Terminal terminal.close_paren close_mark ∷ symbols) z) (sym (append_assoc ms (n ∷ []) more))
    (as-expression ms is (Terminal terminal.close_paren close_mark ∷ symbols) (n ∷ more) (shifted terminal.close_paren close_mark symbols n more (meant n close_mark terminal.close_paren q e refl) e w))

-- the operand behind an `else`, with what may follow the choice
else-made : (ms : List Marked) → AsOperand ms → AsElse ms
else-made ms is symbols more w = expanded expression (Nonterminal operand ∷ []) symbols (ms ++ more) (inl refl) (is symbols more w)

mutual
  operand-made : (bytes : List ℕ) {r : ℕ} {ms : List Marked} {t : Term} → IsRanked bytes r ms t → AreAsMarked ms → AsOperand ms
  operand-made bytes (tighter r ms t h is) q = operand-made bytes is q
  operand-made bytes (leftward op m before behind left right b low other l r) q =
      let p = meant-apart before (m ∷ behind) q in between-made op m before behind b p.1.0 (operand-made bytes l p.0) (operand-made bytes r p.1.1)
  operand-made bytes (rightward op m before behind left right b low l r) q =
      let p = meant-apart before (m ∷ behind) q in between-made op m before behind b p.1.0 (operand-made bytes l p.0) (operand-made bytes r p.1.1)
  operand-made bytes (compared op m before behind left right b e l r) q =
      let p = meant-apart before (m ∷ behind) q in between-made op m before behind b p.1.0 (operand-made bytes l p.0) (operand-made bytes r p.1.1)
  operand-made bytes (negative m ms t e is) q = prefix-made m terminal.minus negative_mark ms e q.0 refl (inl refl) (operand-made bytes is q.1)
  operand-made bytes (negated m ms t e is) q = prefix-made m terminal.not_word not_mark ms e q.0 refl (inr (inl refl)) (operand-made bytes is q.1)
  operand-made bytes (number m e) q = as-operand (m ∷ []) (token-made m terminal.number number_mark e q.0 refl (inl refl))
  operand-made bytes (truth m e) q = as-operand (m ∷ []) (token-made m terminal.true_word true_mark e q.0 refl (inr (inl refl)))
  operand-made bytes (falsity m e) q = as-operand (m ∷ []) (token-made m terminal.false_word false_mark e q.0 refl (inr (inr (inl refl))))
  operand-made bytes (grouped m n ms t x y is) q =
      let p = meant-apart ms (n ∷ []) q.1 in
      as-operand (m ∷ (ms ++ n ∷ []))
      (λ symbols more w.
      expanded primary (Terminal terminal.open_paren group_mark ∷ Nonterminal expression ∷ Terminal terminal.close_paren close_mark ∷ []) symbols (m ∷ ((ms ++ n ∷ []) ++ more)) (inr (inr (inr (inl refl))))
      (shifted terminal.open_paren group_mark (Nonterminal expression ∷ Terminal terminal.close_paren close_mark ∷ symbols) m ((ms ++ n ∷ []) ++ more) (meant m group_mark terminal.open_paren q.0 x refl) x
      (bracket-made ms n (operand-made bytes is p.0) p.1.0 y symbols more w)))
  operand-made bytes (previous v m n ms t x y z is) q =
      let p = meant-apart ms (n ∷ []) q.1.1 in
      as-operand (v ∷ m ∷ (ms ++ n ∷ []))
      (λ symbols more w.
      expanded primary (Terminal terminal.pre_word pre_mark ∷ Terminal terminal.open_paren operand_mark ∷ Nonterminal expression ∷ Terminal terminal.close_paren close_mark ∷ []) symbols (v ∷ m ∷ ((ms ++ n ∷ []) ++ more)) (inr (inr (inr (inr (inl refl)))))
      (shifted terminal.pre_word pre_mark (Terminal terminal.open_paren operand_mark ∷ Nonterminal expression ∷ Terminal terminal.close_paren close_mark ∷ symbols) v (m ∷ ((ms ++ n ∷ []) ++ more)) (meant v pre_mark terminal.pre_word q.0 x refl) x
      (shifted terminal.open_paren operand_mark (Nonterminal expression ∷ Terminal terminal.close_paren close_mark ∷ symbols) m ((ms ++ n ∷ []) ++ more) (meant m operand_mark terminal.open_paren q.1.0 y refl) y
      (bracket-made ms n (operand-made bytes is p.0) p.1.0 z symbols more w))))
  operand-made bytes (started v m c n es is e i x y z k l r) q =
      let p = meant-apart es (c ∷ (is ++ n ∷ [])) q.1.1 in
      let u = meant-apart is (n ∷ []) p.1.1 in
      as-operand (v ∷ m ∷ (es ++ c ∷ (is ++ n ∷ [])))
      (λ symbols more w.
      expanded primary (Terminal terminal.prev_word prev_mark ∷ Terminal terminal.open_paren operand_mark ∷ Nonterminal expression ∷ Terminal terminal.comma argument_mark ∷ Nonterminal expression ∷ Terminal terminal.close_paren close_mark ∷ []) symbols
      (v ∷ m ∷ ((es ++ c ∷ (is ++ n ∷ [])) ++ more)) (inr (inr (inr (inr (inr (inl refl))))))
      (shifted terminal.prev_word prev_mark (Terminal terminal.open_paren operand_mark ∷ Nonterminal expression ∷ Terminal terminal.comma argument_mark ∷ Nonterminal expression ∷ Terminal terminal.close_paren close_mark ∷ symbols) v
      (m ∷ ((es ++ c ∷ (is ++ n ∷ [])) ++ more)) (meant v prev_mark terminal.prev_word q.0 x refl) x
      (shifted terminal.open_paren operand_mark (Nonterminal expression ∷ Terminal terminal.comma argument_mark ∷ Nonterminal expression ∷ Terminal terminal.close_paren close_mark ∷ symbols) m
      ((es ++ c ∷ (is ++ n ∷ [])) ++ more) (meant m operand_mark terminal.open_paren q.1.0 y refl) y
      (subst (λ (z : List Marked). Made (Nonterminal expression ∷ Terminal terminal.comma argument_mark ∷ Nonterminal expression ∷ Terminal terminal.close_paren close_mark ∷ symbols) z) (sym (append_assoc es (c ∷ (is ++ n ∷ [])) more))
      (as-expression es (operand-made bytes l p.0) (Terminal terminal.comma argument_mark ∷ Nonterminal expression ∷ Terminal terminal.close_paren close_mark ∷ symbols) (c ∷ ((is ++ n ∷ []) ++ more))
      (shifted terminal.comma argument_mark (Nonterminal expression ∷ Terminal terminal.close_paren close_mark ∷ symbols) c ((is ++ n ∷ []) ++ more) (meant c argument_mark terminal.comma p.1.0 z refl) z
      (bracket-made is n (operand-made bytes r u.0) u.1.0 k symbols more w)))))))
  operand-made bytes (chosen v m n tests firsts others test first other x y z a b c) q =
      let p = meant-apart tests (m ∷ (firsts ++ n ∷ others)) q.1 in
      let u = meant-apart firsts (n ∷ others) p.1.1 in
      λ symbols more w.
      expanded operand (Nonterminal choice ∷ []) symbols ((v ∷ (tests ++ m ∷ (firsts ++ n ∷ others))) ++ more) (inl refl)
      (expanded choice (Terminal terminal.if_word if_mark ∷ Nonterminal expression ∷ Terminal terminal.then_word then_mark ∷ Nonterminal expression ∷ Terminal terminal.else_word else_mark ∷ Nonterminal expression ∷ []) symbols
      ((v ∷ (tests ++ m ∷ (firsts ++ n ∷ others))) ++ more) (inl refl)
      (shifted terminal.if_word if_mark (Nonterminal expression ∷ Terminal terminal.then_word then_mark ∷ Nonterminal expression ∷ Terminal terminal.else_word else_mark ∷ Nonterminal expression ∷ symbols) v
      ((tests ++ m ∷ (firsts ++ n ∷ others)) ++ more) (meant v if_mark terminal.if_word q.0 x refl) x
      (subst (λ (z : List Marked). Made (Nonterminal expression ∷ Terminal terminal.then_word then_mark ∷ Nonterminal expression ∷ Terminal terminal.else_word else_mark ∷ Nonterminal expression ∷ symbols) z)
      (sym (append_assoc tests (m ∷ (firsts ++ n ∷ others)) more))
      (as-expression tests (operand-made bytes a p.0) (Terminal terminal.then_word then_mark ∷ Nonterminal expression ∷ Terminal terminal.else_word else_mark ∷ Nonterminal expression ∷ symbols) (m ∷ ((firsts ++ n ∷ others) ++ more))
      (shifted terminal.then_word then_mark (Nonterminal expression ∷ Terminal terminal.else_word else_mark ∷ Nonterminal expression ∷ symbols) m ((firsts ++ n ∷ others) ++ more) (meant m then_mark terminal.then_word p.1.0 y refl) y
      (subst (λ (z : List Marked). Made (Nonterminal expression ∷ Terminal terminal.else_word else_mark ∷ Nonterminal expression ∷ symbols) z) (sym (append_assoc firsts (n ∷ others) more))
      (as-expression firsts (operand-made bytes b u.0) (Terminal terminal.else_word else_mark ∷ Nonterminal expression ∷ symbols) (n ∷ (others ++ more))
      (shifted terminal.else_word else_mark (Nonterminal expression ∷ symbols) n (others ++ more) (meant n else_mark terminal.else_word u.1.0 z refl) z
      (else-made others (operand-made bytes c u.1.1) symbols more w)))))))))
  operand-made bytes (named ms p n) q = as-operand ms (λ symbols more w. path-made bytes ms p n q symbols more (expanded some_arguments [] symbols more (inr (inl refl)) w))
  operand-made bytes (called ms args m n p ts is x y are) q =
      let u = meant-apart ms (m ∷ (args ++ n ∷ [])) q in
      let v = meant-apart args (n ∷ []) u.1.1 in
      as-operand (ms ++ m ∷ (args ++ n ∷ []))
      (λ symbols more w.
      subst (λ (z : List Marked). Made (Nonterminal primary ∷ symbols) z) (sym (append_assoc ms (m ∷ (args ++ n ∷ [])) more))
      (path-made bytes ms p is u.0 symbols (m ∷ ((args ++ n ∷ []) ++ more))
      (expanded some_arguments (Terminal terminal.open_paren call_mark ∷ Nonterminal arguments ∷ Terminal terminal.close_paren close_mark ∷ []) symbols (m ∷ ((args ++ n ∷ []) ++ more)) (inl refl)
      (shifted terminal.open_paren call_mark (Nonterminal arguments ∷ Terminal terminal.close_paren close_mark ∷ symbols) m ((args ++ n ∷ []) ++ more) (meant m call_mark terminal.open_paren u.1.0 x refl) x
      (subst (λ (z : List Marked). Made (Nonterminal arguments ∷ Terminal terminal.close_paren close_mark ∷ symbols) z) (sym (append_assoc args (n ∷ []) more))
      (arguments-made bytes are v.0 (Terminal terminal.close_paren close_mark ∷ symbols) (n ∷ more) (shifted terminal.close_paren close_mark symbols n more (meant n close_mark terminal.close_paren v.1.0 y refl) y w)))))))

  -- the arguments of a call
  arguments-made : (bytes : List ℕ) {ms : List Marked} {ts : List Term} → AreArguments bytes ms ts → AreAsMarked ms → (symbols : List Symbol) (more : List Marked) → Made symbols more → Made (Nonterminal arguments ∷ symbols) (ms ++ more)
  arguments-made bytes no_argument q symbols more w = expanded arguments [] symbols more (inr (inl refl)) w
  arguments-made bytes (last_argument ms t is) q symbols more w =
      expanded arguments (Nonterminal expression ∷ Nonterminal more_arguments ∷ []) symbols (ms ++ more) (inl refl)
      (as-expression ms (operand-made bytes is q) (Nonterminal more_arguments ∷ symbols) more (expanded more_arguments [] symbols more (inr (inl refl)) w))
  arguments-made bytes (next_argument c ms others t u us e is are) q symbols more w =
      let p = meant-apart ms (c ∷ others) q in
      expanded arguments (Nonterminal expression ∷ Nonterminal more_arguments ∷ []) symbols ((ms ++ c ∷ others) ++ more) (inl refl)
      (subst (λ (z : List Marked). Made (Nonterminal expression ∷ Nonterminal more_arguments ∷ symbols) z) (sym (append_assoc ms (c ∷ others) more))
      (as-expression ms (operand-made bytes is p.0) (Nonterminal more_arguments ∷ symbols) (c ∷ (others ++ more)) (further-made bytes c e p.1.0 are p.1.1 symbols more w)))

  -- further arguments, behind a `,`
  further-made : (bytes : List ℕ) (c : Marked) → c.mark ≡ argument_mark → IsAsMarked c → {ms : List Marked} {t : Term} {ts : List Term} → AreArguments bytes ms (t ∷ ts) → AreAsMarked ms → (symbols : List Symbol) (more : List Marked) → Made symbols more
      → Made (Nonterminal more_arguments ∷ symbols) (c ∷ (ms ++ more))
  further-made bytes c e k (last_argument ms t is) q symbols more w =
      expanded more_arguments (Terminal terminal.comma argument_mark ∷ Nonterminal expression ∷ Nonterminal more_arguments ∷ []) symbols (c ∷ (ms ++ more)) (inl refl)
      (shifted terminal.comma argument_mark (Nonterminal expression ∷ Nonterminal more_arguments ∷ symbols) c (ms ++ more) (meant c argument_mark terminal.comma k e refl) e
      (as-expression ms (operand-made bytes is q) (Nonterminal more_arguments ∷ symbols) more (expanded more_arguments [] symbols more (inr (inl refl)) w)))
  further-made bytes c e k (next_argument d ms others t u us f is are) q symbols more w =
      let p = meant-apart ms (d ∷ others) q in
      expanded more_arguments (Terminal terminal.comma argument_mark ∷ Nonterminal expression ∷ Nonterminal more_arguments ∷ []) symbols (c ∷ ((ms ++ d ∷ others) ++ more)) (inl refl)
      (shifted terminal.comma argument_mark (Nonterminal expression ∷ Nonterminal more_arguments ∷ symbols) c ((ms ++ d ∷ others) ++ more) (meant c argument_mark terminal.comma k e refl) e
      (subst (λ (z : List Marked). Made (Nonterminal expression ∷ Nonterminal more_arguments ∷ symbols) z) (sym (append_assoc ms (d ∷ others) more))
      (as-expression ms (operand-made bytes is p.0) (Nonterminal more_arguments ∷ symbols) (d ∷ (others ++ more)) (further-made bytes d f p.1.0 are p.1.1 symbols more w))))

-- each expression that the lines give is derived
pub expression-made : (bytes : List ℕ) (ms : List Marked) (t : Term) → IsRanked bytes 0 ms t → AreAsMarked ms → Made (Nonterminal expression ∷ []) ms
expression-made bytes ms t is q = subst (λ (z : List Marked). Made (Nonterminal expression ∷ []) z) (append-nil ms) (as-expression ms (operand-made bytes is q) [] [] made-nothing)
