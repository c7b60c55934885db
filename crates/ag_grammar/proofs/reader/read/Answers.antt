use Rattle.std.proofs.Common.{◌≡◌, ◌++◌, ◌∷◌, [], ℕ, Bool, true, false, List, Option, Some, reverse, ap, subst, sym, ◌∙◌}
use Rattle.ag_grammar.specs.declared.grammar.Symbol.{Symbol}
use Rattle.ag_grammar.specs.declared.grammar.Symbol.TheVariants.{Nonterminal}
use Rattle.ag_grammar.specs.declared.grammar.Step.{Step}
use Rattle.ag_grammar.specs.Texts.{IsReading, AreForced}
use Rattle.ag_grammar.specs.Reading.{IsReached, Goes}
use Rattle.ag_grammar.proofs.Reaching.{reached_start, reached_end, refuse_rest, begins, none_forced, one_more_forced, no_symbols, derived_is, bad_is}
use Rattle.ag_grammar.proofs.reader.read.Given.{Over}
use Rattle.ag_grammar.proofs.reader.read.Goals as goal
use Rattle.ag_grammar.proofs.reader.read.Goals.{then-progress-terminals, else-progress-terminals}

pub loop-symbol-init : goal.loop-symbol-init
loop-symbol-init g c =
    let grammar = g.G.Grammar.plain c.args.grammar.now in
    let xs = c.args.terminals.now in
    let stack : Nonterminal grammar.start ∷ [] ≡ reverse c.push.new.self.items =
    ap (λ (n : ℕ). Nonterminal n ∷ []) (sym c.start.ensures) ∙ ap reverse (ap (λ (z : List Symbol). z ++ Nonterminal c.start.result ∷ []) (sym c.new-stack.ensures.items) ∙ sym c.in_ok-push.ensures.items) in
    record {
      reached = subst (λ (s : List Step). IsReached grammar xs 0 s (reverse c.push.new.self.items)) (sym c.new.ensures.items) (subst (λ (z : List Symbol). IsReached grammar xs 0 [] z) stack (reached_start grammar xs));
      forced = subst (λ (s : List Step). AreForced grammar xs s) (sym c.new.ensures.items) (none_forced grammar xs);
    }

pub loop-symbol-preserved : goal.loop-symbol-preserved
loop-symbol-preserved g c =
    let grammar = g.G.Grammar.plain c.args.grammar.now in
    let xs = c.args.terminals.now in
    let old = c.loop-symbol.progress in
    let new = c.go.new.self in
    let P : Bool → Type 0 = λ b. Goes grammar xs old.at old.steps.items new.at new.steps.items (reverse new.stack.items) b in
    let gone : P true = subst P c.if-not-branch.false c.in_ok-go.ensures in
    record {
      reached = gone.reached;
      forced = subst (λ (s : List Step). AreForced grammar xs s) (sym gone.added) (one_more_forced grammar xs old.steps.items gone.step c.loop-symbol.invariant.forced gone.forced);
    }

-- the terminals failed at a symbol
failed : (g : Over) (c : goal.After-ended g) → IsReading (g.G.Grammar.plain c.args.grammar.now) c.args.terminals.now c.ended.result.steps c.ended.result.bad
failed g c =
    let grammar = g.G.Grammar.plain c.args.grammar.now in
    let xs = c.args.terminals.now in
    let old = c.loop-symbol.progress in
    let new = c.go.new.self in
    let r = c.loop-symbol.invariant.reached in
    let P : Bool → Type 0 = λ b. Goes grammar xs old.at old.steps.items new.at new.steps.items (reverse new.stack.items) b in
    let gone : P false = subst P c.if-not-branch.true c.in_ok-go.ensures in
    let steps : old.steps.items ≡ c.ended.result.steps = sym gone.2 ∙ sym c.ended.ensures.steps in
    let bad : Some old.at ≡ c.ended.result.bad = ap (λ (n : ℕ). Some n) (sym gone.1) ∙ sym c.ended.ensures.bad in
    let Q : Option ℕ → Type 0 = λ o. IsReading grammar xs c.ended.result.steps o in
    let here : Q (Some old.at) = subst (λ (s : List Step). IsReading grammar xs s (Some old.at)) steps (sym r.count, begins grammar c.requires xs old.at old.steps.items (reverse old.stack.items) r, gone.0) in
    subst Q bad here

pub returns-then-not-branch-clause-read : goal.returns-then-not-branch-clause-read
returns-then-not-branch-clause-read g c = failed g c

pub returns-then-not-branch-clause-text : goal.returns-then-not-branch-clause-text
returns-then-not-branch-clause-text g c = λ steps d. derived_is (g.G.Grammar.plain c.args.grammar.now) c.args.terminals.now c.ended.result.steps steps c.ended.result.bad c.requires (failed g c) d

pub returns-then-not-branch-clause-bad : goal.returns-then-not-branch-clause-bad
returns-then-not-branch-clause-bad g c = λ at b. bad_is (g.G.Grammar.plain c.args.grammar.now) c.args.terminals.now c.ended.result.steps c.ended.result.bad at (failed g c) b

-- no symbol is left
ended : (g : Over) (c : goal.After-ended-2 g) → IsReading (g.G.Grammar.plain c.args.grammar.now) c.args.terminals.now c.ended-2.result.steps c.ended-2.result.bad
ended g c =
    let grammar = g.G.Grammar.plain c.args.grammar.now in
    let xs = c.args.terminals.now in
    let old = c.loop-symbol.progress in
    let none : reverse old.stack.items ≡ [] = no_symbols old.stack.items (sym old.stack.ok.0 ∙ c.in_default.ensures.cases.0) in
    let r = subst (λ (z : List Symbol). IsReached grammar xs old.at old.steps.items z) none c.loop-symbol.invariant.reached in
    let Q : Option ℕ → Type 0 = λ o. IsReading grammar xs c.ended-2.result.steps o in
    let P : Option ℕ → Type 0 = λ o. IsReading grammar xs old.steps.items o in
    let read : P c.if-progress-terminals.bad =
    elim c.if-progress-terminals.branch [
      | then-progress-terminals w ↦ subst P (sym w.bad-is) (sym r.count, begins grammar c.requires xs old.at old.steps.items [] r, refuse_rest grammar c.requires xs old.at old.steps.items r w.if-progress-terminals.true)
      | else-progress-terminals w ↦ subst P (sym w.bad-is) (reached_end grammar xs old.at old.steps.items r w.if-progress-terminals.false)
    ] in
    subst Q (sym c.ended-2.ensures.bad) (subst (λ (s : List Step). IsReading grammar xs s c.if-progress-terminals.bad) (sym c.ended-2.ensures.steps) read)

pub returns-clause-read : goal.returns-clause-read
returns-clause-read g c = ended g c

pub returns-clause-text : goal.returns-clause-text
returns-clause-text g c = λ steps d. derived_is (g.G.Grammar.plain c.args.grammar.now) c.args.terminals.now c.ended-2.result.steps steps c.ended-2.result.bad c.requires (ended g c) d

pub returns-clause-bad : goal.returns-clause-bad
returns-clause-bad g c = λ at b. bad_is (g.G.Grammar.plain c.args.grammar.now) c.args.terminals.now c.ended-2.result.steps c.ended-2.result.bad at (ended g c) b
