use Rattle.std.proofs.Common.{◌≡◌, ◌++◌, ◌∷◌, [], List, Some, None, reverse, drop, ap, subst, sym, refl, ◌∙◌}
use Rattle.ag_grammar.specs.declared.grammar.Symbol.{Symbol}
use Rattle.ag_grammar.specs.declared.grammar.Step.{Step}
use Rattle.ag_grammar.specs.declared.grammar.Step.TheVariants.{Expand}
use Rattle.ag_grammar.specs.Grammar.{plain_production, productions_of}
use Rattle.ag_grammar.specs.Deterministic.{chosen, has, next_of}
use Rattle.ag_grammar.specs.Reading.{IsReached}
use Rattle.ag_grammar.proofs.Sets.{find_at}
use Rattle.ag_grammar.proofs.Reaching.{reached_expand, refuse_nonterminal, force_expand}
use Rattle.ag_grammar.proofs.reader.Progress.expand.Goals as goal

pub returns-in_ok-push-in-Some : goal.returns-in_ok-push-in-Some
returns-in_ok-push-in-Some g c =
    let grammar = g.G.Grammar.plain c.args.grammar.now in
    let xs = c.args.terminals.now in
    let old = c.args.self.now in
    let n = c.args.nonterminal in
    let p = plain_production c.in-Some.production in
    let next = c.next_terminal-next.result in
    let ahead : next ≡ next_of (drop old.at xs) = c.next_terminal-next.ensures in
    let choice : chosen grammar n (next_of (drop old.at xs)) ≡ Some p = ap (chosen grammar n) (sym ahead) ∙ sym c.in-Some.ensures in
    let is = find_at (λ q. has q.ahead (next_of (drop old.at xs))) (productions_of grammar n) p choice in
    let there = reached_expand grammar c.requires.ll1 xs old.at old.steps.items n p (reverse old.stack.items) c.requires.reached is choice in
    let pushed : p.right ++ reverse old.stack.items ≡ reverse c.push_right.new.stack.items = sym c.in_ok-push_right-in-Some.ensures in
    record {
      reached = subst (λ (s : List Step). IsReached grammar xs old.at s (reverse c.push_right.new.stack.items)) (sym c.in_ok-push-in-Some.ensures.items)
          (subst (λ (ss : List Symbol). IsReached grammar xs old.at (old.steps.items ++ Expand p.name ∷ []) ss) pushed there);
      step = Expand p.name;
      added = c.in_ok-push-in-Some.ensures.items;
      forced = force_expand grammar c.requires.ll1 xs old.at old.steps.items n p (reverse old.stack.items) c.requires.reached choice;
    }

pub returns-in-None : goal.returns-in-None
returns-in-None g c =
    let grammar = g.G.Grammar.plain c.args.grammar.now in
    let xs = c.args.terminals.now in
    let old = c.args.self.now in
    let n = c.args.nonterminal in
    let none : chosen grammar n (next_of (drop old.at xs)) ≡ None = ap (chosen grammar n) (sym c.next_terminal-next.ensures) ∙ sym c.in-None.ensures in
    (refuse_nonterminal grammar c.requires.ll1 xs old.at old.steps.items n (reverse old.stack.items) c.requires.reached none, refl, refl)
