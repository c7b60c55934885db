use Rattle.std.proofs.Common.{◌≡◌, ◌+◌, List, false, length, get_or, reverse, ltb, ap, subst, sym, refl, ◌∙◌, arith}
use Rattle.std.specs.Prelude.{is_some}
use Rattle.std.proofs.lemmas.Bool.{ltb-false}
use Rattle.ag_grammar.specs.declared.grammar.Step.{Step}
use Rattle.ag_grammar.specs.declared.grammar.Step.TheVariants.{Shift}
use Rattle.ag_grammar.specs.Reading.{IsReached}
use Rattle.ag_grammar.proofs.Reaching.{reached_shift, refuse_terminal, force_shift}
use Rattle.ag_grammar.proofs.reader.Progress.shift.Goals as goal

pub returns-in_ok-push-in-Some : goal.returns-in_ok-push-in-Some
returns-in_ok-push-in-Some g c =
    let grammar = g.G.Grammar.plain c.args.grammar.now in
    let xs = c.args.terminals.now in
    let old = c.args.self.now in
    let next = c.in-Some.ensures.lookup.3 in
    let same : get_or xs old.at 0 ≡ c.args.terminal = sym (next.1 0) ∙ c.if-next-terminal.true in
    record {
      reached = subst (λ (s : List Step). IsReached grammar xs (old.at + 1) s (reverse old.stack.items)) (sym c.in_ok-push-in-Some.ensures.items)
          (reached_shift grammar xs old.at old.steps.items c.args.terminal c.args.mark (reverse old.stack.items) c.requires.reached next.0 same);
      step = Shift c.args.mark;
      added = c.in_ok-push-in-Some.ensures.items;
      forced = force_shift grammar c.requires.ll1 xs old.at old.steps.items c.args.terminal c.args.mark (reverse old.stack.items) c.requires.reached next.0;
    }

pub returns-in_default : goal.returns-in_default
returns-in_default g c =
    let old = c.args.self.now in
    let next = c.in-Some.ensures.lookup.3 in (
      refuse_terminal (g.G.Grammar.plain c.args.grammar.now) c.requires.ll1 c.args.terminals.now old.at old.steps.items c.args.terminal c.args.mark (reverse old.stack.items) c.requires.reached
          (λ lt e. c.if-next-terminal.false (next.1 0 ∙ e)),
      refl,
      refl,
    )

pub returns-in_default-2 : goal.returns-in_default-2
returns-in_default-2 g c =
    let old = c.args.self.now in
    let none : false ≡ ltb old.at (length c.args.terminals.now) = sym (ap is_some c.in_default.is) ∙ c.get.ensures.lookup.0 in
    let past = ltb-false old.at (length c.args.terminals.now) (sym none) in (
      refuse_terminal (g.G.Grammar.plain c.args.grammar.now) c.requires.ll1 c.args.terminals.now old.at old.steps.items c.args.terminal c.args.mark (reverse old.stack.items) c.requires.reached
          (λ lt e. omega arith),
      refl,
      refl,
    )
