use Rattle.std.proofs.Common.{ℕ, List, sym, subst, All, Option, None}
use Rattle.std.proofs.lemmas.List.Elements.{All-nil}
use Rattle.ag_tree.specs.Going.{IsClauseLine, PassesAs}
use Rattle.ag_tree.proofs.Drawing.{draws_more}
use Rattle.ag_tree.proofs.Going.{going_draws, settles_by}
use Rattle.ag_tree.proofs.rounds.Progress.settle.Goals as goal

pub returns-in-Some-clause-going : goal.returns-in-Some-clause-going
returns-in-Some-clause-going c =
    going_draws c.args.self.now c.pass.new.trail c.args.self.now.head c.args.self.now.unseen c.requires.going c.in_ok-line.ensures.draws c.requires.going.unseen

pub propagate-requires-clause-lines : goal.propagate-requires-clause-lines
propagate-requires-clause-lines c l n h =
    subst (λ (a : ℕ). IsClauseLine c.args.self.now.kernel.lines a n) (sym c.in_ok-line.ensures.draws.atoms) (c.requires.going.lists l n h)

pub returns-clause-going : goal.returns-clause-going
returns-clause-going c =
    let s = c.args.self.now in
    going_draws s c.propagate.new.trail c.len-self.result c.clear.new.self c.requires.going
    (draws_more s.kernel.lines s.trail c.pass.new.trail c.propagate.new.trail c.in_ok-line.ensures.draws c.in_ok-conflict.ensures.draws)
    (subst (λ (ns : List ℕ). All (IsClauseLine s.kernel.lines s.trail.atoms) ns) (sym c.clear.ensures.items) (All-nil (IsClauseLine s.kernel.lines s.trail.atoms)))

pub returns-clause-settles : goal.returns-clause-settles
returns-clause-settles c =
    let s = c.args.self.now in
    let P : Option ℕ → Type 0 = λ r. PassesAs s.kernel.lines c.deref.result.now s.trail c.pass.new.trail r in
    let passed : P None = subst P c.in_default.is c.in_ok-line.ensures.passes in
    settles_by s c.pass.new.trail c.propagate.new.trail c.len-self.result c.clear.new.self c.in_ok-conflict.conflict c.requires.going c.requires.ready c.in_ok-line.ensures.draws
    (subst (λ (ns : List ℕ). PassesAs s.kernel.lines ns s.trail c.pass.new.trail None) c.deref.ensures.value passed) c.in_ok-conflict.ensures.rests
