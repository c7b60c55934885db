use Rattle.std.proofs.Common.{refl, sym, subst}
use Rattle.std.specs.Prelude.{All}
use Rattle.ag_stream.specs.Forms.{IsPlain}
use Rattle.ag_top.specs.Sessions.{progress_of}
use Rattle.ag_top.proofs.Staging.{begins_settle, begins_settling}
use Rattle.ag_top.proofs.Publishing.{fit_plain}
use Rattle.ag_top.proofs.serve.settle_all.Goals as goal

pub settle-requires-clause-plain : goal.settle-requires-clause-plain
settle-requires-clause-plain g c =
    subst (All (λ k. IsPlain k.1)) (sym c.requires.due.keys)
    (fit_plain c.args.session.now.limits c.args.session.now.model (c.obligations_are_fit.ensures c.args.session.now.model c.args.session.now.limits.consistency c.args.session.now.formed))

pub returns-in_default-clause-served : goal.returns-in_default-clause-served
returns-in_default-clause-served g c =
    begins_settling c.args.session.now.limits (progress_of c.args.session.now) c.args.session.now.board c.settle.new.board _ _ c.in_default.ensures.begun refl

pub returns-in_default-settled_line-clause-served : goal.returns-in_default-settled_line-clause-served
returns-in_default-settled_line-clause-served g c =
    begins_settle c.args.session.now.limits (progress_of c.args.session.now) c.args.session.now.board c.settle.new.board _ _ c.in-Ok.ensures.settled refl
