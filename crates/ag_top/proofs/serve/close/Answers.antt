use Rattle.std.proofs.Common.{◌∙◌, refl, sym, ap, subst, Err, Ok, Result}
use Rattle.std.specs.Prelude.{All}
use Rattle.ag_stream.specs.Forms.{IsPlain}
use Rattle.ag_board.specs.declared.entry.Tally.{Tally}
use Rattle.ag_board.specs.Store.{BoardState}
use Rattle.ag_top.specs.declared.cut.Cut.{Cut}
use Rattle.ag_top.specs.Sessions.{progress_of}
use Rattle.ag_top.proofs.Staging.{served_close, begins_close, begins_closing, begins_no_close}
use Rattle.ag_top.proofs.Publishing.{fit_plain}
use Rattle.ag_top.proofs.serve.close.Goals as goal

pub settle-requires-clause-plain : goal.settle-requires-clause-plain
settle-requires-clause-plain g c =
    subst (All (λ k. IsPlain k.1)) (sym c.requires.due.keys)
    (fit_plain c.args.session.now.limits c.args.session.now.model (c.obligations_are_fit.ensures c.args.session.now.model c.args.session.now.limits.consistency c.args.session.now.formed))

pub returns-in_default-clause-served : goal.returns-in_default-clause-served
returns-in_default-clause-served g c = begins_closing c.args.session.now.limits (progress_of c.args.session.now) c.args.session.now.board c.settle.new.board _ _ c.in_default.ensures.begun refl

pub returns-in_default-reserve-clause-served : goal.returns-in_default-reserve-clause-served
returns-in_default-reserve-clause-served g c =
    begins_no_close c.args.session.now.limits (progress_of c.args.session.now) c.args.session.now.board c.settle.new.board c.reserve.new.board _ _ c.in-Ok.ensures.settled c.in_default-reserve.ensures.err refl

pub returns-in_default-tally_line-clause-served : goal.returns-in_default-tally_line-clause-served
returns-in_default-tally_line-clause-served g c =
    begins_close c.args.session.now.limits (progress_of c.args.session.now) c.args.session.now.board c.settle.new.board c.reserve.new.board c.close.new.self _ _ c.in-Ok-close.tally c.in-Ok.ensures.settled
    (ap (λ (b : BoardState). b.history) c.in-Ok-reserve.ensures.ok) c.in-Ok-close.ensures.closed refl

pub returns-in-Ok-reply-clause-served : goal.returns-in-Ok-reply-clause-served
returns-in-Ok-reply-clause-served g c =
    let r : Result Tally Cut = Ok c.in-Ok-close.tally in
    served_close c.args.session.now.limits (progress_of c.args.session.now) r c.args.session.now.board c.settle.new.board c.reserve.new.board c.close.new.self _ _ c.as_slice.result.now c.in-Ok-close.tally c.in-Ok.ensures.settled
    (ap (λ (b : BoardState). b.history) c.in-Ok-reserve.ensures.ok) c.in-Ok-close.ensures.closed (c.as_slice.ensures ∙ c.in-Ok-tally_line.ensures) c.in-Ok-reply.ensures.handed

pub returns-clause-served : goal.returns-clause-served
returns-clause-served g c =
    let r : Result Tally Cut = Err c.in-Err.cut in
    served_close c.args.session.now.limits (progress_of c.args.session.now) r c.args.session.now.board c.settle.new.board c.reserve.new.board c.close.new.self _ _ c.as_slice.result.now c.in-Ok-close.tally c.in-Ok.ensures.settled
    (ap (λ (b : BoardState). b.history) c.in-Ok-reserve.ensures.ok) c.in-Ok-close.ensures.closed (c.as_slice.ensures ∙ c.in-Ok-tally_line.ensures) c.in-Err.ensures.handed
