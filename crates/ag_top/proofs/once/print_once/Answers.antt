use Rattle.std.proofs.Common.{List, ℕ, subst, inl, inr}
use Rattle.ag_top.specs.Printing.{IsTextPartlyPrinted}
use Rattle.ag_top.proofs.Reading.{text_of, tells_unread, tells_partly}
use Rattle.ag_top.proofs.once.print_once.Goals as goal

pub returns-in-Ok-clause-broken : goal.returns-in-Ok-clause-broken
returns-in-Ok-clause-broken g c = λ m. inr (
  c.in-Ok.text,
  text_of _ _ c.args.name.now c.in-Ok.text c.in-Ok.ensures.answer c.in-Ok.ensures.few,
  subst (λ (t : List ℕ). IsTextPartlyPrinted c.args.name.now t (g.K.Sink.written c.args.sink.now) (g.K.Sink.written c.print_text.new.sink)) c.as_slice.ensures (c.print_text.ensures.broken m),
)

pub returns-in-Err-clause-refused : goal.returns-in-Err-clause-refused
returns-in-Err-clause-refused g c = λ m.
    inl (tells_unread _ _ c.args.name.now c.in-Err.fault _ _ c.in-Err.ensures.answer (c.tell_unread.ensures.written m), c.tell_unread.ensures.history)

pub returns-in-Err-clause-broken : goal.returns-in-Err-clause-broken
returns-in-Err-clause-broken g c = λ m.
    inl (tells_partly _ _ c.args.name.now c.in-Err.fault _ _ c.in-Err.ensures.answer (c.tell_unread.ensures.partly m))
