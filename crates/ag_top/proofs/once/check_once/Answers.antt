use Rattle.std.proofs.Common.{◌⊎◌, List, ℕ, subst, inl, inr}
use Rattle.ag_top.specs.Outcome.{IsNothing, IsTextAnswer, IsTextBroken, IsTextCut}
use Rattle.ag_top.proofs.Reading.{text_of, file_cut_of, tells_unread, tells_partly}
use Rattle.ag_top.proofs.once.check_once.Goals as goal

pub returns-in-Ok-clause-answer : goal.returns-in-Ok-clause-answer
returns-in-Ok-clause-answer g c = λ m. record {
  text = c.in-Ok.text;
  read = text_of _ _ c.args.name.now c.in-Ok.text c.in-Ok.ensures.answer c.in-Ok.ensures.few;
  answer = subst (λ (t : List ℕ). IsTextAnswer c.args.limits t c.check_text.result.history.entries c.check_text.result.status (g.K.Sink.written c.args.sink.now) (g.K.Sink.written c.check_text.new.sink)) c.as_slice.ensures (c.check_text.ensures.answer m);
}

pub returns-in-Ok-clause-broken : goal.returns-in-Ok-clause-broken
returns-in-Ok-clause-broken g c = λ m. inr (
  c.in-Ok.text,
  text_of _ _ c.args.name.now c.in-Ok.text c.in-Ok.ensures.answer c.in-Ok.ensures.few,
  subst (λ (t : List ℕ). IsTextBroken c.args.limits c.args.name.now t c.check_text.result.history.entries (g.K.Sink.written c.args.sink.now) (g.K.Sink.written c.check_text.new.sink)) c.as_slice.ensures (c.check_text.ensures.broken m),
)

pub returns-in-Ok-clause-memory : goal.returns-in-Ok-clause-memory
returns-in-Ok-clause-memory g c = λ m.
    file_cut_of c.args.limits _ c.args.name.now c.in-Ok.text c.check_text.result.history.entries _ _ (text_of _ _ c.args.name.now c.in-Ok.text c.in-Ok.ensures.answer c.in-Ok.ensures.few)
    (subst (λ (t : List ℕ). IsNothing c.check_text.result.history.entries (g.K.Sink.written c.args.sink.now) (g.K.Sink.written c.check_text.new.sink) ⊎ IsTextCut c.args.limits t c.check_text.result.history.entries (g.K.Sink.written c.args.sink.now) (g.K.Sink.written c.check_text.new.sink)) c.as_slice.ensures (c.check_text.ensures.memory m))

pub returns-in-Err-clause-refused : goal.returns-in-Err-clause-refused
returns-in-Err-clause-refused g c = λ m.
    inl (tells_unread _ _ c.args.name.now c.in-Err.fault _ _ c.in-Err.ensures.answer (c.tell_unread.ensures.written m), c.tell_unread.ensures.history)

pub returns-in-Err-clause-broken : goal.returns-in-Err-clause-broken
returns-in-Err-clause-broken g c = λ m.
    inl (tells_partly _ _ c.args.name.now c.in-Err.fault _ _ c.in-Err.ensures.answer (c.tell_unread.ensures.partly m), c.tell_unread.ensures.history)
