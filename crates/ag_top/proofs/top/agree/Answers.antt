use Rattle.std.proofs.Common.{◌≡◌, ◌⊎◌, List, ℕ, subst, inl, inr}
use Rattle.ag_top.specs.declared.words.Order.{Order}
use Rattle.ag_top.specs.Files.{outside}
use Rattle.ag_top.specs.Outcome.{IsFileAnswer, IsFileBroken, IsFileCut, IsFileRefused, IsNothing}
use Rattle.ag_top.specs.Printing.{IsFilePartlyPrinted, IsFileUnprinted}
use Rattle.ag_top.specs.Stages.{Partly}
use Rattle.ag_top.specs.Words.{AsksFor, source_name}
use Rattle.ag_top.proofs.Tops.{unfinished_of, unless_source, usage_is_no_write_fault}
use Rattle.ag_top.proofs.top.agree.Goals as goal

pub returns-in_default-clause-broken : goal.returns-in_default-clause-broken
returns-in_default-clause-broken g c = λ m.
    inl (c.in_default.ensures.asks, subst (λ (t : List ℕ). Partly t (g.K.Sink.written c.args.sink.now) (g.K.Sink.written c.tell.new.sink)) c.as_bytes.ensures.value (c.tell.ensures.partly usage_is_no_write_fault m), c.tell.ensures.history)

pub returns-in-Check-clause-refused : goal.returns-in-Check-clause-refused
returns-in-Check-clause-refused g c = λ m. inl record {
  name = c.in-Some.name.now;
  command = subst (λ (o : Order). AsksFor c.args.words.now o c.in-Some.name.now) c.in-Check.is c.in-Some.ensures.asks;
  file = subst (λ (n : List ℕ). IsFileRefused (outside (g.S.Source.left c.args.source.now) (g.F.Folder.files c.args.folder.now)) n c.check_once.result.history.entries (g.K.Sink.written c.args.sink.now) (g.K.Sink.written c.check_once.new.sink)) c.as_str-name.ensures (c.check_once.ensures.refused m);
}

pub returns-in-Check-clause-answer : goal.returns-in-Check-clause-answer
returns-in-Check-clause-answer g c = λ m. inl record {
  name = c.in-Some.name.now;
  command = subst (λ (o : Order). AsksFor c.args.words.now o c.in-Some.name.now) c.in-Check.is c.in-Some.ensures.asks;
  limits = c.usual.result;
  usual = c.usual.ensures;
  file = subst (λ (n : List ℕ). IsFileAnswer c.usual.result (outside (g.S.Source.left c.args.source.now) (g.F.Folder.files c.args.folder.now)) n c.check_once.result.history.entries c.check_once.result.status (g.K.Sink.written c.args.sink.now) (g.K.Sink.written c.check_once.new.sink)) c.as_str-name.ensures (c.check_once.ensures.answer m);
}

pub returns-in-Check-clause-folder_unread : goal.returns-in-Check-clause-folder_unread
returns-in-Check-clause-folder_unread g c = λ never.
    unless_source c.as_str-name.result.now
    (λ other. never (c.in-Some.order, c.in-Some.name.now, subst (λ (n : List ℕ). n ≡ source_name → ⊥) c.as_str-name.ensures other, c.in-Some.ensures.asks))
    c.check_once.ensures.folder_unread

pub returns-in-Check-clause-broken : goal.returns-in-Check-clause-broken
returns-in-Check-clause-broken g c = λ m. inr (inl record {
  name = c.in-Some.name.now;
  command = subst (λ (o : Order). AsksFor c.args.words.now o c.in-Some.name.now) c.in-Check.is c.in-Some.ensures.asks;
  limits = c.usual.result;
  usual = c.usual.ensures;
  file = subst (λ (n : List ℕ). IsFileBroken c.usual.result (outside (g.S.Source.left c.args.source.now) (g.F.Folder.files c.args.folder.now)) n c.check_once.result.history.entries (g.K.Sink.written c.args.sink.now) (g.K.Sink.written c.check_once.new.sink)) c.as_str-name.ensures (c.check_once.ensures.broken m);
})

pub returns-in-Check-clause-memory : goal.returns-in-Check-clause-memory
returns-in-Check-clause-memory g c = λ m.
    unfinished_of c.usual.result c.usual.ensures c.args.words.now _ c.in-Some.name.now c.check_once.result.history.entries _ _
    (subst (λ (o : Order). AsksFor c.args.words.now o c.in-Some.name.now) c.in-Check.is c.in-Some.ensures.asks)
    (subst (λ (n : List ℕ). IsNothing c.check_once.result.history.entries (g.K.Sink.written c.args.sink.now) (g.K.Sink.written c.check_once.new.sink) ⊎ IsFileCut c.usual.result (outside (g.S.Source.left c.args.source.now) (g.F.Folder.files c.args.folder.now)) n c.check_once.result.history.entries (g.K.Sink.written c.args.sink.now) (g.K.Sink.written c.check_once.new.sink)) c.as_str-name.ensures (c.check_once.ensures.memory m))

pub returns-in-Print-clause-refused : goal.returns-in-Print-clause-refused
returns-in-Print-clause-refused g c = λ m. inr record {
  name = c.in-Some.name.now;
  command = subst (λ (o : Order). AsksFor c.args.words.now o c.in-Some.name.now) c.in-Print.is c.in-Some.ensures.asks;
  file = subst (λ (n : List ℕ). IsFileUnprinted (outside (g.S.Source.left c.args.source.now) (g.F.Folder.files c.args.folder.now)) n c.print_once.result.history.entries (g.K.Sink.written c.args.sink.now) (g.K.Sink.written c.print_once.new.sink)) c.as_str-name.ensures (c.print_once.ensures.refused m);
}

pub returns-in-Print-clause-folder_unread : goal.returns-in-Print-clause-folder_unread
returns-in-Print-clause-folder_unread g c = λ never.
    unless_source c.as_str-name.result.now
    (λ other. never (c.in-Some.order, c.in-Some.name.now, subst (λ (n : List ℕ). n ≡ source_name → ⊥) c.as_str-name.ensures other, c.in-Some.ensures.asks))
    c.print_once.ensures.folder_unread

pub returns-in-Print-clause-broken : goal.returns-in-Print-clause-broken
returns-in-Print-clause-broken g c = λ m. inr (inr record {
  name = c.in-Some.name.now;
  command = subst (λ (o : Order). AsksFor c.args.words.now o c.in-Some.name.now) c.in-Print.is c.in-Some.ensures.asks;
  file = subst (λ (n : List ℕ). IsFilePartlyPrinted (outside (g.S.Source.left c.args.source.now) (g.F.Folder.files c.args.folder.now)) n (g.K.Sink.written c.args.sink.now) (g.K.Sink.written c.print_once.new.sink)) c.as_str-name.ensures (c.print_once.ensures.broken m);
  empty = c.print_once.ensures.history;
})
