use Rattle.std.proofs.Common.{◌≡◌, drop}
use Rattle.ag_annex.specs.Expressions.{read_tokens, unread, AreNumbersFit}
use Rattle.ag_annex.proofs.reading.term_of.Given as goal

-- the tokens that are left go on from those before
abbrev pub invariant-loop-m : goal.invariant-loop-m
invariant-loop-m l = record {
  read : read_tokens l.bytes l.reading (drop l.m-index l.marked) ≡ read_tokens l.bytes unread l.marked;
  fit : AreNumbersFit l.bytes (drop l.m-index l.marked);
}
