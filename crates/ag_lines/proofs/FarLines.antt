-- What the lines give where each operand behind an `else` reaches as far as it can, they give without that.
use Rattle.std.proofs.Common.{ℕ, Bool, List}
use Rattle.ag_aadl.specs.declared.marked.Marked.{Marked}
use Rattle.ag_terms.specs.declared.terms.Term.{Term}
use Rattle.ag_lines.specs.Lines.{IsRanked, AreArguments}
use Rattle.ag_lines.specs.Lines as line
use Rattle.ag_lines.specs.Reach.{Tail, IsFar, AreFar, IsStated, tighter, leftward, rightward, compared, negative, negated, number, truth, falsity, grouped, previous, started, chosen, named, called, no_argument, last_argument, next_argument}

mutual
  ranked : (bytes : List ℕ) {r : ℕ} {ms : List Marked} {t : Term} {tail : Tail} {waiting : Bool} → IsFar bytes r ms t tail waiting → IsRanked bytes r ms t
  ranked bytes (tighter r ms t tail waiting h is) = line.tighter r ms t h (ranked bytes is)
  ranked bytes (leftward op m before after left right tail waits waiting b low other l r) = line.leftward op m before after left right b low other (ranked bytes l) (ranked bytes r)
  ranked bytes (rightward op m before after left right tail waits waiting b low l r) = line.rightward op m before after left right b low (ranked bytes l) (ranked bytes r)
  ranked bytes (compared op m before after left right end tail waits waiting b e h l r) = line.compared op m before after left right b e (ranked bytes l) (ranked bytes r)
  ranked bytes (negative m ms t tail waiting e is) = line.negative m ms t e (ranked bytes is)
  ranked bytes (negated m ms t tail waiting e is) = line.negated m ms t e (ranked bytes is)
  ranked bytes (number m e) = line.number m e
  ranked bytes (truth m e) = line.truth m e
  ranked bytes (falsity m e) = line.falsity m e
  ranked bytes (grouped m n ms t tail waiting x y is) = line.grouped m n ms t x y (ranked bytes is)
  ranked bytes (previous w m n ms t tail waiting x y z is) = line.previous w m n ms t x y z (ranked bytes is)
  ranked bytes (started w m c n es is e i end tail waits waiting x y z q l r) = line.started w m c n es is e i x y z q (ranked bytes l) (ranked bytes r)
  ranked bytes (chosen w m n tests firsts others test first other test_tail first_tail tail test_waits first_waits waiting x y z a b c) =
      line.chosen w m n tests firsts others test first other x y z (ranked bytes a) (ranked bytes b) (ranked bytes c)
  ranked bytes (named ms path n) = line.named ms path n
  ranked bytes (called ms args m n path ts is x y are) = line.called ms args m n path ts is x y (ranked-arguments bytes are)

  ranked-arguments : (bytes : List ℕ) {ms : List Marked} {ts : List Term} → AreFar bytes ms ts → AreArguments bytes ms ts
  ranked-arguments bytes no_argument = line.no_argument
  ranked-arguments bytes (last_argument ms t tail waiting is) = line.last_argument ms t (ranked bytes is)
  ranked-arguments bytes (next_argument c ms more t u us tail waiting e is are) = line.next_argument c ms more t u us e (ranked bytes is) (ranked-arguments bytes are)

pub far-lines : (bytes : List ℕ) (ms : List Marked) (t : Term) → IsStated bytes 0 ms t → IsRanked bytes 0 ms t
far-lines bytes ms t is = ranked bytes is.far
