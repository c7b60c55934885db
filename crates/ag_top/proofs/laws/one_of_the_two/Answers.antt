use Rattle.ag_top.proofs.EachPrint.{each_answered}
use Rattle.ag_top.proofs.laws.one_of_the_two.Goals as goal

pub returns : goal.returns
returns c =
    each_answered record {
      tokens = c.one_of_the_two.ensures;
      packages = c.one_of_the_two-2.ensures;
      clauses = c.one_of_the_two-3.ensures;
      printable = c.files_are_printable.ensures.packages;
      stated = c.files_are_printable.ensures.stated;
      again = c.canonical_rereads.ensures;
      shallow = c.annexes_reread.ensures.read;
    }
