use Rattle.ag_low_cases.proofs.Samples.{looped_formed}
use Rattle.ag_low_cases.proofs.streams.looped.Goals as goal

pub returns-clause-formed : goal.returns-clause-formed
returns-clause-formed c = rw (c.from_vec.ensures, c.from_vec-2.ensures, c.new.ensures, c.new-2.ensures, c.in_ok-parts.ensures.items, c.in_ok-equations.ensures.items) looped_formed
