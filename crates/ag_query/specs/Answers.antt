-- What a valuation of the program says.
use Rattle.std.specs.Prelude.{pos, false, slice_index_or}
use Rattle.ag_query.specs.declared.query.Valuation.{Valuation}
use Rattle.ag_query.specs.Meaning.{Assignment}

-- its whole numbers by variable and its truths by atom
abbrev pub assignment_of : Valuation → Assignment
assignment_of v = record {
  whole = λ n. slice_index_or v.whole n (pos 0);
  flags = λ n. slice_index_or v.flags n false;
}
