use Rattle.std.proofs.Common.{sym}
use Rattle.ag_stream.proofs.Truths.{is_part_at}
use Rattle.ag_stream.proofs.truth.part_at.Goals as goal

pub returns : goal.returns
returns c = is_part_at c.args.draft.now c.requires.form c.args.part _ c.requires.part (rw (sym c.as_slice.ensures) c.index-as_slice-part.is)
