-- The lemmas by which the check goes on with a history.
use Rattle.ag_board.proofs.Pasts.{plain_from-snoc, length-plain_notes, noted-snoc, listed-notes, posted-notes}

pub ruleset past_rules = (plain_from-snoc, length-plain_notes, noted-snoc, listed-notes, posted-notes)
