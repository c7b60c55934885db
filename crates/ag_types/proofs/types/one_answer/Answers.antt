use Rattle.ag_types.proofs.Sound as sound
use Rattle.ag_types.proofs.types.one_answer.Goals as goal

pub returns : goal.returns
returns c = record { one_type = sound.one_type; not_both = sound.not_both; either = sound.either }
