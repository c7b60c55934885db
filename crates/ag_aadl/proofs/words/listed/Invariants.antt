use Rattle.std.proofs.Common.{◌≡◌, drop, map}
use Rattle.ag_aadl.specs.Words.{listed}
use Rattle.ag_aadl.proofs.words.listed.Given as goal

-- none of the entries before has the text
abbrev pub invariant-loop-text : goal.invariant-loop-text
invariant-loop-text l = listed (map (λ e. (e.0.now, e.1)) (drop l.text-index l.entries)) l.otherwise l.own ≡ listed (map (λ e. (e.0.now, e.1)) l.entries) l.otherwise l.own
