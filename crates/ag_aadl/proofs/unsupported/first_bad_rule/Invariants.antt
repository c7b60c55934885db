use Rattle.std.proofs.Common.{◌≡◌, ◌≤◌, ◌+◌, drop, map, length}
use Rattle.ag_aadl.specs.Unsupported.{first_bad_rule}
use Rattle.ag_aadl.proofs.unsupported.first_bad_rule.Given as goal

-- the text is none of the words before
abbrev pub invariant-loop-word : goal.invariant-loop-word
invariant-loop-word l = record {
  room : l.number + length (drop l.word-index l.words) ≤ 255;
  left : first_bad_rule l.number (map (λ w. w.now) (drop l.word-index l.words)) l.text ≡ first_bad_rule l.fn.number (map (λ w. w.now) l.words) l.text;
}
