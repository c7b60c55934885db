use Rattle.std.specs.Prelude.{All}
use Rattle.ag_board.specs.Machine.{Line, start, state_after}
use Rattle.ag_board.specs.Laws.{all_lines, DoAgree}
use Rattle.ag_board.proofs.Verdicts.{Each, each-same, each-to}
use Rattle.ag_board.proofs.Truths.{good-history, all-agree}
use Rattle.ag_board.proofs.laws.equal_problems_agree.Goals as goal

pub returns : goal.returns
returns c =
    λ history legal.
    let ls = all_lines (state_after start history) in
    each-to (λ (a : Line). All (DoAgree a) ls) ls
    (each-same (λ (a : Line). Each (DoAgree a) ls) (λ (a : Line). All (DoAgree a) ls) ls (λ a h. each-to (DoAgree a) ls h) (all-agree ls (good-history history legal).0))
