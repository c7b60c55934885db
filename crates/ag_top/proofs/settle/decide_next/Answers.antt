use Rattle.std.proofs.Common.{◌≡◌, ◌∙◌, ◌+◌, ap, sym, subst, arith, length}
use Rattle.ag_board.specs.Machine.{claim_reply}
use Rattle.ag_board.specs.Store.{BoardState}
use Rattle.ag_board.specs.Laws.{EqualsAgree}
use Rattle.ag_top.proofs.Keeping.{LeftDecided}
use Rattle.ag_top.proofs.Deciding.{hands_plain, never_busy, turn_decided, weight_decided, two_turns}
use Rattle.ag_top.proofs.settle.decide_next.Goals as goal

pub decide-requires-clause-plain : goal.decide-requires-clause-plain
decide-requires-clause-plain c =
    hands_plain c.args.board.now c.requires.idle c.requires.plain c.in-Work.ticket.claim c.in-Work.ticket.revision c.in-Work.ticket.problem
    (c.in-Work.ensures.entry.says ∙ ap (λ (b : BoardState). claim_reply b.state) c.in_ok-reserve.ensures.ok)

pub unreachable-requires : goal.unreachable-requires
unreachable-requires c =
    never_busy c.args.board.now c.requires.idle c.in-Busy.field-0 (c.in-Busy.ensures.entry.says ∙ ap (λ (b : BoardState). claim_reply b.state) c.in_ok-reserve.ensures.ok)

-- what deciding left
decided_left : (c : goal.In_ok-decide-in-Work) → LeftDecided c.args.board.now.state c.decide.new.board.state
decided_left c =
    turn_decided c.problems_are_compared.ensures c.args.limits.now c.args.board.now c.reserve.new.board c.claim.new.self c.decide.new.board c.in-Work.ticket c.requires.idle
    (subst EqualsAgree (sym c.know.ensures.replay) (c.equal_problems_agree.ensures c.args.board.now.history c.know.ensures.legal))
    (ap (λ (b : BoardState). b.state) c.in_ok-reserve.ensures.ok) c.in-Work.ensures.entry c.in_ok-decide-in-Work.ensures.posted

pub returns-in_ok-decide-in-Work-clause-left : goal.returns-in_ok-decide-in-Work-clause-left
returns-in_ok-decide-in-Work-clause-left c = (decided_left c).fewer

-- its two entries
two_entries : (c : goal.In_ok-decide-in-Work) → length c.decide.new.board.history ≡ length c.args.board.now.history + 2
two_entries c =
    two_turns c.args.board.now c.reserve.new.board c.claim.new.self c.decide.new.board (ap (λ (b : BoardState). b.history) c.in_ok-reserve.ensures.ok) c.in-Work.ensures.entry c.in_ok-decide-in-Work.ensures.posted.enters

pub returns-in_ok-decide-in-Work-clause-no_heavier : goal.returns-in_ok-decide-in-Work-clause-no_heavier
returns-in_ok-decide-in-Work-clause-no_heavier c = weight_decided c.args.board.now c.decide.new.board (decided_left c).fewer (two_entries c)

pub returns-in_ok-decide-in-Work-clause-grown : goal.returns-in_ok-decide-in-Work-clause-grown
returns-in_ok-decide-in-Work-clause-grown c = let w = weight_decided c.args.board.now c.decide.new.board (decided_left c).fewer (two_entries c) in omega arith

pub returns-in_ok-decide-in-Work-clause-same : goal.returns-in_ok-decide-in-Work-clause-same
returns-in_ok-decide-in-Work-clause-same c = (decided_left c).left.keys
