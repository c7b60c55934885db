use Rattle.std.proofs.Common.{ap, arith}
use Rattle.ag_board.specs.Machine.{start, undecided, state_after}
use Rattle.ag_board.specs.Store.{BoardState}
use Rattle.ag_board.proofs.Telling.{undecided-seen}
use Rattle.ag_board.proofs.Claiming.{claim-settled, claim-busy}
use Rattle.ag_board.proofs.board.Board.look_none.Goals as goal

pub returns-then-undecided-eq0 : goal.returns-then-undecided-eq0
returns-then-undecided-eq0 c =
    let i = c.self.inside in
    let n = undecided-seen (state_after start i.history.entries) i.history.entries i.table.entries i.numbers.items _ i.last i.next c.undecided-undecided.result c.undecided-undecided.ensures c.as_slice.ensures.value c.self.invariant.3 c.self.invariant.5 in
    let m = ap (λ (b : BoardState). undecided b.state) c.self.view_is in
    claim-settled c.args.self.now.state c.requires.open c.requires.none (omega (arith, n, m, c.if-undecided-eq0.true))

pub returns-else-undecided-eq0 : goal.returns-else-undecided-eq0
returns-else-undecided-eq0 c =
    let i = c.self.inside in
    let n = undecided-seen (state_after start i.history.entries) i.history.entries i.table.entries i.numbers.items _ i.last i.next c.undecided-undecided.result c.undecided-undecided.ensures c.as_slice.ensures.value c.self.invariant.3 c.self.invariant.5 in
    let m = ap (λ (b : BoardState). undecided b.state) c.self.view_is in
    claim-busy c.args.self.now.state c.undecided-undecided.result c.requires.open c.requires.none (omega (arith, n, m)) (omega (arith, c.if-undecided-eq0.false))
