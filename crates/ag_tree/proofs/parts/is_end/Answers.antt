use Rattle.std.proofs.Common.{◌<◌, ◌+◌, ◌-◌, List, length, get_or, false, arith}
use Rattle.std.proofs.lemmas.List.Elements.{Contains-get_or}
use Rattle.ag_query.specs.declared.clauses.Lit.{Lit}
use Rattle.ag_tree.proofs.Lits.{same_lit}
use Rattle.ag_tree.proofs.Covering.{end_more, same_from}
use Rattle.ag_tree.proofs.parts.is_end.Goals as goal

pub loop-place-preserved : goal.loop-place-preserved
loop-place-preserved c =
    let d : Lit = record { atom = 0; holds = false } in
    let clause : List Lit = c.args.clause.now in
    let line : List Lit = c.args.line.now in
    let n : Lit = get_or clause c.loop-place.place d in
    let m : Lit = get_or line (length line - length clause + c.loop-place.place) d in
    let inside : length line - length clause + c.loop-place.place < length line = omega (arith, c.loop-place-test.true, c.if-line-clause.false) in
    end_more clause line c.loop-place.place d m c.loop-place.invariant c.loop-place-test.true (Contains-get_or line (length line - length clause + c.loop-place.place) d inside)
    (same_lit n m c.if-lit-other.false (same_from n.holds m.holds c.if-lit-other-2.false))
