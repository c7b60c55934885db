use Rattle.std.proofs.Common.{◌≡◌, ◌<◌, ◌+◌, ◌∙◌, ℕ, List, [], ap, sym, subst, length, get_or, drop, map, None, All, Bool}
use Rattle.std.proofs.lemmas.List.{get_or_default}
use Rattle.ag_query.specs.declared.clauses.Lit.{Lit}
use Rattle.ag_kernel.specs.declared.line.Line.{Line}
use Rattle.ag_kernel.specs.Marks.{Has}
use Rattle.ag_kernel.specs.Rules.{line_at}
use Rattle.ag_kernel.specs.Units.{conflict_along}
use Rattle.ag_kernel.proofs.Walks.{walk_one, walk_more, left_in}
use Rattle.ag_kernel.proofs.units.conflicts_along.Goals as goal
use Rattle.ag_kernel.proofs.units.conflicts_along.Goals.{in-One+in_ok-add-in-One, in-More}

pub add-requires : goal.add-requires
add-requires c =
    let n : ℕ = get_or c.args.named.now c.loop-n.n-index 0 in
    let lt : n < length c.args.lines.now = c.requires.there c.loop-n.n-index 0 c.loop-n-test.true in
    let line : All (λ (m : Lit). m.atom < c.args.list.now.atoms) (get_or c.args.lines.now n c.index-lines-n.result).lits = c.requires.lines n c.index-lines-n.result lt in
    rw c.loop-n.invariant.atoms (left_in (λ (m : Lit). m.atom < c.args.list.now.atoms) c.loop-n.list.lits c.as_slice.result.now c.in-One.lit (rw c.as_slice.ensures line) c.in-One.ensures)

pub loop-n-preserved : goal.loop-n-preserved
loop-n-preserved c =
    let n : ℕ = get_or c.args.named.now c.loop-n.n-index 0 in
    let lt : n < length c.args.lines.now = c.requires.there c.loop-n.n-index 0 c.loop-n-test.true in
    let f : ℕ → List Lit = λ n. (line_at c.args.lines.now n).lits in
    let d : Line = record { lits = []; row = None } in
    let is : c.as_slice.result.now ≡ f n = c.as_slice.ensures ∙ ap (λ (x : Line). x.lits) (get_or_default c.args.lines.now n c.index-lines-n.result d lt) in
    let whole : Bool = conflict_along c.args.list.now.lits (map f c.args.named.now) in
    let S : Has → Type 0 = λ x. record {
      said : conflict_along x.lits (map f (drop (c.loop-n.n-index + 1) c.args.named.now)) ≡ whole;
      atoms : x.atoms ≡ c.args.list.now.atoms;
    } in
    elim c.match-what_is_left.branch [
      | in-One+in_ok-add-in-One w ↦ subst S (sym (w.list-is ∙ w.in_ok-add-in-One.ensures.ok)) (record {
        said = walk_one f c.args.named.now c.loop-n.n-index c.loop-n-test.true c.loop-n.list.lits c.as_slice.result.now whole w.in-One.lit is c.loop-n.invariant.said w.in-One.ensures;
        atoms = c.loop-n.invariant.atoms;
      })
      | in-More w ↦ subst S (sym w.list-is) (record {
        said = walk_more f c.args.named.now c.loop-n.n-index c.loop-n-test.true c.loop-n.list.lits c.as_slice.result.now whole is c.loop-n.invariant.said w.in-More.ensures;
        atoms = c.loop-n.invariant.atoms;
      })
    ]
