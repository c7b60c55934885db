use Rattle.std.proofs.Common.{sym, subst}
use Rattle.ag_diff.specs.Vertices.{AreVertices, HaveCauses}
use Rattle.ag_diff.proofs.Starting.{started_vertices, started_causes, all_started}
use Rattle.ag_diff.proofs.vertices.start.Goals as goal

pub returns-clause-vertices : goal.returns-clause-vertices
returns-clause-vertices c =
    let is = all_started c.args.values.now c.loop-value.vertices.items c.loop-value.value-index c.loop-value.invariant c.loop-value-test.false in
    subst AreVertices (sym is) (started_vertices c.args.values.now (c.are_starts.ensures.0 c.if-not-are_starts.false))

pub returns-clause-causes : goal.returns-clause-causes
returns-clause-causes c edges =
    let is = all_started c.args.values.now c.loop-value.vertices.items c.loop-value.value-index c.loop-value.invariant c.loop-value-test.false in
    subst (HaveCauses edges) (sym is) (started_causes edges c.args.values.now)
