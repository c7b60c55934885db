use Rattle.std.proofs.Common.{◌≡◌, ◌+◌, ◌≤◌, ◌∙◌, ℕ, ℤ, List, All, pos, map, length, ap, sym, subst, arith}
use Rattle.std.specs.Prelude.{Contains}
use Rattle.std.proofs.lemmas.List.{take_at}
use Rattle.ag_query.specs.declared.query.Query.{Query}
use Rattle.ag_query.specs.declared.clauses.Lit.{Lit}
use Rattle.ag_kernel.specs.State.{State}
use Rattle.ag_kernel.specs.Theories.{RowIsAsSaid, RefutesLits}
use Rattle.ag_diff.specs.declared.edges.Edge.{Edge}
use Rattle.ag_diff.specs.declared.vertices.Vertex.{Vertex}
use Rattle.ag_diff.specs.Edges.{HoldsAt, IsSaid}
use Rattle.ag_diff.specs.Vertices.{HaveCauses, AreVertices, value_at}
use Rattle.ag_diff.proofs.Deciding.{cycle_said, satisfies, are_small, refutes_more}
use Rattle.ag_diff.proofs.engine.decide.Goals as goal

pub settle-requires-clause-causes : goal.settle-requires-clause-causes
settle-requires-clause-causes g c = subst (HaveCauses c.deref-2.result.now) (sym c.deref_mut.ensures.value) (c.in_ok-vertices.ensures.causes c.deref-2.result.now)

pub returns-in-None-clause-found : goal.returns-in-None-clause-found
returns-in-None-clause-found g c =
    let s : State = c.args.kernel.now in
    let q : Query = c.query.result.now in
    let lits : List Lit = c.args.lits.now in
    let vs : List Vertex = c.deref-in-None-2.result.now in
    let ws : List Vertex = c.settle.new.vertices in
    let edges : List Edge = c.in_ok-edges.edges.items in
    let xs : List ℤ = c.in_ok-numbers-in-None.field-0 in
    let kept : length ws ≡ c.in_ok-vertices.vertices.len = omega (arith, c.settle.auto.vertices, c.deref_mut.ensures.len) in
    let same : vs ≡ ws = c.deref-in-None-2.ensures.value ∙ take_at ws _ c.in_ok-vertices.vertices.len kept in
    let found = rw c.in-None.is at c.in_ok-settle.ensures.found in
    let H : List Vertex → Type 0 = λ us. All (HoldsAt (value_at us)) c.deref-2.result.now in
    let E : List Edge → Type 0 = λ es. All (HoldsAt (value_at vs)) es in
    let holds : E edges = subst E c.deref-2.ensures.value (subst H (sym same) found) in
    let is : q ≡ s.query = c.query.ensures in
    let S : Query → Type 0 = λ p. All (IsSaid p.vars p.atoms) edges in
    let W : Query → Type 0 = λ p. (x : ℕ → ℤ) → x p.vars ≡ pos 0 → All (HoldsAt x) edges → All (RowIsAsSaid p.atoms x) lits in
    let size : length vs ≡ s.query.vars + 1 = omega (arith, ap (λ (us : List Vertex). length us) same, c.settle.auto.vertices, ap (λ (us : List Vertex). length us) c.deref_mut.ensures.value, c.in_ok-vertices.ensures.count, ap (λ (p : Query). p.vars) c.query-2.ensures) in
    satisfies s lits vs xs edges c.every_line_follows.ensures.sound c.requires.fits size c.in_ok-numbers-in-None.ensures.count c.in_ok-numbers-in-None.ensures.values holds (subst S is c.in_ok-edges.ensures.said) (subst W is c.in_ok-edges.ensures.whole)

pub returns-in-None-clause-small : goal.returns-in-None-clause-small
returns-in-None-clause-small g c =
    let vs : List Vertex = c.deref-in-None-2.result.now in
    let ws : List Vertex = c.settle.new.vertices in
    let kept : length ws ≡ c.in_ok-vertices.vertices.len = omega (arith, c.settle.auto.vertices, c.deref_mut.ensures.len) in
    let same : vs ≡ ws = c.deref-in-None-2.ensures.value ∙ take_at ws _ c.in_ok-vertices.vertices.len kept in
    let few = c.requires.fits.difference.vars in
    let size : length vs ≤ 8193 = omega (arith, ap (λ (us : List Vertex). length us) same, c.settle.auto.vertices, ap (λ (us : List Vertex). length us) c.deref_mut.ensures.value, c.in_ok-vertices.ensures.count, ap (λ (p : Query). p.vars) c.query-2.ensures) in
    are_small vs c.in_ok-numbers-in-None.field-0 size (subst AreVertices (sym same) c.in_ok-settle.ensures.vertices) c.in_ok-numbers-in-None.ensures.count c.in_ok-numbers-in-None.ensures.values

pub refute-requires-clause-said : goal.refute-requires-clause-said
refute-requires-clause-said g c =
    let s : State = c.args.kernel.now in
    let edges : List Edge = c.in_ok-edges.edges.items in
    let cycle : List Edge = c.in-Some.cycle.items in
    let found = rw c.in-Some.is at c.in_ok-settle.ensures.found in
    let A : List Edge → Type 0 = λ es. All (Contains es) cycle in
    let among : A edges = subst A c.deref-2.ensures.value found.1 in
    let S : Query → Type 0 = λ p. All (IsSaid p.vars p.atoms) edges in
    let C : List Edge → Type 0 = All (IsSaid s.query.vars s.atoms) in
    subst C (sym c.deref-in-Some.ensures.value) (cycle_said s edges cycle c.every_line_follows.ensures.sound (subst S c.query.ensures c.in_ok-edges.ensures.said) among)

pub returns-clause-found : goal.returns-clause-found
returns-clause-found g c =
    let edges : List Edge = c.in_ok-edges.edges.items in
    let cycle : List Edge = c.in-Some.cycle.items in
    let found = rw c.in-Some.is at c.in_ok-settle.ensures.found in
    let A : List Edge → Type 0 = λ es. All (Contains es) cycle in
    let among : A edges = subst A c.deref-2.ensures.value found.1 in
    let R : List Edge → Type 0 = λ es. RefutesLits c.refute.new.kernel (map (λ (e : Edge). e.lit) es) c.in_ok-refute-in-Some.field-0 in
    refutes_more c.refute.new.kernel c.args.lits.now edges cycle c.in_ok-refute-in-Some.field-0 c.in_ok-edges.ensures.lits among (subst R c.deref-in-Some.ensures.value c.in_ok-refute-in-Some.ensures.refutes)
