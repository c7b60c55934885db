use Rattle.std.proofs.Common.{◌≡◌, ◌<◌, ◌++◌, ◌∷◌, [], ℕ, List, Some, All, length, get_or, ap, sym, subst, ◌∙◌, false}
use Rattle.std.specs.Prelude.{Contains}
use Rattle.std.proofs.lemmas.List.{take_all}
use Rattle.std.proofs.lemmas.List.Elements.{All-push, All-more, Contains-get_or}
use Rattle.ag_query.specs.declared.rows.Atom.{Atom}
use Rattle.ag_query.specs.declared.clauses.Lit.{Lit}
use Rattle.ag_kernel.specs.Rules.{row_at}
use Rattle.ag_kernel.specs.Theories.{RowIsAsSaid}
use Rattle.ag_diff.specs.declared.edges.Edge.{Edge}
use Rattle.ag_diff.specs.Differences.{IsDifferenceAtom}
use Rattle.ag_diff.specs.Edges.{IsSaid, HoldsAt}
use Rattle.ag_diff.proofs.Rows.{row_there, said_edge, difference_there, whole_more, free_says_nothing}
use Rattle.ag_diff.proofs.edges.edges_of.Goals as goal
use Rattle.ag_diff.proofs.edges.edges_of.Goals.{in-Bound+in_ok-push, in_default}

pub loop-lit-preserved : goal.loop-lit-preserved
loop-lit-preserved c =
    let lits : List Lit = c.args.lits.now in
    let atoms : List Atom = c.args.query.now.atoms in
    let vars : ℕ = c.args.query.now.vars in
    let i : ℕ = c.loop-lit.lit-index in
    let d : Lit = record { atom = 0; holds = false } in
    let lit : Lit = get_or lits i d in
    let before : List Edge = c.loop-lit.edges.items in
    let now : List Edge = c.match-as_slice-lit.edges.items in
    let inv = c.loop-lit.invariant in
    let there : lit.atom < length atoms = c.requires.there i d c.loop-lit-test.true in
    let A : List Atom → Type 0 = λ xs. c.index-as_slice-lit.result ≡ get_or xs lit.atom c.index-as_slice-lit.result in
    let read : A atoms = subst A c.as_slice.ensures c.index-as_slice-lit.is in
    let D : Atom → Type 0 = IsDifferenceAtom in
    let atom : D c.index-as_slice-lit.result = subst D (sym read) (c.requires.difference.rows lit.atom c.index-as_slice-lit.result there) in
    elim c.match-as_slice-lit.branch [
      | in-Bound+in_ok-push w ↦
          let e : Edge = w.edge_of.result in
          let same : now ≡ before ++ e ∷ [] = ap (λ v. v.items) w.edges-is ∙ w.in_ok-push.ensures.items in
          let row : row_at atoms lit.atom ≡ Some w.in-Bound.row = row_there atoms lit.atom c.index-as_slice-lit.result w.in-Bound.row there read w.in-Bound.is in
          let H : Lit → Type 0 = Contains lits in
          let S : List Edge → Type 0 = All (IsSaid vars atoms) in
          let L : List Edge → Type 0 = All (λ x. Contains lits x.lit) in
          record {
            said = subst S (sym same) (All-push (IsSaid vars atoms) before e inv.said (said_edge vars atoms lit w.in-Bound.row e row (difference_there c.index-as_slice-lit.result w.in-Bound.row atom w.in-Bound.is) w.edge_of.ensures.lit w.edge_of.ensures.within w.edge_of.ensures.says));
            lits = subst L (sym same) (All-push (λ (x : Edge). Contains lits x.lit) before e inv.lits (subst H (sym w.edge_of.ensures.lit) (Contains-get_or lits i d c.loop-lit-test.true)));
            whole = λ x z all.
                let X : List Edge → Type 0 = All (HoldsAt x) in
                whole_more atoms x vars lits i d w.in-Bound.row before e c.loop-lit-test.true (inv.whole x z) row z w.edge_of.ensures.says (subst X same all);
          }
      | in_default w ↦
          let same : now ≡ before = ap (λ v. v.items) w.edges-is in
          let S : List Edge → Type 0 = All (IsSaid vars atoms) in
          let L : List Edge → Type 0 = All (λ x. Contains lits x.lit) in
          record {
            said = subst S (sym same) inv.said;
            lits = subst L (sym same) inv.lits;
            whole = λ x z all.
                let X : List Edge → Type 0 = All (HoldsAt x) in
                All-more (RowIsAsSaid atoms x) lits i d c.loop-lit-test.true (inv.whole x z (subst X same all)) (free_says_nothing atoms x lit c.index-as_slice-lit.result there read w.in_default.not-Bound);
          }
    ]

pub returns-clause-whole : goal.returns-clause-whole
returns-clause-whole c x z all =
    let lits : List Lit = c.args.lits.now in
    let R : List Lit → Type 0 = All (RowIsAsSaid c.args.query.now.atoms x) in
    subst R (take_all c.loop-lit.lit-index lits c.loop-lit-test.false) (c.loop-lit.invariant.whole x z all)
