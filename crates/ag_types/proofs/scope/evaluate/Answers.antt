-- The constants, their uses and the circles are those of the scope.
use Rattle.std.proofs.Common.{◌≡◌, ℕ, ◌++◌, List, refl, ap, ◌∙◌}
use Rattle.std.proofs.Math.Path.{subst}
use Rattle.std.specs.List.{flat_map}
use Rattle.ag_terms.specs.declared.clauses.Clause.{Clause}
use Rattle.ag_terms.specs.declared.clauses.Var.{Var}
use Rattle.ag_graph.specs.Circles.{AreCircles}
use Rattle.ag_symbols.specs.Seen.{Seen, Names, library_names, frame_names, names_seen, seen_of}
use Rattle.ag_types.specs.Uses.{Constant, constant_in, constants_of}
use Rattle.ag_types.proofs.ConstantsTyped.{constants_are_typed}
use Rattle.ag_types.proofs.scope.evaluate.Goals as goal

-- what is declared at each site with the names of that site
abbrev of_sites : Names → Names → Names → List Clause → List Clause → List Clause → List Constant
of_sites l f b library frame body = flat_map (constant_in l) library ++ (flat_map (constant_in f) frame ++ flat_map (constant_in b) body)

constants_are : (s : Seen) (cs : List Constant) (l f b : Names) (library frame body : List Clause) (ports : List Var) → s ≡ seen_of library frame body ports →
    l ≡ library_names s → f ≡ frame_names s → b ≡ names_seen s → cs ≡ of_sites l f b library frame body → cs ≡ constants_of s
constants_are s cs l f b library frame body ports e of_l of_f of_b h =
    let at_library : s.library ≡ library = ap (λ (z : Seen). z.library) e in
    let at_frame : s.frame ≡ frame = ap (λ (z : Seen). z.frame) e in
    let at_body : s.body ≡ body = ap (λ (z : Seen). z.body) e in
    h ∙ rw (of_l, of_f, of_b, ← at_library, ← at_frame, ← at_body) refl

pub values-requires : goal.values-requires
values-requires g c = (
  c.as_slice-2.ensures.value ∙ constants_are g.seen _ _ _ _ _ _ _ c.args.ports.now c.requires.0 c.requires.1.0 c.requires.1.1.0 c.requires.1.1.1 c.in_ok-constants.ensures,
  subst (λ (graph : List (List ℕ)). AreCircles graph c.in_ok-circles.circles.on_circle c.in_ok-circles.circles.order) c.in_ok-uses.ensures.uses c.in_ok-circles.ensures,
)

pub first_circle-circular-requires : goal.first_circle-circular-requires
first_circle-circular-requires g c = (
  c.requires.1.1.1,
  (
    c.as_slice-3.ensures.value ∙ constants_are g.seen _ _ _ _ _ _ _ c.args.ports.now c.requires.0 c.requires.1.0 c.requires.1.1.0 c.requires.1.1.1 c.in_ok-constants.ensures,
    subst (λ (graph : List (List ℕ)). AreCircles graph c.in_ok-circles.circles.on_circle c.in_ok-circles.circles.order) c.in_ok-uses.ensures.uses c.in_ok-circles.ensures,
  ),
)

pub returns-clause-typed : goal.returns-clause-typed
returns-clause-typed g c =
    constants_are_typed g.seen c.in_ok-values.values.items c.in_ok-circles.circles.on_circle c.in_ok-circles.circles.order
    (subst (λ (graph : List (List ℕ)). AreCircles graph c.in_ok-circles.circles.on_circle c.in_ok-circles.circles.order) c.in_ok-uses.ensures.uses c.in_ok-circles.ensures)
    c.in_ok-values.ensures.values c.in_ok-values.ensures.kept
