use Rattle.std.proofs.Common.{◌++◌, ◌∙◌}
use Rattle.std.specs.List.{flat_map}
use Rattle.ag_types.specs.ClauseFaults.{node_twice, node_equation, twice_among, equation_names, unset}
use Rattle.ag_types.proofs.Each.{four}
use Rattle.ag_types.proofs.equations.node.Goals as goal

pub returns : goal.returns
returns c =
    let names = c.args.site.now in
    let node = c.args.node.now in
    c.either-2.ensures ∙ rw (c.either.ensures, c.either-of_later.ensures, c.in_ok-of_names.ensures names c.requires, c.in_ok-of_equations.ensures, c.in_ok-of_equation_names.ensures, c.in_ok-of_results.ensures)
    (four (node_twice names node) (flat_map (node_equation names node) node.equations) (twice_among (equation_names node) (equation_names node)) (flat_map (unset (equation_names node)) (node.outputs ++ node.locals)))
