use Rattle.std.proofs.Common.{◌∙◌}
use Rattle.std.specs.List.{flat_map}
use Rattle.ag_types.specs.ClauseFaults.{clause_faults}
use Rattle.ag_types.proofs.Each.{three}
use Rattle.ag_types.proofs.faults.first_of_sites.Goals as goal

pub returns : goal.returns
returns c =
    let targets = c.args.targets.now in
    let sites = c.args.sites.now in
    c.either-2.ensures ∙ rw (c.either.ensures, c.in_ok-of_library.ensures, c.in_ok-of_frame.ensures, c.in_ok-of_body.ensures)
    (three (flat_map (clause_faults targets sites.library) c.args.library.now) (flat_map (clause_faults targets sites.frame) c.args.frame.now) (flat_map (clause_faults targets sites.body) c.args.body.now))
