use Rattle.std.proofs.Common.{sym, ◌∙◌}
use Rattle.std.specs.List.{flat_map}
use Rattle.ag_types.specs.NumberFaults.{clause_numbers}
use Rattle.ag_types.proofs.Numbering.{three}
use Rattle.ag_types.proofs.number_clauses.first_number_fault.Goals as goal

pub returns : goal.returns
returns c =
    let values = c.args.values.now in
    let sites = c.args.sites.now in
    c.either-2.ensures
    ∙ rw (c.either.ensures, c.in_ok-of_library.ensures, c.in_ok-of_frame.ensures, c.in_ok-of_body.ensures, ← c.requires.library, ← c.requires.frame, ← c.requires.body)
    (sym (three (flat_map (clause_numbers values sites.library) c.args.library.now) (flat_map (clause_numbers values sites.frame) c.args.frame.now) (flat_map (clause_numbers values sites.body) c.args.body.now)))
