use Rattle.std.proofs.Common.{◌∙◌}
use Rattle.std.specs.List.{flat_map}
use Rattle.ag_symbols.specs.Seen.{Seen, clauses_seen, over_sites, targets, seen_of}
use Rattle.ag_types.specs.ClauseFaults.{clause_faults, twice_among, declared, second_source, assign_in}
use Rattle.ag_types.proofs.Each.{three}
use Rattle.ag_types.proofs.faults.first_fault.Goals as goal

pub returns : goal.returns
returns c =
    let s : Seen = seen_of c.args.library.now c.args.frame.now c.args.body.now c.args.ports.now in
    c.either-2.ensures ∙ rw (c.either.ensures, c.in_ok-of_names.ensures, c.in_ok-of_clauses.ensures, c.in_ok-of_sources.ensures, c.in_ok-targets.ensures, c.requires.library, c.requires.frame, c.requires.body)
    (three (twice_among (declared s) (declared s)) (over_sites (clause_faults (targets s)) s) (flat_map (second_source s (flat_map assign_in (clauses_seen s))) (flat_map assign_in (clauses_seen s))))
