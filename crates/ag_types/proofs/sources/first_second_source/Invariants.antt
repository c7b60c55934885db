use Rattle.std.proofs.Common.{◌≡◌, ◌++◌, drop}
use Rattle.std.specs.Prelude.{map}
use Rattle.std.specs.List.{flat_map}
use Rattle.ag_symbols.specs.Seen.{seen_of}
use Rattle.ag_types.specs.ClauseFaults.{assign_in, second_source}
use Rattle.ag_types.specs.Firsts.{either}
use Rattle.ag_types.specs.Places.{first_broken}
use Rattle.ag_types.proofs.sources.first_second_source.Given as goal

abbrev pub invariant-loop-name : goal.invariant-loop-name
invariant-loop-name l =
    either l.found (first_broken (flat_map (second_source (seen_of l.library l.frame l.body l.ports) (flat_map assign_in (l.library ++ (l.frame ++ l.body)))) (map (λ n. n.now) (drop l.name-index l.assigns))))
    ≡ first_broken (flat_map (second_source (seen_of l.library l.frame l.body l.ports) (flat_map assign_in (l.library ++ (l.frame ++ l.body)))) (map (λ n. n.now) l.assigns))
