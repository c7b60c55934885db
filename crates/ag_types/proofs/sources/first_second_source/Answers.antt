use Rattle.std.proofs.Common.{◌≡◌, List, refl, ◌∙◌}
use Rattle.std.specs.List.{flat_map}
use Rattle.ag_terms.specs.declared.names.Ident.{Ident}
use Rattle.ag_symbols.specs.Seen.{Seen, clauses_seen, seen_of}
use Rattle.ag_types.specs.ClauseFaults.{assign_in, second_source}
use Rattle.ag_types.specs.Places.{first_broken}
use Rattle.ag_types.proofs.BreakingMore.{broken_more}
use Rattle.ag_types.proofs.TwiceNames.{agree_permuted}
use Rattle.ag_types.proofs.sources.first_second_source.Goals as goal

pub loop-name-preserved : goal.loop-name-preserved
loop-name-preserved c =
    let s : Seen = seen_of c.args.library.now c.args.frame.now c.args.body.now c.args.ports.now in
    let assigns : List Ident = flat_map assign_in (clauses_seen s) in
    let i : Ident = c.name-item.result.now in
    let broken : c.source_of.result ≡ first_broken (second_source s assigns i) =
    c.source_of.ensures
    ∙ rw (c.in_ok-targets.ensures, c.in_ok-valued.ensures, agree_permuted _ _ c.in_ok-assigned.ensures i, c.as_slice-assigns.ensures.value, c.in_ok-names.ensures) refl in
    rw (c.either-found.ensures, broken)
    (broken_more (λ n. n.now) (second_source s assigns) c.as_slice-assigns.result.now c.loop-name.name-index c.name-item.result c.loop-name.found _ c.loop-name-test.true c.name-item.is c.loop-name.invariant)
