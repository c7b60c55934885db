-- Of what is broken on names and types, on circles and on numbers the first is the first of their first ones.
use Rattle.std.proofs.Common.{ap, sym, ◌∙◌}
use Rattle.std.specs.Prelude.{Contains, ◌⊎◌}
use Rattle.std.proofs.Math.Path.{subst}
use Rattle.ag_symbols.specs.Seen.{Seen, seen_of}
use Rattle.ag_types.specs.Answers.{Breaks, IsFirst}
use Rattle.ag_types.specs.ClauseFaults.{faults_of}
use Rattle.ag_types.specs.NumberFaults.{number_faults}
use Rattle.ag_types.specs.Places.{first_broken}
use Rattle.ag_types.specs.Uses.{IsCircular}
use Rattle.ag_types.proofs.Answering.{first_of_two, first_in}
use Rattle.ag_types.proofs.scope.check.Goals as goal

pub returns-clause-broken : goal.returns-clause-broken
returns-clause-broken c =
    let s : Seen = seen_of c.args.library.now c.args.frame.now c.args.body.now c.args.ports.now in
    let values = c.in_ok-evaluated.evaluated.values.items in
    let names = subst (IsFirst (Contains (faults_of s))) (sym c.in_ok-of_names.ensures) (first_in (faults_of s)) in
    let numbers = subst (IsFirst (Contains (number_faults s values))) (sym (c.in_ok-of_numbers.ensures ∙ ap (λ z. first_broken (number_faults s z)) c.as_slice.ensures.value)) (first_in (number_faults s values)) in
    let rest = first_of_two (IsCircular s) (Contains (number_faults s values)) c.in_ok-evaluated.evaluated.circular c.in_ok-of_numbers.of_numbers c.in_ok-evaluated.ensures.circular numbers in
    let all = first_of_two (Contains (faults_of s)) (λ q. IsCircular s q ⊎ Contains (number_faults s values) q) c.in_ok-of_names.of_names _ names (subst (IsFirst (λ q. IsCircular s q ⊎ Contains (number_faults s values) q)) (sym c.either.ensures) rest) in
    subst (IsFirst (Breaks s values)) (sym c.either-2.ensures) all

pub returns-clause-typed : goal.returns-clause-typed
returns-clause-typed c = λ e.
    let s : Seen = seen_of c.args.library.now c.args.frame.now c.args.body.now c.args.ports.now in
    c.in_ok-evaluated.ensures.typed (subst (IsFirst (Breaks s c.in_ok-evaluated.evaluated.values.items)) e (returns-clause-broken c))
