-- What the check found broken is first of all that is.
use Rattle.std.proofs.Common.{◌≡◌, ap, ◌∙◌}
use Rattle.std.specs.Prelude.{Some}
use Rattle.std.proofs.Math.Path.{subst}
use Rattle.ag_symbols.specs.Seen.{seen_of}
use Rattle.ag_types.specs.Answers.{Breaks, IsFirst}
use Rattle.ag_types.proofs.scope.Scope.make.Goals as goal

pub returns-in-Some-clause-refused : goal.returns-in-Some-clause-refused
returns-in-Some-clause-refused c = λ r e.
    let same : c.in-Some.refusal ≡ r = cc in
    let breaks = Breaks (seen_of c.args.library.now c.args.frame.now c.args.body.now c.args.ports.now) c.in-Ok.checked.values.items in
    record { values = c.in-Ok.checked.values.items; valued = c.in-Ok.ensures.values; first = subst (IsFirst breaks) (c.in-Some.is ∙ ap Some same) c.in-Ok.ensures.broken }

pub returns-clause-sound : goal.returns-clause-sound
returns-clause-sound c =
    let breaks = Breaks (seen_of c.args.library.now c.args.frame.now c.args.body.now c.args.ports.now) c.in-Ok.checked.values.items in
    record { values = c.in-Ok.checked.values.items; valued = c.in-Ok.ensures.values; none = subst (IsFirst breaks) c.in-None.is c.in-Ok.ensures.broken }
