use Rattle.std.proofs.Common.{ap, subst, sym}
use Rattle.ag_aadl.specs.declared.packages.Frame.{Frame}
use Rattle.ag_names.specs.Broken.{TypeBreaks}
use Rattle.ag_names.specs.Order.{IsFirst}
use Rattle.ag_names.specs.Placed.{Type'}
use Rattle.ag_names.specs.Twice.{IsTwice, port_names}
use Rattle.ag_names.proofs.TypesBreak.{first_of_type}
use Rattle.ag_names.proofs.types.first_in_type.Goals as goal

pub returns : goal.returns
returns c =
    let t = c.args.entry.now in
    let twice = subst (λ (f : Frame). IsFirst (IsTwice (port_names f)) c.in_ok-twice.twice) (ap (λ (t : Type'). t.frame) c.entry.view_is) c.in_ok-twice.ensures in
    subst (IsFirst (TypeBreaks t)) (sym c.earlier.ensures) (first_of_type t c.in_ok-twice.twice c.first_port_unimported.result twice c.first_port_unimported.ensures)
