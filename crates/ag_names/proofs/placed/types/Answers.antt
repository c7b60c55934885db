use Rattle.std.proofs.Common.{◌≡◌, true, false, refl, sym, ◌∙◌, append-nil}
use Rattle.ag_names.specs.Placed.{is_set_aside}
use Rattle.ag_names.proofs.Declarations.{types_from_more}
use Rattle.ag_names.proofs.placed.types.Goals as goal

pub loop-at-preserved-then-contains : goal.loop-at-preserved-then-contains
loop-at-preserved-then-contains c =
    let all = c.args.packages.now in
    let file = c.index-packages-at.result.name.place.file in
    let aside : is_set_aside all file ≡ true = sym (c.requires file) ∙ sym c.contains.ensures ∙ c.if-contains.true in
    rw (c.loop-at.invariant, types_from_more all all c.loop-at.at c.index-packages-at.result c.loop-at-test.true c.index-packages-at.is, aside) (sym (append-nil _))

pub loop-at-preserved : goal.loop-at-preserved
loop-at-preserved c =
    let all = c.args.packages.now in
    let file = c.index-packages-at.result.name.place.file in
    let aside : is_set_aside all file ≡ false = sym (c.requires file) ∙ sym c.contains.ensures ∙ c.if-contains.false in
    rw (c.in_ok-push_types.ensures, c.loop-at.invariant, types_from_more all all c.loop-at.at c.index-packages-at.result c.loop-at-test.true c.index-packages-at.is, aside) refl
