use Rattle.std.proofs.Common.{◌≡◌, ◌<◌, List, length, get_or, subst, append_assoc}
use Rattle.ag_aadl.specs.declared.packages.Item.{Item}
use Rattle.ag_names.proofs.Declarations.{types_more}
use Rattle.ag_names.proofs.placed.push_types.Goals as goal

pub loop-item-preserved : goal.loop-item-preserved
loop-item-preserved c =
    let items = c.as_slice-declared-items in
    let inside : c.loop-item.item < length c.args.owner.now.items = subst (λ (z : List Item). c.loop-item.item < length z) items.ensures c.loop-item-test.true in
    let is : c.declared-item.result ≡ get_or c.args.owner.now.items c.loop-item.item c.declared-item.result =
    subst (λ (z : List Item). c.declared-item.result ≡ get_or z c.loop-item.item c.declared-item.result) items.ensures c.declared-item.is in
    rw (c.in_ok-push_type.ensures, c.loop-item.invariant, types_more c.args.«package» c.args.owner.now c.args.owner.now.items c.loop-item.item c.declared-item.result inside is)
    (append_assoc c.args.entries.now.items _ _)
