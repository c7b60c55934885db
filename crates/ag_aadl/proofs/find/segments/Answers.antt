use Rattle.std.proofs.Common.{◌≡◌, ◌-◌, ◌<◌, ◌≤◌, ◌∷◌, [], suc, map, reverse, take, drop, length, slice_range, sym, ap, subst, ◌∙◌, arith}
use Rattle.std.proofs.lemmas.List.{reverse-append}
use Rattle.ag_aadl.specs.Marked.{segments, up_to}
use Rattle.ag_aadl.proofs.Segments.{segment-begins, nothing-before, segments-stay, one-before, none-taken}
use Rattle.ag_aadl.proofs.find.segments.Goals as goal

pub loop-at-preserved-then-is_among : goal.loop-at-preserved-then-is_among
loop-at-preserved-then-is_among c =
    let marks = c.args.marks.now in
    let ms = c.args.marked.now in
    let at = c.loop-at.at in
    let i = at - 1 in
    let end = c.loop-at.end in
    let inv = c.loop-at.invariant in
    let some = c.loop-at-test.true in
    let up : at ≡ suc i = omega (arith, some) in
    let below : i < length ms = omega (arith, some, inv.ordered, inv.within) in
    let ordered : suc i ≤ end = omega (arith, some, inv.ordered) in
    let is = c.is_among.ensures in
    let next = subst (λ n. take (end - n) (drop n ms) ≡ up_to marks (drop n ms)) up inv.next in
    let found = subst (λ n. map (λ p. p.now) (reverse c.loop-at.found.items) ≡ segments marks (drop n ms)) up inv.found in
    record {
      ordered = omega arith;
      within = omega (arith, below);
      found = ap (λ q. map (λ p. p.now) (reverse q)) c.in_ok-push.ensures.items
          ∙ ap (map (λ p. p.now)) (reverse-append c.loop-at.found.items (_ ∷ []))
          ∙ ap (λ q. slice_range ms i end ∷ q) found
          ∙ sym (segment-begins marks ms i end _ below ordered (sym is ∙ c.if-is_among.true) next);
      next = none-taken ms i ∙ sym (nothing-before marks ms i _ below (sym is ∙ c.if-is_among.true));
    }

pub loop-at-preserved : goal.loop-at-preserved
loop-at-preserved c =
    let marks = c.args.marks.now in
    let ms = c.args.marked.now in
    let at = c.loop-at.at in
    let i = at - 1 in
    let end = c.loop-at.end in
    let inv = c.loop-at.invariant in
    let some = c.loop-at-test.true in
    let up : at ≡ suc i = omega (arith, some) in
    let below : i < length ms = omega (arith, some, inv.ordered, inv.within) in
    let ordered : suc i ≤ end = omega (arith, some, inv.ordered) in
    let is = c.is_among.ensures in
    let next = subst (λ n. take (end - n) (drop n ms) ≡ up_to marks (drop n ms)) up inv.next in
    let found = subst (λ n. map (λ p. p.now) (reverse c.loop-at.found.items) ≡ segments marks (drop n ms)) up inv.found in
    record {
      ordered = omega (arith, inv.ordered);
      within = inv.within;
      found = found ∙ sym (segments-stay marks ms i _ below (sym is ∙ c.if-is_among.false));
      next = one-before marks ms i end _ below ordered (sym is ∙ c.if-is_among.false) next;
    }
