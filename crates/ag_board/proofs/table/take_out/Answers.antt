use Rattle.std.proofs.Common.{◌≡◌, ◌∙◌, ◌==◌, ◌<◌, ℕ, List, Option, Some, length, refl, sym, ap, subst, rules}
use Rattle.std.specs.Prelude.{IsSome, position}
use Rattle.std.proofs.lemmas.Option.{slice_get_read}
use Rattle.std.proofs.lemmas.List.Quantifiers.{position-Some}
use Rattle.ag_board.specs.declared.slot.Out.{Out}
use Rattle.ag_board.proofs.table.take_out.Goals as goal

pub unwrap-at-requires : goal.unwrap-at-requires
unwrap-at-requires c =
    let P : Option ℕ → Type 0 = λ o. IsSome o in
    let e = c.place_of.ensures ∙ ap (λ (xs : List Out). position (λ (o : Out). o.claim == c.args.claim) xs) c.as_slice.ensures.value in
    subst P (sym e) c.requires

pub returns-clause-out : goal.returns-clause-out
returns-clause-out c =
    let e = c.place_of.ensures ∙ ap (λ (xs : List Out). position (λ (o : Out). o.claim == c.args.claim) xs) c.as_slice.ensures.value in
    let found : c.place_of.result ≡ Some c.unwrap-at.result = search rules in
    let inside : c.unwrap-at.result < length c.args.outs.now.items = (position-Some (λ (o : Out). o.claim == c.args.claim) c.args.outs.now.items c.unwrap-at.result c.remove.result (sym e ∙ found)).0 in
    (c.unwrap-at.result, sym e ∙ found, slice_get_read c.args.outs.now.items (length c.args.outs.now.items) c.unwrap-at.result c.remove.result refl inside c.remove.ensures.value, c.remove.ensures.items)
