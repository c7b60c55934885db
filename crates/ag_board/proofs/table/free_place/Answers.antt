use Rattle.std.proofs.Common.{◌∙◌, ℕ, List, sym, ap}
use Rattle.std.specs.Prelude.{position}
use Rattle.ag_board.specs.Inside.{row_passes, is_free_row}
use Rattle.ag_board.proofs.Claiming.{skipped-some, skipped-none, tail-whole}
use Rattle.ag_board.proofs.table.free_place.Goals as goal

pub returns-in-Some : goal.returns-in-Some
returns-in-Some c =
    let test = row_passes is_free_row c.args.table.now.entries in
    let e = sym (ap (λ (ns : List ℕ). position (row_passes is_free_row c.args.table.now.entries) ns) (tail-whole c.args.from c.args.numbers.now)) ∙ (sym c.first_free.ensures ∙ c.in-Some.is) in
    sym (skipped-some test c.args.from c.in-Some.place c.args.numbers.now c.requires.within c.requires.taken e)

pub returns-in-None : goal.returns-in-None
returns-in-None c =
    let test = row_passes is_free_row c.args.table.now.entries in
    let e = sym (ap (λ (ns : List ℕ). position (row_passes is_free_row c.args.table.now.entries) ns) (tail-whole c.args.from c.args.numbers.now)) ∙ (sym c.first_free.ensures ∙ c.in-None.is) in
    sym (skipped-none test c.args.from c.args.numbers.now c.requires.within c.requires.taken e)
