use Rattle.std.proofs.Common.{◌≡◌, [], ap, arith, sym, ◌∙◌}
use Rattle.ag_base.specs.declared.place.Place.{Place}
use Rattle.ag_lex.specs.Places.{place_of}
use Rattle.ag_lex.proofs.end_place.Goals as goal

pub after-requires-clause-room : goal.after-requires-clause-room
unfolding place_of
after-requires-clause-room c = omega (arith, c.of_file.ensures.at, c.requires)

pub after-requires-clause-lines : goal.after-requires-clause-lines
unfolding place_of
after-requires-clause-lines c = let e = ap (λ (p : Place). p.line) c.of_file.ensures.place in omega (arith, e, c.requires)

pub after-requires-clause-columns : goal.after-requires-clause-columns
unfolding place_of
after-requires-clause-columns c = let e = ap (λ (p : Place). p.column) c.of_file.ensures.place in omega (arith, e, c.requires)

pub returns : goal.returns
unfolding place_of
returns c =
    let f : c.of_file.result.place.file ≡ c.args.file = ap (λ (p : Place). p.file) c.of_file.ensures.place in
    let start : c.of_file.result.place ≡ place_of c.of_file.result.place.file [] = c.of_file.ensures.place ∙ ap (λ x. place_of x []) (sym f) in
    c.after.ensures.place [] start ∙ ap (λ x. place_of x c.args.bytes.now) f
