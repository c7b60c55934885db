use Rattle.std.proofs.Common.{ℕ, ◌≡◌, take, [], sym, ap, ◌∙◌, subst, arith}
use Rattle.std.specs.Str.{IsValidUpTo}
use Rattle.std.proofs.lemmas.List.{length-take, length-take-le}
use Rattle.ag_lex.specs.declared.scan.Fault.{Fault}
use Rattle.ag_lex.specs.Places.{place_of}
use Rattle.ag_lex.proofs.Placing.{line_within, column_within}
use Rattle.ag_lex.proofs.scan.no_text.Goals as goal

pub after-end-requires-clause-lines : goal.after-end-requires-clause-lines
after-end-requires-clause-lines c = omega (arith, line_within c.args.start.place.file [] c.args.start.place c.requires.place, length-take c.valid_up_to.result c.args.bytes.now)

pub after-end-requires-clause-columns : goal.after-end-requires-clause-columns
after-end-requires-clause-columns c = omega (arith, column_within c.args.start.place.file [] c.args.start.place c.requires.place, length-take c.valid_up_to.result c.args.bytes.now)

pub returns-in-Err : goal.returns-in-Err
returns-in-Err c =
    let bytes = c.args.bytes.now in
    let file = c.args.start.place.file in
    let valid : IsValidUpTo bytes c.valid_up_to.result = subst (IsValidUpTo bytes) (sym c.valid_up_to.ensures) c.in-Err.ensures.cases.1 in
    let short = valid.short in
    let len = length-take-le c.valid_up_to.result bytes (omega arith) in
    let at : c.broken.result.at ≡ c.valid_up_to.result = ap (λ (f : Fault). f.at) c.broken.ensures ∙ c.after-end.ensures.at ∙ omega arith in
    record {
      front = subst (IsValidUpTo bytes) (sym at) valid;
      placed = ap (λ (f : Fault). f.refusal.place) c.broken.ensures ∙ c.after-end.ensures.place [] c.requires.place ∙ ap (λ (n : ℕ). place_of file (take n bytes)) (sym at);
      rule = ap (λ (f : Fault). f.refusal.rule) c.broken.ensures;
    }
