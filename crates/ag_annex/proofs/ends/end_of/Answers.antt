use Rattle.std.proofs.Common.{length, min, ap, ◌∙◌}
use Rattle.ag_lex.specs.declared.token.Token.{Token}
use Rattle.ag_lex.specs.Places.{place_of}
use Rattle.ag_annex.specs.Annexes.{last_of, bytes_up_to_close}
use Rattle.ag_annex.proofs.AnnexEnds.{ended}
use Rattle.ag_annex.proofs.ends.end_of.Goals as goal

pub returns : goal.returns
returns c =
    let bytes = c.args.bytes.now in
    let last = c.min-last.ensures ∙ ap (λ (t : Token). min t.end (length bytes)) c.last_of.ensures in
    c.end_place.ensures
    ∙ ap (place_of c.first_of.result.place.file) (ended bytes (last_of c.args.tokens.now).end c.min-last.result c.close_at.result last c.close_at.ensures.at)
    ∙ ap (λ (t : Token). place_of t.place.file (bytes_up_to_close bytes (last_of c.args.tokens.now))) c.first_of.ensures
