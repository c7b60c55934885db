use Rattle.std.proofs.Common.{◌≡◌, Err, ap, subst, sym, ◌∙◌, map, List}
use Rattle.ag_base.specs.declared.place.Refused.TheVariants.{Model}
use Rattle.std.specs.List.{All}
use Rattle.ag_print.specs.declared.annexes.Annex.{Annex}
use Rattle.ag_print.specs.Shares.{IsRead, placed}
use Rattle.ag_print.proofs.AnnexesRead.{token_refused, placed_more, read_more}
use Rattle.ag_print.proofs.annexes.with_tokens.Goals as goal

pub returns-in-Err-clause-refused : goal.returns-in-Err-clause-refused
returns-in-Err-clause-refused c = λ r e.
    let same : c.in-Err.refused ≡ Model r = cc in
    token_refused c.args.bytes.now c.args.places.now c.loop-text.text-index _ c.loop-text.annexes r c.loop-text-test.true c.loop-text.invariant.same c.loop-text.invariant.read (c.annex_tokens.ensures.refused r (c.in-Err.is ∙ ap Err same))

pub loop-text-preserved : goal.loop-text-preserved
loop-text-preserved c =
    let places = c.args.places.now in
    let i = c.loop-text.text-index in
    let pushed = c.in-Ok-push.ensures.ok in
    record {
      same = ap (map placed) pushed ∙ placed_more places i _ c.loop-text.annexes c.in-Ok.tokens c.loop-text-test.true c.loop-text.invariant.same;
      read = subst (λ (z : List Annex). All (IsRead c.args.bytes.now) z) (sym pushed)
          (read_more c.args.bytes.now places i _ c.loop-text.annexes c.in-Ok.tokens c.loop-text-test.true c.requires.among c.loop-text.invariant.read c.in-Ok.ensures.ok);
    }
