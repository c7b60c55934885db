use Rattle.std.proofs.Common.{ℕ, take, sym, ap, ◌∙◌}
use Rattle.std.proofs.lemmas.Result.{err_from_is_err_and}
use Rattle.ag_lex.specs.Places.{place_of}
use Rattle.ag_lex.proofs.Placing.{file_is}
use Rattle.ag_lex.proofs.Steps.{done_more, done_all, stops_first}
use Rattle.ag_lex.proofs.scan.scan.Goals as goal

pub step-requires-clause-place : goal.step-requires-clause-place
step-requires-clause-place c =
    let cursor = c.loop-cursor.cursor in
    let before = take cursor.at c.args.bytes.now in
    c.loop-cursor.invariant.placed ∙ ap (λ (f : ℕ). place_of f before) (sym (file_is c.args.start.place.file before cursor.place c.loop-cursor.invariant.placed))

pub returns-in_err-cursor-clause-err : goal.returns-in_err-cursor-clause-err
returns-in_err-cursor-clause-err c =
    let p = err_from_is_err_and c.from_residual.result c.from_residual.ensures.1 in
    rw (p.1, p.2) (stops_first c.args.language c.args.start c.args.bytes.now c.loop-cursor.cursor c.loop-cursor.tokens c.in_err-cursor.field-0.0 c.loop-cursor.invariant c.in_err-cursor.ensures.err)

pub loop-cursor-preserved : goal.loop-cursor-preserved
loop-cursor-preserved c =
    done_more c.args.language c.args.start c.args.bytes.now c.loop-cursor.cursor c.in_ok-cursor.cursor c.loop-cursor.tokens c.step.new.tokens c.loop-cursor.invariant c.in_ok-cursor.ensures.ok

pub returns-clause-ok : goal.returns-clause-ok
returns-clause-ok c = done_all c.args.language c.args.start c.args.bytes.now c.loop-cursor.cursor c.loop-cursor.tokens c.loop-cursor.invariant c.loop-cursor-test.false
