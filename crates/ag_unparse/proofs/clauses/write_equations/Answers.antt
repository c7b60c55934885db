use Rattle.std.proofs.Common.{◌∷◌, [], ◌++◌, refl}
use Rattle.std.specs.Prelude.{codes}
use Rattle.std.specs.List.{flat_map}
use Rattle.ag_annex.specs.Marks.{let_mark, tel_mark}
use Rattle.ag_unparse.specs.Canonical.{name_at, sign, equal_words}
use Rattle.ag_unparse.proofs.WritingSteps.{both_on, words_step, words_done}
use Rattle.ag_unparse.proofs.WritingClauses.{end_written}
use Rattle.ag_unparse.proofs.clauses.write_equations.Goals as goal

pub loop-equal-preserved : goal.loop-equal-preserved
loop-equal-preserved c =
    words_step (flat_map equal_words) equal_words (λ x xs. refl) c.args.equations.now c.loop-equal.equal-index c.equal-item.result c.word.new.self c.loop-equal.writer c.write_equal.new.writer c.loop-equal-test.true c.equal-item.is
    c.loop-equal.invariant c.in_ok-write_equal.ensures

pub returns : goal.returns
returns c =
    let all = flat_map equal_words c.args.equations.now in
    let end = name_at tel_mark (codes "tel") ∷ sign (codes ";") ∷ [] in
    let done = words_done (flat_map equal_words) refl c.args.equations.now c.loop-equal.equal-index c.word.new.self c.loop-equal.writer c.loop-equal-test.false c.loop-equal.invariant in
    both_on c.back.result c.args.writer.now c.word.new.self c.back.new.self (name_at let_mark (codes "let") ∷ []) (all ++ end) c.in_ok-word.ensures
    (both_on c.back.result c.word.new.self c.loop-equal.writer c.back.new.self all end done (end_written c.back.result c.loop-equal.writer c.word-2.new.self c.back.new.self c.in_ok-word-2.ensures c.back.ensures))
