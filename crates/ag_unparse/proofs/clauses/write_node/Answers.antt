use Rattle.std.proofs.Common.{ap, ◌∙◌}
use Rattle.ag_unparse.specs.Canonical.{locals_words}
use Rattle.ag_unparse.specs.Written.{with_words}
use Rattle.ag_unparse.proofs.WritingSteps.{same_on}
use Rattle.ag_unparse.proofs.WritingClauses.{equations, between_of, node_written}
use Rattle.ag_unparse.proofs.clauses.write_node.Goals as goal

pub returns : goal.returns
returns c =
    let node = c.args.node.now in
    node_written c.write_equations.result c.args.writer.now c.word.new.self c.write_name.new.writer c.write_between.new.writer c.word-2.new.self c.write_between-2.new.writer c.back.new.self c.write_locals.new.writer
    c.write_equations.new.writer node c.in_ok-word.ensures c.in_ok-write_name.ensures
    (between_of c.write_name.new.writer c.write_between.new.writer c.as_slice.result.now node.inputs c.as_slice.ensures c.in_ok-write_between.ensures) c.in_ok-word-2.ensures
    (between_of c.word-2.new.self c.write_between-2.new.writer c.as_slice-2.result.now node.outputs c.as_slice-2.ensures c.in_ok-write_between-2.ensures) c.in_ok-back.ensures
    (c.in_ok-write_locals.ensures ∙ ap (λ vs. with_words c.back.new.self (locals_words vs)) c.as_slice-3.ensures)
    (same_on c.write_equations.result c.write_locals.new.writer c.write_equations.new.writer (equations c.as_slice-4.result.now) (equations node.equations) (ap equations c.as_slice-4.ensures) c.write_equations.ensures)
