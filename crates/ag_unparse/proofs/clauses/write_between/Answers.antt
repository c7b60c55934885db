use Rattle.std.proofs.Common.{◌∷◌, [], ◌++◌}
use Rattle.std.specs.Prelude.{codes}
use Rattle.ag_unparse.specs.Canonical.{sign, vars_words}
use Rattle.ag_unparse.proofs.WritingSteps.{both_on}
use Rattle.ag_unparse.proofs.clauses.write_between.Goals as goal

pub returns : goal.returns
returns c =
    let vars = vars_words c.args.vars.now in
    both_on c.back.result c.args.writer.now c.front.new.self c.back.new.self (sign (codes "(") ∷ []) (vars ++ sign (codes ")") ∷ []) c.in_ok-front.ensures
    (both_on c.back.result c.front.new.self c.write_vars.new.writer c.back.new.self vars (sign (codes ")") ∷ []) c.in_ok-write_vars.ensures c.back.ensures)
