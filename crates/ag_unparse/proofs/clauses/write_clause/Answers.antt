use Rattle.ag_unparse.proofs.WritingClauses.{eq_written, const_written}
use Rattle.ag_unparse.proofs.clauses.write_clause.Goals as goal

pub returns-in_ok-write_vars-in-Eq : goal.returns-in_ok-write_vars-in-Eq
returns-in_ok-write_vars-in-Eq c =
    let m = c.in-Eq in
    eq_written c.write_some_value.result c.args.writer.now c.word.new.self c.write_vars.new.writer c.write_some_value.new.writer c.as_slice.result.now m.names m.value c.args.clause.now m.is c.as_slice.ensures
    c.in_ok-word-in-Eq.ensures c.in_ok-write_vars-in-Eq.ensures c.write_some_value.ensures

pub returns-in_ok-write_var-in-Const : goal.returns-in_ok-write_var-in-Const
returns-in_ok-write_var-in-Const c =
    let m = c.in-Const in
    const_written c.write_value.result c.args.writer.now c.word-in-Const.new.self c.write_var.new.writer c.write_value.new.writer m.name m.value c.args.clause.now m.is
    c.in_ok-word-in-Const.ensures c.in_ok-write_var-in-Const.ensures c.write_value.ensures
