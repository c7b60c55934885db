use Rattle.std.proofs.Common.{◌<◌, ◌∙◌, List, sym, subst, All}
use Rattle.ag_query.specs.declared.clauses.Lit.{Lit}
use Rattle.ag_tree.proofs.Solving.{leaf_from}
use Rattle.ag_tree.proofs.rounds.Progress.after_leaf.Goals as goal

pub returns-in_ok-lits-in-None : goal.returns-in_ok-lits-in-None
returns-in_ok-lits-in-None c = record {
  ends = λ leaves work yes few. (
    yes,
    leaf_from c.args.self.now c.from_vec.result c.requires.going c.requires.rest c.in-None.ensures (c.from_vec.ensures ∙ c.in_ok-lits-in-None.ensures.value)
        (subst (λ (ls : List Lit). All (λ l. l.atom < c.args.self.now.trail.atoms) ls) (sym c.from_vec.ensures) c.in_ok-lits-in-None.ensures.range),
  );
}
