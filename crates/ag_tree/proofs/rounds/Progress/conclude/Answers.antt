use Rattle.std.proofs.Common.{◌<◌, ◌∙◌, ℕ, List, length, sym, subst, All, None}
use Rattle.ag_query.specs.declared.clauses.Lit.{Lit}
use Rattle.ag_kernel.specs.declared.line.Line.{Line}
use Rattle.ag_kernel.specs.Rules.{CanConclude}
use Rattle.ag_tree.specs.Trail.{denial}
use Rattle.ag_tree.proofs.Going.{reasons_there, can_conclude, going_grown, adds_grown, adds_begins, concluded}
use Rattle.ag_tree.proofs.rounds.Progress.conclude.Goals as goal

pub add_line-requires-clause-there : goal.add_line-requires-clause-there
add_line-requires-clause-there c =
    let s = c.args.self.now in
    subst (λ (ns : List ℕ). All (λ n. n < length s.kernel.lines) ns) (sym (c.deref-2.ensures.value ∙ c.in_ok-lines.ensures)) (reasons_there s c.args.line c.requires.going c.requires.against)

pub add_line-requires-clause-implied : goal.add_line-requires-clause-implied
add_line-requires-clause-implied c =
    let s = c.args.self.now in
    let lits = c.deref.ensures.value ∙ c.in_ok-lits.ensures.value in
    let lines = c.deref-2.ensures.value ∙ c.in_ok-lines.ensures in
    let below : List Lit → Type 0 = λ ls. All (λ l. l.atom < s.trail.atoms) ls in
    subst (λ (ls : List Lit). CanConclude s.kernel ls c.deref-2.result.now) (sym lits)
    (subst (λ (ns : List ℕ). CanConclude s.kernel (denial s.trail.steps) ns) (sym lines)
    (can_conclude s c.args.line c.requires.going c.requires.against (subst below c.in_ok-lits.ensures.value c.in_ok-lits.ensures.range)))

pub returns-clause-going : goal.returns-clause-going
returns-clause-going c =
    let s = c.args.self.now in
    let line : Line = record { lits = c.deref.result.now; row = None } in
    going_grown s c.add_line.new.kernel s.asked s.guide c.requires.going (adds_grown s.kernel c.add_line.new.kernel c.in_ok-number.number line c.in_ok-number.ensures.line)
    (adds_begins s.kernel c.add_line.new.kernel c.in_ok-number.number line c.in_ok-number.ensures.line c.requires.going.begins)

pub returns-clause-fact : goal.returns-clause-fact
returns-clause-fact c =
    concluded c.args.self.now c.add_line.new.kernel (record { lits = c.in_ok-lits.lits; number = c.in_ok-number.number }) c.deref.result.now c.requires.going c.in_ok-number.ensures.line c.in_ok-number.ensures.follows c.deref.ensures.value c.in_ok-lits.ensures.value c.in_ok-lits.ensures.range
