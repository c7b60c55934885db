use Rattle.std.proofs.Common.{◌<◌, ◌∙◌, ℕ, List, length, get_or, sym, ap, subst, refl, arith, All, Contains}
use Rattle.std.specs.List.{range_with_len}
use Rattle.ag_query.specs.declared.clauses.Lit.{Lit}
use Rattle.ag_query.specs.declared.clauses.LClause.{LClause}
use Rattle.ag_query.specs.Meaning.{contrary}
use Rattle.ag_tree.specs.Listing.{listed, slot}
use Rattle.ag_tree.proofs.Listing.{IsAdded}
use Rattle.ag_tree.proofs.Starting.{listed_to_more}
use Rattle.ag_tree.proofs.rounds.list_clauses.Goals as goal

pub loop-clause-init : goal.loop-clause-init
loop-clause-init c = record { numbered = c.new-numbers.ensures.items; slots = refl; only = λ l n h. absurd (c.requires.empty l n h); under = λ k x lt e. absurd (omega (arith, lt)) }

pub add-requires : goal.add-requires
add-requires c =
    let d : LClause = c.clause-item.result in
    let n : ℕ = length c.loop-clause.occurrences in
    let R : List Lit → Type 0 = λ ls. All (λ l. slot (contrary l) < n) ls in
    let S : ℕ → Type 0 = λ m. All (λ l. slot (contrary l) < m) (get_or c.args.clauses.now c.loop-clause.clause-index d).lits in
    let here : S n = subst S (sym c.loop-clause.invariant.slots) (c.requires.range c.loop-clause.clause-index d c.loop-clause-test.true) in
    subst R (sym (c.as_slice.ensures ∙ ap (λ (x : LClause). x.lits) c.clause-item.is)) here

pub loop-clause-preserved : goal.loop-clause-preserved
loop-clause-preserved c =
    let a = c.in_ok-add.ensures in
    let added : IsAdded c.loop-clause.occurrences c.add.new.self c.clause-item.result.lits c.in-Ok.number = record {
      slots = a.slots;
      kept = a.kept;
      under = subst (λ (ls : List Lit). All (λ l. Contains (listed c.add.new.self (contrary l)) c.in-Ok.number) ls) c.as_slice.ensures a.under;
      only = a.only;
    } in
    listed_to_more c.args.clauses.now c.args.occurrences.now c.loop-clause.occurrences c.add.new.self c.loop-clause.numbers.items c.push.new.self.items c.loop-clause.clause-index c.in-Ok.number c.clause-item.result
    c.loop-clause.invariant c.loop-clause-test.true c.clause-item.is (omega (arith, c.in-Ok.ensures, c.len.ensures, c.loop-clause.numbers.ok.0)) added c.in_ok-push.ensures.items

pub returns-clause-numbers : goal.returns-clause-numbers
returns-clause-numbers c = c.loop-clause.invariant.numbered ∙ ap (range_with_len 0) (omega (arith, c.loop-clause-test.false, c.loop-clause.auto.clause-index-end))

pub returns-clause-only : goal.returns-clause-only
returns-clause-only c l n h = let low : n < c.loop-clause.clause-index = c.loop-clause.invariant.only l n h in omega (arith, low, c.loop-clause.auto.clause-index-end)

pub returns-clause-listed : goal.returns-clause-listed
returns-clause-listed c k x lt e = c.loop-clause.invariant.under k x (omega (arith, lt, c.loop-clause-test.false)) e
