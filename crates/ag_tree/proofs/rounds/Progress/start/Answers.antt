use Rattle.std.proofs.Common.{◌≡◌, ◌<◌, ◌*◌, ◌∙◌, [], ℕ, List, length, get_or, sym, ap, subst, arith, All, Contains}
use Rattle.std.specs.List.{range_with_len}
use Rattle.std.proofs.lemmas.List.{length-replicate}
use Rattle.ag_query.specs.declared.clauses.Lit.{Lit}
use Rattle.ag_query.specs.declared.clauses.LClause.{LClause}
use Rattle.ag_query.specs.Meaning.{contrary}
use Rattle.ag_tree.specs.Listing.{listed}
use Rattle.ag_tree.proofs.Starting.{started_going, started_ready}
use Rattle.ag_tree.proofs.rounds.Progress.start.Goals as goal

pub returns-clause-going : goal.returns-clause-going
returns-clause-going c =
    let q = c.args.query.now in
    let atoms : c.in-Ok.atoms ≡ length q.atoms = omega (arith, c.in-Ok.ensures, c.len.ensures) in
    let at : c.in_ok-new-2.field-0 ≡ record { atoms = length q.atoms; steps = [] } = c.in_ok-new-2.ensures ∙ ap (λ (n : ℕ). record { atoms = n; steps = [] }) atoms in
    let lists : List (List ℕ) = c.occurrences.inside.lists.items in
    let u = c.in_ok-unseen.ensures in
    let view : lists ≡ c.list_clauses.new.occurrences = c.occurrences.view_is in
    let long : length lists ≡ 2 * length q.atoms = omega (arith, ap length view, u.slots, ap length c.in_ok-occurrences.ensures, length-replicate {A = List ℕ}, atoms) in
    let same : c.as_slice.result.now ≡ q.clauses = c.as_slice.ensures in
    let Only : List (List ℕ) → List LClause → Type 0 = λ xs cs. (l : Lit) (n : ℕ) → Contains (listed xs l) n → n < length cs in
    let Under : List (List ℕ) → List LClause → Type 0 = λ xs cs. (k : ℕ) (x : LClause) → k < length cs → get_or cs k x ≡ x → All (λ l. Contains (listed xs (contrary l)) k) x.lits in
    started_going q c.in_ok-new.field-0 lists c.in_ok-new-2.field-0 c.new-5.result c.new-3.result c.in_ok-unseen.unseen c.new-6.result c.requires.plain c.in_ok-new.ensures at c.new-5.ensures long (subst (λ (xs : List (List ℕ)). Only xs q.clauses) (sym view) (subst (Only c.list_clauses.new.occurrences) same u.only)) (subst (λ (xs : List (List ℕ)). Under xs q.clauses) (sym view) (subst (Under c.list_clauses.new.occurrences) same u.listed)) c.new-3.ensures.items
    (u.numbers ∙ ap (λ (cs : List LClause). range_with_len 0 (length cs)) same)

pub returns-clause-ready : goal.returns-clause-ready
returns-clause-ready c = started_ready c.args.query.now c.in_ok-new.field-0 c.occurrences.inside.lists.items c.in_ok-new-2.field-0 c.new-5.result c.new-3.result c.in_ok-unseen.unseen c.new-6.result c.in_ok-new.ensures c.new-5.ensures
    (c.in_ok-unseen.ensures.numbers ∙ ap (λ (cs : List LClause). range_with_len 0 (length cs)) c.as_slice.ensures)
