use Rattle.std.proofs.Common.{◌≡◌, ◌<◌, ◌∙◌, [], ℕ, List, length, get_or, ap, subst, inl, refl, arith, false}
use Rattle.std.proofs.lemmas.List.{get_or_read}
use Rattle.ag_query.specs.declared.clauses.Lit.{Lit}
use Rattle.ag_query.specs.Meaning.{contrary}
use Rattle.ag_tree.specs.Listing.{slot}
use Rattle.ag_tree.proofs.Listing.{AreUnlisted, IsTakenOff, unlist_more}
use Rattle.ag_tree.proofs.occurrences.Occurrences.remove.Goals as goal

pub loop-lit-init : goal.loop-lit-init
loop-lit-init c =
    let view : c.self.inside.lists.items ≡ c.args.self.now = c.self.view_is in
    let A : List (List ℕ) → Type 0 = λ xs. AreUnlisted xs c.self.inside.lists.items c.args.line in
    subst A view (record { slots = refl; kept = λ l n h. inl h; only = λ l n h. h })

pub index_mut-requires : goal.index_mut-requires
index_mut-requires c =
    let d : Lit = record { atom = 0; holds = false } in
    let at : c.slot_of.result ≡ slot (contrary (get_or c.args.lits.now c.loop-lit.lit-index d)) = c.slot_of.ensures ∙ ap slot c.contrary.ensures in
    omega (arith, at, c.requires c.loop-lit.lit-index d c.loop-lit-test.true, c.loop-lit.invariant.slots)

pub loop-lit-preserved : goal.loop-lit-preserved
loop-lit-preserved c =
    let d : Lit = record { atom = 0; holds = false } in
    let lists : List (List ℕ) = c.loop-lit.self-inside.lists.items in
    let at : c.slot_of.result ≡ slot (contrary (get_or c.args.lits.now c.loop-lit.lit-index d)) = c.slot_of.ensures ∙ ap slot c.contrary.ensures in
    let inside : c.slot_of.result < length lists = omega (arith, at, c.requires c.loop-lit.lit-index d c.loop-lit-test.true, c.loop-lit.invariant.slots) in
    let O : List ℕ → Type 0 = λ xs. IsTakenOff xs c.take_off.new.numbers c.args.line in
    unlist_more c.args.self.now lists c.args.line c.slot_of.result c.take_off.new.numbers c.loop-lit.invariant inside
    (subst O (get_or_read lists c.slot_of.result c.index_mut.result.now inside c.index_mut.ensures.value []) c.take_off.ensures)

pub returns-clause-kept : goal.returns-clause-kept
returns-clause-kept c = c.loop-lit.invariant.kept

pub returns-clause-only : goal.returns-clause-only
returns-clause-only c = c.loop-lit.invariant.only
