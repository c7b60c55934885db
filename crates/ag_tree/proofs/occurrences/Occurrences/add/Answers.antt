use Rattle.std.proofs.Common.{◌≡◌, ◌<◌, ◌∙◌, ◌∷◌, ◌++◌, [], ℕ, List, length, get_or, ap, subst, inl, refl, arith, false, Contains}
use Rattle.std.proofs.lemmas.List.{get_or_read}
use Rattle.ag_query.specs.declared.clauses.Lit.{Lit}
use Rattle.ag_query.specs.Meaning.{contrary}
use Rattle.ag_tree.specs.Listing.{slot, listed}
use Rattle.ag_tree.proofs.Listing.{AreListed, list_more}
use Rattle.ag_tree.proofs.Looking.{all_seen}
use Rattle.ag_tree.proofs.occurrences.Occurrences.add.Goals as goal

pub loop-lit-init : goal.loop-lit-init
loop-lit-init c =
    let view : c.self.inside.lists.items ≡ c.args.self.now = c.self.view_is in
    let A : List (List ℕ) → Type 0 = λ xs. AreListed xs c.self.inside.lists.items c.args.lits.now 0 c.args.line in
    subst A view (record { slots = refl; kept = λ l n h. h; under = λ k d low lt. absurd (omega (arith, lt)); only = λ l n h. inl h })

pub loop-lit-preserved : goal.loop-lit-preserved
loop-lit-preserved c =
    let d : Lit = record { atom = 0; holds = false } in
    let lists : List (List ℕ) = c.loop-lit.self-inside.lists.items in
    let at : c.slot_of.result ≡ slot (contrary (get_or c.args.lits.now c.loop-lit.lit-index d)) = c.slot_of.ensures ∙ ap slot c.contrary.ensures in
    let inside : c.slot_of.result < length lists = omega (arith, at, c.requires c.loop-lit.lit-index d c.loop-lit-test.true, c.loop-lit.invariant.slots) in
    let ys : c.push.new.self ≡ get_or lists c.slot_of.result [] ++ c.args.line ∷ [] = c.in_ok-push.ensures.ok ∙ ap (λ (xs : List ℕ). xs ++ c.args.line ∷ []) (get_or_read lists c.slot_of.result c.index_mut.result.now inside c.index_mut.ensures.value []) in
    list_more c.args.self.now lists c.args.lits.now c.loop-lit.lit-index c.args.line d c.push.new.self c.slot_of.result c.loop-lit.invariant c.loop-lit-test.true at inside ys

pub returns-clause-kept : goal.returns-clause-kept
returns-clause-kept c = c.loop-lit.invariant.kept

pub returns-clause-under : goal.returns-clause-under
returns-clause-under c = all_seen (λ (l : Lit). Contains (listed c.loop-lit.self-inside.lists.items (contrary l)) c.args.line) c.args.lits.now c.loop-lit.lit-index c.loop-lit.invariant.under c.loop-lit-test.false

pub returns-clause-only : goal.returns-clause-only
returns-clause-only c = c.loop-lit.invariant.only
