use Rattle.std.proofs.Common.{◌≡◌, ◌<◌, ◌∙◌, ℕ, List, length, ap, sym, subst, inl, refl, All, Contains}
use Rattle.std.proofs.lemmas.List.Elements.{All-contains, Contains-get_or, Contains-push}
use Rattle.ag_query.specs.declared.clauses.Lit.{Lit}
use Rattle.ag_query.specs.Meaning.{contrary}
use Rattle.ag_kernel.specs.declared.line.Line.{Line}
use Rattle.ag_kernel.specs.Rules.{line_at}
use Rattle.ag_tree.specs.Going.{HasSlots}
use Rattle.ag_tree.specs.Listing.{slot}
use Rattle.ag_tree.proofs.Drawing.{line_is}
use Rattle.ag_tree.proofs.Covering.{unlist_step}
use Rattle.ag_tree.proofs.parts.unlist.Goals as goal
use Rattle.ag_tree.proofs.parts.unlist.Goals.{After-as_slice-line}

has_slots : (c : After-as_slice-line) → HasSlots c.args.kernel.now.lines (length c.args.occurrences.now) c.in-Some.number
has_slots c =
    let numbers : List ℕ = c.args.numbers.now.items in
    let here : Contains c.loop-number.numbers.items c.in-Some.number = subst (λ (ns : List ℕ). Contains ns c.in-Some.number) (sym c.in-Some.ensures.items) (Contains-push c.pop.new.self.items c.in-Some.number) in
    All-contains (HasSlots c.args.kernel.now.lines (length c.args.occurrences.now)) numbers c.in-Some.number c.requires
    (All-contains (Contains numbers) c.loop-number.numbers.items c.in-Some.number c.loop-number.invariant.fewer here)

slice_is : (c : After-as_slice-line) → c.as_slice-line.result.now ≡ (line_at c.args.kernel.now.lines c.in-Some.number).lits
slice_is c = c.as_slice-line.ensures ∙ ap (λ (l : Line). l.lits) (line_is c.args.kernel.now.lines c.in-Some.number c.line.result.now c.line.ensures.line)

pub loop-number-init : goal.loop-number-init
loop-number-init c = record { slots = refl; kept = λ l n h. inl h; only = λ l n h. h; fewer = λ k d lt. Contains-get_or c.args.numbers.now.items k d lt }

pub returns-then-not-is_end-clause-fewer : goal.returns-then-not-is_end-clause-fewer
returns-then-not-is_end-clause-fewer c =
    subst (λ (ns : List ℕ). All (Contains c.args.numbers.now.items) ns) (sym (c.in_ok-push.ensures.items ∙ sym c.in-Some.ensures.items)) c.loop-number.invariant.fewer

pub remove-requires : goal.remove-requires
remove-requires c =
    let i = (goal.at.remove-requires c).After-as_slice-line in
    let P : ℕ → Lit → Type 0 = λ n l. slot (contrary l) < n in
    subst (λ (n : ℕ). All (P n) c.as_slice-line.result.now) (sym c.loop-number.invariant.slots)
    (subst (λ (ls : List Lit). All (P (length c.args.occurrences.now)) ls) (sym (slice_is i)) (has_slots i).below)

pub loop-number-preserved : goal.loop-number-preserved
loop-number-preserved c =
    let i = (goal.at.loop-number-preserved c).After-as_slice-line in
    unlist_step c.args.kernel.now.lines c.args.clause.now c.args.occurrences.now c.loop-number.occurrences c.remove.new.self c.args.numbers.now.items c.loop-number.numbers.items c.pop.new.self.items c.in-Some.number
    c.loop-number.invariant c.in-Some.ensures.items (record { slots = c.remove.ensures.slots; kept = c.remove.ensures.kept; only = c.remove.ensures.only })
    (subst (λ (ls : List Lit). All (Contains ls) c.args.clause.now) (slice_is i) (c.if-not-is_end.ensures refl))
