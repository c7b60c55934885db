use Rattle.std.proofs.Common.{◌≡◌, ◌⊎◌, ◌+◌, ◌∙◌, ◌∷◌, ◌++◌, [], inl, inr, ℕ, List, length, refl, ap, sym, subst, arith, All, Contains}
use Rattle.std.proofs.lemmas.List.Elements.{All-push, All-weaker}
use Rattle.ag_query.specs.declared.clauses.Lit.{Lit}
use Rattle.ag_query.specs.Meaning.{contrary}
use Rattle.ag_tree.specs.Listing.{listed}
use Rattle.ag_tree.specs.Going.{HasPart, HasSlots, IsClauseLine}
use Rattle.ag_tree.proofs.Covering.{IsRelisted, slots_of}
use Rattle.ag_tree.proofs.Going.{learned_going, learned_ready}
use Rattle.ag_tree.proofs.rounds.Progress.learn.Goals as goal
use Rattle.ag_tree.proofs.rounds.Progress.learn.Goals.{After-drop-lits-2}

pub unlist-requires : goal.unlist-requires
unlist-requires c =
    let s = c.args.self.now in
    let C : ℕ → Type 0 = IsClauseLine s.kernel.lines s.trail.atoms in
    let S : ℕ → Type 0 = HasSlots s.kernel.lines (length s.occurrences) in
    All-weaker C S (λ n h. slots_of s.kernel.lines s.trail.atoms (length s.occurrences) n c.requires.going.slots h) s.listed.items c.requires.going.listed

relisted : (c : After-drop-lits-2) → IsRelisted c.args.self.now.kernel.lines c.args.self.now.occurrences c.add.new.self c.args.fact.lits.items c.args.fact.number
relisted c =
    let s = c.args.self.now in
    let u = c.in_ok-unlist.ensures in
    let a = c.in_ok-add.ensures in
    let P : ℕ → List Lit → Type 0 = λ n ls. HasPart s.kernel.lines ls n in
    record {
      slots = a.slots ∙ u.slots;
      kept = λ l n h.
          elim (u.kept l n h) [
            | inl old ↦ inl (a.kept l n old)
            | inr part ↦ inr (subst (P n) c.deref.ensures.value part)
          ];
      under = subst (λ (ls : List Lit). All (λ l. Contains (listed c.add.new.self (contrary l)) c.args.fact.number) ls) c.deref-2.ensures.value a.under;
      only = λ l n h.
          elim (a.only l n h) [
            | inl mid ↦ inl (u.only l n mid)
            | inr e ↦ inr e
          ];
    }

fewer : (c : After-drop-lits-2) → All (λ n. Contains c.args.self.now.listed.items n ⊎ (n ≡ c.args.fact.number)) c.push.new.self.items
fewer c =
    let old : ℕ → Type 0 = Contains c.args.self.now.listed.items in
    let P : ℕ → Type 0 = λ n. old n ⊎ (n ≡ c.args.fact.number) in
    subst (λ (ns : List ℕ). All P ns) (sym c.in_ok-push.ensures.items)
    (All-push P c.unlist.new.numbers.items c.args.fact.number (All-weaker old P (λ n h. inl h) c.unlist.new.numbers.items c.in_ok-unlist.ensures.fewer) (inr refl))

one : (c : After-drop-lits-2) → c.push-3.new.self.items ≡ c.args.fact.number ∷ []
one c = c.in_ok-push-3.ensures.items ∙ ap (λ (ns : List ℕ). ns ++ c.args.fact.number ∷ []) c.clear.ensures.items

pub returns-clause-going : goal.returns-clause-going
returns-clause-going c =
    learned_going c.args.self.now c.args.fact c.add.new.self c.back.new.self c.in-Some.choice (record { lits = c.in_ok-make.field-0 }) c.push-2.new.self (c.args.self.now.literals + c.len.result) c.len-steps.result c.min-self.result c.taken_back.new.self c.push.new.self c.push-3.new.self
    c.requires.going c.requires.fact c.requires.some c.requires.few (relisted c) (fewer c) c.in-Some.ensures.steps c.in-Some.ensures.atoms (c.in_ok-make.ensures.lits ∙ c.deref-3.ensures.value) c.in_ok-push-2.ensures.ok (omega (arith, c.len.ensures, c.args.fact.lits.ok.0)) (one c)

pub returns-clause-ready : goal.returns-clause-ready
returns-clause-ready c =
    learned_ready c.args.self.now c.args.fact c.add.new.self c.back.new.self c.in-Some.choice (record { lits = c.in_ok-make.field-0 }) c.push-2.new.self (c.args.self.now.literals + c.len.result) c.len-steps.result c.min-self.result c.taken_back.new.self c.push.new.self c.push-3.new.self
    c.requires.going c.requires.fact c.in-Some.ensures.steps (c.in_ok-make.ensures.lits ∙ c.deref-3.ensures.value) c.in_ok-push-2.ensures.ok c.len-steps.ensures.value (one c)
