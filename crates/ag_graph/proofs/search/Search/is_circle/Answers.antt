use Rattle.std.proofs.Common.{◌≡◌, ℕ, List, Decides, eqb, get_or, inl, inr, subst, arith}
use Rattle.std.specs.List.{Contains}
use Rattle.std.proofs.lemmas.Bool.Decides.{Decides-eqb}
use Rattle.std.proofs.lemmas.List.{get_or_read}
use Rattle.std.proofs.lemmas.List.Elements.{contains_decides, Decides-contains}
use Rattle.ag_graph.specs.Circles.{Leads}
use Rattle.ag_graph.proofs.search.Search.is_circle.Goals as goal

pub returns-else-first-len : goal.returns-else-first-len
returns-else-first-len c =
    let path = c.args.self.now.path in
    let graph = c.args.graph.now in
    let v = c.index.result.now in
    let r = c.contains.result in
    let same : v ≡ get_or path.items c.args.first 0 = get_or_read path.items c.args.first v c.requires.first c.index.ensures 0 in
    let among = Decides-contains c.targets.result.now v r (contains_decides eqb Decides-eqb c.targets.result.now v r c.contains.ensures.cases) in
    let leads = subst (λ (u : ℕ). Decides r (Leads graph u u)) same (subst (λ (ws : List ℕ). Decides r (Contains ws v)) c.targets.ensures among) in
    (λ t. inr (leads.0 t), λ either. elim either [ inl more ↦ absurd (omega (arith, c.if-first-len.false, c.len.ensures, path.ok.0)) | inr itself ↦ leads.1 itself ])
