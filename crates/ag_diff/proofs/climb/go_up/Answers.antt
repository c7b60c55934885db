use Rattle.std.proofs.Common.{◌≡◌, ◌<◌, ℕ, ◌++◌, ◌∷◌, [], length, get_or, drop, List, Option, Some, None, All, sym, subst, ap, ◌∙◌, arith, rules}
use Rattle.std.proofs.lemmas.List.{length-set, length_push, get_or_read}
use Rattle.std.proofs.lemmas.List.Elements.{All-push}
use Rattle.ag_diff.specs.declared.edges.Edge.{Edge}
use Rattle.ag_diff.specs.declared.vertices.Vertex.{Vertex}
use Rattle.ag_diff.specs.Cycles.{Leads}
use Rattle.ag_diff.specs.Vertices.{vertex_at, IsCause}
use Rattle.ag_diff.specs.Climbs.{IsLastCause}
use Rattle.ag_diff.proofs.Ways.{leads_push, cycle_from, marked_more, free_less, way_is_short}
use Rattle.ag_diff.proofs.climb.go_up.Goals as goal

pub part_from-requires : goal.part_from-requires
part_from-requires c =
    let inv = c.loop-at.invariant in
    let found : get_or c.loop-at.places.items c.loop-at.at None ≡ Some c.in-Some-index.place = sym (get_or_read c.loop-at.places.items c.loop-at.at c.index.result.now (omega (arith, inv.there, inv.count)) c.index.ensures None) ∙ c.in-Some-index.is in
    let on = inv.marked c.loop-at.at c.in-Some-index.place c.in-Some.edge found in
    omega (arith, on.0, ap (λ (es : List Edge). length es) c.deref.ensures.value)

pub returns-in-Some-index : goal.returns-in-Some-index
returns-in-Some-index c =
    let inv = c.loop-at.invariant in
    let path : List Edge = c.loop-at.path.items in
    let found : get_or c.loop-at.places.items c.loop-at.at None ≡ Some c.in-Some-index.place = sym (get_or_read c.loop-at.places.items c.loop-at.at c.index.result.now (omega (arith, inv.there, inv.count)) c.index.ensures None) ∙ c.in-Some-index.is in
    let on = inv.marked c.loop-at.at c.in-Some-index.place c.in-Some.edge found in
    cycle_from c.args.vertices.now c.args.from path c.in_ok-part_from.field-0.items c.loop-at.at c.in-Some-index.place c.in-Some.edge c.requires.vertices inv.causes inv.leads on.0 on.1 (c.in_ok-part_from.ensures ∙ ap (drop c.in-Some-index.place) c.deref.ensures.value)

pub loop-at-preserved : goal.loop-at-preserved
loop-at-preserved c =
    let inv = c.loop-at.invariant in
    let vs : List Vertex = c.args.vertices.now in
    let places : List (Option ℕ) = c.loop-at.places.items in
    let path : List Edge = c.loop-at.path.items in
    let at : ℕ = c.loop-at.at in
    let e : Edge = c.in-Some.edge in
    let cause : IsCause vs at e = (c.requires.vertices at inv.there).cause e c.in-Some.is in
    let last : IsLastCause vs e =
    let C : ℕ → Type 0 = λ n. (n < length vs) × ((vertex_at vs n).cause ≡ Some e) in
    let both : C e.to = subst C (sym cause.to) (inv.there, c.in-Some.is) in
    record { there = both.0; cause = both.1 } in
    let lt : at < length places = omega (arith, inv.there, inv.count) in
    let none : get_or places at None ≡ None = sym (get_or_read places at c.index.result.now lt c.index.ensures None) ∙ c.in_default-index.is in
    let more : c.push.new.self.items ≡ path ++ e ∷ [] = c.in_ok-push.ensures.items in
    let L : List Edge → Type 0 = λ es. Leads c.args.from es e.from in
    let A : List Edge → Type 0 = All (IsLastCause vs) in
    let len : c.len.result ≡ length path = search rules in
    record {
      there = cause.within.from;
      count = length-set places at (Some c.len.result) ∙ inv.count;
      leads = subst L (sym more) (leads_push c.args.from path at e inv.leads cause.to);
      causes = subst A (sym more) (All-push (IsLastCause vs) path e inv.causes last);
      marked = rw (len, more) (marked_more places path at e lt cause.to inv.marked);
      free = omega (arith, inv.free, free_less places at c.len.result lt none, ap (λ (es : List Edge). length es) more, length_push path e);
    }

pub returns : goal.returns
returns c =
    let inv = c.loop-at.invariant in
    record {
      top_there = inv.there;
      no_cause = c.in_default.is;
      leads = inv.leads;
      causes = inv.causes;
      short = way_is_short c.args.vertices.now c.loop-at.places.items c.loop-at.path.items c.loop-at.at inv.count inv.there c.in_default.is inv.causes inv.marked inv.free;
    }
