use Rattle.std.proofs.Common.{◌≡◌, ◌-◌, ◌<◌, ℕ, [], length, get_or, take, refl, sym, ap, subst, ◌∙◌, arith}
use Rattle.std.proofs.lemmas.List.{get_or_read, append-nil}
use Rattle.ag_graph.specs.declared.search.Mark.TheVariants.{Unseen, OnPath, Finished}
use Rattle.ag_graph.specs.Search.{mark_of}
use Rattle.ag_graph.proofs.Following.{ahead_within, all_reach, followed_back, followed_past}
use Rattle.ag_graph.proofs.search.Search.follow.Goals as goal
use Rattle.ag_graph.proofs.search.Search.follow.Goals.{After-index-to, After-index}

to_is : (c : After-index-to) → c.index-to.result.now ≡ get_or c.args.self.now.ahead.items (length c.args.self.now.ahead.items - 1) 0
to_is c =
    let ahead = c.args.self.now.ahead in
    let n : c.len.result ≡ length ahead.items = c.len.ensures ∙ ahead.ok.0 in
    get_or_read ahead.items (c.len.result - 1) c.index-to.result.now (omega (arith, c.requires.some)) c.index-to.ensures 0 ∙ ap (λ (k : ℕ). get_or ahead.items (k - 1) 0) n

in_graph : (c : After-index-to) → c.index-to.result.now < length c.args.graph.now
in_graph c =
    let old = c.args.self.now in
    subst (λ (v : ℕ). v < length c.args.graph.now) (sym (to_is c))
    (ahead_within c.args.graph.now old.path.items old.groups.items old.ahead.items (length old.ahead.items - 1) c.requires.graph c.requires.search.ahead (omega (arith, c.requires.some)))

pub index-requires : goal.index-requires
index-requires c = let there = in_graph (goal.at.index-requires c).After-index-to in omega (arith, c.requires.search.marks_long, c.args.self.now.marks.ok.0)

pub open-requires-clause-vertex : goal.open-requires-clause-vertex
open-requires-clause-vertex c = in_graph (goal.at.open-requires-clause-vertex c).After-index-to

pub open-requires-clause-reached : goal.open-requires-clause-reached
open-requires-clause-reached c =
    let old = c.args.self.now in
    let s = c.requires.search in
    let last = length old.ahead.items - 1 in
    λ i h. rw (to_is (goal.at.open-requires-clause-reached c).After-index-to)
    (all_reach c.args.graph.now old.path.items old.groups.items old.ahead.items last s.joined s.ahead (omega (arith, c.requires.some)) (λ k d hk. omega (arith, c.requires.last k d hk)) i h)

mark_is : (c : After-index) → c.index-to.result.now < length c.args.graph.now → c.index.result.now ≡ mark_of c.args.self.now.marks.items c.index-to.result.now
mark_is c there =
    let marks = c.args.self.now.marks in
    get_or_read marks.items c.index-to.result.now c.index.result.now (omega (arith, c.requires.search.marks_long)) c.index.ensures Unseen

pub returns-in-OnPath : goal.returns-in-OnPath
returns-in-OnPath c =
    let old = c.args.self.now in
    let at = goal.at.returns-in-OnPath c in
    let off = c.join_from.ensures.joined in
    let mark : mark_of old.marks.items c.index-to.result.now ≡ OnPath c.in-OnPath.place = sym (mark_is at.After-index (in_graph at.After-index-to)) ∙ c.in-OnPath.is in
    followed_back c.args.graph.now old _ c.index-to.result.now c.requires.search c.requires.some c.requires.last (to_is at.After-index-to) off.0 off.1
    (c.pop.ensures.rest ∙ ap (λ (n : ℕ). take (n - 1) old.ahead.items) old.ahead.ok.0) refl refl refl refl c.in-OnPath.place mark off.2 c.join_from.ensures.last

pub returns-in-Finished : goal.returns-in-Finished
returns-in-Finished c =
    let old = c.args.self.now in
    let at = goal.at.returns-in-Finished c in
    let mark : mark_of old.marks.items c.index-to.result.now ≡ Finished = sym (mark_is at.After-index (in_graph at.After-index-to)) ∙ c.in-Finished.is in
    followed_past c.args.graph.now old _ c.index-to.result.now c.requires.search c.requires.some c.requires.last (to_is at.After-index-to) [] (sym (append-nil old.groups.items))
    (c.pop-in-Finished.ensures.rest ∙ ap (λ (n : ℕ). take (n - 1) old.ahead.items) old.ahead.ok.0) refl refl refl refl refl mark
