use Rattle.std.proofs.Common.{◌≡◌, ◌∙◌, ◌<◌, ◌++◌, ◌∷◌, [], ℕ, List, get_or, length, map, take, Option, Some, refl, sym, ap, arith, subst, Global}
use Rattle.std.proofs.lemmas.List.{map-append}
use Rattle.std.proofs.lemmas.Option.{slice_get-get_or, slice_get_read}
use Rattle.std.specs.Prelude.{slice_get}
use Rattle.std.specs.Option.{option_map}
use Rattle.std.specs.declared.sync.Arc.{Arc}
use Rattle.ag_stream.specs.declared.problem.Problem.{Problem}
use Rattle.ag_verdict.specs.declared.key.Key.{Key}
use Rattle.ag_verdict.specs.declared.verdict.Verdict.{Verdict}
use Rattle.ag_board.specs.Entries.{plain_lines}
use Rattle.ag_board.specs.Machine.{lines, start, state_after}
use Rattle.ag_board.specs.Store.{BoardState}
use Rattle.ag_board.specs.Inside.{verdict_at}
use Rattle.ag_board.proofs.Telling.{line_told, line-told, take-step, keys-long}
use Rattle.ag_board.proofs.board.Board.told.Goals as goal
use Rattle.ag_board.proofs.board.Board.told.Goals.{in-None, in-Some+in_ok-try_clone-in-Some}

value : (c : goal.In_ok-push) → option_map (λ (v : Arc Verdict Global). v.value) c.match-verdict_of.verdict ≡ verdict_at c.self.inside.history.entries c.self.inside.table.entries (get_or c.as_slice.result.now c.loop-place.place 0)
value c = elim c.match-verdict_of.branch [ in-None w ↦ ap (λ (v : Option (Arc Verdict Global)). option_map (λ (a : Arc Verdict Global). a.value) v) w.verdict-is ∙ w.in-None.ensures | in-Some+in_ok-try_clone-in-Some w ↦ ap (λ (v : Option (Arc Verdict Global)). option_map (λ (a : Arc Verdict Global). a.value) v) w.verdict-is ∙ (ap (λ (v : Verdict). Some v) w.in_ok-try_clone-in-Some.ensures ∙ w.in-Some.ensures) ]

told-here : (c : goal.In_ok-push) → slice_get (map {B = Key × Option Verdict} line_told (lines c.args.self.now.state)) c.loop-place.place ≡ Some (c.index-keys-place.result.0, verdict_at c.self.inside.history.entries c.self.inside.table.entries (get_or c.as_slice.result.now c.loop-place.place 0))
told-here c =
    let i = c.self.inside in
    let s = state_after start c.self.inside.history.entries in
    let place = c.loop-place.place in
    let keys : List (Key × Arc Problem Global) = c.list_at-keys.result.now in
    let long = keys-long s i.history.entries i.table.entries i.numbers.items i.last i.next keys c.self.invariant.5 c.list_at-keys.ensures in
    let same = ap (λ (ns : List ℕ). length ns) c.as_slice.ensures.value in
    let inside : place < length c.as_slice.result.now = omega (arith, c.as_slice.ensures.len, c.loop-place-test.true, c.len-place-end.ensures) in
    let key = slice_get_read keys (length keys) place c.index-keys-place.result refl (omega (arith, inside, long, same)) c.index-keys-place.is in
    let number = ap (λ (ns : List ℕ). slice_get ns place) (sym c.as_slice.ensures.value) ∙ slice_get-get_or c.as_slice.result.now place 0 inside in
    subst (λ (b : BoardState). slice_get (map {B = Key × Option Verdict} line_told (lines b.state)) place ≡ Some (c.index-keys-place.result.0, verdict_at i.history.entries i.table.entries (get_or c.as_slice.result.now place 0))) c.self.view_is
    (line-told s i.history.entries i.table.entries i.numbers.items i.last i.next keys place _ c.index-keys-place.result c.self.invariant.3 c.self.invariant.5 c.list_at-keys.ensures key number)

pub loop-place-preserved : goal.loop-place-preserved
loop-place-preserved c =
    let ls = map {B = Key × Option Verdict} line_told (lines c.args.self.now.state) in
    let place = c.loop-place.place in
    let n = get_or c.as_slice.result.now c.loop-place.place 0 in
    let v = value c in
    let k : c.in_ok-share.field-0 ≡ c.index-keys-place.result.0 = c.in_ok-share.ensures in
    ap (λ x. plain_lines x) c.in_ok-push.ensures.ok
    ∙ (map-append {B = Key × Option Verdict} (λ (l : Key × Option (Arc Verdict Global)). (l.0, option_map (λ (a : Arc Verdict Global). a.value) l.1)) c.loop-place.lines ((c.in_ok-share.field-0, c.match-verdict_of.verdict) ∷ [])
    ∙ (ap (λ (x : List (Key × Option Verdict)). x ++ (c.in_ok-share.field-0, option_map (λ (a : Arc Verdict Global). a.value) c.match-verdict_of.verdict) ∷ []) c.loop-place.invariant
    ∙ (ap (λ (x : Key). take place ls ++ (x, option_map (λ (a : Arc Verdict Global). a.value) c.match-verdict_of.verdict) ∷ []) k
    ∙ (ap (λ (x : Option Verdict). take place ls ++ (c.index-keys-place.result.0, x) ∷ []) v
    ∙ sym (take-step ls place _ (told-here c))))))
