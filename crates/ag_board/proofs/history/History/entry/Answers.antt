use Rattle.std.proofs.Common.{◌≡◌, ◌∙◌, ◌<◌, List, length, get_or, Some, sym, ap, arith}
use Rattle.std.proofs.lemmas.Option.{slice_get-get_or}
use Rattle.ag_board.specs.declared.note.Note.{Note}
use Rattle.ag_board.specs.Entries.{Past, PlainEntry}
use Rattle.ag_board.specs.Notes.{plain_notes}
use Rattle.ag_board.proofs.Pasts.{length-plain_notes}
use Rattle.ag_board.proofs.Found.{found, work-within, work-found, whole-found}
use Rattle.ag_board.proofs.history.History.entry.Goals as goal

pub bounds-as_slice-n : goal.bounds-as_slice-n
bounds-as_slice-n c =
    let notes = c.self.inside.notes.items in
    let seen = ap (λ (p : Past). length p.entries) c.self.view_is in
    let l = length-plain_notes notes in
    let s = ap (λ (ns : List Note). length ns) c.as_slice.ensures.value in
    omega (arith, l, seen, s, c.requires)

pub bounds-list_at-place : goal.bounds-list_at-place
bounds-list_at-place c =
    let notes = c.self.inside.notes.items in
    let seen : c.args.self.now.entries ≡ plain_notes notes = sym (ap (λ (p : Past). p.entries) c.self.view_is) in
    let same = ap (λ (ns : List Note). get_or ns c.args.n c.index-as_slice-n.result) c.as_slice.ensures.value in
    let l = length-plain_notes notes in
    let n = ap (λ (es : List PlainEntry). length es) seen in
    let inside : c.args.n < length notes = omega (arith, l, n, c.requires) in
    let at = slice_get-get_or notes c.args.n c.index-as_slice-n.result inside ∙ ap (λ (x : Note). Some x) (sym (c.index-as_slice-n.is ∙ same)) in
    let f = found c.args.self.now.entries notes c.args.n c.index-as_slice-n.result c.self.invariant.placed at seen in
    work-within c.args.self.now.entries c.args.n c.index-as_slice-n.result c.in-Work.claim c.in-Work.revision c.in-Work.list c.in-Work.place c.list_at.result.now f c.in-Work.is c.list_at.ensures

pub returns-in_ok-try_clone-in-Work : goal.returns-in_ok-try_clone-in-Work
returns-in_ok-try_clone-in-Work c =
    let notes = c.self.inside.notes.items in
    let seen : c.args.self.now.entries ≡ plain_notes notes = sym (ap (λ (p : Past). p.entries) c.self.view_is) in
    let same = ap (λ (ns : List Note). get_or ns c.args.n c.index-as_slice-n.result) c.as_slice.ensures.value in
    let l = length-plain_notes notes in
    let n = ap (λ (es : List PlainEntry). length es) seen in
    let inside : c.args.n < length notes = omega (arith, l, n, c.requires) in
    let at = slice_get-get_or notes c.args.n c.index-as_slice-n.result inside ∙ ap (λ (x : Note). Some x) (sym (c.index-as_slice-n.is ∙ same)) in
    let f = found c.args.self.now.entries notes c.args.n c.index-as_slice-n.result c.self.invariant.placed at seen in
    work-found c.args.self.now.entries c.args.n c.index-as_slice-n.result c.in-Work.claim c.in-Work.revision c.in-Work.list c.in-Work.place c.list_at.result.now c.index-list_at-place.result
    c.in_ok-try_clone-in-Work.field-0.value f c.in-Work.is c.list_at.ensures (c.in_ok-try_clone-in-Work.ensures ∙ ap (λ k. k.1.value) c.index-list_at-place.is)

pub returns-in_ok-share-in-Whole-2 : goal.returns-in_ok-share-in-Whole-2
returns-in_ok-share-in-Whole-2 c =
    let notes = c.self.inside.notes.items in
    let seen : c.args.self.now.entries ≡ plain_notes notes = sym (ap (λ (p : Past). p.entries) c.self.view_is) in
    let same = ap (λ (ns : List Note). get_or ns c.args.n c.index-as_slice-n.result) c.as_slice.ensures.value in
    let l = length-plain_notes notes in
    let n = ap (λ (es : List PlainEntry). length es) seen in
    let inside : c.args.n < length notes = omega (arith, l, n, c.requires) in
    let at = slice_get-get_or notes c.args.n c.index-as_slice-n.result inside ∙ ap (λ (x : Note). Some x) (sym (c.index-as_slice-n.is ∙ same)) in
    let f = found c.args.self.now.entries notes c.args.n c.index-as_slice-n.result c.self.invariant.placed at seen in
    whole-found c.args.self.now.entries c.args.n c.index-as_slice-n.result c.in-Whole.call c.in-Whole.reply _ _ f c.in-Whole.is c.in_ok-share-in-Whole.ensures c.in_ok-share-in-Whole-2.ensures
