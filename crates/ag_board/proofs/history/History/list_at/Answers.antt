use Rattle.std.proofs.Common.{◌∙◌, List, get_or, sym, ap, arith}
use Rattle.std.specs.Prelude.{slice_get}
use Rattle.std.proofs.lemmas.Option.{slice_get-get_or, slice_get_past}
use Rattle.ag_board.specs.declared.note.Note.{Note}
use Rattle.ag_board.specs.Entries.{Past}
use Rattle.ag_board.proofs.Pasts.{list_found, list_none}
use Rattle.ag_board.proofs.history.History.list_at.Goals as goal

pub returns-then-n-notes : goal.returns-then-n-notes
returns-then-n-notes c =
    let seen = sym (ap (λ (p : Past). p.entries) c.self.view_is) in
    let xs : List Note = c.as_slice-notes.result.now in
    let same = ap (λ (ns : List Note). slice_get ns c.args.n) c.as_slice-notes.ensures.value in
    let at = slice_get-get_or xs c.args.n c.index-notes-n.result (omega arith) in
    c.listed.ensures ∙ sym (list_found c.args.self.now.entries c.self.inside.notes.items c.args.n (get_or xs c.args.n c.index-notes-n.result) seen (sym same ∙ at))

pub returns-else-n-notes : goal.returns-else-n-notes
returns-else-n-notes c =
    let seen = sym (ap (λ (p : Past). p.entries) c.self.view_is) in
    let xs : List Note = c.as_slice-notes.result.now in
    let same = ap (λ (ns : List Note). slice_get ns c.args.n) c.as_slice-notes.ensures.value in
    let at = slice_get_past xs c.args.n (omega arith) in
    sym (list_none c.args.self.now.entries c.self.inside.notes.items c.args.n seen (sym same ∙ at))
