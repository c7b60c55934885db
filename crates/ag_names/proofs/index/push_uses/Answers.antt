use Rattle.std.proofs.Common.{◌≡◌, ◌+◌, ◌<◌, ◌∷◌, List, length, get_or, append_assoc, add-one, arith}
use Rattle.ag_terms.specs.declared.names.Ident.{Ident}
use Rattle.ag_names.specs.Keys.{name_key}
use Rattle.ag_names.proofs.Entries.{entries_more}
use Rattle.ag_names.proofs.index.push_uses.Goals as goal

pub loop-at-preserved : goal.loop-at-preserved
loop-at-preserved c =
    let imports = c.as_slice-import-items in
    let names : List Ident = c.args.«package».now.name ∷ imports.result.now in
    let inside : c.loop-at.at + 1 < length names = omega (arith, c.loop-at-test.true) in
    let is : c.import-item.result ≡ get_or names (c.loop-at.at + 1) c.import-item.result = rw add-one c.import-item.is in
    rw (c.in_ok-push-2.ensures.items, c.loop-at.invariant, ← imports.ensures, entries_more (λ i. name_key c.args.number i.text) names (c.loop-at.at + 1) c.import-item.result inside is, c.name-key-in-loop-at.ensures, c.as_bytes-in-loop-at.ensures)
    (append_assoc c.args.entries.now.items _ _)
