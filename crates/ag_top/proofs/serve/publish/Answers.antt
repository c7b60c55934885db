use Rattle.std.proofs.Common.{◌∙◌, ◌≤◌, refl, sym, ap, arith, length}
use Rattle.ag_board.specs.Entries.{plain_list}
use Rattle.ag_top.specs.Commands.{listed_of}
use Rattle.ag_top.specs.Sessions.{progress_of}
use Rattle.ag_top.proofs.Staging.{served_publish, begins_publish, begins_no_publish}
use Rattle.ag_top.proofs.Publishing.{first_left, first_light, entered_as, fit_few, keys_differ, refused_never}
use Rattle.ag_top.proofs.Sessions.{whatever}
use Rattle.ag_top.proofs.serve.publish.Goals as goal

pub returns-in_default-clause-served : goal.returns-in_default-clause-served
returns-in_default-clause-served g c = begins_no_publish c.args.session.now.limits (progress_of c.args.session.now) c.args.session.now.board c.args.session.now.board _ _ refl refl

pub publish-requires-clause-different : goal.publish-requires-clause-different
publish-requires-clause-different g c = keys_differ c.args.session.now.model c.args.session.now.limits.consistency c.in-Ok.list c.in-Ok.ensures.listed

pub returns-in-Err-OutOfMemory-clause-served : goal.returns-in-Err-OutOfMemory-clause-served
returns-in-Err-OutOfMemory-clause-served g c =
    begins_no_publish c.args.session.now.limits (progress_of c.args.session.now) c.args.session.now.board c.publish.new.self _ _ c.in-Err-OutOfMemory.ensures.err refl

pub unreachable-requires-in-Err-StoreFull : goal.unreachable-requires-in-Err-StoreFull
unreachable-requires-in-Err-StoreFull g c =
    let fault = c.in-Err-StoreFull.field-0-is in
    let few : length (plain_list c.in-Ok.list) ≤ 1024 =
    (let a = ap (λ ks. length ks) c.in-Ok.ensures.listed in
    let b = fit_few c.args.session.now.limits c.args.session.now.model (c.obligations_are_fit.ensures c.args.session.now.model c.args.session.now.limits.consistency c.args.session.now.formed) in
    omega (arith, a, b)) in
    refused_never c.args.session.now.board (plain_list c.in-Ok.list) c.in-Err-StoreFull.field-0 c.requires.first few c.in-Ok.ensures.few_parts (c.in-Err-StoreFull.ensures.refused (λ e. let x = sym fault ∙ e in cc))

pub returns-in_default-published_line-clause-served : goal.returns-in_default-published_line-clause-served
returns-in_default-published_line-clause-served g c =
    begins_publish c.args.session.now.limits (progress_of c.args.session.now) c.args.session.now.board c.publish.new.self _ _ c.in-Ok-publish.accepted (entered_as c.in-Ok.ensures.listed c.in-Ok-publish.ensures.entry) refl

pub returns-in_default-published_line-clause-grown : goal.returns-in_default-published_line-clause-grown
returns-in_default-published_line-clause-grown g c =
    first_light c.args.session.now.limits c.args.session.now.model c.publish.new.self (c.obligations_are_fit.ensures c.args.session.now.model c.args.session.now.limits.consistency c.args.session.now.formed)
    (first_left c.args.session.now.board c.publish.new.self (listed_of c.args.session.now.limits c.args.session.now.model) c.in-Ok-publish.accepted c.requires.first (entered_as c.in-Ok.ensures.listed c.in-Ok-publish.ensures.entry))

pub returns-clause-served : goal.returns-clause-served
returns-clause-served g c =
    served_publish c.args.session.now.limits (progress_of c.args.session.now) c.reply.result c.args.session.now.board c.publish.new.self _ _ c.as_slice.result.now c.in-Ok-publish.accepted (entered_as c.in-Ok.ensures.listed c.in-Ok-publish.ensures.entry)
    (c.as_slice.ensures ∙ (c.in-Ok-published_line.ensures ∙ rw c.len-cancelled.ensures refl)) c.reply.ensures.handed

pub returns-clause-open : goal.returns-clause-open
returns-clause-open g c =
    let left = (first_left c.args.session.now.board c.publish.new.self (listed_of c.args.session.now.limits c.args.session.now.model) c.in-Ok-publish.accepted c.requires.first (entered_as c.in-Ok.ensures.listed c.in-Ok-publish.ensures.entry)) in
    whatever c.reply.result (record { still_open = left.still_open; some = (let n = left.one in omega (arith, n)); keys = left.keys })

pub returns-clause-grown : goal.returns-clause-grown
returns-clause-grown g c =
    first_light c.args.session.now.limits c.args.session.now.model c.publish.new.self (c.obligations_are_fit.ensures c.args.session.now.model c.args.session.now.limits.consistency c.args.session.now.formed)
    (first_left c.args.session.now.board c.publish.new.self (listed_of c.args.session.now.limits c.args.session.now.model) c.in-Ok-publish.accepted c.requires.first (entered_as c.in-Ok.ensures.listed c.in-Ok-publish.ensures.entry))
