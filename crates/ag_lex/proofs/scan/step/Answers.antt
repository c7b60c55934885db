use Rattle.std.proofs.Common.{◌≡◌, ◌-◌, List, length, take, drop, sym, ap, subst, ◌∙◌, ◌++◌, arith}
use Rattle.std.proofs.lemmas.List.{take_rest, length-drop, length-take, length-take-le}
use Rattle.ag_lex.specs.declared.token.Token.{Token}
use Rattle.ag_lex.specs.Tokens.{piece_bytes}
use Rattle.ag_lex.specs.Scanning.{IsFound}
use Rattle.ag_lex.proofs.Placing.{line_within, column_within}
use Rattle.ag_lex.proofs.Steps.{behind, next_is, untold, told_so}
use Rattle.ag_lex.proofs.scan.step.Goals as goal

pub after-next-requires-clause-lines : goal.after-next-requires-clause-lines
after-next-requires-clause-lines c =
    omega (
      arith,
      line_within c.args.cursor.place.file (take c.args.cursor.at c.args.bytes.now) c.args.cursor.place c.requires.place,
      length-take c.args.cursor.at c.args.bytes.now,
      ap length (c.split_at.ensures.front),
      length-take c.in-Ok.found.len (take (length c.args.bytes.now - c.args.cursor.at) (drop c.args.cursor.at c.args.bytes.now)),
      length-take (length c.args.bytes.now - c.args.cursor.at) (drop c.args.cursor.at c.args.bytes.now),
      length-drop c.args.cursor.at c.args.bytes.now,
    )

pub after-next-requires-clause-columns : goal.after-next-requires-clause-columns
after-next-requires-clause-columns c =
    omega (
      arith,
      column_within c.args.cursor.place.file (take c.args.cursor.at c.args.bytes.now) c.args.cursor.place c.requires.place,
      length-take c.args.cursor.at c.args.bytes.now,
      ap length (c.split_at.ensures.front),
      length-take c.in-Ok.found.len (take (length c.args.bytes.now - c.args.cursor.at) (drop c.args.cursor.at c.args.bytes.now)),
      length-take (length c.args.bytes.now - c.args.cursor.at) (drop c.args.cursor.at c.args.bytes.now),
      length-drop c.args.cursor.at c.args.bytes.now,
    )

pub returns-in_ok-push-clause-ok : goal.returns-in_ok-push-clause-ok
returns-in_ok-push-clause-ok c =
    let bytes = c.args.bytes.now in
    let cursor = c.args.cursor in
    let here = take_rest bytes cursor.at in
    let f = subst (IsFound c.args.language c.in-Ok.found) here c.in-Ok.ensures in
    let own = c.split_at.result.0.now in
    let own_is : own ≡ take c.in-Ok.found.len (drop cursor.at bytes) = c.split_at.ensures.front ∙ ap (take c.in-Ok.found.len) here in
    let b = behind c.args.language bytes own cursor.at c.in-Ok.found f own_is (omega arith) in
    let at = c.after-next.ensures.at in
    let len = length-take-le cursor.at bytes (omega arith) in
    let len_own : length own ≡ length (piece_bytes f.piece) = ap length b.own_is in
    next_is c.args.language bytes own cursor c.after-next.result c.in-Ok.found c.args.tokens.now c.push.new.self f own_is (omega arith) at
    (c.after-next.ensures.place (take cursor.at bytes) c.requires.place)
    (c.in_ok-push.ensures.ok ∙ ap (λ (z : List Token). c.args.tokens.now ++ z)
    (told_so cursor.place.file (take cursor.at bytes) f.piece c.in-Some.kind cursor.at c.after-next.result.at cursor.place (sym c.in-Some.is ∙ f.kind) (omega arith) (omega arith) c.requires.place))

pub returns-in_default-clause-ok : goal.returns-in_default-clause-ok
returns-in_default-clause-ok c =
    let bytes = c.args.bytes.now in
    let cursor = c.args.cursor in
    let here = take_rest bytes cursor.at in
    let f = subst (IsFound c.args.language c.in-Ok.found) here c.in-Ok.ensures in
    let own = c.split_at.result.0.now in
    let own_is : own ≡ take c.in-Ok.found.len (drop cursor.at bytes) = c.split_at.ensures.front ∙ ap (take c.in-Ok.found.len) here in
    next_is c.args.language bytes own cursor c.after-next.result c.in-Ok.found c.args.tokens.now c.args.tokens.now f own_is (omega arith) c.after-next.ensures.at
    (c.after-next.ensures.place (take cursor.at bytes) c.requires.place)
    (untold cursor.place.file (take cursor.at bytes) f.piece c.args.tokens.now (sym c.in_default.is ∙ f.kind))
