use Rattle.std.proofs.Common.{◌≡◌, ◌+◌, ◌++◌, get_or, take, sym, ap, ◌∙◌, arith}
use Rattle.ag_base.specs.declared.place.Place.{Place}
use Rattle.ag_lex.specs.Places.{place_of}
use Rattle.ag_lex.proofs.Placing.{behind_line_feed, behind_other, one_more}
use Rattle.ag_lex.proofs.cursor.Cursor.after.Goals as goal
use Rattle.ag_lex.proofs.cursor.Cursor.after.Goals.{then-byte-eq10, else-byte-eq10}

pub loop-byte-preserved : goal.loop-byte-preserved
loop-byte-preserved c =
    let file = c.args.self.place.file in
    let over = c.args.over.now in
    let i = c.loop-byte.byte-index in
    let so_far = c.loop-byte.invariant in
    elim c.if-byte-eq10.branch [
      | then-byte-eq10 w ↦
          let e : c.if-byte-eq10.place ≡ record { file = c.loop-byte.place.file; line = c.loop-byte.place.line + 1; column = 1 } = w.place-is in
          record {
            placed_so = λ before h. e ∙ behind_line_feed file (before ++ take i over) (get_or over i 0) c.loop-byte.place w.if-byte-eq10.true (so_far.placed_so before h)
                ∙ ap (place_of file) (sym (one_more before over i c.loop-byte-test.true));
            lines = omega (arith, so_far.lines, ap (λ (p : Place). p.line) e);
            columns = omega (arith, so_far.columns, ap (λ (p : Place). p.column) e);
          }
      | else-byte-eq10 w ↦
          let e : c.if-byte-eq10.place ≡ record { file = c.loop-byte.place.file; line = c.loop-byte.place.line; column = c.loop-byte.place.column + 1 } = w.place-is in
          record {
            placed_so = λ before h. e ∙ behind_other file (before ++ take i over) (get_or over i 0) c.loop-byte.place w.if-byte-eq10.false (so_far.placed_so before h)
                ∙ ap (place_of file) (sym (one_more before over i c.loop-byte-test.true));
            lines = omega (arith, so_far.lines, ap (λ (p : Place). p.line) e);
            columns = omega (arith, so_far.columns, ap (λ (p : Place). p.column) e);
          }
    ]
