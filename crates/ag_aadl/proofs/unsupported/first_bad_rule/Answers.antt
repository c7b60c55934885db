use Rattle.std.proofs.Common.{◌≡◌, ◌+◌, Bool, suc, ◌∷◌, get_or, length, drop, map, sym, ap, ◌∙◌, arith, if◌then◌else◌}
use Rattle.std.proofs.Math.Seq.{drop-cons}
use Rattle.ag_base.specs.declared.place.Rule.TheVariants.{Unsupported}
use Rattle.ag_aadl.specs.Unsupported.{first_bad_rule}
use Rattle.ag_terms.specs.Names.{same}
use Rattle.ag_aadl.proofs.unsupported.first_bad_rule.Goals as goal

pub loop-word-preserved : goal.loop-word-preserved
loop-word-preserved c =
    let words = c.args.words.now in
    let i = c.loop-word.word-index in
    let n = c.loop-word.number in
    let up : i + 1 ≡ suc i = omega arith in
    let word = get_or words i _ in
    let here : drop i words ≡ word ∷ drop (i + 1) words = drop-cons words i _ c.loop-word-test.true ∙ ap (λ k. word ∷ drop k words) (sym up) in
    record {
      room = omega (arith, c.loop-word.invariant.room, ap length here);
      left =
          sym (ap (λ q. first_bad_rule n (map (λ w. w.now) q) c.args.text.now) here
          ∙ ap (λ (b : Bool). if b then Unsupported (record { number = n }) else first_bad_rule (n + 1) (map (λ w. w.now) (drop (i + 1) words)) c.args.text.now) (ap (same c.args.text.now) (sym c.as_bytes.ensures.value) ∙ sym c.if-same.ensures))
          ∙ c.loop-word.invariant.left;
    }
