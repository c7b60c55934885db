use Rattle.std.proofs.Common.{◌≡◌, ℕ, ◌+◌, ◌-◌, List, take, sym, ap, subst, ◌∙◌, arith}
use Rattle.std.proofs.lemmas.List.{length-take, length-take-le}
use Rattle.ag_base.specs.declared.place.Place.{Place}
use Rattle.ag_lex.specs.declared.token.Language.TheVariants.{Agree}
use Rattle.ag_lex.specs.Places.{place_of}
use Rattle.ag_lex.specs.Rules.{IsFirstBroken}
use Rattle.ag_lex.specs.Scanning.{StopsFirst}
use Rattle.ag_lex.specs.Answers.{AreKept, bytes_before, bytes_inside}
use Rattle.ag_lex.proofs.Placing.{column_within}
use Rattle.ag_lex.proofs.Annexes.{marks, before_is}
use Rattle.ag_lex.proofs.Whole.{annex_broken, annex_kept, read_is, not_both, one_refusal, refused_by}
use Rattle.ag_lex.proofs.annex_tokens.Goals as goal

pub of_annex-start-requires : goal.of_annex-start-requires
of_annex-start-requires c =
    let annex = c.args.annex.now in
    let m = marks c.args.bytes.now annex c.requires.annex in
    omega (arith, column_within annex.place.file (take annex.start c.args.bytes.now) annex.place m.column, length-take annex.start c.args.bytes.now)

pub overflow_sub-end : goal.overflow_sub-end
overflow_sub-end c = let m = marks c.args.bytes.now c.args.annex.now c.requires.annex in omega (arith, m.room)

pub slice_bounds-scan-end : goal.slice_bounds-scan-end
slice_bounds-scan-end c = let m = marks c.args.bytes.now c.args.annex.now c.requires.annex in sym (length-take-le (c.args.annex.now.end - 3) c.args.bytes.now (omega (arith, m.within)))

pub scan-requires-clause-within : goal.scan-requires-clause-within
scan-requires-clause-within c =
    let m = marks c.args.bytes.now c.args.annex.now c.requires.annex in
    omega (arith, m.room, m.within, c.of_annex-start.ensures.at, length-take (c.args.annex.now.end - 3) c.args.bytes.now)

pub scan-requires-clause-place : goal.scan-requires-clause-place
scan-requires-clause-place c =
    let bytes = c.args.bytes.now in
    let annex = c.args.annex.now in
    let start = c.of_annex-start.result in
    let m = marks bytes annex c.requires.annex in
    let file : start.place.file ≡ annex.place.file = ap (λ (p : Place). p.file) c.of_annex-start.ensures.place in
    c.of_annex-start.ensures.place ∙ m.placed ∙ ap (λ (f : ℕ). place_of f (take (annex.start + 3) bytes)) (sym file)
    ∙ ap (λ (z : List ℕ). place_of start.place.file z) (sym (before_is bytes annex m)) ∙ ap (λ (n : ℕ). place_of start.place.file (take n (take (annex.end - 3) bytes))) (sym c.of_annex-start.ensures.at)

fault_is : (c : goal.After-result-in-Err-Broken-1) → IsFirstBroken Agree c.args.annex.now.place.file (bytes_before c.args.bytes.now c.args.annex.now) (bytes_inside c.args.bytes.now c.args.annex.now) c.in-Err-Broken.fault.refusal
fault_is c =
    let bytes = c.args.bytes.now in
    let annex = c.args.annex.now in
    let start = c.of_annex-start.result in
    annex_broken bytes annex start c.in-Err-Broken.fault (marks bytes annex c.requires.annex) c.of_annex-start.ensures.at (ap (λ (p : Place). p.file) c.of_annex-start.ensures.place)
    (subst (StopsFirst Agree start (take (annex.end - 3) bytes)) c.in-Err-Broken.field-0-is c.in-Err-Broken.ensures.err)

pub returns-in-Err-Broken-clause-refused : goal.returns-in-Err-Broken-clause-refused
returns-in-Err-Broken-clause-refused c =
    λ r e. refused_by Agree c.args.annex.now.place.file (bytes_before c.args.bytes.now c.args.annex.now) (bytes_inside c.args.bytes.now c.args.annex.now) c.in-Err-Broken.fault.refusal r (fault_is c) e

pub returns-in-Err-Broken-clause-read : goal.returns-in-Err-Broken-clause-read
returns-in-Err-Broken-clause-read c =
    λ tokens k. not_both Agree c.args.annex.now.place.file (bytes_before c.args.bytes.now c.args.annex.now) (bytes_inside c.args.bytes.now c.args.annex.now) tokens c.in-Err-Broken.fault.refusal k (fault_is c)

pub returns-in-Err-Broken-clause-broken : goal.returns-in-Err-Broken-clause-broken
returns-in-Err-Broken-clause-broken c =
    λ r b. one_refusal Agree c.args.annex.now.place.file (bytes_before c.args.bytes.now c.args.annex.now) (bytes_inside c.args.bytes.now c.args.annex.now) c.in-Err-Broken.fault.refusal r (fault_is c) b

kept_is : (c : goal.In-Ok) → AreKept Agree c.args.annex.now.place.file (bytes_before c.args.bytes.now c.args.annex.now) (bytes_inside c.args.bytes.now c.args.annex.now) c.in-Ok.tokens
kept_is c =
    annex_kept c.args.bytes.now c.args.annex.now c.of_annex-start.result c.in-Ok.tokens (marks c.args.bytes.now c.args.annex.now c.requires.annex) c.of_annex-start.ensures.at (ap (λ (p : Place). p.file) c.of_annex-start.ensures.place) c.in-Ok.ensures.ok

pub returns-in-Ok-clause-ok : goal.returns-in-Ok-clause-ok
returns-in-Ok-clause-ok c = kept_is c

pub returns-in-Ok-clause-read : goal.returns-in-Ok-clause-read
returns-in-Ok-clause-read c =
    λ tokens k. read_is Agree c.args.annex.now.place.file (bytes_before c.args.bytes.now c.args.annex.now) (bytes_inside c.args.bytes.now c.args.annex.now) c.in-Ok.tokens tokens (kept_is c) k

pub returns-in-Ok-clause-broken : goal.returns-in-Ok-clause-broken
returns-in-Ok-clause-broken c =
    λ r b. not_both Agree c.args.annex.now.place.file (bytes_before c.args.bytes.now c.args.annex.now) (bytes_inside c.args.bytes.now c.args.annex.now) c.in-Ok.tokens r (kept_is c) b
