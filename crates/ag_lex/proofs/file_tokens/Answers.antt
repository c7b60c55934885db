use Rattle.std.proofs.Common.{ℕ, [], take, sym, ap, subst, ◌∙◌}
use Rattle.ag_base.specs.declared.place.Refusal.{Refusal}
use Rattle.ag_lex.specs.declared.token.Language.TheVariants.{Aadl}
use Rattle.ag_lex.specs.Places.{place_of}
use Rattle.ag_lex.specs.Rules.{IsFirstBroken}
use Rattle.ag_lex.specs.Scanning.{StopsFirst, earlier_of}
use Rattle.ag_lex.specs.Answers.{AreKept}
use Rattle.ag_lex.proofs.Placing.{file_is}
use Rattle.ag_lex.proofs.Whole.{file_kept, file_no_text, file_broken, read_is, not_both, one_refusal, refused_by}
use Rattle.ag_lex.proofs.file_tokens.Goals as goal
use Rattle.ag_lex.proofs.file_tokens.Goals.{After-earlier, In-None}

pub no_text-no_text-requires-clause-place : goal.no_text-no_text-requires-clause-place
no_text-no_text-requires-clause-place c = let start = c.of_file-start.result in c.of_file-start.ensures.place ∙ ap (λ (f : ℕ). place_of f []) (sym (file_is c.args.file [] start.place c.of_file-start.ensures.place))

pub scan-requires-clause-place : goal.scan-requires-clause-place
scan-requires-clause-place c =
    let start = c.of_file-start.result in
    c.of_file-start.ensures.place ∙ ap (λ (f : ℕ). place_of f []) (sym (file_is c.args.file [] start.place c.of_file-start.ensures.place)) ∙ ap (λ (n : ℕ). place_of start.place.file (take n c.args.bytes.now)) (sym c.of_file-start.ensures.at)

-- the earlier of the two faults is the first
earlier_is : (c : goal.After-earlier) → IsFirstBroken Aadl c.args.file [] c.args.bytes.now c.earlier.result
earlier_is c =
    let bytes = c.args.bytes.now in
    let start = c.of_file-start.result in
    let fault = subst (StopsFirst Aadl start bytes) c.in-Err-Broken.field-0-is c.in-Err-Broken.ensures.err in
    subst (λ (r : Refusal). IsFirstBroken Aadl c.args.file [] bytes r) (sym c.earlier.ensures)
    (subst (λ (f : ℕ). IsFirstBroken Aadl f [] bytes (earlier_of c.no_text-no_text.result c.in-Err-Broken.fault)) (file_is c.args.file [] start.place c.of_file-start.ensures.place)
    (file_broken start bytes c.no_text-no_text.result c.in-Err-Broken.fault c.of_file-start.ensures.at fault c.no_text-no_text.ensures))

pub returns-in-Err-Broken-clause-refused : goal.returns-in-Err-Broken-clause-refused
returns-in-Err-Broken-clause-refused c = λ r e. refused_by Aadl c.args.file [] c.args.bytes.now c.earlier.result r (earlier_is c) e

pub returns-in-Err-Broken-clause-read : goal.returns-in-Err-Broken-clause-read
returns-in-Err-Broken-clause-read c = λ tokens k. not_both Aadl c.args.file [] c.args.bytes.now tokens c.earlier.result k (earlier_is c)

pub returns-in-Err-Broken-clause-broken : goal.returns-in-Err-Broken-clause-broken
returns-in-Err-Broken-clause-broken c = λ r b. one_refusal Aadl c.args.file [] c.args.bytes.now c.earlier.result r (earlier_is c) b

kept_is : (c : goal.In-None) → AreKept Aadl c.args.file [] c.args.bytes.now c.in-Ok.tokens
kept_is c =
    let bytes = c.args.bytes.now in
    let start = c.of_file-start.result in
    subst (λ (f : ℕ). AreKept Aadl f [] bytes c.in-Ok.tokens) (file_is c.args.file [] start.place c.of_file-start.ensures.place)
    (file_kept start bytes c.in-Ok.tokens c.of_file-start.ensures.at c.in-Ok.ensures.ok c.in-None.ensures)

pub returns-in-None-clause-ok : goal.returns-in-None-clause-ok
returns-in-None-clause-ok c = kept_is c

pub returns-in-None-clause-read : goal.returns-in-None-clause-read
returns-in-None-clause-read c = λ tokens k. read_is Aadl c.args.file [] c.args.bytes.now c.in-Ok.tokens tokens (kept_is c) k

pub returns-in-None-clause-broken : goal.returns-in-None-clause-broken
returns-in-None-clause-broken c = λ r b. not_both Aadl c.args.file [] c.args.bytes.now c.in-Ok.tokens r (kept_is c) b

end_is : (c : goal.After-drop-tokens-inside) → IsFirstBroken Aadl c.args.file [] c.args.bytes.now c.in-Some.fault.refusal
end_is c =
    let bytes = c.args.bytes.now in
    let start = c.of_file-start.result in
    subst (λ (f : ℕ). IsFirstBroken Aadl f [] bytes c.in-Some.fault.refusal) (file_is c.args.file [] start.place c.of_file-start.ensures.place)
    (file_no_text start bytes c.in-Ok.tokens c.in-Some.fault c.of_file-start.ensures.at c.in-Ok.ensures.ok c.in-Some.ensures)

pub returns-in-Some-clause-refused : goal.returns-in-Some-clause-refused
returns-in-Some-clause-refused c = λ r e. refused_by Aadl c.args.file [] c.args.bytes.now c.in-Some.fault.refusal r (end_is c) e

pub returns-in-Some-clause-read : goal.returns-in-Some-clause-read
returns-in-Some-clause-read c = λ tokens k. not_both Aadl c.args.file [] c.args.bytes.now tokens c.in-Some.fault.refusal k (end_is c)

pub returns-in-Some-clause-broken : goal.returns-in-Some-clause-broken
returns-in-Some-clause-broken c = λ r b. one_refusal Aadl c.args.file [] c.args.bytes.now c.in-Some.fault.refusal r (end_is c) b
