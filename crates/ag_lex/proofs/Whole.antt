-- From what a scan found to the public clauses.
use Rattle.std.proofs.Common.{◌≡◌, ℕ, ◌+◌, ◌-◌, ◌<◌, ◌≤◌, Bool, cond, eqb, ◌⊎◌, List, [], ◌++◌, take, drop, Option, Some, None, Result, Err, refl, sym, ap, subst, ◌∙◌, inl, inr, arith}
use Rattle.std.specs.Option.{MatchOption}
use Rattle.std.specs.Str.{IsUtf8, IsValidUpTo}
use Rattle.std.proofs.Math.Seq.{take-add}
use Rattle.std.proofs.lemmas.Str.{utf8_valid_len-IsUtf8, utf8_valid_len-IsValidUpTo}
use Rattle.std.proofs.lemmas.Bool.{cases_lt, le-leb, lt-leb}
use Rattle.ag_base.specs.declared.place.Place.{Place}
use Rattle.ag_base.specs.declared.place.Refusal.{Refusal}
use Rattle.ag_base.specs.declared.place.Rule.{Rule}
use Rattle.ag_base.specs.declared.place.Rule.TheVariants.{NotUtf8, BadByte, OpenString, OpenAnnex, LongName, WideNumber}
use Rattle.ag_base.specs.declared.place.Refused.{Refused}
use Rattle.ag_base.specs.declared.place.Refused.TheVariants.{Model}
use Rattle.ag_lex.specs.declared.cursor.Cursor.{Cursor}
use Rattle.ag_lex.specs.declared.scan.Fault.{Fault}
use Rattle.ag_lex.specs.declared.token.Language.{Language}
use Rattle.ag_lex.specs.declared.token.Language.TheVariants.{Aadl, Agree}
use Rattle.ag_lex.specs.declared.token.Token.{Token}
use Rattle.ag_lex.specs.Places.{place_of}
use Rattle.ag_lex.specs.Tokens.{AreTokens, tokens_of}
use Rattle.ag_base.specs.Rules.{rank}
use Rattle.ag_lex.specs.Rules.{Breaks, IsNoText, IsBrokenAt, IsBroken, IsFirstBroken}
use Rattle.ag_lex.specs.Scanning.{IsFirstFault, IsScanned, IsEndOfText, earlier_of}
use Rattle.ag_lex.specs.Answers.{AreKept, bytes_before, bytes_inside}
use Rattle.ag_lex.proofs.OnePiece.{one_list}
use Rattle.ag_lex.proofs.Annexes.{Marks, before_is, inside_is}

-- ---- where a file stops to be UTF-8

pub no_end_of_text : (bytes : List ℕ) (n : ℕ) → IsUtf8 bytes → IsValidUpTo bytes n → ⊥
no_end_of_text bytes n whole valid =
    let all = utf8_valid_len-IsUtf8 bytes whole in
    let some = utf8_valid_len-IsValidUpTo bytes n valid in
    let short = valid.short in
    omega arith

pub one_end_of_text : (bytes : List ℕ) (m n : ℕ) → IsValidUpTo bytes m → IsValidUpTo bytes n → m ≡ n
one_end_of_text bytes m n a b = sym (utf8_valid_len-IsValidUpTo bytes m a) ∙ utf8_valid_len-IsValidUpTo bytes n b

-- ---- the first broken rule

-- the place of a fault, by the bytes before the text and those of the text
placed_at : (start : Cursor) (bytes : List ℕ) (at n : ℕ) (place : Place) → at ≡ start.at + n → place ≡ place_of start.place.file (take at bytes) → place ≡ place_of start.place.file (take start.at bytes ++ take n (drop start.at bytes))
placed_at start bytes at n place is e = e ∙ ap (λ (k : ℕ). place_of start.place.file (take k bytes)) is ∙ ap (place_of start.place.file) (take-add start.at n bytes)

-- a fault that stands before the end of the text in UTF-8
pub fault_first : (l : Language) (start : Cursor) (bytes : List ℕ) (fault : Fault) (f : IsFirstFault l start bytes fault)
    → ((m : ℕ) (rule : Rule) → IsNoText l (drop start.at bytes) m rule → f.n < m)
    → IsFirstBroken l start.place.file (take start.at bytes) (drop start.at bytes) fault.refusal
fault_first l start bytes fault f later =
    record {
      at = f.n;
      broken = inr f.broken;
      placed = placed_at start bytes fault.at f.n fault.refusal.place f.at f.placed;
      first = λ m rule b. elim b [
        | inl no_text ↦ inl (later m rule no_text)
        | inr there ↦ elim (f.first m rule there) [
          | inl before ↦ inl before
          | inr same ↦ let one : rank fault.refusal.rule ≡ rank rule = ap rank same.1 in inr (same.0, omega arith)
        ]
      ];
    }

-- the end of the text in UTF-8, where no rule is broken before
pub end_first : (file : ℕ) (bytes : List ℕ) (fault : Fault) → IsEndOfText file bytes fault → ((m : ℕ) (rule : Rule) → IsBrokenAt Aadl bytes m rule → fault.at ≤ m) → IsFirstBroken Aadl file [] bytes fault.refusal
end_first file bytes fault e later =
    let first_rank : rank fault.refusal.rule ≡ 0 = ap rank e.rule in
    record {
      at = fault.at;
      broken = inl (e.rule, refl, e.front);
      placed = e.placed;
      first = λ m rule b. elim b [
        | inl no_text ↦ inr (one_end_of_text bytes fault.at m e.front no_text.2, omega arith)
        | inr there ↦
            let after = later m rule there in
            elim (cases_lt fault.at m) [
              | inl before ↦ inl before
              | inr not_before ↦ let same : fault.at ≡ m = omega arith in inr (same, omega arith)
            ]
      ];
    }

-- ---- files

pub file_kept : (start : Cursor) (bytes : List ℕ) (tokens : List Token) → start.at ≡ 0 → IsScanned Aadl start bytes tokens → IsUtf8 bytes → AreKept Aadl start.place.file [] bytes tokens
file_kept start bytes tokens at s whole =
    record {
      read = subst (λ (n : ℕ). AreTokens Aadl start.place.file (take n bytes) (drop n bytes) tokens) at s.are_tokens;
      kept = λ n rule b. elim b [
        | inl no_text ↦ no_end_of_text bytes n whole no_text.2
        | inr there ↦ s.kept n rule (subst (λ (k : ℕ). IsBrokenAt Aadl (drop k bytes) n rule) (sym at) there)
      ];
    }

pub file_no_text : (start : Cursor) (bytes : List ℕ) (tokens : List Token) (fault : Fault) → start.at ≡ 0 → IsScanned Aadl start bytes tokens → IsEndOfText start.place.file bytes fault → IsFirstBroken Aadl start.place.file [] bytes fault.refusal
file_no_text start bytes tokens fault at s e =
    end_first start.place.file bytes fault e (λ m rule there. absurd (s.kept m rule (subst (λ (k : ℕ). IsBrokenAt Aadl (drop k bytes) m rule) (sym at) there)))

file_fault : (start : Cursor) (bytes : List ℕ) (fault : Fault) → start.at ≡ 0 → (f : IsFirstFault Aadl start bytes fault) → ((m : ℕ) → IsValidUpTo bytes m → f.n < m) → IsFirstBroken Aadl start.place.file [] bytes fault.refusal
file_fault start bytes fault at f later =
    subst (λ (n : ℕ). IsFirstBroken Aadl start.place.file (take n bytes) (drop n bytes) fault.refusal) at
    (fault_first Aadl start bytes fault f (λ m rule no_text. later m (subst (λ (n : ℕ). IsValidUpTo (drop n bytes) m) at no_text.2)))

pub file_broken : (start : Cursor) (bytes : List ℕ) (end : Option Fault) (fault : Fault) → start.at ≡ 0 → IsFirstFault Aadl start bytes fault
    → MatchOption end (IsUtf8 bytes) (λ e. IsEndOfText start.place.file bytes e) → IsFirstBroken Aadl start.place.file [] bytes (earlier_of end fault)
file_broken start bytes None fault at f whole = file_fault start bytes fault at f (λ m valid. absurd (no_end_of_text bytes m whole valid))
file_broken start bytes (Some end) fault at f e =
    elim (cases_le end.at fault.at) [
      | inl first ↦ subst (λ (b : Bool). IsFirstBroken Aadl start.place.file [] bytes (cond b end.refusal fault.refusal)) (sym (le-leb end.at fault.at first)) (end_first start.place.file bytes end e (λ m rule there.
          let n_is = f.at in
          elim (f.first m rule (subst (λ (k : ℕ). IsBrokenAt Aadl (drop k bytes) m rule) (sym at) there)) [ inl before ↦ omega arith | inr same ↦ let s = same.0 in omega arith ]))
      | inr later ↦ subst (λ (b : Bool). IsFirstBroken Aadl start.place.file [] bytes (cond b end.refusal fault.refusal)) (sym (lt-leb end.at fault.at later)) (file_fault start bytes fault at f (λ m valid. let same = one_end_of_text bytes end.at m e.front valid in let n_is = f.at in omega arith))
    ]
  where
    cases_le : (m n : ℕ) → (m ≤ n) ⊎ (n < m)
    cases_le m n = grind arith

-- ---- one answer

pub one_reading : (l : Language) (file : ℕ) (before text : List ℕ) (tokens others : List Token) → AreTokens l file before text tokens → AreTokens l file before text others → tokens ≡ others
one_reading l file before text tokens others a b = a.told ∙ ap (tokens_of file before) (one_list l a.pieces b.pieces text a.read b.read) ∙ sym b.told

-- the rule of a place in the order
abbrev rule_of : ℕ → Rule
rule_of n = cond (eqb n 0) NotUtf8 (cond (eqb n 1) BadByte (cond (eqb n 2) OpenString (cond (eqb n 3) OpenAnnex (cond (eqb n 4) LongName WideNumber))))

broken_in_order : (l : Language) (rule : Rule) (here : List ℕ) → Breaks l rule here → rule_of (rank rule) ≡ rule
broken_in_order l BadByte here b = refl
broken_in_order l OpenString here b = refl
broken_in_order l OpenAnnex here b = refl
broken_in_order l LongName here b = refl
broken_in_order Agree WideNumber here b = refl
broken_in_order l _ here b = absurd b

in_order : (l : Language) (text : List ℕ) (n : ℕ) (rule : Rule) → IsBroken l text n rule → rule_of (rank rule) ≡ rule
in_order l text n rule b = elim b [ inl no_text ↦ ap (λ (r : Rule). rule_of (rank r)) no_text.0 ∙ sym no_text.0 | inr there ↦ broken_in_order l rule (drop n text) there.broken ]

same_refusal : (r s : Refusal) → r.place ≡ s.place → r.rule ≡ s.rule → r ≡ s
same_refusal r s places rules = ap (λ (p : Place). record { place = p; rule = r.rule }) places ∙ ap (λ (q : Rule). record { place = s.place; rule = q }) rules

pub record SameFirst (at other order other_order : ℕ) : Type 0 where
  pub places : at ≡ other
  pub orders : order ≡ other_order

same_first : (at other order other_order : ℕ) → (at < other) ⊎ ((at ≡ other) × (order ≤ other_order)) → (other < at) ⊎ ((other ≡ at) × (other_order ≤ order)) → SameFirst at other order other_order
same_first at other order other_order a b =
    elim a [
      | inl before ↦ elim b [ inl after ↦ absurd (omega arith) | inr same ↦ let e = same.0 in absurd (omega arith) ]
      | inr same ↦ elim b [
        | inl after ↦ let e = same.0 in absurd (omega arith)
        | inr back ↦ let up = same.1 in let down = back.1 in record { places = same.0; orders = omega arith }
      ]
    ]

pub one_refusal : (l : Language) (file : ℕ) (before text : List ℕ) (r s : Refusal) → IsFirstBroken l file before text r → IsFirstBroken l file before text s → r ≡ s
one_refusal l file before text r s a b =
    let same = same_first a.at b.at (rank r.rule) (rank s.rule) (a.first b.at s.rule b.broken) (b.first a.at r.rule a.broken) in
    same_refusal r s
    (a.placed ∙ ap (λ (n : ℕ). place_of file (before ++ take n text)) same.places ∙ sym b.placed)
    (sym (in_order l text a.at r.rule a.broken) ∙ ap rule_of same.orders ∙ in_order l text b.at s.rule b.broken)

-- what an answer says, for the clauses that go the other way
pub read_is : (l : Language) (file : ℕ) (before text : List ℕ) (found tokens : List Token) → AreKept l file before text found → AreKept l file before text tokens → found ≡ tokens
read_is l file before text found tokens a b = one_reading l file before text found tokens a.read b.read

pub not_both : (l : Language) (file : ℕ) (before text : List ℕ) (tokens : List Token) (r : Refusal) → AreKept l file before text tokens → IsFirstBroken l file before text r → ⊥
not_both l file before text tokens r k b = k.kept b.at r.rule b.broken

abbrev pub refusal_of : Refusal → Result (List Token) Refused
refusal_of r = Err (Model r)

same_model : (r s : Refusal) → refusal_of r ≡ refusal_of s → r ≡ s
same_model r s e = cc

pub refused_by : (l : Language) (file : ℕ) (before text : List ℕ) (r s : Refusal) → IsFirstBroken l file before text r → refusal_of r ≡ refusal_of s → IsFirstBroken l file before text s
refused_by l file before text r s b e = subst (IsFirstBroken l file before text) (same_model r s e) b

-- ---- annexes

pub not_aadl : Agree ≡ Aadl → ⊥
not_aadl e = cc

-- what holds of the bytes up to the closing mark holds of the text between the marks
between_marks : (P : ℕ → List ℕ → List ℕ → Type 0) (bytes : List ℕ) (annex : Token) (start : Cursor) → Marks bytes annex → start.at ≡ annex.start + 3 → start.place.file ≡ annex.place.file
    → P start.place.file (take start.at (take (annex.end - 3) bytes)) (drop start.at (take (annex.end - 3) bytes)) → P annex.place.file (bytes_before bytes annex) (bytes_inside bytes annex)
between_marks P bytes annex start m at file p =
    let whole = take (annex.end - 3) bytes in
    let one = subst (λ (n : ℕ). P start.place.file (take n whole) (drop n whole)) at p in
    let two = subst (λ (f : ℕ). P f (take (annex.start + 3) whole) (drop (annex.start + 3) whole)) file one in
    let three = subst (λ (z : List ℕ). P annex.place.file z (drop (annex.start + 3) whole)) (before_is bytes annex m) two in
    subst (λ (z : List ℕ). P annex.place.file (bytes_before bytes annex) z) (inside_is bytes annex m) three

pub annex_broken : (bytes : List ℕ) (annex : Token) (start : Cursor) (fault : Fault) → Marks bytes annex → start.at ≡ annex.start + 3 → start.place.file ≡ annex.place.file
    → IsFirstFault Agree start (take (annex.end - 3) bytes) fault → IsFirstBroken Agree annex.place.file (bytes_before bytes annex) (bytes_inside bytes annex) fault.refusal
annex_broken bytes annex start fault m at file f =
    between_marks (λ g before text. IsFirstBroken Agree g before text fault.refusal) bytes annex start m at file
    (fault_first Agree start (take (annex.end - 3) bytes) fault f (λ n rule no_text. absurd (not_aadl no_text.1)))

pub annex_kept : (bytes : List ℕ) (annex : Token) (start : Cursor) (tokens : List Token) → Marks bytes annex → start.at ≡ annex.start + 3 → start.place.file ≡ annex.place.file
    → IsScanned Agree start (take (annex.end - 3) bytes) tokens → AreKept Agree annex.place.file (bytes_before bytes annex) (bytes_inside bytes annex) tokens
annex_kept bytes annex start tokens m at file s =
    between_marks (λ g before text. AreKept Agree g before text tokens) bytes annex start m at file
    (record { read = s.are_tokens; kept = λ n rule b. elim b [ inl no_text ↦ not_aadl no_text.1 | inr there ↦ s.kept n rule there ] })
