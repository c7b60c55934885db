-- Each text is read to its end, or to a place where a rule is broken.
use Rattle.std.proofs.Common.{◌≡◌, ℕ, zero, suc, ◌+◌, ◌-◌, ◌<◌, ◌≤◌, true, List, [], ◌∷◌, ◌++◌, ◌⊎◌, length, take, drop, Option, Some, None, refl, sym, ap, subst, ◌∙◌, inl, inr, arith}
use Rattle.std.specs.Prelude.{codes, nat_eq}
use Rattle.std.specs.Char.{is_ascii_alphabetic, is_ascii_digit}
use Rattle.std.specs.List.{prefix_len, starts_with}
use Rattle.std.specs.Str.{IsUtf8, IsValidUpTo, is_utf8}
use Rattle.std.proofs.lemmas.Bool.{cases_Bool, cases_lt, cases_order, both_ways}
use Rattle.std.proofs.lemmas.List.{length-append, length-drop, drop_at, take_all, nil_from_length, drop-drop}
use Rattle.std.proofs.lemmas.Str.{IsUtf8-nil, IsUtf8-from_is_utf8, is_utf8-from_IsUtf8}
use Rattle.ag_base.specs.declared.place.Refusal.{Refusal}
use Rattle.ag_base.specs.declared.place.Rule.{Rule}
use Rattle.ag_base.specs.declared.place.Rule.TheVariants.{NotUtf8, BadByte, OpenString, OpenAnnex, LongName, WideNumber}
use Rattle.ag_lex.specs.declared.found.Found.{Found}
use Rattle.ag_lex.specs.declared.token.Language.{Language}
use Rattle.ag_lex.specs.declared.token.Language.TheVariants.{Aadl, Agree}
use Rattle.ag_lex.specs.declared.token.Token.{Token}
use Rattle.ag_lex.specs.declared.token.TokenKind.TheVariants.{Name, Number, Real, Text, Annex, Symbol}
use Rattle.ag_lex.specs.Characters.{is_space, is_line_byte, is_word_byte, is_number_byte, is_text_byte, is_sign, begins}
use Rattle.ag_lex.specs.Places.{place_of}
use Rattle.ag_lex.specs.Spelling.{long_symbols}
use Rattle.ag_lex.specs.Tokens.{Piece, piece_bytes, AreRead, tokens_of}
use Rattle.ag_base.specs.Rules.{rank}
use Rattle.ag_lex.specs.Rules.{Breaks, IsNoText, IsBrokenAt, IsFirstBroken, AreFine, decimal}
use Rattle.ag_lex.specs.Answers.{AreKept}
use Rattle.ag_lex.specs.Scanning.{IsFound, IsWide, closes_at, first_front, fraction_at}
use Rattle.ag_lex.proofs.Founds.{piece_of, token_of_kind, space_is, comment_is, text_is, text_open, annex_is, annex_open, name_is, name_long, real_is, number_is, number_wide, symbol_is, bad_is}
use Rattle.ag_lex.proofs.OnePiece.{some_bytes}
use Rattle.ag_lex.proofs.Reaching.{reach_before, one_rule, breaks_some}
use Rattle.ag_lex.proofs.Whole.{no_end_of_text, one_end_of_text, not_aadl}

-- ---- at one place

abbrev FoundOrBroken : Language → List ℕ → Type 0
FoundOrBroken l here = ((found : Found) × IsFound l found here) ⊎ ((rule : Rule) × Breaks l rule here)

some_or_none : (o : Option ℕ) → ((n : ℕ) × (o ≡ Some n)) ⊎ (o ≡ None)
some_or_none (Some n) = inl (n, refl)
some_or_none None = inr refl

wide_or_not : (l : Language) (digits : List ℕ) → IsWide l digits ⊎ (IsWide l digits → ⊥)
wide_or_not Aadl digits = inr (λ w. w)
wide_or_not Agree digits = elim (cases_lt 140737488355328 (decimal digits)) [ inl wide ↦ inl wide | inr narrow ↦ inr (λ w. omega arith) ]

text_here : (l : Language) (here : List ℕ) → starts_with nat_eq here (codes "\"") ≡ true → FoundOrBroken l here
text_here l here h =
    let n = prefix_len is_text_byte (drop 1 here) in
    elim (cases_Bool (starts_with nat_eq (drop (1 + n) here) (codes "\""))) [
      | inl closed ↦ inl (token_of_kind Text (n + 2), text_is l here n h refl closed)
      | inr open_end ↦ inr (OpenString, text_open l here n h refl open_end)
    ]

annex_here : (l : Language) (here : List ℕ) → starts_with nat_eq here (codes "{**") ≡ true → FoundOrBroken l here
annex_here l here h =
    elim (some_or_none (closes_at (drop 3 here))) [
      | inl n ↦ inl (token_of_kind Annex (n.0 + 6), annex_is l here n.0 h n.1)
      | inr none ↦ inr (OpenAnnex, annex_open l here h none)
    ]

name_here : (l : Language) (here : List ℕ) → begins is_ascii_alphabetic here ≡ true → FoundOrBroken l here
name_here l here h =
    let n = prefix_len is_word_byte here in
    elim (cases_lt 255 n) [
      | inl long ↦ inr (LongName, name_long l here n h refl long)
      | inr short ↦ inl (token_of_kind Name n, name_is l here n h refl short)
    ]

number_here : (l : Language) (here : List ℕ) → begins is_ascii_digit here ≡ true → FoundOrBroken l here
number_here l here h =
    let n = prefix_len (is_number_byte l) here in
    elim (some_or_none (fraction_at (drop n here))) [
      | inl k ↦ inl (token_of_kind Real (n + k.0), real_is l here n k.0 h refl k.1)
      | inr none ↦ elim (wide_or_not l (take n here)) [
        | inl wide ↦ inr (WideNumber, number_wide l here n h refl none wide)
        | inr narrow ↦ inl (token_of_kind Number n, number_is l here n h refl none narrow)
      ]
    ]

found_or_broken : (l : Language) (here : List ℕ) → 0 < length here → FoundOrBroken l here
found_or_broken l here some =
    elim (cases_Bool (begins is_space here)) [
      | inl space ↦ inl (piece_of 1, space_is l here space)
      | inr no_space ↦ elim (cases_Bool (starts_with nat_eq here (codes "--"))) [
        | inl comment ↦ let n = prefix_len is_line_byte (drop 2 here) in inl (piece_of (2 + n), comment_is l here n comment refl)
        | inr no_comment ↦ elim (cases_Bool (starts_with nat_eq here (codes "\""))) [
          | inl quote ↦ text_here l here quote
          | inr no_quote ↦ elim (cases_Bool (starts_with nat_eq here (codes "{**"))) [
            | inl opening ↦ annex_here l here opening
            | inr no_opening ↦ elim (cases_Bool (begins is_ascii_alphabetic here)) [
              | inl letter ↦ name_here l here letter
              | inr no_letter ↦ elim (cases_Bool (begins is_ascii_digit here)) [
                | inl digit ↦ number_here l here digit
                | inr no_digit ↦ elim (cases_Bool (begins is_sign here)) [
                  | inl sign ↦ let n = first_front long_symbols here in inl (token_of_kind Symbol n, symbol_is l here n sign no_comment no_opening refl)
                  | inr no_sign ↦ inr (BadByte, bad_is l here some no_space no_quote no_letter no_digit no_sign)
                ]
              ]
            ]
          ]
        ]
      ]
    ]

-- ---- to the end, or to a broken rule

record IsReadSoFar (l : Language) (text : List ℕ) : Type 0 where
  pub pieces : List Piece
  pub rest : List ℕ
  pub read : AreRead l pieces text rest
  pub fine : AreFine l pieces
  pub ends : (rest ≡ []) ⊎ ((rule : Rule) × Breaks l rule rest)

read_on : (l : Language) (most : ℕ) (text : List ℕ) → length text ≤ most → IsReadSoFar l text
read_on l zero text le = let none : text ≡ [] = nil_from_length text (omega arith) in record { pieces = []; rest = text; read = refl; fine = tt; ends = inl none }
read_on l (suc most) [] le = record { pieces = []; rest = []; read = refl; fine = tt; ends = inl refl }
read_on l (suc most) (b ∷ bs) le =
    elim (found_or_broken l (b ∷ bs) (omega arith)) [
      | inl found ↦
          let f = found.1 in
          let some = some_bytes l f.piece f.after f.stands in
          let shorter : length f.after ≤ most = omega (arith, ap length f.parts, length-append (piece_bytes f.piece) f.after) in
          let later = read_on l most f.after shorter in
          record { pieces = f.piece ∷ later.pieces; rest = later.rest; read = (f.after, f.parts, f.stands, later.read); fine = (f.fine, later.fine); ends = later.ends }
      | inr broken ↦ record { pieces = []; rest = b ∷ bs; read = refl; fine = tt; ends = inr broken }
    ]

-- ---- UTF-8 to the end, or up to some byte

search_end : (bytes : List ℕ) (n : ℕ) → (IsUtf8 bytes → ⊥) → ((m : ℕ) → n < m → IsUtf8 (take m bytes) → ⊥) → (k : ℕ) × IsValidUpTo bytes k
search_end bytes zero not_text longest =
    let some : 0 < length bytes = elim (cases_lt 0 (length bytes)) [ inl lt ↦ lt | inr none ↦ absurd (not_text (subst IsUtf8 (sym (nil_from_length bytes (omega arith))) IsUtf8-nil)) ] in
    (0, record { short = some; front = IsUtf8-nil; longest = longest })
search_end bytes (suc n) not_text longest =
    elim (cases_Bool (is_utf8 (take (suc n) bytes))) [
      | inl is ↦
          let front = IsUtf8-from_is_utf8 (take (suc n) bytes) is in
          let short : suc n < length bytes = elim (cases_lt (suc n) (length bytes)) [ inl lt ↦ lt | inr all ↦ absurd (not_text (subst IsUtf8 (take_all (suc n) bytes all) front)) ] in
          (suc n, record { short = short; front = front; longest = longest })
      | inr is_not ↦ search_end bytes n not_text (λ m lt u. elim (cases_order m (suc n)) [
        | inl same ↦ both_ways (is_utf8 (take (suc n) bytes)) is_not (is_utf8-from_IsUtf8 (take (suc n) bytes) (subst (λ (k : ℕ). IsUtf8 (take k bytes)) same u))
        | inr differ ↦ elim differ [ inl below ↦ absurd (omega arith) | inr above ↦ longest m above u ]
      ])
    ]

utf8_or_end : (bytes : List ℕ) → IsUtf8 bytes ⊎ ((k : ℕ) × IsValidUpTo bytes k)
utf8_or_end bytes =
    elim (cases_Bool (is_utf8 bytes)) [
      | inl is ↦ inl (IsUtf8-from_is_utf8 bytes is)
      | inr is_not ↦
          let not_text : IsUtf8 bytes → ⊥ = λ u. both_ways (is_utf8 bytes) is_not (is_utf8-from_IsUtf8 bytes u) in
          inr (search_end bytes (length bytes) not_text (λ m lt u. not_text (subst IsUtf8 (take_all m bytes (omega arith)) u)))
    ]

-- ---- the one or the other

abbrev pub KeptOrBroken : Language → ℕ → List ℕ → List ℕ → Type 0
KeptOrBroken l file before text = ((tokens : List Token) × AreKept l file before text tokens) ⊎ ((r : Refusal) × IsFirstBroken l file before text r)

abbrev refusal_at : ℕ → List ℕ → List ℕ → ℕ → Rule → Refusal
refusal_at file before text n rule = record { place = place_of file (before ++ take n text); rule = rule }

broken_first : (l : Language) (file : ℕ) (before text : List ℕ) (n : ℕ) (rule : Rule) → IsBrokenAt l text n rule → ((m : ℕ) (other : Rule) → IsBrokenAt l text m other → (n < m) ⊎ ((n ≡ m) × (rule ≡ other)))
    → ((m : ℕ) (other : Rule) → IsNoText l text m other → n < m) → IsFirstBroken l file before text (refusal_at file before text n rule)
broken_first l file before text n rule broken first later =
    record {
      at = n;
      broken = inr broken;
      placed = refl;
      first = λ m other b. elim b [
        | inl no_text ↦ inl (later m other no_text)
        | inr there ↦ elim (first m other there) [
          | inl ahead ↦ inl ahead
          | inr same ↦ let orders : rank rule ≡ rank other = ap rank same.1 in inr (same.0, omega arith)
        ]
      ];
    }

end_first : (file : ℕ) (before text : List ℕ) (n : ℕ) → IsValidUpTo text n → ((m : ℕ) (other : Rule) → IsBrokenAt Aadl text m other → n ≤ m) → IsFirstBroken Aadl file before text (refusal_at file before text n NotUtf8)
end_first file before text n valid later =
    record {
      at = n;
      broken = inl (refl, refl, valid);
      placed = refl;
      first = λ m other b. elim b [
        | inl no_text ↦ inr (one_end_of_text text n m valid no_text.2, omega arith)
        | inr there ↦ let after = later m other there in elim (cases_lt n m) [ inl ahead ↦ inl ahead | inr not_ahead ↦ let same : n ≡ m = omega arith in inr (same, omega arith) ]
      ];
    }

-- what reading to the end of pieces says of the rules
record Reaches (l : Language) (text : List ℕ) (n : ℕ) (rule : Rule) : Type 0 where
  pub broken : IsBrokenAt l text n rule
  pub first : (m : ℕ) (other : Rule) → IsBrokenAt l text m other → (n < m) ⊎ ((n ≡ m) × (rule ≡ other))

rest_is : (l : Language) (ps : List Piece) (text rest : List ℕ) → AreRead l ps text rest → (n : ℕ) × (n ≤ length text) × (drop n text ≡ rest)
rest_is l [] text rest r = (0, omega arith, r)
rest_is l (p ∷ ps) text rest r =
    let later = rest_is l ps r.0 rest r.3 in
    let le = later.1 in
    let len = length (piece_bytes p) in
    let at : drop (len + later.0) text ≡ rest = sym (drop-drop later.0 len text) ∙ ap (λ (z : List ℕ). drop later.0 (drop len z)) r.1 ∙ ap (drop later.0) (drop_at (piece_bytes p) r.0 len refl) ∙ later.2 in
    (len + later.0, omega (arith, ap length r.1, length-append (piece_bytes p) r.0), at)

reaches : (l : Language) (text : List ℕ) (s : IsReadSoFar l text) (rule : Rule) → Breaks l rule s.rest → (n : ℕ) × Reaches l text n rule
reaches l text s rule broken =
    let at = rest_is l s.pieces text s.rest s.read in
    let n = at.0 in
    let within = at.1 in
    let here : Breaks l rule (drop n text) = subst (Breaks l rule) (sym at.2) broken in (
      n,
      record {
        broken = record { within = at.1; pieces = s.pieces; before = subst (AreRead l s.pieces text) (sym at.2) s.read; broken = here };
        first = λ m other b.
            let reach = reach_before l s.pieces b.pieces text s.rest (drop m text) other s.read s.fine b.before b.broken in
            let len_n : length s.rest ≡ length text - n = ap length (sym at.2) ∙ length-drop n text in
            let len_m = length-drop m text in
            let inside = b.within in
            let some = breaks_some l other (drop m text) b.broken in
            elim (cases_order n m) [
              | inl same ↦ inr (same, one_rule l rule other (drop n text) here (subst (λ (k : ℕ). Breaks l other (drop k text)) (sym same) b.broken))
              | inr differ ↦ elim differ [ inl ahead ↦ inl ahead | inr behind ↦ absurd (omega arith) ]
            ];
      },
    )

none_broken : (l : Language) (text : List ℕ) (s : IsReadSoFar l text) → s.rest ≡ [] → (n : ℕ) (rule : Rule) → IsBrokenAt l text n rule → ⊥
none_broken l text s end n rule b =
    let reach = reach_before l s.pieces b.pieces text s.rest (drop n text) rule s.read s.fine b.before b.broken in
    let some = breaks_some l rule (drop n text) b.broken in
    let none : length s.rest ≡ 0 = ap length end in
    omega arith

kept_at : (l : Language) (file : ℕ) (before text : List ℕ) (s : IsReadSoFar l text) → s.rest ≡ [] → ((n : ℕ) (rule : Rule) → IsNoText l text n rule → ⊥) → KeptOrBroken l file before text
kept_at l file before text s end no_text =
    inl (
      tokens_of file before s.pieces,
      record {
        read = record { pieces = s.pieces; read = subst (AreRead l s.pieces text) end s.read; told = refl };
        kept = λ n rule b. elim b [ inl bad ↦ no_text n rule bad | inr there ↦ none_broken l text s end n rule there ];
      },
    )

agree_either : (file : ℕ) (before text : List ℕ) (s : IsReadSoFar Agree text) → KeptOrBroken Agree file before text
agree_either file before text s =
    elim s.ends [
      | inl end ↦ kept_at Agree file before text s end (λ n rule bad. not_aadl bad.1)
      | inr broken ↦
          let r = reaches Agree text s broken.0 broken.1 in
          inr (refusal_at file before text r.0 broken.0, broken_first Agree file before text r.0 broken.0 r.1.broken r.1.first (λ m other bad. absurd (not_aadl bad.1)))
    ]

cases_le : (m n : ℕ) → (m ≤ n) ⊎ (n < m)
cases_le m n = grind arith

file_either : (file : ℕ) (before text : List ℕ) (s : IsReadSoFar Aadl text) (n : ℕ) → IsValidUpTo text n → KeptOrBroken Aadl file before text
file_either file before text s n valid =
    elim s.ends [
      | inl end ↦ inr (refusal_at file before text n NotUtf8, end_first file before text n valid (λ m other there. absurd (none_broken Aadl text s end m other there)))
      | inr broken ↦
          let r = reaches Aadl text s broken.0 broken.1 in
          elim (cases_le n r.0) [
            | inl first ↦ inr (refusal_at file before text n NotUtf8, end_first file before text n valid (λ m other there. elim (r.1.first m other there) [ inl ahead ↦ omega arith | inr same ↦ let e = same.0 in omega arith ]))
            | inr later ↦
                inr (
                  refusal_at file before text r.0 broken.0,
                  broken_first Aadl file before text r.0 broken.0 r.1.broken r.1.first
                      (λ m other bad. let same = one_end_of_text text n m valid bad.2 in omega arith),
                )
          ]
    ]

text_either : (file : ℕ) (before text : List ℕ) (s : IsReadSoFar Aadl text) → IsUtf8 text → KeptOrBroken Aadl file before text
text_either file before text s whole =
    elim s.ends [
      | inl end ↦ kept_at Aadl file before text s end (λ n rule bad. no_end_of_text text n whole bad.2)
      | inr broken ↦
          let r = reaches Aadl text s broken.0 broken.1 in
          inr (refusal_at file before text r.0 broken.0, broken_first Aadl file before text r.0 broken.0 r.1.broken r.1.first (λ m other bad. absurd (no_end_of_text text m whole bad.2)))
    ]

pub one_of_the_two : (l : Language) (file : ℕ) (before text : List ℕ) → KeptOrBroken l file before text
one_of_the_two Agree file before text = agree_either file before text (read_on Agree (length text) text (omega arith))
one_of_the_two Aadl file before text =
    let s = read_on Aadl (length text) text (omega arith) in
    elim (utf8_or_end text) [ inl whole ↦ text_either file before text s whole | inr end ↦ file_either file before text s end.0 end.1 ]
