-- What is found at the front is a piece there, or breaks a rule.
use Rattle.std.proofs.Common.{◌≡◌, ℕ, ◌+◌, ◌<◌, ◌≤◌, true, false, eqb, List, [], ◌∷◌, ◌++◌, length, get_or, take, drop, Option, Some, None, refl, sym, ap, subst, ◌∙◌, inl, inr, arith}
use Rattle.std.specs.Prelude.{codes, nat_eq}
use Rattle.std.specs.Option.{option_map}
use Rattle.std.specs.Char.{is_ascii_alphabetic, is_ascii_digit}
use Rattle.std.specs.List.{list_all, prefix_len, starts_with}
use Rattle.std.proofs.lemmas.Bool.{cases_Bool, both_ways}
use Rattle.std.proofs.lemmas.Bool.Decides.{nat_tests}
use Rattle.std.proofs.lemmas.List.{take-append-drop, append_assoc, length-append, length-take-le, drop-drop, drop_more}
use Rattle.std.proofs.lemmas.List.Sums.{prefix_len-le-length}
use Rattle.ag_base.specs.declared.place.Rule.TheVariants.{BadByte, OpenString, OpenAnnex, LongName, WideNumber}
use Rattle.ag_lex.specs.declared.found.Found.{Found}
use Rattle.ag_lex.specs.declared.token.Language.{Language}
use Rattle.ag_lex.specs.declared.token.Language.TheVariants.{Aadl, Agree}
use Rattle.ag_lex.specs.declared.token.TokenKind.{TokenKind}
use Rattle.ag_lex.specs.declared.token.TokenKind.TheVariants.{Name, Number, Real, Text, Annex, Symbol}
use Rattle.ag_lex.specs.Characters.{is_space, is_line_byte, is_word_byte, is_number_byte, is_text_byte, is_sign, is_bad_byte, begins, ends_line}
use Rattle.ag_lex.specs.Spelling.{is_fraction, long_symbols}
use Rattle.ag_lex.specs.Tokens.{Space, Comment, Lexeme, piece_bytes}
use Rattle.ag_lex.specs.Rules.{Breaks, IsFine}
use Rattle.ag_lex.specs.Scanning.{IsFound, IsWide, closes_at, first_front, fraction_at}
use Rattle.ag_lex.proofs.Fronts.{starts, starts_from, list_all-take, begins-drop, line_ended, run_begins, begins-append}
use Rattle.ag_lex.proofs.Closing.{closes_some, closes_none}
use Rattle.ag_lex.proofs.Longest.{name_found, number_found, real_found, text_found, annex_found, symbol_found, symbol_within}

abbrev pub piece_of : ℕ → Found
piece_of n = record { kind = None; len = n }

abbrev pub token_of_kind : TokenKind → ℕ → Found
token_of_kind kind n = record { kind = Some kind; len = n }

pub space_is : (l : Language) (here : List ℕ) → begins is_space here ≡ true → IsFound l (piece_of 1) here
space_is l [] h = absurd cc
space_is l (b ∷ bs) h = record { piece = Space b; after = bs; parts = refl; stands = h; fine = tt; kind = refl; len = refl }

pub comment_is : (l : Language) (here : List ℕ) (n : ℕ) → starts_with nat_eq here (codes "--") ≡ true → n ≡ prefix_len is_line_byte (drop 2 here) → IsFound l (piece_of (2 + n)) here
comment_is l here n h e =
    let rest = drop 2 here in
    let m = prefix_len is_line_byte rest in
    let len = length-take-le m rest (prefix_len-le-length is_line_byte rest) in
    record {
      piece = Comment (take m rest);
      after = drop m rest;
      parts = starts here (codes "--") h ∙ ap (λ (z : List ℕ). codes "--" ++ z) (sym (take-append-drop m rest));
      stands = (list_all-take is_line_byte rest, line_ended (drop m rest) (begins-drop is_line_byte rest));
      fine = tt;
      kind = refl;
      len = omega arith;
    }

-- the text behind a quote, up to what is no byte of a text
pub record Quoted (here : List ℕ) (n : ℕ) : Type 0 where
  pub text : List ℕ
  pub rest : List ℕ
  pub parts : here ≡ codes "\"" ++ (text ++ rest)
  pub len : length text ≡ n
  pub all : list_all is_text_byte text ≡ true
  pub stops : begins is_text_byte rest ≡ false
  pub behind : drop (1 + n) here ≡ rest

pub quoted : (here : List ℕ) (n : ℕ) → starts_with nat_eq here (codes "\"") ≡ true → n ≡ prefix_len is_text_byte (drop 1 here) → Quoted here n
quoted here n h e =
    let inner = drop 1 here in
    let m = prefix_len is_text_byte inner in
    record {
      text = take m inner;
      rest = drop m inner;
      parts = starts here (codes "\"") h ∙ ap (λ (z : List ℕ). codes "\"" ++ z) (sym (take-append-drop m inner));
      len = length-take-le m inner (prefix_len-le-length is_text_byte inner) ∙ sym e;
      all = list_all-take is_text_byte inner;
      stops = begins-drop is_text_byte inner;
      behind = ap (λ (k : ℕ). drop (1 + k) here) e ∙ sym (drop-drop m 1 here);
    }

pub text_is : (l : Language) (here : List ℕ) (n : ℕ) → starts_with nat_eq here (codes "\"") ≡ true → n ≡ prefix_len is_text_byte (drop 1 here)
    → starts_with nat_eq (drop (1 + n) here) (codes "\"") ≡ true → IsFound l (token_of_kind Text (n + 2)) here
text_is l here n h e closed =
    let q = quoted here n h e in
    let closing : q.rest ≡ codes "\"" ++ drop 1 q.rest = starts q.rest (codes "\"") (rw q.behind at closed) in
    let after = drop 1 q.rest in
    let count : length (q.text ++ codes "\"") ≡ length q.text + 1 = length-append q.text (codes "\"") in
    let len = q.len in
    record {
      piece = Lexeme Text (codes "\"" ++ (q.text ++ codes "\""));
      after = after;
      parts = q.parts ∙ ap (λ (z : List ℕ). codes "\"" ++ (q.text ++ z)) closing ∙ ap (λ (z : List ℕ). codes "\"" ++ z) (sym (append_assoc q.text (codes "\"") after));
      stands = text_found l q.text after q.all;
      fine = tt;
      kind = refl;
      len = omega arith;
    }

no_text_byte : (rest : List ℕ) → begins is_text_byte rest ≡ false → starts_with nat_eq rest (codes "\"") ≡ false → ends_line rest ≡ true
no_text_byte [] h k = refl
no_text_byte (b ∷ bs) h k =
    let quote : eqb 34 b ≡ false = head_no_quote b bs k in
    grind (arith, nat_tests)
  where
    head_no_quote : (b : ℕ) (bs : List ℕ) → starts_with nat_eq (b ∷ bs) (codes "\"") ≡ false → eqb 34 b ≡ false
    head_no_quote b bs k = elim (cases_Bool (eqb 34 b)) [ inl holds ↦ absurd (both_ways (starts_with nat_eq (b ∷ bs) (codes "\"")) k (rw holds refl)) | inr fails ↦ fails ]

pub text_open : (l : Language) (here : List ℕ) (n : ℕ) → starts_with nat_eq here (codes "\"") ≡ true → n ≡ prefix_len is_text_byte (drop 1 here)
    → starts_with nat_eq (drop (1 + n) here) (codes "\"") ≡ false → Breaks l OpenString here
text_open l here n h e open_end =
    let q = quoted here n h e in
    (q.text, q.rest, q.parts, q.all, no_text_byte q.rest q.stops (rw q.behind at open_end))

pub annex_is : (l : Language) (here : List ℕ) (n : ℕ) → starts_with nat_eq here (codes "{**") ≡ true → closes_at (drop 3 here) ≡ Some n → IsFound l (token_of_kind Annex (n + 6)) here
annex_is l here n h e =
    let c = closes_some (drop 3 here) n e in
    let count : length (c.inside ++ codes "**}") ≡ length c.inside + 3 = length-append c.inside (codes "**}") in
    let len = c.len in
    record {
      piece = Lexeme Annex (codes "{**" ++ (c.inside ++ codes "**}"));
      after = c.after;
      parts = starts here (codes "{**") h ∙ ap (λ (z : List ℕ). codes "{**" ++ z) (c.parts ∙ sym (append_assoc c.inside (codes "**}") c.after));
      stands = annex_found l c.inside c.after c.none_before;
      fine = tt;
      kind = refl;
      len = omega arith;
    }

pub annex_within : (here : List ℕ) (n : ℕ) → starts_with nat_eq here (codes "{**") ≡ true → closes_at (drop 3 here) ≡ Some n → n + 6 ≤ length here
annex_within here n h e =
    let f = annex_is Aadl here n h e in
    let len : n + 6 ≡ length (piece_bytes f.piece) = f.len in
    omega (arith, ap length f.parts, length-append (piece_bytes f.piece) f.after)

pub annex_open : (l : Language) (here : List ℕ) → starts_with nat_eq here (codes "{**") ≡ true → closes_at (drop 3 here) ≡ None → Breaks l OpenAnnex here
annex_open l here h e = let none = closes_none (drop 3 here) e in (drop 3 here, starts here (codes "{**") h, rw none refl)

pub name_is : (l : Language) (here : List ℕ) (n : ℕ) → begins is_ascii_alphabetic here ≡ true → n ≡ prefix_len is_word_byte here → n ≤ 255 → IsFound l (token_of_kind Name n) here
name_is l here n h e short =
    let m = prefix_len is_word_byte here in
    let len = length-take-le m here (prefix_len-le-length is_word_byte here) in
    record {
      piece = Lexeme Name (take m here);
      after = drop m here;
      parts = sym (take-append-drop m here);
      stands = name_found l here h;
      fine = omega arith;
      kind = refl;
      len = e ∙ sym len;
    }

pub name_long : (l : Language) (here : List ℕ) (n : ℕ) → begins is_ascii_alphabetic here ≡ true → n ≡ prefix_len is_word_byte here → 255 < n → Breaks l LongName here
name_long l here n h e long =
    let m = prefix_len is_word_byte here in
    let len = length-take-le m here (prefix_len-le-length is_word_byte here) in
    (take m here, drop m here, sym (take-append-drop m here), name_found l here h, omega arith)

-- ---- numbers

-- a point and a fraction follow
pub record Follows (rest : List ℕ) (n : ℕ) : Type 0 where
  pub point : rest ≡ 46 ∷ drop 1 rest
  pub digit : begins is_ascii_digit (drop 1 rest) ≡ true
  pub len : 1 + prefix_len is_word_byte (drop 1 rest) ≡ n

abbrev some : ℕ → Option ℕ
some n = Some n

some_same : (m n : ℕ) → some m ≡ some n → m ≡ n
some_same m n e = cc

follows : (rest : List ℕ) (n : ℕ) → fraction_at rest ≡ Some n → Follows rest n
follows rest n e =
    let m = 1 + prefix_len is_word_byte (drop 1 rest) in
    elim (cases_Bool (starts_with nat_eq rest (codes "."))) [
      | inl point ↦ elim (cases_Bool (begins is_ascii_digit (drop 1 rest))) [
        | inl digit ↦ let h : some m ≡ some n = rw (point, digit) at e in record { point = starts rest (codes ".") point; digit = digit; len = some_same m n h }
        | inr fails ↦ let h : None ≡ some n = rw (point, fails) at e in absurd cc
      ]
      | inr fails ↦ let h : None ≡ some n = rw fails at e in absurd cc
    ]

follows_not : (rest fraction after : List ℕ) → fraction_at rest ≡ None → rest ≡ 46 ∷ (fraction ++ after) → is_fraction fraction ≡ true → ⊥
follows_not rest fraction after e parts is =
    let m = 1 + prefix_len is_word_byte (drop 1 rest) in
    let point : starts_with nat_eq rest (codes ".") ≡ true = starts_from rest (codes ".") (fraction ++ after) parts in
    let digit : begins is_ascii_digit (drop 1 rest) ≡ true = rw parts (begins-append is_ascii_digit fraction after (run_begins is_ascii_digit is_word_byte fraction is)) in
    let h : some m ≡ None = rw (point, digit) at e in
    cc

pub real_is : (l : Language) (here : List ℕ) (n k : ℕ) → begins is_ascii_digit here ≡ true → n ≡ prefix_len (is_number_byte l) here → fraction_at (drop n here) ≡ Some k → IsFound l (token_of_kind Real (n + k)) here
real_is l here n k h e f =
    let m = prefix_len (is_number_byte l) here in
    let at : fraction_at (drop m here) ≡ Some k = rw e at f in
    let p = follows (drop m here) k at in
    let rest = drop 1 (drop m here) in
    let w = prefix_len is_word_byte rest in
    let len = length-take-le m here (prefix_len-le-length (is_number_byte l) here) in
    let len_fraction = length-take-le w rest (prefix_len-le-length is_word_byte rest) in
    let own = take m here ++ (46 ∷ take w rest) in
    let count : length own ≡ m + (1 + w) = omega (arith, length-append (take m here) (46 ∷ take w rest)) in
    let counted = p.len in
    record {
      piece = Lexeme Real own;
      after = drop w rest;
      parts = sym (append_assoc (take m here) (46 ∷ take w rest) (drop w rest) ∙ ap (λ (z : List ℕ). take m here ++ (46 ∷ z)) (take-append-drop w rest)
          ∙ ap (λ (z : List ℕ). take m here ++ z) (sym p.point) ∙ take-append-drop m here);
      stands = real_found l here rest h p.point p.digit;
      fine = tt;
      kind = refl;
      len = omega arith;
    }

fine_number : (l : Language) (own : List ℕ) → (IsWide l own → ⊥) → IsFine l (Lexeme Number own)
fine_number Aadl own h = tt
fine_number Agree own h = omega arith

pub number_is : (l : Language) (here : List ℕ) (n : ℕ) → begins is_ascii_digit here ≡ true → n ≡ prefix_len (is_number_byte l) here → fraction_at (drop n here) ≡ None → (IsWide l (take n here) → ⊥) → IsFound l (token_of_kind Number n) here
number_is l here n h e f narrow =
    let m = prefix_len (is_number_byte l) here in
    let len = length-take-le m here (prefix_len-le-length (is_number_byte l) here) in
    let at : fraction_at (drop m here) ≡ None = rw e at f in
    record {
      piece = Lexeme Number (take m here);
      after = drop m here;
      parts = sym (take-append-drop m here);
      stands = number_found l here h (λ fraction after parts is. follows_not (drop m here) fraction after at parts is);
      fine = fine_number l (take m here) (subst (λ (k : ℕ). IsWide l (take k here) → ⊥) e narrow);
      kind = refl;
      len = e ∙ sym len;
    }

pub number_wide : (l : Language) (here : List ℕ) (n : ℕ) → begins is_ascii_digit here ≡ true → n ≡ prefix_len (is_number_byte l) here → fraction_at (drop n here) ≡ None → IsWide l (take n here) → Breaks l WideNumber here
number_wide Aadl here n h e f wide = absurd wide
number_wide Agree here n h e f wide =
    let m = prefix_len (is_number_byte Agree) here in
    let at : fraction_at (drop m here) ≡ None = rw e at f in
    (take m here, drop m here, sym (take-append-drop m here), number_found Agree here h (λ fraction after parts is. follows_not (drop m here) fraction after at parts is), subst (λ (k : ℕ). IsWide Agree (take k here)) e wide)

-- ---- symbols, and bytes that begin nothing

pub symbol_is : (l : Language) (here : List ℕ) (n : ℕ) → begins is_sign here ≡ true → starts_with nat_eq here (codes "--") ≡ false → starts_with nat_eq here (codes "{**") ≡ false → n ≡ first_front long_symbols here
    → IsFound l (token_of_kind Symbol n) here
symbol_is l here n h no_comment no_annex e =
    let m = first_front long_symbols here in
    let len = length-take-le m here (symbol_within here h) in
    record {
      piece = Lexeme Symbol (take m here);
      after = drop m here;
      parts = sym (take-append-drop m here);
      stands = symbol_found l here h no_comment no_annex;
      fine = tt;
      kind = refl;
      len = e ∙ sym len;
    }

quote_starts : (b : ℕ) (bs : List ℕ) → starts_with nat_eq (b ∷ bs) (codes "\"") ≡ false → eqb 34 b ≡ false
quote_starts b bs k = elim (cases_Bool (eqb 34 b)) [ inl holds ↦ absurd (both_ways (starts_with nat_eq (b ∷ bs) (codes "\"")) k (rw holds refl)) | inr fails ↦ fails ]

bad_byte : (b : ℕ) → is_space b ≡ false → eqb 34 b ≡ false → is_ascii_alphabetic b ≡ false → is_ascii_digit b ≡ false → is_sign b ≡ false → is_bad_byte b ≡ true
bad_byte b space quote letter digit sign = grind (arith, nat_tests)

pub bad_is : (l : Language) (here : List ℕ) → 0 < length here → begins is_space here ≡ false → starts_with nat_eq here (codes "\"") ≡ false → begins is_ascii_alphabetic here ≡ false → begins is_ascii_digit here ≡ false → begins is_sign here ≡ false
    → Breaks l BadByte here
bad_is l [] some space quote letter digit sign = absurd (omega arith)
bad_is l (b ∷ bs) some space quote letter digit sign = bad_byte b space (quote_starts b bs quote) letter digit sign

-- ---- the walk to the first mark that closes

map_map : (o : Option ℕ) (i : ℕ) → option_map (λ n. n + i) (option_map (λ n. n + 1) o) ≡ option_map (λ n. n + (i + 1)) o
map_map None i = refl
map_map (Some n) i = let e : n + 1 + i ≡ n + (i + 1) = omega arith in ap some e

pub closes_later : (x : List ℕ) (i : ℕ) (found : Option ℕ) → i < length x → starts_with nat_eq (drop i x) (codes "**}") ≡ false → option_map (λ n. n + i) (closes_at (drop i x)) ≡ found
    → option_map (λ n. n + (i + 1)) (closes_at (drop (i + 1) x)) ≡ found
closes_later x i found lt fails so_far =
    let more = drop_more x i 0 lt in
    let here : closes_at (drop i x) ≡ option_map (λ n. n + 1) (closes_at (drop (i + 1) x)) = step (drop i x) (get_or x i 0) (drop (i + 1) x) more fails in
    sym (map_map (closes_at (drop (i + 1) x)) i) ∙ ap (option_map (λ n. n + i)) (sym here) ∙ so_far
  where
    step : (whole : List ℕ) (b : ℕ) (bs : List ℕ) → whole ≡ b ∷ bs → starts_with nat_eq whole (codes "**}") ≡ false → closes_at whole ≡ option_map (λ n. n + 1) (closes_at bs)
    step [] b bs e h = absurd cc
    step (c ∷ cs) b bs e h = let tails : cs ≡ bs = cc in rw (h, tails) refl
