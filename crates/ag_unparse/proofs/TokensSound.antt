-- The words of expressions are sound: each is spelled, and none runs on into the next.
use Rattle.std.proofs.Common.{◌≡◌, ℕ, ◌^◌, ℤ, pos, negsuc, Bool, true, false, not, ◌&&◌, ◌||◌, ◌==◌, List, [], ◌∷◌, ◌++◌, length, Option, Some, None, refl, sym, subst, ◌∙◌, codes, nat_le, leb-true, append_assoc, arith}
use Rattle.std.specs.Char.{is_ascii_alphabetic}
use Rattle.std.specs.List.{list_all, list_any}
use Rattle.std.specs.Str.{bytes_eq}
use Rattle.std.proofs.lemmas.Bool.{and_parts, and_from, and_right, or_left, not-true}
use Rattle.std.proofs.lemmas.Bool.Decides.{nat_tests}
use Rattle.std.proofs.lemmas.List.Folds.{list_all-append}
use Rattle.ag_lex.specs.declared.token.TokenKind.TheVariants.{Name, Number}
use Rattle.ag_lex.specs.Characters.{is_word_byte, begins}
use Rattle.ag_lex.specs.Spelling.{is_name, goes_on, long_symbols}
use Rattle.ag_terms.specs.declared.names.Ident.{Ident}
use Rattle.ag_terms.specs.declared.names.Path.{Path}
use Rattle.ag_terms.specs.declared.terms.Binary.{Binary}
use Rattle.ag_terms.specs.declared.terms.Binary.TheVariants.{Arrow, Implies, Iff, Or, And, Less, AtMost, More, AtLeast, Same, Differs, Plus, Minus, Times, Div, Mod}
use Rattle.ag_terms.specs.declared.terms.Term.{Term, Truth, Named, Unary', Binary', Choice', Call', Row_of-Term, end_of-Term, more_of-Term}
use Rattle.ag_terms.specs.declared.terms.Term as terms
use Rattle.ag_terms.specs.declared.terms.Unary.TheVariants as unary
use Rattle.ag_annex.specs.Marks.{arrow_mark, implies_mark, iff_mark, or_mark, and_mark, less_mark, at_most_mark, more_mark, at_least_mark, same_mark, differs_mark, plus_mark, minus_mark, times_mark, div_mark, mod_mark, negative_mark, not_mark, pre_mark, if_mark, then_mark, else_mark, true_mark, false_mark, group_mark, operand_mark, call_mark, argument_mark, close_mark, path_mark, part_mark, path_body_mark}
use Rattle.ag_annex.specs.Terminals.{name}
use Rattle.ag_annex.specs.Words.{terminal_of}
use Rattle.ag_unparse.specs.Layout.{Spelled, joins_before, joins_behind}
use Rattle.ag_unparse.specs.Canonical.{name_at, sign_at, sign, number_word, more_part_words, part_words, package_parts, body_words, path_words, binary_word, open_word, close_word, truth_word, term_words, argument_words}
use Rattle.ag_unparse.specs.Printable.{is_plain_name, is_plain_ident, is_plain_option, is_plain_path, is_literal, is_printable_term, are_printable_terms}
use Rattle.ag_unparse.specs.Written.{comma}
use Rattle.ag_unparse.proofs.TokensNumbers.{decimal_is_number, decimal_writes}
use Rattle.ag_unparse.proofs.TokensEnds.{clause_symbols, IsSpelled, widens, runs_on, IsSoundLine, no_sign_ends}

-- ---- what may stand behind a word

-- a byte that would go on a name or a number
abbrev stops : ℕ → Bool
stops b = is_word_byte b || b == 46

-- the first word stands apart from what comes before it
abbrev pub starts : List Spelled → Bool
starts [] = true
starts (v ∷ vs) = not (joins_before v)

-- the first word doesn't go on a name before it
abbrev pub name_ends : List Spelled → Bool
name_ends [] = true
name_ends (v ∷ vs) = not (joins_before v) || not (begins is_word_byte v.own)

-- nor a number
abbrev pub ends : List Spelled → Bool
ends [] = true
ends (v ∷ vs) = not (joins_before v) || not (begins stops v.own)

-- sound words; which stand apart from what comes before; which may stand behind a name; and behind a number too
pub record IsSound (ws : List Spelled) : Type 0 where
  pub line : IsSoundLine ws

pub record IsBegun (ws : List Spelled) : Type 0 where
  pub line : IsSoundLine ws
  pub starts : starts ws ≡ true

pub record IsAfter (ws : List Spelled) : Type 0 where
  pub line : IsSoundLine ws
  pub ends : name_ends ws ≡ true

pub record IsBehind (ws : List Spelled) : Type 0 where
  pub line : IsSoundLine ws
  pub ends : ends ws ≡ true

either_weaker : (j b s : Bool) → (b ≡ true → s ≡ true) → (not j || not s) ≡ true → (not j || not b) ≡ true
either_weaker false b s i h = refl
either_weaker true false s i h = refl
either_weaker true true true i h = h
either_weaker true true false i h = absurd (let bad = i refl in cc)

stops_word : (xs : List ℕ) → begins is_word_byte xs ≡ true → begins stops xs ≡ true
stops_word [] h = h
stops_word (b ∷ bs) h = or_left (is_word_byte b) (b == 46) h

wide_byte : (b : ℕ) → widens b ≡ true → stops b ≡ true
wide_byte b h = grind (arith, nat_tests)

stops_wide : (xs : List ℕ) → begins widens xs ≡ true → begins stops xs ≡ true
stops_wide [] h = h
stops_wide (b ∷ bs) h = wide_byte b h

names_end : (ws : List Spelled) → ends ws ≡ true → name_ends ws ≡ true
names_end [] h = refl
names_end (v ∷ vs) h = either_weaker (joins_before v) (begins is_word_byte v.own) (begins stops v.own) (stops_word v.own) h

pub behind_after : {ws : List Spelled} → IsBehind ws → IsAfter ws
behind_after {ws} b = record { line = b.line; ends = names_end ws b.ends }

starts_end : (ws : List Spelled) → starts ws ≡ true → ends ws ≡ true
starts_end [] h = refl
starts_end (v ∷ vs) h = or_left (not (joins_before v)) (not (begins stops v.own)) h

pub begun_behind : {ws : List Spelled} → IsBegun ws → IsBehind ws
begun_behind {ws} b = record { line = b.line; ends = starts_end ws b.starts }

pub begun_of : {ws : List Spelled} → IsSound ws → starts ws ≡ true → IsBegun ws
begun_of s h = record { line = s.line; starts = h }

pub after_of : {ws : List Spelled} → IsSound ws → name_ends ws ≡ true → IsAfter ws
after_of s h = record { line = s.line; ends = h }

pub behind_of : {ws : List Spelled} → IsSound ws → ends ws ≡ true → IsBehind ws
behind_of s h = record { line = s.line; ends = h }

-- ---- words

-- a name of at most 255 bytes
abbrev pub is_fit : List ℕ → Bool
is_fit own = is_name own && nat_le (length own) 255

pub fit : (own : List ℕ) → is_plain_name own ≡ true → is_fit own ≡ true
fit own h =
    let parts = and_parts (is_name own) (nat_le (length own) 255 && terminal_of Name own == name) h in
    let last = and_parts (nat_le (length own) 255) (terminal_of Name own == name) parts.1 in
    and_from (is_name own) (nat_le (length own) 255) parts.0 last.0

no_run : (j b : Bool) → (not j || not b) ≡ true → (j && b) ≡ false
no_run false b h = refl
no_run true false h = refl
no_run true true h = absurd cc

name_runs : (mark : ℕ) (own : List ℕ) (ws : List Spelled) → name_ends ws ≡ true → runs_on (name_at mark own) ws ≡ false
name_runs mark own [] h = refl
name_runs mark own (v ∷ vs) h = no_run (joins_before v) (begins is_word_byte v.own) h

number_runs : (value : ℤ) (ws : List Spelled) → ends ws ≡ true → runs_on (number_word value) ws ≡ false
number_runs value [] h = refl
number_runs value (v ∷ vs) h = no_run (joins_before v) (begins widens v.own) (either_weaker (joins_before v) (begins widens v.own) (begins stops v.own) (stops_wide v.own) h)

pub put_name : (mark : ℕ) (own : List ℕ) {ws : List Spelled} → is_fit own ≡ true → IsAfter ws → IsSound (name_at mark own ∷ ws)
put_name mark own {ws} h a =
    let both = and_parts (is_name own) (nat_le (length own) 255) h in
    record { line = ((both.0, leb-true (length own) 255 both.1), name_runs mark own ws a.ends, a.line) }

number_spelled : (n : ℕ) → nat_le n (2 ^ 47) ≡ true → IsSpelled Number (number_word (pos n)).own
number_spelled n h =
    let small = leb-true n (2 ^ 47) h in
    let same = decimal_writes n small in
    (decimal_is_number n small, omega arith)

put_number : (value : ℤ) (ws : List Spelled) → is_literal value ≡ true → IsBehind ws → IsBegun (number_word value ∷ ws)
put_number (pos n) ws h a = record { line = (number_spelled n h, number_runs (pos n) ws a.ends, a.line); starts = refl }
put_number (negsuc n) ws h a = absurd cc

-- a symbol with which nothing goes on
never : (own : List ℕ) (xs : List ℕ) → ((b : ℕ) → goes_on own b ≡ false) → begins (goes_on own) xs ≡ false
never own [] h = refl
never own (b ∷ bs) h = h b

closed_runs : (mark : ℕ) (own : List ℕ) (ws : List Spelled) → ((b : ℕ) → goes_on own b ≡ false) → runs_on (sign_at mark own) ws ≡ false
closed_runs mark own [] h = refl
closed_runs mark own (v ∷ vs) h = and_right (joins_behind (sign_at mark own) || joins_before v) (begins (goes_on own) v.own) (never own v.own h)

put_closed : (mark : ℕ) (own : List ℕ) {ws : List Spelled} → list_any (bytes_eq own) clause_symbols ≡ true → ((b : ℕ) → goes_on own b ≡ false) → IsSound ws → IsSound (sign_at mark own ∷ ws)
put_closed mark own {ws} is closed s = record { line = (is, closed_runs mark own ws closed, s.line) }

-- a symbol behind which a space stands, before a word that stands apart
loose_runs : (mark : ℕ) (own : List ℕ) (ws : List Spelled) → joins_behind (sign_at mark own) ≡ false → starts ws ≡ true → runs_on (sign_at mark own) ws ≡ false
loose_runs mark own [] loose h = refl
loose_runs mark own (v ∷ vs) loose h =
    let apart : joins_before v ≡ false = not-true (joins_before v) h in
    rw (loose, apart) refl

pub put_loose : (mark : ℕ) (own : List ℕ) {ws : List Spelled} → list_any (bytes_eq own) clause_symbols ≡ true → joins_behind (sign_at mark own) ≡ false → IsBegun ws → IsSound (sign_at mark own ∷ ws)
put_loose mark own {ws} is loose b = record { line = (is, loose_runs mark own ws loose b.starts, b.line) }

letter_no_sign : (b : ℕ) → is_ascii_alphabetic b ≡ true → goes_on (codes ".") b ≡ false
letter_no_sign b h = no_sign_ends (codes ".") b (grind (arith, nat_tests))

name_no_sign : (own : List ℕ) → is_name own ≡ true → begins (goes_on (codes ".")) own ≡ false
name_no_sign [] h = refl
name_no_sign (b ∷ bs) h = letter_no_sign b (and_parts (is_ascii_alphabetic b) (list_all is_word_byte bs) h).0

is_dot : list_any (bytes_eq (codes ".")) clause_symbols ≡ true
unfolding clause_symbols
is_dot = refl

put_dot : (mark : ℕ) (own : List ℕ) {ws : List Spelled} → is_fit own ≡ true → IsSound (name_at mark own ∷ ws) → IsSound (sign (codes ".") ∷ name_at mark own ∷ ws)
put_dot mark own h s =
    let both = and_parts (is_name own) (nat_le (length own) 255) h in
    record { line = (is_dot, and_right (joins_behind (sign (codes ".")) || joins_before (name_at mark own)) (begins (goes_on (codes ".")) own) (name_no_sign own both.0), s.line) }

is_colons : list_any (bytes_eq (codes "::")) clause_symbols ≡ true
unfolding clause_symbols
is_colons = refl

colons_closed : (b : ℕ) → goes_on (codes "::") b ≡ false
unfolding long_symbols
colons_closed b = refl

is_open : list_any (bytes_eq (codes "(")) clause_symbols ≡ true
unfolding clause_symbols
is_open = refl

open_closed : (b : ℕ) → goes_on (codes "(") b ≡ false
unfolding long_symbols
open_closed b = refl

pub put_open : (mark : ℕ) {ws : List Spelled} → IsSound ws → IsSound (sign_at mark (codes "(") ∷ ws)
put_open mark s = put_closed mark (codes "(") is_open open_closed s

is_close : list_any (bytes_eq (codes ")")) clause_symbols ≡ true
unfolding clause_symbols
is_close = refl

close_closed : (b : ℕ) → goes_on (codes ")") b ≡ false
unfolding long_symbols
close_closed b = refl

pub put_close : (mark : ℕ) {ws : List Spelled} → IsSound ws → IsSound (sign_at mark (codes ")") ∷ ws)
put_close mark s = put_closed mark (codes ")") is_close close_closed s

is_comma : list_any (bytes_eq (codes ",")) clause_symbols ≡ true
unfolding clause_symbols
is_comma = refl

comma_closed : (b : ℕ) → goes_on (codes ",") b ≡ false
unfolding long_symbols
comma_closed b = refl

pub put_comma : (mark : ℕ) {ws : List Spelled} → IsSound ws → IsSound (sign_at mark (codes ",") ∷ ws)
put_comma mark s = put_closed mark (codes ",") is_comma comma_closed s

is_semicolon : list_any (bytes_eq (codes ";")) clause_symbols ≡ true
unfolding clause_symbols
is_semicolon = refl

semicolon_closed : (b : ℕ) → goes_on (codes ";") b ≡ false
unfolding long_symbols
semicolon_closed b = refl

pub put_semicolon : (mark : ℕ) {ws : List Spelled} → IsSound ws → IsSound (sign_at mark (codes ";") ∷ ws)
put_semicolon mark s = put_closed mark (codes ";") is_semicolon semicolon_closed s

is_colon : list_any (bytes_eq (codes ":")) clause_symbols ≡ true
unfolding clause_symbols
is_colon = refl

pub put_colon : (mark : ℕ) {ws : List Spelled} → IsBegun ws → IsSound (sign_at mark (codes ":") ∷ ws)
put_colon mark b = put_loose mark (codes ":") is_colon refl b

is_equals : list_any (bytes_eq (codes "=")) clause_symbols ≡ true
unfolding clause_symbols
is_equals = refl

pub put_equals : (mark : ℕ) {ws : List Spelled} → IsBegun ws → IsSound (sign_at mark (codes "=") ∷ ws)
put_equals mark b = put_loose mark (codes "=") is_equals refl b

pub weaker : {ws : List Spelled} → IsBegun ws → IsSound ws
weaker b = record { line = b.line }

pub after_sound : {ws : List Spelled} → IsAfter ws → IsSound ws
after_sound a = record { line = a.line }

-- ---- names

sound_more : (parts : List (List ℕ)) {ws : List Spelled} → list_all is_plain_name parts ≡ true → IsAfter ws → IsAfter (more_part_words parts ++ ws)
sound_more [] h a = a
sound_more (part ∷ parts) h a =
    let both = and_parts (is_plain_name part) (list_all is_plain_name parts) h in
    let named = put_name part_mark part (fit part both.0) (sound_more parts both.1 a) in
    after_of (put_closed 0 (codes "::") is_colons colons_closed named) refl

sound_front : (parts : List (List ℕ)) (own : List ℕ) {ws : List Spelled} → list_all is_plain_name parts ≡ true → is_plain_name own ≡ true → IsAfter ws → IsBegun (part_words (parts ++ own ∷ []) ++ ws)
sound_front [] own h n a = begun_of (put_name path_mark own (fit own n) a) refl
sound_front (part ∷ parts) own h n a =
    let both = and_parts (is_plain_name part) (list_all is_plain_name parts) h in
    let all : list_all is_plain_name (parts ++ own ∷ []) ≡ true =
    list_all-append is_plain_name parts (own ∷ []) ∙ and_from (list_all is_plain_name parts) (is_plain_name own && true) both.1 (and_from (is_plain_name own) true n refl) in
    begun_of (put_name path_mark part (fit part both.0) (sound_more (parts ++ own ∷ []) all a)) refl

sound_body : (o : Option Ident) {ws : List Spelled} → is_plain_option o ≡ true → IsAfter ws → IsAfter (body_words o ++ ws)
sound_body None h a = a
sound_body (Some i) h a = after_of (put_dot path_body_mark i.text (fit i.text h) (put_name path_body_mark i.text (fit i.text h) a)) refl

pub begun_regrouped : (xs ys ws : List Spelled) → IsBegun (xs ++ (ys ++ ws)) → IsBegun ((xs ++ ys) ++ ws)
begun_regrouped xs ys ws b = subst (λ (z : List Spelled). IsBegun z) (sym (append_assoc xs ys ws)) b

pub sound_path : (p : Path) (ws : List Spelled) → is_plain_path p ≡ true → IsAfter ws → IsBegun (path_words p ++ ws)
sound_path p ws h a =
    let both = and_parts (list_all is_plain_name (package_parts p.«package»)) (is_plain_ident p.name && is_plain_option p.body) h in
    let named = and_parts (is_plain_ident p.name) (is_plain_option p.body) both.1 in
    begun_regrouped (part_words (package_parts p.«package» ++ p.name.text ∷ [])) (body_words p.body) ws
    (sound_front (package_parts p.«package») p.name.text both.0 named.0 (sound_body p.body named.1 a))

-- ---- operators

is_arrow : list_any (bytes_eq (codes "->")) clause_symbols ≡ true
unfolding clause_symbols
is_arrow = refl

is_implies : list_any (bytes_eq (codes "=>")) clause_symbols ≡ true
unfolding clause_symbols
is_implies = refl

is_iff : list_any (bytes_eq (codes "<=>")) clause_symbols ≡ true
unfolding clause_symbols
is_iff = refl

is_less : list_any (bytes_eq (codes "<")) clause_symbols ≡ true
unfolding clause_symbols
is_less = refl

is_at_most : list_any (bytes_eq (codes "<=")) clause_symbols ≡ true
unfolding clause_symbols
is_at_most = refl

is_more : list_any (bytes_eq (codes ">")) clause_symbols ≡ true
unfolding clause_symbols
is_more = refl

is_at_least : list_any (bytes_eq (codes ">=")) clause_symbols ≡ true
unfolding clause_symbols
is_at_least = refl

is_differs : list_any (bytes_eq (codes "<>")) clause_symbols ≡ true
unfolding clause_symbols
is_differs = refl

is_plus : list_any (bytes_eq (codes "+")) clause_symbols ≡ true
unfolding clause_symbols
is_plus = refl

is_minus : list_any (bytes_eq (codes "-")) clause_symbols ≡ true
unfolding clause_symbols
is_minus = refl

is_times : list_any (bytes_eq (codes "*")) clause_symbols ≡ true
unfolding clause_symbols
is_times = refl

put_word : (mark : ℕ) (own : List ℕ) {ws : List Spelled} → is_fit own ≡ true → IsBegun ws → IsSound (name_at mark own ∷ ws)
put_word mark own h b = put_name mark own h (behind_after (begun_behind b))

put_binary : (op : Binary) {ws : List Spelled} → IsBegun ws → IsSound (binary_word op ∷ ws)
put_binary Arrow b = put_loose arrow_mark (codes "->") is_arrow refl b
put_binary Implies b = put_loose implies_mark (codes "=>") is_implies refl b
put_binary Iff b = put_loose iff_mark (codes "<=>") is_iff refl b
put_binary Or b = put_word or_mark (codes "or") refl b
put_binary And b = put_word and_mark (codes "and") refl b
put_binary Less b = put_loose less_mark (codes "<") is_less refl b
put_binary AtMost b = put_loose at_most_mark (codes "<=") is_at_most refl b
put_binary More b = put_loose more_mark (codes ">") is_more refl b
put_binary AtLeast b = put_loose at_least_mark (codes ">=") is_at_least refl b
put_binary Same b = put_loose same_mark (codes "=") is_equals refl b
put_binary Differs b = put_loose differs_mark (codes "<>") is_differs refl b
put_binary Plus b = put_loose plus_mark (codes "+") is_plus refl b
put_binary Minus b = put_loose minus_mark (codes "-") is_minus refl b
put_binary Times b = put_loose times_mark (codes "*") is_times refl b
put_binary Div b = put_word div_mark (codes "div") refl b
put_binary Mod b = put_word mod_mark (codes "mod") refl b

binary_ends : (op : Binary) (ws : List Spelled) → ends (binary_word op ∷ ws) ≡ true
binary_ends Arrow ws = refl
binary_ends Implies ws = refl
binary_ends Iff ws = refl
binary_ends Or ws = refl
binary_ends And ws = refl
binary_ends Less ws = refl
binary_ends AtMost ws = refl
binary_ends More ws = refl
binary_ends AtLeast ws = refl
binary_ends Same ws = refl
binary_ends Differs ws = refl
binary_ends Plus ws = refl
binary_ends Minus ws = refl
binary_ends Times ws = refl
binary_ends Div ws = refl
binary_ends Mod ws = refl

-- ---- expressions

sound_truth : (value : Bool) {ws : List Spelled} → IsBehind ws → IsBegun (truth_word value ∷ ws)
sound_truth true b = begun_of (put_name true_mark (codes "true") refl (behind_after b)) refl
sound_truth false b = begun_of (put_name false_mark (codes "false") refl (behind_after b)) refl

-- the bracket that ends an expression
close_behind : {ws : List Spelled} → IsBehind ws → IsBehind (close_word ∷ ws)
close_behind b = behind_of (put_close close_mark (record { line = b.line })) refl

-- what is between brackets
bracketed : {ws : List Spelled} → IsSound ws → IsBegun (open_word ∷ ws)
bracketed s = begun_of (put_open group_mark s) refl

-- what stands before an argument: nothing, or a comma
record Separates (before : List Spelled) : Type 0 where
  put : (xs : List Spelled) → IsBegun xs → IsSound (before ++ xs)

nothing_separates : Separates []
nothing_separates = record { put = λ xs b. weaker b }

comma_separates : Separates comma
comma_separates = record { put = λ xs b. put_comma argument_mark (weaker b) }

arguments_end : {m : _} (args : Row_of-Term m) (ws : List Spelled) → ends ws ≡ true → ends (argument_words comma args ++ ws) ≡ true
arguments_end end_of-Term ws h = h
arguments_end (more_of-Term t rest) ws h = refl

sound_regrouped : (xs ys ws : List Spelled) → IsSound (xs ++ (ys ++ ws)) → IsSound ((xs ++ ys) ++ ws)
sound_regrouped xs ys ws s = subst (λ (z : List Spelled). IsSound z) (sym (append_assoc xs ys ws)) s

mutual
  pub sound_term : (t : Term) (ws : List Spelled) → is_printable_term t ≡ true → IsBehind ws → IsBegun (term_words t ++ ws)
  sound_term (terms.Number value place) ws h b = put_number value ws h b
  sound_term (Truth value place) ws h b = sound_truth value b
  sound_term (Named path) ws h b = sound_path path ws h (behind_after b)
  sound_term (Unary' unary.Minus place _ (more_of-Term t end_of-Term)) ws h b =
      let inner = begun_regrouped (term_words t) (close_word ∷ []) ws (sound_term t (close_word ∷ ws) h (close_behind b)) in
      bracketed (put_loose negative_mark (codes "-") is_minus refl inner)
  sound_term (Unary' unary.Not place _ (more_of-Term t end_of-Term)) ws h b =
      let inner = begun_regrouped (term_words t) (close_word ∷ []) ws (sound_term t (close_word ∷ ws) h (close_behind b)) in
      bracketed (put_word not_mark (codes "not") refl inner)
  sound_term (Unary' unary.Pre place _ (more_of-Term t end_of-Term)) ws h b =
      let inner = begun_regrouped (term_words t) (close_word ∷ []) ws (sound_term t (close_word ∷ ws) h (close_behind b)) in
      let opened = put_open operand_mark (weaker inner) in
      begun_of (put_name pre_mark (codes "pre") refl (after_of opened refl)) refl
  sound_term (Binary' op place _ (more_of-Term left end_of-Term) _ (more_of-Term right end_of-Term)) ws h b =
      let both = and_parts (is_printable_term left) (is_printable_term right) h in
      let second = begun_regrouped (term_words right) (close_word ∷ []) ws (sound_term right (close_word ∷ ws) both.1 (close_behind b)) in
      let more = (term_words right ++ close_word ∷ []) ++ ws in
      let first = sound_term left (binary_word op ∷ more) both.0 (behind_of (put_binary op second) (binary_ends op more)) in
      bracketed (weaker (begun_regrouped (term_words left) (binary_word op ∷ (term_words right ++ close_word ∷ [])) ws first))
  sound_term (Choice' place _ (more_of-Term test end_of-Term) _ (more_of-Term chosen end_of-Term) _ (more_of-Term other end_of-Term)) ws h b =
      let all = and_parts (is_printable_term test) (is_printable_term chosen && is_printable_term other) h in
      let both = and_parts (is_printable_term chosen) (is_printable_term other) all.1 in
      let last = begun_regrouped (term_words other) (close_word ∷ []) ws (sound_term other (close_word ∷ ws) both.1 (close_behind b)) in
      let else_words = name_at else_mark (codes "else") ∷ (term_words other ++ close_word ∷ []) in
      let second = begun_regrouped (term_words chosen) else_words ws (sound_term chosen (else_words ++ ws) both.0 (behind_of (put_word else_mark (codes "else") refl last) refl)) in
      let then_words = name_at then_mark (codes "then") ∷ (term_words chosen ++ else_words) in
      let first = begun_regrouped (term_words test) then_words ws (sound_term test (then_words ++ ws) all.0 (behind_of (put_word then_mark (codes "then") refl second) refl)) in
      bracketed (put_word if_mark (codes "if") refl first)
  sound_term (Call' path _ args) ws h b =
      let both = and_parts (is_plain_path path) (are_printable_terms args) h in
      let inner = sound_regrouped (argument_words [] args) (close_word ∷ []) ws (sound_arguments [] nothing_separates args (close_word ∷ ws) both.1 (close_behind b)) in
      let opened = put_open call_mark inner in
      begun_regrouped (path_words path) (sign_at call_mark (codes "(") ∷ (argument_words [] args ++ close_word ∷ [])) ws
      (sound_path path ((sign_at call_mark (codes "(") ∷ (argument_words [] args ++ close_word ∷ [])) ++ ws) both.0 (after_of opened refl))

  sound_arguments : {m : _} (before : List Spelled) → Separates before → (args : Row_of-Term m) (ws : List Spelled) → are_printable_terms args ≡ true → IsBehind ws → IsSound (argument_words before args ++ ws)
  sound_arguments before apart end_of-Term ws h b = record { line = b.line }
  sound_arguments before apart (more_of-Term t rest) ws h b =
      let both = and_parts (is_printable_term t) (are_printable_terms rest) h in
      let later = sound_arguments comma comma_separates rest ws both.1 b in
      let here = sound_term t (argument_words comma rest ++ ws) both.0 (behind_of later (arguments_end rest ws b.ends)) in
      sound_regrouped before (term_words t ++ argument_words comma rest) ws
      (apart.put ((term_words t ++ argument_words comma rest) ++ ws) (begun_regrouped (term_words t) (argument_words comma rest) ws here))
