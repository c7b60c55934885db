-- The expressions that fit tokens state have a canonical text.
use denote.Hole.Carrier.{hidden}
use Rattle.std.proofs.Common.{◌≡◌, ℕ, zero, suc, ◌^◌, Bool, true, false, ◌==◌, ◌&&◌, ◌||◌, not, if◌then◌else◌, List, [], ◌∷◌, ◌++◌, length, take, Option, Some, None, refl, sym, ap, subst, ◌∙◌, inl, inr, codes}
use Rattle.std.specs.Prelude.{slice_index_or, nat_le, pos}
use Rattle.std.specs.Char.{is_ascii_alphabetic}
use Rattle.std.specs.List.{list_all}
use Rattle.std.proofs.lemmas.Bool.{both_ways, cases_Bool, and_parts, and_from, not_from_false, not-true, eqb-true}
use Rattle.std.proofs.lemmas.List.Folds.{list_all-append}
use Rattle.ag_base.specs.declared.place.Place.{Place}
use Rattle.ag_lex.specs.declared.token.Token.{Token}
use Rattle.ag_lex.specs.declared.token.TokenKind.TheVariants.{Name as NameKind}
use Rattle.ag_lex.specs.Characters.{is_word_byte}
use Rattle.ag_lex.specs.Rules.{decimal}
use Rattle.ag_lex.specs.Spelling.{is_name}
use Rattle.ag_aadl.specs.declared.marked.Marked.{Marked}
use Rattle.ag_terms.specs.declared.names.Path.{Path}
use Rattle.ag_aadl.specs.Marked.{own}
use Rattle.ag_aadl.specs.Meaning.{joined, some_ident, path_of}
use Rattle.ag_aadl.specs.Names.{put_before, name_parts}
use Rattle.ag_annex.specs.declared.frames.Frame.{Frame}
use Rattle.ag_annex.specs.declared.frames.Frame.TheVariants as frame
use Rattle.ag_annex.specs.declared.frames.Operand.{Operand}
use Rattle.ag_annex.specs.declared.frames.Operand.TheVariants.{Nothing, Name, Whole}
use Rattle.ag_annex.specs.declared.frames.Reading.{Reading}
use Rattle.ag_terms.specs.declared.terms.Binary.{Binary}
use Rattle.ag_terms.specs.declared.terms.Binary.TheVariants.{Arrow}
use Rattle.ag_terms.specs.declared.terms.Term.{Term, Number, Truth, Row_of-Term, end_of-Term, more_of-Term, items-the_row-Term, items_hidden-the_row-Term-1}
use Rattle.ag_terms.specs.declared.terms.Term.TheBlock.{hidden-the_row-Term-0, hidden-the_row-Term-1}
use Rattle.ag_terms.specs.declared.terms.Term.TheViews as term
use Rattle.ag_terms.specs.declared.terms.Unary.{Unary}
use Rattle.ag_terms.specs.declared.terms.Unary.TheVariants as unary
use Rattle.ag_annex.specs.Clauses.{label_of}
use Rattle.ag_annex.specs.Expressions.{named, operand_term, ends_before, close_before, close_choice, behind_infix, close_all, with_last, behind_close, behind_comma, behind_test, behind_yes, behind_name, with_part, with_body, behind_operand, behind_opening, behind_other, read_token, unread, read_tokens, term_of}
use Rattle.ag_annex.specs.Marks.{negative_mark, not_mark, pre_mark, prev_mark, if_mark, then_mark, else_mark, number_mark, label_mark, true_mark, false_mark, group_mark, call_mark, argument_mark, close_mark, path_mark, part_mark, path_body_mark}
use Rattle.ag_annex.specs.Operators.{binary_of, rank, comparison}
use Rattle.ag_annex.specs.Terminals.{name}
use Rattle.ag_annex.specs.Words.{terminal_of}
use Rattle.ag_unparse.specs.Printable.{is_plain_name, is_plain_option, is_plain_path, is_label, is_printable_term, are_printable_terms}
use Rattle.ag_unparse.specs.Canonical.{package_parts}
use Rattle.ag_unparse.proofs.PrintableFitting.{is_name_mark, is_fit}

-- ---- the parts of a name

abbrev is_no_colon : ℕ → Bool
is_no_colon b = not (b == 58)

apart : (p : ℕ → Bool) (b : ℕ) → p 58 ≡ false → p b ≡ true → is_no_colon b ≡ true
apart p b none h =
    elim (cases_Bool (b == 58)) [
      | inl colon ↦ absurd (both_ways (p 58) none (subst (λ (z : ℕ). p z ≡ true) (eqb-true b 58 colon) h))
      | inr other ↦ not_from_false (b == 58) other
    ]

all_wider : {A : Type 0} (test wider : A → Bool) (xs : List A) → ((x : A) → test x ≡ true → wider x ≡ true) → list_all test xs ≡ true → list_all wider xs ≡ true
all_wider test wider [] up h = refl
all_wider test wider (x ∷ xs) up h =
    let parts = and_parts (test x) (list_all test xs) h in
    and_from (wider x) (list_all wider xs) (up x parts.0) (all_wider test wider xs up parts.1)

name_no_colon : (text : List ℕ) → is_name text ≡ true → list_all is_no_colon text ≡ true
name_no_colon [] h = refl
name_no_colon (b ∷ bs) h =
    let parts = and_parts (is_ascii_alphabetic b) (list_all is_word_byte bs) h in
    and_from (is_no_colon b) (list_all is_no_colon bs) (apart is_ascii_alphabetic b refl parts.0) (all_wider is_word_byte is_no_colon bs (λ (c : ℕ) (k : is_word_byte c ≡ true). apart is_word_byte c refl k) parts.1)

plain_no_colon : (text : List ℕ) → is_plain_name text ≡ true → list_all is_no_colon text ≡ true
plain_no_colon text h = name_no_colon text (and_parts (is_name text) (nat_le (length text) 255 && terminal_of NameKind text == name) h).0

byte_before : (b : ℕ) (text : List ℕ) → (b == 58) ≡ false → name_parts (b ∷ text) ≡ put_before b (name_parts text)
byte_before b [] h = refl
byte_before b (c ∷ cs) h = ap (λ (z : Bool). if z && c == 58 then [] ∷ name_parts cs else put_before b (name_parts (c ∷ cs))) h

one_part : (text : List ℕ) → list_all is_no_colon text ≡ true → name_parts text ≡ text ∷ []
one_part [] h = refl
one_part (b ∷ bs) h =
    let parts = and_parts (is_no_colon b) (list_all is_no_colon bs) h in
    byte_before b bs (not-true (b == 58) parts.0) ∙ ap (put_before b) (one_part bs parts.1)

first_part : (text rest : List ℕ) → list_all is_no_colon text ≡ true → name_parts (text ++ (codes "::" ++ rest)) ≡ text ∷ name_parts rest
first_part [] rest h = refl
first_part (b ∷ bs) rest h =
    let parts = and_parts (is_no_colon b) (list_all is_no_colon bs) h in
    byte_before b (bs ++ (codes "::" ++ rest)) (not-true (b == 58) parts.0) ∙ ap (put_before b) (first_part bs rest parts.1)

-- a token with plain bytes
abbrev pub is_plain : List ℕ → Token → Bool
is_plain bytes t = is_plain_name (own bytes t)

joined_plain : (bytes : List ℕ) (t : Token) (ts : List Token) → list_all (is_plain bytes) (t ∷ ts) ≡ true → list_all is_plain_name (name_parts (joined bytes (t ∷ ts))) ≡ true
joined_plain bytes t [] h =
    let one = and_parts (is_plain bytes t) true h in
    subst (λ (z : List (List ℕ)). list_all is_plain_name z ≡ true) (sym (one_part (own bytes t) (plain_no_colon (own bytes t) one.0))) h
joined_plain bytes t (u ∷ ts) h =
    let parts = and_parts (is_plain bytes t) (list_all (is_plain bytes) (u ∷ ts)) h in
    let rest = joined bytes (u ∷ ts) in
    let split = first_part (own bytes t) rest (plain_no_colon (own bytes t) parts.0) in
    subst (λ (z : List (List ℕ)). list_all is_plain_name z ≡ true) (sym split) (and_from (is_plain bytes t) (list_all is_plain_name (name_parts rest)) parts.0 (joined_plain bytes u ts parts.1))

take_all : {A : Type 0} (p : A → Bool) (n : ℕ) (xs : List A) → list_all p xs ≡ true → list_all p (take n xs) ≡ true
take_all p zero xs h = refl
take_all p (suc n) [] h = refl
take_all p (suc n) (x ∷ xs) h =
    let parts = and_parts (p x) (list_all p xs) h in
    and_from (p x) (list_all p (take n xs)) parts.0 (take_all p n xs parts.1)

index_all : {A : Type 0} (p : A → Bool) (xs : List A) (i : ℕ) (d : A) → list_all p xs ≡ true → p d ≡ true → p (slice_index_or xs i d) ≡ true
index_all p [] i d h e = e
index_all p (x ∷ xs) zero d h e = (and_parts (p x) (list_all p xs) h).0
index_all p (x ∷ xs) (suc i) d h e = index_all p xs i d (and_parts (p x) (list_all p xs) h).1 e

owner_plain : (bytes : List ℕ) (ts : List Token) → list_all (is_plain bytes) ts ≡ true → list_all is_plain_name (package_parts (some_ident bytes ts)) ≡ true
owner_plain bytes [] h = refl
owner_plain bytes (t ∷ ts) h = joined_plain bytes t ts h

body_plain : (bytes : List ℕ) (ts : List Token) → list_all (is_plain bytes) ts ≡ true → is_plain_option (some_ident bytes (take 1 ts)) ≡ true
body_plain bytes [] h = refl
body_plain bytes (t ∷ ts) h = (and_parts (is_plain bytes t) (list_all (is_plain bytes) ts) h).0

-- a path, if there is one
abbrev is_plain_found : Option Path → Bool
is_plain_found None = true
is_plain_found (Some p) = is_plain_path p

path_plain : (bytes : List ℕ) (ts bodies : List Token) → list_all (is_plain bytes) ts ≡ true → list_all (is_plain bytes) bodies ≡ true → is_plain_found (path_of bytes ts bodies) ≡ true
path_plain bytes [] bodies h e = refl
path_plain bytes (t ∷ ts) bodies h e =
    let owner = some_ident bytes (take (length ts) (t ∷ ts)) in
    let last = slice_index_or (t ∷ ts) (length ts) t in
    let body = some_ident bytes (take 1 bodies) in
    let first = (and_parts (is_plain bytes t) (list_all (is_plain bytes) ts) h).0 in
    and_from (list_all is_plain_name (package_parts owner)) (is_plain bytes last && is_plain_option body) (owner_plain bytes (take (length ts) (t ∷ ts)) (take_all (is_plain bytes) (length ts) (t ∷ ts) h))
    (and_from (is_plain bytes last) (is_plain_option body) (index_all (is_plain bytes) (t ∷ ts) (length ts) t h first) (body_plain bytes bodies e))

-- ---- expressions of expressions

printable_unary : (op : Unary) (place : Place) (t : Term) → is_printable_term t ≡ true → is_printable_term (term.Unary op place t) ≡ true
unfolding hidden-the_row-Term-0 hidden
printable_unary op place t h = h

printable_binary : (op : Binary) (place : Place) (t u : Term) → is_printable_term t ≡ true → is_printable_term u ≡ true → is_printable_term (term.Binary op place t u) ≡ true
unfolding hidden-the_row-Term-0 hidden
printable_binary op place t u h g = and_from (is_printable_term t) (is_printable_term u) h g

printable_choice : (place : Place) (t u v : Term) → is_printable_term t ≡ true → is_printable_term u ≡ true → is_printable_term v ≡ true → is_printable_term (term.Choice place t u v) ≡ true
unfolding hidden-the_row-Term-0 hidden
printable_choice place t u v f g h = and_from (is_printable_term t) (is_printable_term u && is_printable_term v) f (and_from (is_printable_term u) (is_printable_term v) g h)

printable_items : {n : _} (row : Row_of-Term n) → are_printable_terms row ≡ list_all is_printable_term (items-the_row-Term n row)
printable_items end_of-Term = refl
printable_items (more_of-Term t rest) = ap (λ (z : Bool). is_printable_term t && z) (printable_items rest)

printable_call : (p : Path) (ts : List Term) → is_plain_path p ≡ true → list_all is_printable_term ts ≡ true → is_printable_term (term.Call p ts) ≡ true
printable_call p ts h g =
    and_from (is_plain_path p) (are_printable_terms (hidden-the_row-Term-1 ts)) h
    (printable_items (hidden-the_row-Term-1 ts) ∙ ap (list_all is_printable_term) (items_hidden-the_row-Term-1 ts) ∙ g)

-- ---- what waits

abbrev good_frame : Frame → Bool
good_frame frame.Group = true
good_frame (frame.Pre place) = true
good_frame (frame.Prev place) = true
good_frame (frame.Start place arg) = is_printable_term arg
good_frame (frame.Call path args) = is_plain_path path && list_all is_printable_term args
good_frame (frame.Test place) = true
good_frame (frame.Yes place test) = is_printable_term test
good_frame (frame.No place test chosen) = is_printable_term test && is_printable_term chosen
good_frame (frame.Prefix op place) = true
good_frame (frame.Infix op place left) = is_printable_term left

abbrev Good : List Frame → Type 0
Good frames = list_all good_frame frames ≡ true

abbrev GoodOperand : List ℕ → Operand → Type 0
GoodOperand bytes Nothing = Unit {0}
GoodOperand bytes (Name parts bodies) = (list_all (is_plain bytes) parts ≡ true) × (list_all (is_plain bytes) bodies ≡ true)
GoodOperand bytes (Whole t) = is_printable_term t ≡ true

record GoodReading (bytes : List ℕ) (r : Reading) : Type 0 where
  frames : Good r.frames
  operand : GoodOperand bytes r.operand

record GoodClosed (p : List Frame × Term) : Type 0 where
  frames : Good p.0
  last : is_printable_term p.1 ≡ true

named_good : (o : Option Path) → is_plain_found o ≡ true → is_printable_term (named o) ≡ true
named_good None h = refl
named_good (Some p) h = h

operand_good : (bytes : List ℕ) (o : Operand) → GoodOperand bytes o → is_printable_term (operand_term bytes o) ≡ true
operand_good bytes Nothing h = refl
operand_good bytes (Name parts bodies) h = named_good (path_of bytes parts bodies) (path_plain bytes parts bodies h.0 h.1)
operand_good bytes (Whole t) h = h

either_closed : (c : Bool) (p q : List Frame × Term) → GoodClosed p → GoodClosed q → GoodClosed (if c then p else q)
either_closed true p q g h = g
either_closed false p q g h = h

closed : (frames : List Frame) (t : Term) → Good frames → is_printable_term t ≡ true → GoodClosed (frames, t)
closed frames t g h = record { frames = g; last = h }

tail_good : (f : Frame) (frames : List Frame) → Good (f ∷ frames) → (good_frame f ≡ true) × Good frames
tail_good f frames g = and_parts (good_frame f) (list_all good_frame frames) g

mutual
  before_good : (r : ℕ) (frames : List Frame) (t : Term) → Good frames → is_printable_term t ≡ true → GoodClosed (close_before r frames t)
  before_good r [] t g h = closed [] t g h
  before_good r (frame.Prefix op place ∷ frames) t g h = before_good r frames (term.Unary op place t) (tail_good (frame.Prefix op place) frames g).1 (printable_unary op place t h)
  before_good r (frame.Infix op place left ∷ frames) t g h =
      let parts = tail_good (frame.Infix op place left) frames g in
      let whole = term.Binary op place left t in
      let one = printable_binary op place left t parts.0 h in
      either_closed (ends_before op r) (if r == comparison && rank op == comparison then close_choice r frames whole else close_before r frames whole) (frame.Infix op place left ∷ frames, t)
      (either_closed (r == comparison && rank op == comparison) (close_choice r frames whole) (close_before r frames whole) (choice_good r frames whole parts.1 one) (before_good r frames whole parts.1 one))
      (closed (frame.Infix op place left ∷ frames) t g h)
  before_good r (frame.Group ∷ frames) t g h = closed (frame.Group ∷ frames) t g h
  before_good r (frame.Pre place ∷ frames) t g h = closed (frame.Pre place ∷ frames) t g h
  before_good r (frame.Prev place ∷ frames) t g h = closed (frame.Prev place ∷ frames) t g h
  before_good r (frame.Start place arg ∷ frames) t g h = closed (frame.Start place arg ∷ frames) t g h
  before_good r (frame.Call path args ∷ frames) t g h = closed (frame.Call path args ∷ frames) t g h
  before_good r (frame.Test place ∷ frames) t g h = closed (frame.Test place ∷ frames) t g h
  before_good r (frame.Yes place test ∷ frames) t g h = closed (frame.Yes place test ∷ frames) t g h
  before_good r (frame.No place test chosen ∷ frames) t g h = closed (frame.No place test chosen ∷ frames) t g h

  choice_good : (r : ℕ) (frames : List Frame) (t : Term) → Good frames → is_printable_term t ≡ true → GoodClosed (close_choice r frames t)
  choice_good r [] t g h = closed [] t g h
  choice_good r (frame.Prefix op place ∷ frames) t g h = choice_good r frames (term.Unary op place t) (tail_good (frame.Prefix op place) frames g).1 (printable_unary op place t h)
  choice_good r (frame.Infix op place left ∷ frames) t g h =
      let parts = tail_good (frame.Infix op place left) frames g in
      choice_good r frames (term.Binary op place left t) parts.1 (printable_binary op place left t parts.0 h)
  choice_good r (frame.No place test chosen ∷ frames) t g h =
      let parts = tail_good (frame.No place test chosen) frames g in
      let both = and_parts (is_printable_term test) (is_printable_term chosen) parts.0 in
      before_good r frames (term.Choice place test chosen t) parts.1 (printable_choice place test chosen t both.0 both.1 h)
  choice_good r (frame.Group ∷ frames) t g h = closed (frame.Group ∷ frames) t g h
  choice_good r (frame.Pre place ∷ frames) t g h = closed (frame.Pre place ∷ frames) t g h
  choice_good r (frame.Prev place ∷ frames) t g h = closed (frame.Prev place ∷ frames) t g h
  choice_good r (frame.Start place arg ∷ frames) t g h = closed (frame.Start place arg ∷ frames) t g h
  choice_good r (frame.Call path args ∷ frames) t g h = closed (frame.Call path args ∷ frames) t g h
  choice_good r (frame.Test place ∷ frames) t g h = closed (frame.Test place ∷ frames) t g h
  choice_good r (frame.Yes place test ∷ frames) t g h = closed (frame.Yes place test ∷ frames) t g h

all_good : (frames : List Frame) (t : Term) → Good frames → is_printable_term t ≡ true → GoodClosed (close_all frames t)
all_good [] t g h = closed [] t g h
all_good (frame.Prefix op place ∷ frames) t g h = all_good frames (term.Unary op place t) (tail_good (frame.Prefix op place) frames g).1 (printable_unary op place t h)
all_good (frame.Infix op place left ∷ frames) t g h =
    let parts = tail_good (frame.Infix op place left) frames g in
    all_good frames (term.Binary op place left t) parts.1 (printable_binary op place left t parts.0 h)
all_good (frame.No place test chosen ∷ frames) t g h =
    let parts = tail_good (frame.No place test chosen) frames g in
    let both = and_parts (is_printable_term test) (is_printable_term chosen) parts.0 in
    all_good frames (term.Choice place test chosen t) parts.1 (printable_choice place test chosen t both.0 both.1 h)
all_good (frame.Group ∷ frames) t g h = closed (frame.Group ∷ frames) t g h
all_good (frame.Pre place ∷ frames) t g h = closed (frame.Pre place ∷ frames) t g h
all_good (frame.Prev place ∷ frames) t g h = closed (frame.Prev place ∷ frames) t g h
all_good (frame.Start place arg ∷ frames) t g h = closed (frame.Start place arg ∷ frames) t g h
all_good (frame.Call path args ∷ frames) t g h = closed (frame.Call path args ∷ frames) t g h
all_good (frame.Test place ∷ frames) t g h = closed (frame.Test place ∷ frames) t g h
all_good (frame.Yes place test ∷ frames) t g h = closed (frame.Yes place test ∷ frames) t g h

-- ---- behind one token

one_more : {A : Type 0} (p : A → Bool) (xs : List A) (x : A) → list_all p xs ≡ true → p x ≡ true → list_all p (xs ++ x ∷ []) ≡ true
one_more p xs x g h = list_all-append p xs (x ∷ []) ∙ and_from (list_all p xs) (p x && true) g (and_from (p x) true h refl)

last_good : (args : List Term) (o : Operand) (t : Term) → list_all is_printable_term args ≡ true → is_printable_term t ≡ true → list_all is_printable_term (with_last args o t) ≡ true
last_good args Nothing t g h = g
last_good args (Name parts bodies) t g h = one_more is_printable_term args t g h
last_good args (Whole u) t g h = one_more is_printable_term args t g h

whole_good : (bytes : List ℕ) (frames : List Frame) (t : Term) → Good frames → is_printable_term t ≡ true → GoodReading bytes (record { frames = frames; operand = Whole t })
whole_good bytes frames t g h = record { frames = g; operand = h }

waits : (bytes : List ℕ) (frames : List Frame) → Good frames → GoodReading bytes (record { frames = frames; operand = Nothing })
waits bytes frames g = record { frames = g; operand = tt }

close_good : (bytes : List ℕ) (o : Operand) (frames : List Frame) (t : Term) → Good frames → is_printable_term t ≡ true → GoodReading bytes (behind_close o (frames, t))
close_good bytes o [] t g h = whole_good bytes [] t g h
close_good bytes o (frame.Group ∷ frames) t g h = whole_good bytes frames t (tail_good frame.Group frames g).1 h
close_good bytes o (frame.Pre place ∷ frames) t g h = whole_good bytes frames (term.Unary unary.Pre place t) (tail_good (frame.Pre place) frames g).1 (printable_unary unary.Pre place t h)
close_good bytes o (frame.Start place arg ∷ frames) t g h =
    let parts = tail_good (frame.Start place arg) frames g in
    whole_good bytes frames (term.Binary Arrow place t (term.Unary unary.Pre place arg)) parts.1 (printable_binary Arrow place t (term.Unary unary.Pre place arg) h (printable_unary unary.Pre place arg parts.0))
close_good bytes o (frame.Call path args ∷ frames) t g h =
    let parts = tail_good (frame.Call path args) frames g in
    let both = and_parts (is_plain_path path) (list_all is_printable_term args) parts.0 in
    whole_good bytes frames (term.Call path (with_last args o t)) parts.1 (printable_call path (with_last args o t) both.0 (last_good args o t both.1 h))
close_good bytes o (frame.Prev place ∷ frames) t g h = whole_good bytes (frame.Prev place ∷ frames) t g h
close_good bytes o (frame.Test place ∷ frames) t g h = whole_good bytes (frame.Test place ∷ frames) t g h
close_good bytes o (frame.Yes place test ∷ frames) t g h = whole_good bytes (frame.Yes place test ∷ frames) t g h
close_good bytes o (frame.No place test chosen ∷ frames) t g h = whole_good bytes (frame.No place test chosen ∷ frames) t g h
close_good bytes o (frame.Prefix op place ∷ frames) t g h = whole_good bytes (frame.Prefix op place ∷ frames) t g h
close_good bytes o (frame.Infix op place left ∷ frames) t g h = whole_good bytes (frame.Infix op place left ∷ frames) t g h

comma_good : (bytes : List ℕ) (frames : List Frame) (t : Term) → Good frames → is_printable_term t ≡ true → GoodReading bytes (behind_comma (frames, t))
comma_good bytes [] t g h = waits bytes [] g
comma_good bytes (frame.Prev place ∷ frames) t g h = waits bytes (frame.Start place t ∷ frames) (and_from (is_printable_term t) (list_all good_frame frames) h (tail_good (frame.Prev place) frames g).1)
comma_good bytes (frame.Call path args ∷ frames) t g h =
    let parts = tail_good (frame.Call path args) frames g in
    let both = and_parts (is_plain_path path) (list_all is_printable_term args) parts.0 in
    let more = args ++ t ∷ [] in
    waits bytes (frame.Call path more ∷ frames)
    (and_from (is_plain_path path && list_all is_printable_term more) (list_all good_frame frames) (and_from (is_plain_path path) (list_all is_printable_term more) both.0 (one_more is_printable_term args t both.1 h)) parts.1)
comma_good bytes (frame.Group ∷ frames) t g h = waits bytes (frame.Group ∷ frames) g
comma_good bytes (frame.Pre place ∷ frames) t g h = waits bytes (frame.Pre place ∷ frames) g
comma_good bytes (frame.Start place arg ∷ frames) t g h = waits bytes (frame.Start place arg ∷ frames) g
comma_good bytes (frame.Test place ∷ frames) t g h = waits bytes (frame.Test place ∷ frames) g
comma_good bytes (frame.Yes place test ∷ frames) t g h = waits bytes (frame.Yes place test ∷ frames) g
comma_good bytes (frame.No place test chosen ∷ frames) t g h = waits bytes (frame.No place test chosen ∷ frames) g
comma_good bytes (frame.Prefix op place ∷ frames) t g h = waits bytes (frame.Prefix op place ∷ frames) g
comma_good bytes (frame.Infix op place left ∷ frames) t g h = waits bytes (frame.Infix op place left ∷ frames) g

test_good : (bytes : List ℕ) (frames : List Frame) (t : Term) → Good frames → is_printable_term t ≡ true → GoodReading bytes (behind_test (frames, t))
test_good bytes [] t g h = waits bytes [] g
test_good bytes (frame.Test place ∷ frames) t g h = waits bytes (frame.Yes place t ∷ frames) (and_from (is_printable_term t) (list_all good_frame frames) h (tail_good (frame.Test place) frames g).1)
test_good bytes (frame.Group ∷ frames) t g h = waits bytes (frame.Group ∷ frames) g
test_good bytes (frame.Pre place ∷ frames) t g h = waits bytes (frame.Pre place ∷ frames) g
test_good bytes (frame.Prev place ∷ frames) t g h = waits bytes (frame.Prev place ∷ frames) g
test_good bytes (frame.Start place arg ∷ frames) t g h = waits bytes (frame.Start place arg ∷ frames) g
test_good bytes (frame.Call path args ∷ frames) t g h = waits bytes (frame.Call path args ∷ frames) g
test_good bytes (frame.Yes place test ∷ frames) t g h = waits bytes (frame.Yes place test ∷ frames) g
test_good bytes (frame.No place test chosen ∷ frames) t g h = waits bytes (frame.No place test chosen ∷ frames) g
test_good bytes (frame.Prefix op place ∷ frames) t g h = waits bytes (frame.Prefix op place ∷ frames) g
test_good bytes (frame.Infix op place left ∷ frames) t g h = waits bytes (frame.Infix op place left ∷ frames) g

yes_good : (bytes : List ℕ) (frames : List Frame) (t : Term) → Good frames → is_printable_term t ≡ true → GoodReading bytes (behind_yes (frames, t))
yes_good bytes [] t g h = waits bytes [] g
yes_good bytes (frame.Yes place test ∷ frames) t g h =
    let parts = tail_good (frame.Yes place test) frames g in
    waits bytes (frame.No place test t ∷ frames) (and_from (is_printable_term test && is_printable_term t) (list_all good_frame frames) (and_from (is_printable_term test) (is_printable_term t) parts.0 h) parts.1)
yes_good bytes (frame.Group ∷ frames) t g h = waits bytes (frame.Group ∷ frames) g
yes_good bytes (frame.Pre place ∷ frames) t g h = waits bytes (frame.Pre place ∷ frames) g
yes_good bytes (frame.Prev place ∷ frames) t g h = waits bytes (frame.Prev place ∷ frames) g
yes_good bytes (frame.Start place arg ∷ frames) t g h = waits bytes (frame.Start place arg ∷ frames) g
yes_good bytes (frame.Call path args ∷ frames) t g h = waits bytes (frame.Call path args ∷ frames) g
yes_good bytes (frame.Test place ∷ frames) t g h = waits bytes (frame.Test place ∷ frames) g
yes_good bytes (frame.No place test chosen ∷ frames) t g h = waits bytes (frame.No place test chosen ∷ frames) g
yes_good bytes (frame.Prefix op place ∷ frames) t g h = waits bytes (frame.Prefix op place ∷ frames) g
yes_good bytes (frame.Infix op place left ∷ frames) t g h = waits bytes (frame.Infix op place left ∷ frames) g

call_good : (bytes : List ℕ) (frames : List Frame) (o : Operand) → Good frames → GoodOperand bytes o → GoodReading bytes (behind_name bytes frames o)
call_good bytes frames Nothing g h = waits bytes frames g
call_good bytes frames (Whole t) g h = waits bytes frames g
call_good bytes frames (Name parts bodies) g h = go (path_of bytes parts bodies) (path_plain bytes parts bodies h.0 h.1)
  where
    go : (found : Option Path) → is_plain_found found ≡ true → GoodReading bytes (elim found [ None ↦ record { frames = frames; operand = Nothing } | Some path ↦ record { frames = frame.Call path [] ∷ frames; operand = Nothing } ])
    go None e = waits bytes frames g
    go (Some path) e = waits bytes (frame.Call path [] ∷ frames) (and_from (is_plain_path path && true) (list_all good_frame frames) (and_from (is_plain_path path) true e refl) g)

part_good : (bytes : List ℕ) (o : Operand) (t : Token) → GoodOperand bytes o → is_plain bytes t ≡ true → GoodOperand bytes (with_part o t)
part_good bytes Nothing t h e = h
part_good bytes (Whole u) t h e = h
part_good bytes (Name parts bodies) t h e = (one_more (is_plain bytes) parts t h.0 e, h.1)

body_good : (bytes : List ℕ) (o : Operand) (t : Token) → GoodOperand bytes o → is_plain bytes t ≡ true → GoodOperand bytes (with_body o t)
body_good bytes Nothing t h e = h
body_good bytes (Whole u) t h e = h
body_good bytes (Name parts bodies) t h e = (h.0, one_more (is_plain bytes) bodies t h.1 e)

choose : (bytes : List ℕ) (c : Bool) (a b : Reading) → (c ≡ true → GoodReading bytes a) → GoodReading bytes b → GoodReading bytes (if c then a else b)
choose bytes true a b f g = f refl
choose bytes false a b f g = g

given : (a b : Bool) → (not a || b) ≡ true → a ≡ true → b ≡ true
given true b h e = h
given false b h e = absurd cc

-- what a fit token is, by its mark
record Told (bytes : List ℕ) (m : Marked) : Type 0 where
  named : is_name_mark m.mark ≡ true → is_plain bytes m.token ≡ true
  small : (m.mark == number_mark) ≡ true → nat_le (decimal (own bytes m.token)) (2 ^ 47) ≡ true

told : (bytes : List ℕ) (m : Marked) → is_fit bytes m ≡ true → Told bytes m
told bytes m h =
    let a = and_parts (not (is_name_mark m.mark) || is_plain_name (own bytes m.token)) ((not (m.mark == number_mark) || nat_le (decimal (own bytes m.token)) (2 ^ 47)) && (not (m.mark == label_mark) || is_label (label_of bytes m.token))) h in
    let b = and_parts (not (m.mark == number_mark) || nat_le (decimal (own bytes m.token)) (2 ^ 47)) (not (m.mark == label_mark) || is_label (label_of bytes m.token)) a.1 in
    record { named = given (is_name_mark m.mark) (is_plain bytes m.token) a.0; small = given (m.mark == number_mark) (nat_le (decimal (own bytes m.token)) (2 ^ 47)) b.0 }

named_by : (k j : ℕ) → is_name_mark j ≡ true → (k == j) ≡ true → is_name_mark k ≡ true
named_by k j h e = subst (λ (z : ℕ). is_name_mark z ≡ true) (sym (eqb-true k j e)) h

operand_token : (bytes : List ℕ) (r : Reading) (m : Marked) → GoodReading bytes r → Told bytes m → GoodReading bytes (behind_operand bytes r m)
operand_token bytes r m g t =
    choose bytes (m.mark == number_mark) (record { frames = r.frames; operand = Whole (Number (pos (decimal (own bytes m.token))) m.token.place) }) _ (λ (e : (m.mark == number_mark) ≡ true). record { frames = g.frames; operand = t.small e })
    (choose bytes (m.mark == true_mark) (record { frames = r.frames; operand = Whole (Truth true m.token.place) }) _ (λ (e : (m.mark == true_mark) ≡ true). record { frames = g.frames; operand = refl })
    (choose bytes (m.mark == false_mark) (record { frames = r.frames; operand = Whole (Truth false m.token.place) }) _ (λ (e : (m.mark == false_mark) ≡ true). record { frames = g.frames; operand = refl })
    (choose bytes (m.mark == path_mark) (record { frames = r.frames; operand = Name (m.token ∷ []) [] }) _
    (λ (e : (m.mark == path_mark) ≡ true). record { frames = g.frames; operand = (and_from (is_plain bytes m.token) true (t.named (named_by m.mark path_mark refl e)) refl, refl) })
    (choose bytes (m.mark == part_mark) (record { frames = r.frames; operand = with_part r.operand m.token }) _
    (λ (e : (m.mark == part_mark) ≡ true). record { frames = g.frames; operand = part_good bytes r.operand m.token g.operand (t.named (named_by m.mark part_mark refl e)) })
    (choose bytes (m.mark == path_body_mark) (record { frames = r.frames; operand = with_body r.operand m.token }) r
    (λ (e : (m.mark == path_body_mark) ≡ true). record { frames = g.frames; operand = body_good bytes r.operand m.token g.operand (t.named (named_by m.mark path_body_mark refl e)) }) g)))))

opening_token : (bytes : List ℕ) (r : Reading) (m : Marked) → GoodReading bytes r → Told bytes m → GoodReading bytes (behind_opening bytes r m)
opening_token bytes r m g t =
    choose bytes (m.mark == negative_mark) (record { frames = frame.Prefix unary.Minus m.token.place ∷ r.frames; operand = Nothing }) _ (λ (e : (m.mark == negative_mark) ≡ true). waits bytes (frame.Prefix unary.Minus m.token.place ∷ r.frames) g.frames)
    (choose bytes (m.mark == not_mark) (record { frames = frame.Prefix unary.Not m.token.place ∷ r.frames; operand = Nothing }) _ (λ (e : (m.mark == not_mark) ≡ true). waits bytes (frame.Prefix unary.Not m.token.place ∷ r.frames) g.frames)
    (choose bytes (m.mark == group_mark) (record { frames = frame.Group ∷ r.frames; operand = Nothing }) _ (λ (e : (m.mark == group_mark) ≡ true). waits bytes (frame.Group ∷ r.frames) g.frames)
    (choose bytes (m.mark == pre_mark) (record { frames = frame.Pre m.token.place ∷ r.frames; operand = Nothing }) _ (λ (e : (m.mark == pre_mark) ≡ true). waits bytes (frame.Pre m.token.place ∷ r.frames) g.frames)
    (choose bytes (m.mark == prev_mark) (record { frames = frame.Prev m.token.place ∷ r.frames; operand = Nothing }) _ (λ (e : (m.mark == prev_mark) ≡ true). waits bytes (frame.Prev m.token.place ∷ r.frames) g.frames)
    (choose bytes (m.mark == call_mark) (behind_name bytes r.frames r.operand) _ (λ (e : (m.mark == call_mark) ≡ true). call_good bytes r.frames r.operand g.frames g.operand)
    (choose bytes (m.mark == if_mark) (record { frames = frame.Test m.token.place ∷ r.frames; operand = Nothing }) (behind_operand bytes r m) (λ (e : (m.mark == if_mark) ≡ true). waits bytes (frame.Test m.token.place ∷ r.frames) g.frames)
    (operand_token bytes r m g t)))))))

other_token : (bytes : List ℕ) (r : Reading) (m : Marked) → GoodReading bytes r → Told bytes m → GoodReading bytes (behind_other bytes r m)
other_token bytes r m g t =
    let last = operand_term bytes r.operand in
    let c = all_good r.frames last g.frames (operand_good bytes r.operand g.operand) in
    let p = close_all r.frames last in
    choose bytes (m.mark == close_mark) (behind_close r.operand p) _ (λ (e : (m.mark == close_mark) ≡ true). close_good bytes r.operand p.0 p.1 c.frames c.last)
    (choose bytes (m.mark == argument_mark) (behind_comma p) _ (λ (e : (m.mark == argument_mark) ≡ true). comma_good bytes p.0 p.1 c.frames c.last)
    (choose bytes (m.mark == then_mark) (behind_test p) _ (λ (e : (m.mark == then_mark) ≡ true). test_good bytes p.0 p.1 c.frames c.last)
    (choose bytes (m.mark == else_mark) (behind_yes p) (behind_opening bytes r m) (λ (e : (m.mark == else_mark) ≡ true). yes_good bytes p.0 p.1 c.frames c.last)
    (opening_token bytes r m g t))))

token_good : (bytes : List ℕ) (r : Reading) (m : Marked) → GoodReading bytes r → Told bytes m → GoodReading bytes (read_token bytes r m)
token_good bytes r m g t = go (binary_of m.mark)
  where
    infix_good : (op : Binary) (p : List Frame × Term) → GoodClosed p → GoodReading bytes (behind_infix op m.token.place p)
    infix_good op p c = waits bytes (frame.Infix op m.token.place p.1 ∷ p.0) (and_from (is_printable_term p.1) (list_all good_frame p.0) c.last c.frames)

    go : (o : Option Binary) → GoodReading bytes (elim o [ None ↦ behind_other bytes r m | Some op ↦ behind_infix op m.token.place (close_before (rank op) r.frames (operand_term bytes r.operand)) ])
    go None = other_token bytes r m g t
    go (Some op) = infix_good op (close_before (rank op) r.frames (operand_term bytes r.operand)) (before_good (rank op) r.frames (operand_term bytes r.operand) g.frames (operand_good bytes r.operand g.operand))

-- ---- all tokens

tokens_good : (bytes : List ℕ) (ms : List Marked) (r : Reading) → GoodReading bytes r → list_all (is_fit bytes) ms ≡ true → GoodReading bytes (read_tokens bytes r ms)
tokens_good bytes [] r g h = g
tokens_good bytes (m ∷ ms) r g h =
    let parts = and_parts (is_fit bytes m) (list_all (is_fit bytes) ms) h in
    tokens_good bytes ms (read_token bytes r m) (token_good bytes r m g (told bytes m parts.0)) parts.1

pub term_printable : (bytes : List ℕ) (ms : List Marked) → list_all (is_fit bytes) ms ≡ true → is_printable_term (term_of bytes ms) ≡ true
term_printable bytes ms h =
    let r = read_tokens bytes unread ms in
    let g = tokens_good bytes ms unread (record { frames = refl; operand = tt }) h in
    (all_good r.frames (operand_term bytes r.operand) g.frames (operand_good bytes r.operand g.operand)).last
