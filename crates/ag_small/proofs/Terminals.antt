-- A terminal that stands at the front is what reading finds there, and nothing else.
use Rattle.std.proofs.Common.{◌≡◌, ℕ, Bool, true, false, not, ◌&&◌, ◌||◌, cond, eqb, ltb, leb, lit<, List, [], ◌∷◌, ◌++◌, length, get_or, take, drop, Some, None, refl, sym, ap, subst, ◌∙◌, append_assoc, arith}
use Rattle.std.specs.Prelude.{IsTrue, codes}
use Rattle.std.specs.Char.{to_ascii_lowercase, is_ascii_alphabetic}
use Rattle.std.specs.List.{prefix_len, list_all, list_any}
use Rattle.std.proofs.lemmas.Bool.{and_parts, and_from, not-true, or_parts, not_from_false, le-ltb, eqb-false, eqb-true, both_ways}
use Rattle.std.proofs.lemmas.Bool.Decides.{nat_tests}
use Rattle.std.proofs.lemmas.Slice.Eq.{bytes_eq-Decides}
use Rattle.std.proofs.lemmas.List.{take_at, drop_at, take-append-drop, length-append, length-map}
use Rattle.ag_small.specs.Characters.{is_space, is_word_byte, is_label_byte, is_quote, begins, folded, same, is_name, is_reserved, aadl_words, annex_words}
use Rattle.ag_small.specs.Grammar.{Terminal, Fixed, Name, Label, Stands}
use Rattle.ag_small.specs.Reading.{after_space, fixed_at, name_at, label_at}
use Rattle.ag_small.proofs.Tools.{bind_some, guard_some, guard_rest, none_from, prefix_len-front, list_all-take, begins-drop, same_front, list_any_false}

skipped : (b : List ℕ) → (gap : List ℕ) × (list_all is_space gap ≡ true) × (b ≡ gap ++ after_space b)
unfolding after_space
skipped b = (take (prefix_len is_space b) b, list_all-take is_space b, sym (take-append-drop (prefix_len is_space b) b))

after_space-append : (gap rest : List ℕ) → list_all is_space gap ≡ true → begins is_space rest ≡ false → after_space (gap ++ rest) ≡ rest
unfolding after_space
after_space-append gap rest white stop = rw (prefix_len-front is_space gap rest white stop) (drop_at gap rest (length gap) refl)

pub same_is : (a b : List ℕ) → same a b ≡ true → folded a ≡ folded b
unfolding same
same_is a b h = (bytes_eq-Decides (folded a) (folded b)).0 h

pub is_same : (a b : List ℕ) → folded a ≡ folded b → same a b ≡ true
unfolding same
is_same a b h = (bytes_eq-Decides (folded a) (folded b)).1 h

-- whether a text begins with what is no white space
abbrev pub visible : List ℕ → Bool
visible [] = false
visible (c ∷ cs) = not (is_space c)

visible_begins : (xs ys : List ℕ) → visible xs ≡ true → begins is_space (xs ++ ys) ≡ false
visible_begins [] ys v = absurd cc
visible_begins (x ∷ xs) ys v = not-true (is_space x) v

space_fold : (o c : ℕ) → to_ascii_lowercase o ≡ to_ascii_lowercase c → is_space c ≡ false → is_space o ≡ false
space_fold o c e h = grind (arith, nat_tests)

word_fold : (o c : ℕ) → to_ascii_lowercase o ≡ to_ascii_lowercase c → is_word_byte c ≡ true → is_word_byte o ≡ true
word_fold o c e h = grind (arith, nat_tests)

letter_fold : (o c : ℕ) → to_ascii_lowercase o ≡ to_ascii_lowercase c → is_ascii_alphabetic c ≡ true → is_ascii_alphabetic o ≡ true
letter_fold o c e h = grind (arith, nat_tests)

letter_is_word : (c : ℕ) → is_ascii_alphabetic c ≡ true → is_space c ≡ false
letter_is_word c h = grind (arith, nat_tests)

visible_same : (own text : List ℕ) → folded own ≡ folded text → visible text ≡ true → visible own ≡ true
visible_same own [] e v = absurd cc
visible_same [] (c ∷ cs) e v = absurd cc
visible_same (o ∷ os) (c ∷ cs) e v =
    let h : to_ascii_lowercase o ≡ to_ascii_lowercase c = cc in
    not_from_false (is_space o) (space_fold o c h (not-true (is_space c) v))

here_is : (t : Terminal) (b r : List ℕ) (s : Stands t b r) → visible s.own ≡ true → after_space b ≡ s.own ++ r
here_is t b r s v = ap after_space s.parts ∙ after_space-append s.gap (s.own ++ r) s.white (visible_begins s.own r v)

-- ---- fixed texts

pub fixed_stands : (text b r : List ℕ) → fixed_at text b ≡ Some r → Stands (Fixed text) b r
unfolding fixed_at
fixed_stands text b r e =
    let here = after_space b in
    let n = length text in
    let own = take n here in
    let rest = drop n here in
    let whole = not (begins is_ascii_alphabetic own && begins is_word_byte rest) in
    let g = guard_rest (ltb (length here) n) (cond (same own text && whole) (Some rest) None) r e in
    let k = guard_some (same own text && whole) rest r g.1 in
    let tests = and_parts (same own text) whole k.0 in
    let gap = skipped b in
    record {
      gap = gap.0;
      own = own;
      white = gap.1;
      parts = gap.2 ∙ ap (λ (x : List ℕ). gap.0 ++ x) (sym (take-append-drop n here) ∙ ap (λ (x : List ℕ). own ++ x) k.1);
      spelled = same_is own text tests.0;
      ended = subst (λ (x : List ℕ). IsTrue (not (begins is_ascii_alphabetic own && begins is_word_byte x))) k.1 tests.1;
    }

fixed_front : (text own rest : List ℕ) → folded own ≡ folded text → length own ≡ length text
fixed_front text own rest e = simp length-map at (ap length e)

pub fixed_found : (text b r : List ℕ) → visible text ≡ true → Stands (Fixed text) b r → fixed_at text b ≡ Some r
unfolding fixed_at
fixed_found text b r v s =
    let h = here_is (Fixed text) b r s (visible_same s.own text s.spelled v) in
    let len : length s.own ≡ length text = fixed_front text s.own r s.spelled in
    let long : ltb (length (s.own ++ r)) (length text) ≡ false = le-ltb _ _ (omega (arith, length-append s.own r)) in
    rw (h, long, take_at s.own r (length text) len, drop_at s.own r (length text) len, is_same s.own text s.spelled, s.ended) refl

abbrev pub first : List ℕ → ℕ
first xs = get_or xs 0 0

heads : (a x b y : List ℕ) → visible a ≡ true → visible b ≡ true → a ++ x ≡ b ++ y → first (folded a) ≡ first (folded b)
heads [] x b y v w e = absurd cc
heads (c ∷ cs) x [] y v w e = absurd cc
heads (c ∷ cs) x (d ∷ ds) y v w e = let h : c ≡ d = cc in ap to_ascii_lowercase h

-- another fixed text stands here
pub fixed_apart : (t u b r : List ℕ) → Stands (Fixed t) b r → visible t ≡ true → visible u ≡ true → eqb (first (folded t)) (first (folded u)) ≡ false → fixed_at u b ≡ None
fixed_apart t u b r s v w apart =
    none_from (fixed_at u b) (λ q e.
    let f = fixed_stands u b q e in
    let vs = visible_same s.own t s.spelled v in
    let vf = visible_same f.own u f.spelled w in
    let h : s.own ++ r ≡ f.own ++ q = sym (here_is (Fixed t) b r s vs) ∙ here_is (Fixed u) b q f vf in
    let equal : first (folded t) ≡ first (folded u) = sym (ap first s.spelled) ∙ heads s.own r f.own q vs vf h ∙ ap first f.spelled in
    eqb-false _ _ apart equal)

-- ---- names

pub record NameParts (n : List ℕ) : Type 0 where
  pub letter : begins is_ascii_alphabetic n ≡ true
  pub word : list_all is_word_byte n ≡ true
  pub free : is_reserved n ≡ false

pub name_parts : (n : List ℕ) → is_name n ≡ true → NameParts n
unfolding is_name
name_parts n h =
    let a = and_parts (begins is_ascii_alphabetic n && list_all is_word_byte n && leb (length n) 255) (not (is_reserved n)) h in
    let b = and_parts (begins is_ascii_alphabetic n && list_all is_word_byte n) (leb (length n) 255) a.0 in
    let c = and_parts (begins is_ascii_alphabetic n) (list_all is_word_byte n) b.0 in
    record { letter = c.0; word = c.1; free = not-true (is_reserved n) a.1 }

pub letter_visible : (xs : List ℕ) → begins is_ascii_alphabetic xs ≡ true → visible xs ≡ true
letter_visible [] h = absurd cc
letter_visible (x ∷ xs) h = not_from_false (is_space x) (letter_is_word x h)

ended_from : (x y : Bool) → y ≡ false → not (x && y) ≡ true
ended_from true y e = rw e refl
ended_from false y e = refl

rest_from : (x y : Bool) → not (x && y) ≡ true → x ≡ true → y ≡ false
rest_from true y e h = not-true y e
rest_from false y e h = absurd cc

pub name_stands : (b : List ℕ) (x : List ℕ × List ℕ) → name_at b ≡ Some x → Stands (Name x.0) b x.1
unfolding name_at
name_stands b x e =
    let here = after_space b in
    let len = prefix_len is_word_byte here in
    let k = guard_some (is_name (take len here)) (take len here, drop len here) x e in
    let gap = skipped b in
    let made : Stands (Name (take len here)) b (drop len here) = record {
      gap = gap.0;
      own = take len here;
      white = gap.1;
      parts = gap.2 ∙ ap (λ (y : List ℕ). gap.0 ++ y) (sym (take-append-drop len here));
      spelled = (refl, k.0);
      ended = ended_from _ _ (begins-drop is_word_byte here);
    } in
    subst (λ (y : List ℕ × List ℕ). Stands (Name y.0) b y.1) k.1 made

-- a name at the front, with no letter, digit or `_` behind it
pub record IsWordAt (n b r : List ℕ) : Type 0 where
  pub here : after_space b ≡ n ++ r
  pub word : list_all is_word_byte n ≡ true
  pub stop : begins is_word_byte r ≡ false

word_at : (n b r : List ℕ) → Stands (Name n) b r → IsWordAt n b r
word_at n b r s =
    let p = name_parts n s.spelled.1 in
    let own = s.spelled.0 in
    let letter : begins is_ascii_alphabetic s.own ≡ true = rw own p.letter in
    record {
      here = here_is (Name n) b r s (letter_visible s.own letter) ∙ ap (λ (y : List ℕ). y ++ r) own;
      word = p.word;
      stop = rest_from _ _ s.ended letter;
    }

pub name_found : (n b r : List ℕ) → Stands (Name n) b r → name_at b ≡ Some (n, r)
unfolding name_at
name_found n b r s =
    let w = word_at n b r s in
    rw (w.here, prefix_len-front is_word_byte n r w.word w.stop, take_at n r (length n) refl, drop_at n r (length n) refl, s.spelled.1) refl

begins_letter : (own w : List ℕ) → folded own ≡ folded w → begins is_ascii_alphabetic w ≡ true → begins is_ascii_alphabetic own ≡ true
begins_letter own [] e h = absurd cc
begins_letter [] (c ∷ cs) e h = absurd cc
begins_letter (o ∷ os) (c ∷ cs) e h = let k : to_ascii_lowercase o ≡ to_ascii_lowercase c = cc in letter_fold o c k h

all_word : (own w : List ℕ) → folded own ≡ folded w → list_all is_word_byte w ≡ true → list_all is_word_byte own ≡ true
all_word [] w e h = refl
all_word (o ∷ os) [] e h = absurd cc
all_word (o ∷ os) (c ∷ cs) e h =
    let k : to_ascii_lowercase o ≡ to_ascii_lowercase c = cc in
    let ks : folded os ≡ folded cs = cc in
    let p = and_parts (is_word_byte c) (list_all is_word_byte cs) h in
    and_from (is_word_byte o) (list_all is_word_byte os) (word_fold o c k p.0) (all_word os cs ks p.1)

abbrev is_word : List ℕ → Bool
is_word w = begins is_ascii_alphabetic w && list_all is_word_byte w

-- a name that isn't this word stands here
name_apart : (n w b r : List ℕ) → Stands (Name n) b r → is_word w ≡ true → same n w ≡ false → fixed_at w b ≡ None
name_apart n w b r s word differs =
    none_from (fixed_at w b) (λ q e.
    let f = fixed_stands w b q e in
    let parts = and_parts (begins is_ascii_alphabetic w) (list_all is_word_byte w) word in
    let letter = begins_letter f.own w f.spelled parts.0 in
    let at = word_at n b r s in
    let h : n ++ r ≡ f.own ++ q = sym at.here ∙ here_is (Fixed w) b q f (letter_visible f.own letter) in
    let equal = same_front is_word_byte n r f.own q h at.word (all_word f.own w f.spelled parts.1) at.stop (rest_from _ _ f.ended letter) in
    let now : same n w ≡ true = is_same n w (ap folded equal ∙ f.spelled) in
    both_ways (same n w) differs now)

reserved_parts : (n : List ℕ) → is_reserved n ≡ false → (list_any (λ w. same n w) aadl_words ≡ false) × (list_any (λ w. same n w) annex_words ≡ false)
unfolding is_reserved
reserved_parts n h =
    let a = or_parts (list_any (λ w. same n w) aadl_words || list_any (λ w. same n w) annex_words) (same n (codes "Base_Types")) h in
    or_parts (list_any (λ w. same n w) aadl_words) (list_any (λ w. same n w) annex_words) a.0

pub not_annex : (n b r : List ℕ) → Stands (Name n) b r → fixed_at (codes "annex") b ≡ None
unfolding aadl_words
not_annex n b r s =
    let free = reserved_parts n (name_parts n s.spelled.1).free in
    name_apart n (codes "annex") b r s refl (list_any_false (λ w. same n w) aadl_words 28 [] free.0 (lit< tt))

pub not_true : (n b r : List ℕ) → Stands (Name n) b r → fixed_at (codes "true") b ≡ None
unfolding annex_words
not_true n b r s =
    let free = reserved_parts n (name_parts n s.spelled.1).free in
    name_apart n (codes "true") b r s refl (list_any_false (λ w. same n w) annex_words 13 [] free.1 (lit< tt))

pub not_false : (n b r : List ℕ) → Stands (Name n) b r → fixed_at (codes "false") b ≡ None
unfolding annex_words
not_false n b r s =
    let free = reserved_parts n (name_parts n s.spelled.1).free in
    name_apart n (codes "false") b r s refl (list_any_false (λ w. same n w) annex_words 14 [] free.1 (lit< tt))

pub not_not : (n b r : List ℕ) → Stands (Name n) b r → fixed_at (codes "not") b ≡ None
unfolding annex_words
not_not n b r s =
    let free = reserved_parts n (name_parts n s.spelled.1).free in
    name_apart n (codes "not") b r s refl (list_any_false (λ w. same n w) annex_words 22 [] free.1 (lit< tt))

letter_first : (n : List ℕ) → begins is_ascii_alphabetic n ≡ true → first (folded n) ≡ 40 → ⊥
letter_first [] h e = absurd cc
letter_first (c ∷ cs) h e = no_letter c h e
  where
    no_letter : (c : ℕ) → is_ascii_alphabetic c ≡ true → to_ascii_lowercase c ≡ 40 → ⊥
    no_letter c h e = grind (arith, nat_tests)

pub not_open : (n b r : List ℕ) → Stands (Name n) b r → fixed_at (codes "(") b ≡ None
not_open n b r s =
    none_from (fixed_at (codes "(") b) (λ q e.
    let f = fixed_stands (codes "(") b q e in
    let seen = visible_same f.own (codes "(") f.spelled refl in
    let at = word_at n b r s in
    let letter = (name_parts n s.spelled.1).letter in
    let h : n ++ r ≡ f.own ++ q = sym at.here ∙ here_is (Fixed (codes "(")) b q f seen in
    letter_first n letter (heads n r f.own q (letter_visible n letter) seen h ∙ ap first f.spelled))

-- ---- labels

quote_fold : (o : ℕ) → to_ascii_lowercase o ≡ 34 → o ≡ 34
quote_fold o e = grind (arith, nat_tests)

quote_own : (own : List ℕ) → folded own ≡ 34 ∷ [] → own ≡ 34 ∷ []
quote_own [] e = absurd cc
quote_own (o ∷ []) e = let h : to_ascii_lowercase o ≡ 34 = cc in ap (λ (x : ℕ). x ∷ []) (quote_fold o h)
quote_own (o ∷ p ∷ ps) e = absurd cc

quoted : (xs : List ℕ) → begins is_quote xs ≡ true → xs ≡ 34 ∷ drop 1 xs
quoted [] h = absurd cc
quoted (x ∷ xs) h = ap (λ (y : ℕ). y ∷ xs) (eqb-true x 34 h)

pub label_stands : (b : List ℕ) (x : List ℕ × List ℕ) → label_at b ≡ Some x → Stands (Label x.0) b x.1
unfolding label_at
label_stands b x e =
    let a = bind_some (fixed_at (codes "\"") b) (λ here. cond (begins is_quote (drop (prefix_len is_label_byte here) here)) (Some (take (prefix_len is_label_byte here) here, drop 1 (drop (prefix_len is_label_byte here) here))) None) x e in
    let f = fixed_stands (codes "\"") b a.0 a.1 in
    let here = a.0 in
    let text = take (prefix_len is_label_byte here) here in
    let after = drop (prefix_len is_label_byte here) here in
    let k = guard_some (begins is_quote after) (text, drop 1 after) x a.2 in
    let rest : here ≡ (text ++ 34 ∷ []) ++ drop 1 after = sym (take-append-drop (prefix_len is_label_byte here) here) ∙ ap (λ (y : List ℕ). text ++ y) (quoted after k.0) ∙ sym (append_assoc text (34 ∷ []) (drop 1 after)) in
    let inner : f.own ++ here ≡ (34 ∷ (text ++ 34 ∷ [])) ++ drop 1 after = ap (λ (y : List ℕ). y ++ here) (quote_own f.own f.spelled) ∙ ap (λ (y : List ℕ). 34 ∷ y) rest in
    let made : Stands (Label text) b (drop 1 after) = record {
      gap = f.gap;
      own = 34 ∷ (text ++ 34 ∷ []);
      white = f.white;
      parts = f.parts ∙ ap (λ (y : List ℕ). f.gap ++ y) inner;
      spelled = (refl, list_all-take is_label_byte here);
      ended = refl;
    } in
    subst (λ (y : List ℕ × List ℕ). Stands (Label y.0) b y.1) k.1 made

pub label_found : (l b r : List ℕ) → Stands (Label l) b r → label_at b ≡ Some (l, r)
unfolding label_at
label_found l b r s =
    let f : Stands (Fixed (codes "\"")) b (l ++ 34 ∷ r) = record {
      gap = s.gap;
      own = 34 ∷ [];
      white = s.white;
      parts = s.parts ∙ ap (λ (y : List ℕ). s.gap ++ y) (ap (λ (y : List ℕ). y ++ r) s.spelled.0 ∙ ap (λ (y : List ℕ). 34 ∷ y) (append_assoc l (34 ∷ []) r));
      spelled = refl;
      ended = refl;
    } in
    rw (fixed_found (codes "\"") b (l ++ 34 ∷ r) refl f, prefix_len-front is_label_byte l (34 ∷ r) s.spelled.1 refl, take_at l (34 ∷ r) (length l) refl, drop_at l (34 ∷ r) (length l) refl) refl
