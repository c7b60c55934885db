-- Expressions that are written part by part.
use Rattle.std.proofs.Common.{◌≡◌, ℕ, ◌-◌, ◌≤◌, true, false, List, [], ◌∷◌, ◌++◌, length, get_or, take, drop, Result, refl, sym, ap, ◌∙◌, arith}
use Rattle.std.specs.Prelude.{codes}
use Rattle.std.specs.Result.{OnOk}
use Rattle.std.proofs.lemmas.List.{take_all}
use Rattle.ag_base.specs.declared.place.Place.{Place}
use Rattle.ag_terms.specs.declared.names.Path.{Path}
use Rattle.ag_terms.specs.declared.terms.Binary.{Binary}
use Rattle.ag_terms.specs.declared.terms.Binary.TheVariants.{Arrow, Implies, Iff, Or, And, Less, AtMost, More, AtLeast, Same, Differs, Plus, Minus, Times, Div, Mod}
use Rattle.ag_terms.specs.declared.terms.Term.{Term}
use Rattle.ag_terms.specs.declared.terms.Term.TheViews as term
use Rattle.ag_terms.specs.declared.terms.Unary.{Unary}
use Rattle.ag_annex.specs.Marks.{if_mark, then_mark, else_mark, call_mark}
use Rattle.ag_unparse.specs.Layout.{Spelled}
use Rattle.ag_unparse.specs.Canonical.{name_at, sign_at, path_words, binary_word, open_word, close_word, term_words}
use Rattle.ag_unparse.specs.Written.{Written, with_bytes, with_word, with_words, unary_words, comma, listed_words}
use Rattle.ag_unparse.proofs.WritingSteps.{both, both_on, same_on}
use Rattle.ag_unparse.proofs.WritingViews.{words_unary, words_binary, words_choice, words_call}

-- an operand, where the value that was written equals it
operand : (s t : Written) (x y : Term) → x ≡ y → t ≡ with_words s (term_words x) → t ≡ with_words s (term_words y)
operand s t x y same h = h ∙ ap (λ (z : Term). with_words s (term_words z)) same

abbrev closed : Term → List Spelled
closed x = term_words x ++ close_word ∷ []

-- the last operand, where the value that was written equals it
last_operand : {T E : Type 0} (r : Result T E) (s t : Written) (x y : Term) → x ≡ y → OnOk r (t ≡ with_words s (closed x)) → OnOk r (t ≡ with_words s (closed y))
last_operand r s t x y same h = same_on r s t (closed x) (closed y) (ap closed same) h

pub unary_written : {T E : Type 0} (r : Result T E) (s t u : Written) (op : Unary) (place : Place) (x arg whole : Term) → whole ≡ term.Unary op place arg → x ≡ arg → t ≡ with_words s (unary_words op) → OnOk r (u ≡ with_words t (closed x))
    → OnOk r (u ≡ with_words s (term_words whole))
unary_written r s t u op place x arg whole is same first last =
    same_on r s u (unary_words op ++ closed arg) (term_words whole) (sym (ap term_words is ∙ words_unary op place arg)) (both_on r s t u (unary_words op) (closed arg) first (last_operand r t u x arg same last))

operator_written : (s : Written) (op : Binary) → with_bytes s false (binary_word op).own false ≡ with_word s (binary_word op)
operator_written s Arrow = refl
operator_written s Implies = refl
operator_written s Iff = refl
operator_written s Or = refl
operator_written s And = refl
operator_written s Less = refl
operator_written s AtMost = refl
operator_written s More = refl
operator_written s AtLeast = refl
operator_written s Same = refl
operator_written s Differs = refl
operator_written s Plus = refl
operator_written s Minus = refl
operator_written s Times = refl
operator_written s Div = refl
operator_written s Mod = refl

pub binary_written : {T E : Type 0} (r : Result T E) (s t u v z : Written) (op : Binary) (own : List ℕ) (place : Place) (x y left right whole : Term) → whole ≡ term.Binary op place left right → x ≡ left → y ≡ right → own ≡ (binary_word op).own
    → t ≡ with_bytes s false (codes "(") true → u ≡ with_words t (term_words x) → v ≡ with_bytes u false own false → OnOk r (z ≡ with_words v (closed y))
    → OnOk r (z ≡ with_words s (term_words whole))
binary_written r s t u v z op own place x y left right whole is same_left same_right spelled first second third last =
    let behind : v ≡ with_words u (binary_word op ∷ []) = third ∙ ap (λ (o : List ℕ). with_bytes u false o false) spelled ∙ operator_written u op in
    let back = last_operand r v z y right same_right last in
    let more = both_on r u v z (binary_word op ∷ []) (closed right) behind back in
    let inner = both_on r t u z (term_words left) (binary_word op ∷ closed right) (operand t u x left same_left second) more in
    let all = both_on r s t z (open_word ∷ []) (term_words left ++ binary_word op ∷ closed right) first inner in
    same_on r s z (open_word ∷ (term_words left ++ binary_word op ∷ closed right)) (term_words whole) (sym (ap term_words is ∙ words_binary op place left right)) all

-- a word, and then an expression and what comes behind it
behind_word : {T E : Type 0} (r : Result T E) (s t u z : Written) (word : Spelled) (x y : Term) (more : List Spelled) → x ≡ y → t ≡ with_words s (word ∷ []) → u ≡ with_words t (term_words x) → OnOk r (z ≡ with_words u more)
    → OnOk r (z ≡ with_words s (word ∷ (term_words y ++ more)))
behind_word r s t u z word x y more same first second later =
    both_on r s t z (word ∷ []) (term_words y ++ more) first (both_on r t u z (term_words y) more (operand t u x y same second) later)

pub choice_written : {T E : Type 0} (r : Result T E) (s a b c d e z : Written) (place : Place) (x y w test chosen other whole : Term) → whole ≡ term.Choice place test chosen other → x ≡ test → y ≡ chosen → w ≡ other
    → a ≡ with_words s (open_word ∷ name_at if_mark (codes "if") ∷ []) → b ≡ with_words a (term_words x) → c ≡ with_bytes b false (codes "then") false → d ≡ with_words c (term_words y)
    → e ≡ with_bytes d false (codes "else") false → OnOk r (z ≡ with_words e (closed w)) → OnOk r (z ≡ with_words s (term_words whole))
choice_written r s a b c d e z place x y w test chosen other whole is same_test same_chosen same_other first second third fourth fifth last =
    let others = both_on r d e z (name_at else_mark (codes "else") ∷ []) (closed other) fifth (last_operand r e z w other same_other last) in
    let else_words = name_at else_mark (codes "else") ∷ closed other in
    let chosens = behind_word r b c d z (name_at then_mark (codes "then")) y chosen else_words same_chosen third fourth others in
    let then_words = name_at then_mark (codes "then") ∷ (term_words chosen ++ else_words) in
    let tests = both_on r a b z (term_words test) then_words (operand a b x test same_test second) chosens in
    same_on r s z (open_word ∷ name_at if_mark (codes "if") ∷ (term_words test ++ then_words)) (term_words whole) (sym (ap term_words is ∙ words_choice place test chosen other))
    (both_on r s a z (open_word ∷ name_at if_mark (codes "if") ∷ []) (term_words test ++ then_words) first tests)

pub call_written : {T E : Type 0} (r : Result T E) (s t u v z : Written) (path : Path) (x args : List Term) (whole : Term) → whole ≡ term.Call path args → x ≡ args → t ≡ with_words s (path_words path) → u ≡ with_bytes t true (codes "(") true
    → v ≡ with_words u (listed_words [] x) → OnOk r (z ≡ with_bytes v true (codes ")") false) → OnOk r (z ≡ with_words s (term_words whole))
call_written r s t u v z path x args whole is same first second third last =
    let listed : v ≡ with_words u (listed_words [] args) = third ∙ ap (λ (ts : List Term). with_words u (listed_words [] ts)) same in
    let inner = both_on r u v z (listed_words [] args) (close_word ∷ []) listed last in
    let opened = both_on r t u z (sign_at call_mark (codes "(") ∷ []) (listed_words [] args ++ close_word ∷ []) second inner in
    same_on r s z (path_words path ++ sign_at call_mark (codes "(") ∷ (listed_words [] args ++ close_word ∷ [])) (term_words whole) (sym (ap term_words is ∙ words_call path args))
    (both_on r s t z (path_words path) (sign_at call_mark (codes "(") ∷ (listed_words [] args ++ close_word ∷ [])) first opened)

-- ---- arguments

-- a list by its first item and the others
first_and_more : {X : Type 0} (xs : List X) (x : X) → 1 ≤ length xs → x ≡ get_or xs 0 x → xs ≡ x ∷ take (length xs - 1) (drop 1 xs)
first_and_more [] x some is = absurd (omega arith)
first_and_more (y ∷ ys) x some is =
    let count : length (y ∷ ys) - 1 ≡ length ys = omega arith in
    let all : take (length (y ∷ ys) - 1) ys ≡ ys = ap (λ n. take n ys) count ∙ take_all (length ys) ys (omega arith) in
    ap (λ z. z ∷ ys) (sym is) ∙ ap (λ zs. x ∷ zs) (sym all)

pub arguments_written : (s t u : Written) (args : List Term) (first : Term) → 1 ≤ length args → first ≡ get_or args 0 first → t ≡ with_words s (term_words first) → u ≡ with_words t (listed_words comma (take (length args - 1) (drop 1 args)))
    → u ≡ with_words s (listed_words [] args)
arguments_written s t u args first some is one more =
    both s t u (term_words first) (listed_words comma (take (length args - 1) (drop 1 args))) one more ∙ ap (λ (ts : List Term). with_words s (listed_words [] ts)) (sym (first_and_more args first some is))

-- a comma and an argument more
pub argument_step : (t u v : Written) (x : Term) → u ≡ with_bytes t true (codes ",") false → v ≡ with_words u (term_words x) → v ≡ with_words t (comma ++ term_words x)
argument_step t u v x first second = second ∙ ap (λ (w : Written). with_words w (term_words x)) first

pub listed_law : (x : Term) (xs : List Term) → listed_words comma (x ∷ xs) ≡ (comma ++ term_words x) ++ listed_words comma xs
listed_law x xs = refl
