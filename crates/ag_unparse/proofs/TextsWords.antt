-- What the bytes of clauses' lines are, by what the bytes of their words are: plain ones, and labels.
use Rattle.std.proofs.Common.{◌≡◌, ℕ, Bool, true, false, cond, ◌||◌, List, [], ◌∷◌, ◌++◌, Option, Some, None, refl, ◌∙◌, codes, arith}
use Rattle.std.specs.Prelude.{nat_lt}
use Rattle.std.specs.Char.{is_ascii_alphabetic}
use Rattle.std.specs.List.{list_all, flat_map}
use Rattle.std.proofs.lemmas.Bool.{and_parts, and_from}
use Rattle.std.proofs.lemmas.Bool.Decides.{nat_tests}
use Rattle.std.proofs.lemmas.List.Folds.{list_all-append}
use Rattle.ag_lex.specs.declared.token.Language.TheVariants.{Agree}
use Rattle.ag_lex.specs.declared.token.TokenKind.{TokenKind}
use Rattle.ag_lex.specs.declared.token.TokenKind.TheVariants.{Name, Number, Text, Symbol}
use Rattle.ag_lex.specs.Characters.{is_word_byte, is_number_byte}
use Rattle.ag_lex.specs.Spelling.{is_name, is_number}
use Rattle.ag_terms.specs.declared.names.Ident.{Ident}
use Rattle.ag_terms.specs.declared.names.Path.{Path}
use Rattle.ag_terms.specs.declared.clauses.Clause.{Clause}
use Rattle.ag_terms.specs.declared.clauses.Clause.TheVariants as clause
use Rattle.ag_terms.specs.declared.clauses.Equal.{Equal}
use Rattle.ag_terms.specs.declared.clauses.Labelled.{Labelled}
use Rattle.ag_terms.specs.declared.clauses.NodeDef.{NodeDef}
use Rattle.ag_terms.specs.declared.clauses.Ty.{Ty}
use Rattle.ag_terms.specs.declared.clauses.Ty.TheVariants as ty
use Rattle.ag_terms.specs.declared.clauses.Var.{Var}
use Rattle.ag_terms.specs.declared.terms.Binary.{Binary}
use Rattle.ag_terms.specs.declared.terms.Binary.TheVariants.{Arrow, Implies, Iff, Or, And, Less, AtMost, More, AtLeast, Same, Differs, Plus, Minus, Times, Div, Mod}
use Rattle.ag_terms.specs.declared.terms.Term.{Term, Truth, Named, Unary', Binary', Choice', Call', Row_of-Term, end_of-Term, more_of-Term}
use Rattle.ag_terms.specs.declared.terms.Term as terms
use Rattle.ag_terms.specs.declared.terms.Unary.TheVariants as unary
use Rattle.ag_annex.specs.Marks.{assume_mark, guarantee_mark, lemma_mark, then_mark, else_mark, argument_mark, call_mark, end_mark, returns_mark, let_mark, tel_mark}
use Rattle.ag_unparse.specs.Layout.{Spelled, joins_before, joins_behind, words_bytes, line_bytes}
use Rattle.ag_unparse.specs.Canonical.{name_at, sign_at, sign, more_part_words, part_words, package_parts, body_words, path_words, binary_word, close_word, truth_word, term_words, argument_words, type_word, var_words, more_var_words, vars_words, value_words, some_value_words, equal_words, labelled_words, local_words, locals_words, node_words, clause_words, clauses_text, inside_text}
use Rattle.ag_unparse.specs.Printable.{is_label, is_printable_term, is_printable_labelled, is_printable_clause, are_printable_clauses}
use Rattle.ag_unparse.proofs.TokensEnds.{clause_symbols, passes, IsSpelled, IsSoundLine}
use Rattle.ag_unparse.proofs.TokensClauses.{sound_clause}

-- a byte of the words other than labels: ASCII, and no brace
abbrev pub is_plain_byte : ℕ → Bool
is_plain_byte b = nat_lt b 123

-- a property of texts that two texts have together if each has it, and that plain bytes have
pub record IsOfTexts (P : List ℕ → Type 0) : Type 0 where
  pub joined : (xs ys : List ℕ) → P xs → P ys → P (xs ++ ys)
  pub plain : (xs : List ℕ) → list_all is_plain_byte xs ≡ true → P xs

-- ---- lines

-- each word has the property
abbrev AllHave : (List ℕ → Type 0) → List Spelled → Type 0
AllHave P [] = Unit {0}
AllHave P (w ∷ ws) = P w.own × AllHave P ws

gap_has : (P : List ℕ → Type 0) → IsOfTexts P → (joined : Bool) → P (cond joined [] (codes " "))
gap_has P h true = h.plain [] refl
gap_has P h false = h.plain (codes " ") refl

words_have : (P : List ℕ → Type 0) → IsOfTexts P → (joined : Bool) (ws : List Spelled) → AllHave P ws → P (words_bytes joined ws)
words_have P h joined [] a = h.plain [] refl
words_have P h joined (w ∷ ws) a =
    let gap = cond (joined || joins_before w) [] (codes " ") in
    let rest = words_bytes (joins_behind w) ws in
    h.joined gap (w.own ++ rest) (gap_has P h (joined || joins_before w)) (h.joined w.own rest a.0 (words_have P h (joins_behind w) ws a.1))

line_has : (P : List ℕ → Type 0) → IsOfTexts P → (ws : List Spelled) → AllHave P ws → P (line_bytes ws)
line_has P h ws a = h.joined (words_bytes true ws) (codes "\n") (words_have P h true ws a) (h.plain (codes "\n") refl)

-- ---- plain words

all_wider : (test wider : ℕ → Bool) → ((b : ℕ) → test b ≡ true → wider b ≡ true) → (bs : List ℕ) → list_all test bs ≡ true → list_all wider bs ≡ true
all_wider test wider up [] h = refl
all_wider test wider up (b ∷ bs) h =
    let parts = and_parts (test b) (list_all test bs) h in
    and_from (wider b) (list_all wider bs) (up b parts.0) (all_wider test wider up bs parts.1)

word_byte_plain : (b : ℕ) → is_word_byte b ≡ true → is_plain_byte b ≡ true
word_byte_plain b h = grind (arith, nat_tests)

letter_plain : (b : ℕ) → is_ascii_alphabetic b ≡ true → is_plain_byte b ≡ true
letter_plain b h = grind (arith, nat_tests)

digit_plain : (b : ℕ) → is_number_byte Agree b ≡ true → is_plain_byte b ≡ true
digit_plain b h = grind (arith, nat_tests)

name_plain : (own : List ℕ) → is_name own ≡ true → list_all is_plain_byte own ≡ true
name_plain [] h = refl
name_plain (b ∷ bs) h =
    let parts = and_parts (is_ascii_alphabetic b) (list_all is_word_byte bs) h in
    and_from (is_plain_byte b) (list_all is_plain_byte bs) (letter_plain b parts.0) (all_wider is_word_byte is_plain_byte word_byte_plain bs parts.1)

number_plain : (own : List ℕ) → is_number Agree own ≡ true → list_all is_plain_byte own ≡ true
number_plain [] h = refl
number_plain (b ∷ bs) h = all_wider (is_number_byte Agree) is_plain_byte digit_plain (b ∷ bs) h

symbol_plain : (own : List ℕ) → IsSpelled Symbol own → list_all is_plain_byte own ≡ true
unfolding clause_symbols
symbol_plain own s = passes (list_all is_plain_byte) own clause_symbols refl s

-- it is no label
abbrev is_other_kind : TokenKind → Bool
is_other_kind Text = false
is_other_kind _ = true

abbrev is_other : Spelled → Bool
is_other w = is_other_kind w.kind

spelled_plain : (k : TokenKind) (own : List ℕ) → IsSpelled k own → is_other_kind k ≡ true → list_all is_plain_byte own ≡ true
spelled_plain Name own s h = name_plain own s.0
spelled_plain Number own s h = number_plain own s.0
spelled_plain Text own s h = absurd cc
spelled_plain Symbol own s h = symbol_plain own s
spelled_plain _ own s h = absurd s

others_have : (P : List ℕ → Type 0) → IsOfTexts P → (ws : List Spelled) → IsSoundLine ws → list_all is_other ws ≡ true → AllHave P ws
others_have P h [] s n = tt
others_have P h (w ∷ ws) s n =
    let both = and_parts (is_other w) (list_all is_other ws) n in
    (h.plain w.own (spelled_plain w.kind w.own s.0 both.0), others_have P h ws s.2 both.1)

-- ---- no word of an expression is a label

together : (xs ys : List Spelled) → list_all is_other xs ≡ true → list_all is_other ys ≡ true → list_all is_other (xs ++ ys) ≡ true
together xs ys a b = list_all-append is_other xs ys ∙ and_from (list_all is_other xs) (list_all is_other ys) a b

more_parts_other : (parts : List (List ℕ)) → list_all is_other (more_part_words parts) ≡ true
more_parts_other [] = refl
more_parts_other (part ∷ parts) = more_parts_other parts

parts_other : (parts : List (List ℕ)) → list_all is_other (part_words parts) ≡ true
parts_other [] = refl
parts_other (part ∷ parts) = more_parts_other parts

body_other : (body : Option Ident) → list_all is_other (body_words body) ≡ true
body_other None = refl
body_other (Some i) = refl

path_other : (p : Path) → list_all is_other (path_words p) ≡ true
path_other p =
    let parts = package_parts p.«package» ++ p.name.text ∷ [] in
    together (part_words parts) (body_words p.body) (parts_other parts) (body_other p.body)

binary_other : (op : Binary) → is_other (binary_word op) ≡ true
binary_other Arrow = refl
binary_other Implies = refl
binary_other Iff = refl
binary_other Or = refl
binary_other And = refl
binary_other Less = refl
binary_other AtMost = refl
binary_other More = refl
binary_other AtLeast = refl
binary_other Same = refl
binary_other Differs = refl
binary_other Plus = refl
binary_other Minus = refl
binary_other Times = refl
binary_other Div = refl
binary_other Mod = refl

truth_other : (value : Bool) → list_all is_other (truth_word value ∷ []) ≡ true
truth_other true = refl
truth_other false = refl

mutual
  term_other : (t : Term) → list_all is_other (term_words t) ≡ true
  term_other (terms.Number value place) = refl
  term_other (Truth value place) = truth_other value
  term_other (Named path) = path_other path
  term_other (Unary' unary.Minus place _ (more_of-Term t end_of-Term)) = together (term_words t) (close_word ∷ []) (term_other t) refl
  term_other (Unary' unary.Not place _ (more_of-Term t end_of-Term)) = together (term_words t) (close_word ∷ []) (term_other t) refl
  term_other (Unary' unary.Pre place _ (more_of-Term t end_of-Term)) = together (term_words t) (close_word ∷ []) (term_other t) refl
  term_other (Binary' op place _ (more_of-Term left end_of-Term) _ (more_of-Term right end_of-Term)) =
      let rest = term_words right ++ close_word ∷ [] in
      together (term_words left) (binary_word op ∷ rest) (term_other left)
      (and_from (is_other (binary_word op)) (list_all is_other rest) (binary_other op) (together (term_words right) (close_word ∷ []) (term_other right) refl))
  term_other (Choice' place _ (more_of-Term test end_of-Term) _ (more_of-Term chosen end_of-Term) _ (more_of-Term other end_of-Term)) =
      let last = name_at else_mark (codes "else") ∷ (term_words other ++ close_word ∷ []) in
      let rest = name_at then_mark (codes "then") ∷ (term_words chosen ++ last) in
      together (term_words test) rest (term_other test)
      (together (term_words chosen) last (term_other chosen) (together (term_words other) (close_word ∷ []) (term_other other) refl))
  term_other (Call' path _ args) =
      let rest = argument_words [] args ++ close_word ∷ [] in
      together (path_words path) (sign_at call_mark (codes "(") ∷ rest) (path_other path) (together (argument_words [] args) (close_word ∷ []) (arguments_other [] refl args) refl)

  arguments_other : {m : _} (before : List Spelled) → list_all is_other before ≡ true → (args : Row_of-Term m) → list_all is_other (argument_words before args) ≡ true
  arguments_other before h end_of-Term = refl
  arguments_other before h (more_of-Term t rest) =
      let comma = sign_at argument_mark (codes ",") ∷ [] in
      together before (term_words t ++ argument_words comma rest) h (together (term_words t) (argument_words comma rest) (term_other t) (arguments_other comma refl rest))

-- ---- none of a clause is, but for its label

type_other : (t : Ty) → list_all is_other (type_word t ∷ []) ≡ true
type_other ty.Int = refl
type_other ty.Bool = refl

var_other : (v : Var) → list_all is_other (var_words v) ≡ true
var_other v = type_other v.ty

more_vars_other : (vs : List Var) → list_all is_other (more_var_words vs) ≡ true
more_vars_other [] = refl
more_vars_other (v ∷ vs) = together (var_words v) (more_var_words vs) (var_other v) (more_vars_other vs)

vars_other : (vs : List Var) → list_all is_other (vars_words vs) ≡ true
vars_other [] = refl
vars_other (v ∷ vs) = together (var_words v) (more_var_words vs) (var_other v) (more_vars_other vs)

value_other : (before : List ℕ) (t : Term) → list_all is_other (value_words before t) ≡ true
value_other before t = together (term_words t) (sign_at end_mark (codes ";") ∷ []) (term_other t) refl

some_value_other : (value : Option Term) → list_all is_other (some_value_words value) ≡ true
some_value_other None = refl
some_value_other (Some t) = value_other (codes "=") t

equal_other : (e : Equal) → list_all is_other (equal_words e) ≡ true
equal_other e = value_other (codes "=") e.value

local_other : (v : Var) → list_all is_other (local_words v) ≡ true
local_other v = together (var_words v) (sign (codes ";") ∷ []) (var_other v) refl

each_other : {A : Type 0} (f : A → List Spelled) → ((x : A) → list_all is_other (f x) ≡ true) → (xs : List A) → list_all is_other (flat_map f xs) ≡ true
each_other f each [] = refl
each_other f each (x ∷ xs) = together (f x) (flat_map f xs) (each x) (each_other f each xs)

locals_other : (vs : List Var) → list_all is_other (locals_words vs) ≡ true
locals_other [] = refl
locals_other (v ∷ vs) = each_other local_words local_other (v ∷ vs)

node_other : (n : NodeDef) → list_all is_other (node_words n) ≡ true
node_other n =
    let last = name_at tel_mark (codes "tel") ∷ sign (codes ";") ∷ [] in
    let equations = name_at let_mark (codes "let") ∷ (flat_map equal_words n.equations ++ last) in
    let locals = sign (codes ")") ∷ sign (codes ";") ∷ (locals_words n.locals ++ equations) in
    let outputs = sign (codes ")") ∷ name_at returns_mark (codes "returns") ∷ sign (codes "(") ∷ (vars_words n.outputs ++ locals) in
    together (vars_words n.inputs) outputs (vars_other n.inputs)
    (together (vars_words n.outputs) locals (vars_other n.outputs)
    (together (locals_words n.locals) equations (locals_other n.locals)
    (together (flat_map equal_words n.equations) last (each_other equal_words equal_other n.equations) refl)))

-- ---- clauses

-- the label of a clause, if it has one, has a property
abbrev pub LabelHas : (List ℕ → Type 0) → Clause → Type 0
LabelHas Q (clause.Assume l) = Q l.label
LabelHas Q (clause.Guarantee l) = Q l.label
LabelHas Q (clause.Lemma l) = Q l.label
LabelHas Q _ = Unit {0}

abbrev pub LabelsHave : (List ℕ → Type 0) → List Clause → Type 0
LabelsHave Q [] = Unit {0}
LabelsHave Q (c ∷ cs) = LabelHas Q c × LabelsHave Q cs

-- a label's property makes its word have the texts'
abbrev pub LabelsGive : (List ℕ → Type 0) → (List ℕ → Type 0) → Type 0
LabelsGive Q P = (label : List ℕ) → is_label label ≡ true → Q label → P (codes "\"" ++ (label ++ codes "\""))

labelled_has : (P Q : List ℕ → Type 0) → IsOfTexts P → LabelsGive Q P → (mark : ℕ) (own : List ℕ) (l : Labelled) → IsSoundLine (labelled_words (name_at mark own) l) → is_printable_labelled l ≡ true → Q l.label
    → P (line_bytes (labelled_words (name_at mark own) l))
labelled_has P Q h give mark own l s printable q =
    let label = (and_parts (is_label l.label) (is_printable_term l.claim) printable).0 in
    let value = others_have P h (value_words (codes ":") l.claim) s.2.2 (value_other (codes ":") l.claim) in
    line_has P h (labelled_words (name_at mark own) l) (h.plain own (spelled_plain Name own s.0 refl), (give l.label label q, value))

other_has : (P : List ℕ → Type 0) → IsOfTexts P → (ws : List Spelled) → IsSoundLine ws → list_all is_other ws ≡ true → P (line_bytes ws)
other_has P h ws s n = line_has P h ws (others_have P h ws s n)

clause_has : (P Q : List ℕ → Type 0) → IsOfTexts P → LabelsGive Q P → (c : Clause) → is_printable_clause c ≡ true → IsSoundLine (clause_words c) → LabelHas Q c → P (line_bytes (clause_words c))
clause_has P Q h give (clause.Assume l) printable s q = labelled_has P Q h give assume_mark (codes "assume") l s printable q
clause_has P Q h give (clause.Guarantee l) printable s q = labelled_has P Q h give guarantee_mark (codes "guarantee") l s printable q
clause_has P Q h give (clause.Lemma l) printable s q = labelled_has P Q h give lemma_mark (codes "lemma") l s printable q
clause_has P Q h give (clause.Eq names value) printable s q =
    other_has P h (clause_words (clause.Eq names value)) s (together (vars_words names) (some_value_words value) (vars_other names) (some_value_other value))
clause_has P Q h give (clause.Assign e) printable s q = other_has P h (clause_words (clause.Assign e)) s (equal_other e)
clause_has P Q h give (clause.Const name value) printable s q =
    other_has P h (clause_words (clause.Const name value)) s (together (var_words name) (value_words (codes "=") value) (var_other name) (value_other (codes "=") value))
clause_has P Q h give (clause.Node n) printable s q = other_has P h (clause_words (clause.Node n)) s (node_other n)

clauses_have : (P Q : List ℕ → Type 0) → IsOfTexts P → LabelsGive Q P → (cs : List Clause) → are_printable_clauses cs ≡ true → LabelsHave Q cs → P (clauses_text cs)
clauses_have P Q h give [] printable q = h.plain [] refl
clauses_have P Q h give (c ∷ cs) printable q =
    let both = and_parts (is_printable_clause c) (are_printable_clauses cs) printable in
    h.joined (line_bytes (clause_words c)) (clauses_text cs) (clause_has P Q h give c both.0 (sound_clause c both.0).line q.0) (clauses_have P Q h give cs both.1 q.1)

-- the text of printable clauses has the property if their labels have theirs
pub inside_has : (P Q : List ℕ → Type 0) → IsOfTexts P → LabelsGive Q P → (cs : List Clause) → are_printable_clauses cs ≡ true → LabelsHave Q cs → P (inside_text cs)
inside_has P Q h give cs printable q = h.joined (codes "\n") (clauses_text cs) (h.plain (codes "\n") refl) (clauses_have P Q h give cs printable q)
