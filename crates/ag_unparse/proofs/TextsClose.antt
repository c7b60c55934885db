-- No annex ends inside the text of clauses.
use Rattle.std.proofs.Common.{◌≡◌, ℕ, Bool, true, false, not, ◌&&◌, ◌||◌, List, [], ◌∷◌, ◌++◌, refl, sym, ap, subst, codes, IsTrue, arith, append_assoc}
use Rattle.std.specs.Prelude.{nat_eq}
use Rattle.std.specs.List.{list_all, starts_with}
use Rattle.std.proofs.lemmas.Bool.{and_parts, or_parts, or_from, not-true}
use Rattle.std.proofs.lemmas.Bool.Decides.{nat_tests}
use Rattle.ag_lex.specs.Characters.{is_text_byte}
use Rattle.ag_lex.specs.Spelling.{has_close}
use Rattle.ag_terms.specs.declared.clauses.Clause.{Clause}
use Rattle.ag_terms.specs.declared.clauses.Clause.TheVariants as clause
use Rattle.ag_unparse.specs.Canonical.{inside_text}
use Rattle.ag_unparse.specs.Printable.{is_label, are_printable_clauses}
use Rattle.ag_unparse.proofs.TextsWords.{is_plain_byte, IsOfTexts, LabelHas, LabelsHave, inside_has}

-- no annex ends in the bytes, even where `**` stands before them
abbrev NeverCloses : List ℕ → Type 0
NeverCloses ys = has_close (42 ∷ 42 ∷ ys) ≡ false

-- so it stays with these bytes before
abbrev Keeps : List ℕ → Type 0
Keeps xs = (ys : List ℕ) → NeverCloses ys → NeverCloses (xs ++ ys)

-- ---- plain bytes

none_of : (n t m a b c : Bool) → n ≡ false → (a || (b || c)) ≡ false → ((n && t) || ((m && a) || ((m && b) || c))) ≡ false
none_of true t m a b c low h = absurd cc
none_of false t m true b c low h = absurd cc
none_of false t m false true c low h = absurd cc
none_of false t true false false c low h = h
none_of false t false false false c low h = h

no_brace : (b : ℕ) → is_plain_byte b ≡ true → nat_eq 125 b ≡ false
no_brace b h = grind (arith, nat_tests)

byte_keeps : (b : ℕ) (ys : List ℕ) → is_plain_byte b ≡ true → NeverCloses ys → NeverCloses (b ∷ ys)
byte_keeps b ys h s = none_of (nat_eq 125 b) true (nat_eq 42 b) (starts_with nat_eq ys (codes "}")) (starts_with nat_eq ys (codes "*}")) (has_close ys) (no_brace b h) s

plain_keeps : (xs : List ℕ) → list_all is_plain_byte xs ≡ true → Keeps xs
plain_keeps [] h ys s = s
plain_keeps (x ∷ xs) h ys s =
    let both = and_parts (is_plain_byte x) (list_all is_plain_byte xs) h in
    byte_keeps x (xs ++ ys) both.0 (plain_keeps xs both.1 ys s)

-- ---- labels

-- none ends in what stands behind
behind : (ys : List ℕ) → NeverCloses ys → has_close ys ≡ false
behind ys s =
    let outer = or_parts (starts_with nat_eq ys (codes "}")) (starts_with nat_eq ys (codes "*}") || has_close ys) s in
    (or_parts (starts_with nat_eq ys (codes "*}")) (has_close ys) outer.1).1

-- what doesn't begin so doesn't with a quote behind it either
starts_quoted : (xs front ys : List ℕ) → list_all (λ b. not (nat_eq b 34)) front ≡ true → starts_with nat_eq xs front ≡ false → starts_with nat_eq (xs ++ (34 ∷ ys)) front ≡ false
starts_quoted xs [] ys none h = absurd cc
starts_quoted [] (b ∷ front) ys none h =
    let no : nat_eq b 34 ≡ false = not-true (nat_eq b 34) (and_parts (not (nat_eq b 34)) (list_all (λ c. not (nat_eq c 34)) front) none).0 in
    rw no refl
starts_quoted (x ∷ xs) (b ∷ front) ys none h = step (nat_eq b x) h (starts_quoted xs front ys (and_parts (not (nat_eq b 34)) (list_all (λ c. not (nat_eq c 34)) front) none).1)
  where
    step : (c : Bool) → (c && starts_with nat_eq xs front) ≡ false → (starts_with nat_eq xs front ≡ false → starts_with nat_eq (xs ++ (34 ∷ ys)) front ≡ false)
        → (c && starts_with nat_eq (xs ++ (34 ∷ ys)) front) ≡ false
    step true h later = later h
    step false h later = refl

quoted : (label ys : List ℕ) → has_close label ≡ false → has_close ys ≡ false → has_close (label ++ (34 ∷ ys)) ≡ false
quoted [] ys h s = s
quoted (b ∷ bs) ys h s =
    let both = or_parts (starts_with nat_eq (b ∷ bs) (codes "**}")) (has_close bs) h in
    or_from (starts_with nat_eq ((b ∷ bs) ++ (34 ∷ ys)) (codes "**}")) (has_close (bs ++ (34 ∷ ys))) (starts_quoted (b ∷ bs) (codes "**}") ys refl both.0) (quoted bs ys both.1 s)

label_keeps : (label : List ℕ) → is_label label ≡ true → Unit {0} → Keeps (codes "\"" ++ (label ++ codes "\""))
label_keeps label h u ys s =
    let none = not-true (has_close label) (and_parts (list_all is_text_byte label) (not (has_close label)) h).1 in
    subst (λ (z : List ℕ). has_close z ≡ false) (sym (append_assoc label (codes "\"") ys)) (quoted label ys none (behind ys s))

-- ---- the law

keeps : IsOfTexts Keeps
keeps = record {
  joined = λ xs ys a b zs s. subst NeverCloses (sym (append_assoc xs ys zs)) (a (ys ++ zs) (b zs s));
  plain = plain_keeps;
}

any_label : (c : Clause) → LabelHas (λ label. Unit {0}) c
any_label (clause.Assume l) = tt
any_label (clause.Guarantee l) = tt
any_label (clause.Lemma l) = tt
any_label (clause.Eq names value) = tt
any_label (clause.Assign e) = tt
any_label (clause.Const name value) = tt
any_label (clause.Node n) = tt

any_labels : (cs : List Clause) → LabelsHave (λ label. Unit {0}) cs
any_labels [] = tt
any_labels (c ∷ cs) = (any_label c, any_labels cs)

pub never_closes : (clauses : List Clause) → IsTrue (are_printable_clauses clauses) → IsTrue (not (has_close (inside_text clauses ++ codes "**")))
never_closes clauses h =
    let bytes = inside_text clauses ++ codes "**" in
    let none : has_close bytes ≡ false = behind bytes (inside_has Keeps (λ label. Unit {0}) keeps label_keeps clauses h (any_labels clauses) (codes "**") refl) in
    ap not none
