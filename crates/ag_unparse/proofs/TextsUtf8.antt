-- The text of clauses is UTF-8 where their labels are.
use Rattle.std.proofs.Common.{◌≡◌, ℕ, ◌<◌, true, List, [], ◌∷◌, ◌++◌, refl, codes, IsTrue, arith}
use Rattle.std.specs.List.{list_all}
use Rattle.std.specs.Str.{IsUtf8, IsAscii}
use Rattle.std.proofs.lemmas.Bool.{and_parts}
use Rattle.std.proofs.lemmas.Bool.Decides.{nat_tests}
use Rattle.std.proofs.lemmas.Str.{IsUtf8-from_ascii, IsUtf8-append}
use Rattle.std.proofs.lemmas.Str.Ascii.{IsAscii-nil, IsAscii-cons}
use Rattle.ag_terms.specs.declared.clauses.Clause.{Clause}
use Rattle.ag_terms.specs.declared.clauses.Clause.TheVariants as clause
use Rattle.ag_unparse.specs.Canonical.{inside_text}
use Rattle.ag_unparse.specs.Printable.{is_label, are_printable_clauses, IsLabelText, AreLabelsText}
use Rattle.ag_unparse.proofs.TextsWords.{is_plain_byte, IsOfTexts, LabelHas, LabelsHave, inside_has}

plain_small : (b : ℕ) → is_plain_byte b ≡ true → b < 128
plain_small b h = grind (arith, nat_tests)

plain_ascii : (xs : List ℕ) → list_all is_plain_byte xs ≡ true → IsAscii xs
plain_ascii [] h = IsAscii-nil
plain_ascii (x ∷ xs) h =
    let both = and_parts (is_plain_byte x) (list_all is_plain_byte xs) h in
    IsAscii-cons x xs (plain_small x both.0) (plain_ascii xs both.1)

plain_utf8 : (xs : List ℕ) → list_all is_plain_byte xs ≡ true → IsUtf8 xs
plain_utf8 xs h = IsUtf8-from_ascii xs (plain_ascii xs h)

utf8 : IsOfTexts IsUtf8
utf8 = record { joined = IsUtf8-append; plain = plain_utf8 }

label_utf8 : (label : List ℕ) → is_label label ≡ true → IsUtf8 label → IsUtf8 (codes "\"" ++ (label ++ codes "\""))
label_utf8 label h q =
    let quote = plain_utf8 (codes "\"") refl in
    IsUtf8-append (codes "\"") (label ++ codes "\"") quote (IsUtf8-append label (codes "\"") q quote)

text_label : (c : Clause) → IsLabelText c → LabelHas IsUtf8 c
text_label (clause.Assume l) q = q
text_label (clause.Guarantee l) q = q
text_label (clause.Lemma l) q = q
text_label (clause.Eq names value) q = tt
text_label (clause.Assign e) q = tt
text_label (clause.Const name value) q = tt
text_label (clause.Node n) q = tt

text_labels : (cs : List Clause) → AreLabelsText cs → LabelsHave IsUtf8 cs
text_labels [] q = tt
text_labels (c ∷ cs) q = (text_label c q.0, text_labels cs q.1)

pub text_utf8 : (clauses : List Clause) → IsTrue (are_printable_clauses clauses) → AreLabelsText clauses → IsUtf8 (inside_text clauses)
text_utf8 clauses h q = inside_has IsUtf8 IsUtf8 utf8 label_utf8 clauses h (text_labels clauses q)
