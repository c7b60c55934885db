-- The text of clauses that stand in several lists.
use Rattle.std.proofs.Common.{◌≡◌, ℕ, ◌+◌, ◌<◌, List, [], ◌∷◌, ◌++◌, length, get_or, take, map, sym, ap, ◌∙◌}
use Rattle.std.specs.List.{flat_map}
use Rattle.std.proofs.lemmas.Grind.{flat_map-append}
use Rattle.std.proofs.lemmas.List.{append_assoc, append-nil, map-append, take_more}
use Rattle.ag_terms.specs.declared.clauses.Clause.{Clause}
use Rattle.ag_unparse.specs.Canonical.{clause_words, clauses_text}
use Rattle.ag_unparse.specs.Layout.{line_bytes}
use Rattle.ag_print.specs.Shares.{joined}

-- the text of clauses behind clauses
pub text_more : (cs ds : List Clause) → clauses_text (cs ++ ds) ≡ clauses_text cs ++ clauses_text ds
text_more cs ds = ap (flat_map line_bytes) (map-append clause_words cs ds) ∙ flat_map-append line_bytes (map clause_words cs) (map clause_words ds)

-- one list more
joined_more : (lists : List (List Clause)) (i : ℕ) (list : List Clause) → i < length lists → list ≡ get_or lists i list → joined (take (i + 1) lists) ≡ joined (take i lists) ++ list
joined_more lists i list lt is =
    ap joined (take_more lists i list lt) ∙ flat_map-append (λ (l : List Clause). l) (take i lists) (get_or lists i list ∷ [])
    ∙ ap (λ (z : List Clause). joined (take i lists) ++ z) (append-nil (get_or lists i list) ∙ sym is)

pub list_written : (lists : List (List Clause)) (i : ℕ) (list own : List Clause) (old before now : List ℕ) → i < length lists → list ≡ get_or lists i list → own ≡ list
    → before ≡ old ++ clauses_text (joined (take i lists)) → now ≡ before ++ clauses_text own → now ≡ old ++ clauses_text (joined (take (i + 1) lists))
list_written lists i list own old before now lt is same so_far added =
    added ∙ ap (λ (z : List Clause). before ++ clauses_text z) same ∙ ap (λ (z : List ℕ). z ++ clauses_text list) so_far
    ∙ append_assoc old (clauses_text (joined (take i lists))) (clauses_text list) ∙ ap (λ (z : List ℕ). old ++ z) (sym (text_more (joined (take i lists)) list))
    ∙ ap (λ (z : List Clause). old ++ clauses_text z) (sym (joined_more lists i list lt is))
