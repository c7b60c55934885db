-- Clauses that are written part by part.
use Rattle.std.proofs.Common.{◌≡◌, ℕ, List, [], ◌∷◌, ◌++◌, true, false, Option, Result, sym, ap, ◌∙◌, append_assoc}
use Rattle.std.specs.Prelude.{codes}
use Rattle.std.specs.List.{flat_map}
use Rattle.std.specs.Result.{OnOk}
use Rattle.std.proofs.lemmas.Result.{on_ok_weaker}
use Rattle.ag_terms.specs.declared.clauses.Clause.{Clause}
use Rattle.ag_terms.specs.declared.clauses.Clause.TheVariants as clause
use Rattle.ag_terms.specs.declared.clauses.Equal.{Equal}
use Rattle.ag_terms.specs.declared.clauses.Labelled.{Labelled}
use Rattle.ag_terms.specs.declared.clauses.NodeDef.{NodeDef}
use Rattle.ag_terms.specs.declared.clauses.Var.{Var}
use Rattle.ag_terms.specs.declared.terms.Term.{Term}
use Rattle.ag_annex.specs.Marks.{eq_mark, const_mark, node_mark, node_name_mark, returns_mark, let_mark, tel_mark, end_mark}
use Rattle.ag_unparse.specs.Layout.{Spelled}
use Rattle.ag_unparse.specs.Canonical.{name_at, sign_at, sign, label_word, term_words, var_words, vars_words, value_words, some_value_words, equal_words, labelled_words, locals_words, node_words, clause_words}
use Rattle.ag_unparse.specs.Written.{Written, with_bytes, with_words}
use Rattle.ag_unparse.proofs.WritingSteps.{both_on, same_on}

pub value_written : {T E : Type 0} (r : Result T E) (s t u v : Written) (own : List ℕ) (value : Term) → t ≡ with_bytes s false own false → u ≡ with_words t (term_words value) → OnOk r (v ≡ with_bytes u true (codes ";") false)
    → OnOk r (v ≡ with_words s (name_at 0 own ∷ (term_words value ++ sign_at end_mark (codes ";") ∷ [])))
value_written r s t u v own value first second last =
    both_on r s t v (name_at 0 own ∷ []) (term_words value ++ sign_at end_mark (codes ";") ∷ []) first (both_on r t u v (term_words value) (sign_at end_mark (codes ";") ∷ []) second last)

pub claim_written : {T E : Type 0} (r : Result T E) (s t u v : Written) (own text : List ℕ) (l : Labelled) → text ≡ l.label → t ≡ with_bytes s false own false → u ≡ with_bytes t false (codes "\"" ++ (text ++ codes "\"")) false
    → OnOk r (v ≡ with_words u (value_words (codes ":") l.claim)) → OnOk r (v ≡ with_words s (labelled_words (name_at 0 own) l))
claim_written r s t u v own text l same first second last =
    let labelled : u ≡ with_words t (label_word l.label ∷ []) = second ∙ ap (λ (z : List ℕ). with_bytes t false (codes "\"" ++ (z ++ codes "\"")) false) same in
    both_on r s t v (name_at 0 own ∷ []) (label_word l.label ∷ value_words (codes ":") l.claim) first (both_on r t u v (label_word l.label ∷ []) (value_words (codes ":") l.claim) labelled last)

-- ---- nodes

abbrev between : List Var → List Spelled
between vs = sign (codes "(") ∷ (vars_words vs ++ sign (codes ")") ∷ [])

abbrev pub equations : List Equal → List Spelled
equations es = name_at let_mark (codes "let") ∷ (flat_map equal_words es ++ name_at tel_mark (codes "tel") ∷ sign (codes ";") ∷ [])

-- a node by its parts
abbrev in_parts : NodeDef → List Spelled
in_parts n =
    name_at node_mark (codes "node") ∷ name_at node_name_mark n.name.text ∷ (between n.inputs ++ name_at returns_mark (codes "returns")
    ∷ (between n.outputs ++ sign (codes ";") ∷ (locals_words n.locals ++ equations n.equations)))

parts_are : (n : NodeDef) → in_parts n ≡ node_words n
parts_are n =
    let rest = sign (codes ";") ∷ (locals_words n.locals ++ equations n.equations) in
    let outputs = append_assoc (vars_words n.outputs) (sign (codes ")") ∷ []) rest in
    let inputs = append_assoc (vars_words n.inputs) (sign (codes ")") ∷ []) (name_at returns_mark (codes "returns") ∷ (between n.outputs ++ rest)) in
    ap (λ (ws : List Spelled). name_at node_mark (codes "node") ∷ name_at node_name_mark n.name.text ∷ sign (codes "(") ∷ ws) inputs
    ∙ ap (λ (ws : List Spelled). name_at node_mark (codes "node") ∷ name_at node_name_mark n.name.text ∷ sign (codes "(") ∷ (vars_words n.inputs ++ sign (codes ")") ∷ name_at returns_mark (codes "returns") ∷ sign (codes "(") ∷ ws)) outputs

-- declared names between parentheses, where the values that were written equal them
pub between_of : (s t : Written) (vs us : List Var) → vs ≡ us → t ≡ with_words s (sign (codes "(") ∷ (vars_words vs ++ sign (codes ")") ∷ [])) → t ≡ with_words s (between us)
between_of s t vs us same h = h ∙ ap (λ (z : List Var). with_words s (between z)) same

pub node_written : {T E : Type 0} (r : Result T E) (s a b c d e f g z : Written) (n : NodeDef) → a ≡ with_bytes s false (codes "node") false → b ≡ with_bytes a false n.name.text false → c ≡ with_words b (between n.inputs)
    → d ≡ with_bytes c false (codes "returns") false → e ≡ with_words d (between n.outputs) → f ≡ with_bytes e true (codes ";") false → g ≡ with_words f (locals_words n.locals)
    → OnOk r (z ≡ with_words g (equations n.equations)) → OnOk r (z ≡ with_words s (node_words n))
node_written r s a b c d e f g z n first second third fourth fifth sixth seventh last =
    let named : b ≡ with_words s (name_at node_mark (codes "node") ∷ name_at node_name_mark n.name.text ∷ []) = second ∙ ap (λ (w : Written). with_bytes w false n.name.text false) first in
    let locals = both_on r f g z (locals_words n.locals) (equations n.equations) seventh last in
    let ended = both_on r e f z (sign (codes ";") ∷ []) (locals_words n.locals ++ equations n.equations) sixth locals in
    let outputs = both_on r d e z (between n.outputs) (sign (codes ";") ∷ (locals_words n.locals ++ equations n.equations)) fifth ended in
    let returned = both_on r c d z (name_at returns_mark (codes "returns") ∷ []) (between n.outputs ++ sign (codes ";") ∷ (locals_words n.locals ++ equations n.equations)) fourth outputs in
    let inputs = both_on r b c z (between n.inputs) (name_at returns_mark (codes "returns") ∷ (between n.outputs ++ sign (codes ";") ∷ (locals_words n.locals ++ equations n.equations))) third returned in
    same_on r s z (in_parts n) (node_words n) (parts_are n)
    (both_on r s b z (name_at node_mark (codes "node") ∷ name_at node_name_mark n.name.text ∷ []) (between n.inputs ++ name_at returns_mark (codes "returns") ∷ (between n.outputs ++ sign (codes ";") ∷ (locals_words n.locals ++ equations n.equations))) named inputs)

-- `tel` and `;`
pub end_written : {T E : Type 0} (r : Result T E) (s t u : Written) → t ≡ with_bytes s false (codes "tel") false → OnOk r (u ≡ with_bytes t true (codes ";") false) → OnOk r (u ≡ with_words s (name_at tel_mark (codes "tel") ∷ sign (codes ";") ∷ []))
end_written r s t u first last = on_ok_weaker r (λ (h : u ≡ with_bytes t true (codes ";") false). h ∙ ap (λ (w : Written). with_bytes w true (codes ";") false) first) last

-- ---- other clauses

pub eq_written : {T E : Type 0} (r : Result T E) (s t u v : Written) (x names : List Var) (value : Option Term) (whole : Clause) → whole ≡ clause.Eq names value → x ≡ names → t ≡ with_bytes s false (codes "eq") false → u ≡ with_words t (vars_words x)
    → OnOk r (v ≡ with_words u (some_value_words value)) → OnOk r (v ≡ with_words s (clause_words whole))
eq_written r s t u v x names value whole is same first second last =
    let named : u ≡ with_words t (vars_words names) = second ∙ ap (λ (vs : List Var). with_words t (vars_words vs)) same in
    same_on r s v (name_at eq_mark (codes "eq") ∷ (vars_words names ++ some_value_words value)) (clause_words whole) (sym (ap clause_words is))
    (both_on r s t v (name_at eq_mark (codes "eq") ∷ []) (vars_words names ++ some_value_words value) first (both_on r t u v (vars_words names) (some_value_words value) named last))

pub const_written : {T E : Type 0} (r : Result T E) (s t u v : Written) (name : Var) (value : Term) (whole : Clause) → whole ≡ clause.Const name value → t ≡ with_bytes s false (codes "const") false → u ≡ with_words t (var_words name)
    → OnOk r (v ≡ with_words u (value_words (codes "=") value)) → OnOk r (v ≡ with_words s (clause_words whole))
const_written r s t u v name value whole is first second last =
    same_on r s v (name_at const_mark (codes "const") ∷ (var_words name ++ value_words (codes "=") value)) (clause_words whole) (sym (ap clause_words is))
    (both_on r s t v (name_at const_mark (codes "const") ∷ []) (var_words name ++ value_words (codes "=") value) first (both_on r t u v (var_words name) (value_words (codes "=") value) second last))
