-- The words of an expression that is made of plain parts.
use denote.Hole.Carrier.{hidden}
use Rattle.std.proofs.Common.{◌≡◌, List, [], ◌∷◌, ◌++◌, refl, ap, ◌∙◌, codes}
use Rattle.ag_base.specs.declared.place.Place.{Place}
use Rattle.ag_terms.specs.declared.names.Path.{Path}
use Rattle.ag_terms.specs.declared.terms.Binary.{Binary}
use Rattle.ag_terms.specs.declared.terms.Term.{Term, Row_of-Term, end_of-Term, more_of-Term, items-the_row-Term, items_hidden-the_row-Term-1}
use Rattle.ag_terms.specs.declared.terms.Term.TheBlock.{hidden-the_row-Term-0, hidden-the_row-Term-1}
use Rattle.ag_terms.specs.declared.terms.Term.TheViews as term
use Rattle.ag_terms.specs.declared.terms.Unary.{Unary}
use Rattle.ag_terms.specs.declared.terms.Unary.TheVariants as unary
use Rattle.ag_annex.specs.Marks.{negative_mark, not_mark, pre_mark, if_mark, then_mark, else_mark, operand_mark, call_mark}
use Rattle.ag_unparse.specs.Layout.{Spelled}
use Rattle.ag_unparse.specs.Canonical.{name_at, sign_at, path_words, binary_word, open_word, close_word, term_words, argument_words}
use Rattle.ag_unparse.specs.Written.{unary_words, comma, listed_words}

pub words_minus : (place : Place) (t : Term) → term_words (term.Unary unary.Minus place t) ≡ open_word ∷ sign_at negative_mark (codes "-") ∷ (term_words t ++ close_word ∷ [])
unfolding hidden-the_row-Term-0 hidden
words_minus place t = refl

pub words_not : (place : Place) (t : Term) → term_words (term.Unary unary.Not place t) ≡ open_word ∷ name_at not_mark (codes "not") ∷ (term_words t ++ close_word ∷ [])
unfolding hidden-the_row-Term-0 hidden
words_not place t = refl

pub words_pre : (place : Place) (t : Term) → term_words (term.Unary unary.Pre place t) ≡ name_at pre_mark (codes "pre") ∷ sign_at operand_mark (codes "(") ∷ (term_words t ++ close_word ∷ [])
unfolding hidden-the_row-Term-0 hidden
words_pre place t = refl

pub words_unary : (op : Unary) (place : Place) (t : Term) → term_words (term.Unary op place t) ≡ unary_words op ++ (term_words t ++ close_word ∷ [])
words_unary unary.Minus place t = words_minus place t
words_unary unary.Not place t = words_not place t
words_unary unary.Pre place t = words_pre place t

pub words_binary : (op : Binary) (place : Place) (left right : Term) → term_words (term.Binary op place left right) ≡ open_word ∷ (term_words left ++ binary_word op ∷ (term_words right ++ close_word ∷ []))
unfolding hidden-the_row-Term-0 hidden
words_binary op place left right = refl

pub words_choice : (place : Place) (test chosen other : Term) → term_words (term.Choice place test chosen other)
    ≡ open_word ∷ name_at if_mark (codes "if") ∷ (term_words test ++ name_at then_mark (codes "then") ∷ (term_words chosen ++ name_at else_mark (codes "else") ∷ (term_words other ++ close_word ∷ [])))
unfolding hidden-the_row-Term-0 hidden
words_choice place test chosen other = refl

pub words_listed : {n : _} (before : List Spelled) (row : Row_of-Term n) → argument_words before row ≡ listed_words before (items-the_row-Term n row)
words_listed before end_of-Term = refl
words_listed before (more_of-Term t rest) = ap (λ (ws : List Spelled). before ++ (term_words t ++ ws)) (words_listed comma rest)

pub words_call : (p : Path) (ts : List Term) → term_words (term.Call p ts) ≡ path_words p ++ sign_at call_mark (codes "(") ∷ (listed_words [] ts ++ close_word ∷ [])
words_call p ts =
    ap (λ (ws : List Spelled). path_words p ++ sign_at call_mark (codes "(") ∷ (ws ++ close_word ∷ [])) (words_listed [] (hidden-the_row-Term-1 ts) ∙ ap (listed_words []) (items_hidden-the_row-Term-1 ts))
