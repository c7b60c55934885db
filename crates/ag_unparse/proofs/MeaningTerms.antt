-- Terms without places, as their readings make them.
use denote.Hole.Carrier.{hidden}
use Rattle.std.proofs.Common.{◌≡◌, List, ◌∷◌, map, refl, ap, ◌∙◌}
use Rattle.ag_base.specs.declared.place.Place.{Place}
use Rattle.ag_terms.specs.declared.names.Path.{Path}
use Rattle.ag_terms.specs.declared.terms.Binary.{Binary}
use Rattle.ag_terms.specs.declared.terms.Unary.{Unary}
use Rattle.ag_terms.specs.declared.terms.Term.{Term, Row_of-Term, end_of-Term, more_of-Term, items-the_row-Term, items_hidden-the_row-Term-1}
use Rattle.ag_terms.specs.declared.terms.Term.TheBlock.{hidden-the_row-Term-0, hidden-the_row-Term-1}
use Rattle.ag_terms.specs.declared.terms.Term.TheViews as term
use Rattle.ag_unparse.specs.Same.{bare_term, bare_terms, bare_path, nowhere}

pub bare_unary : (op : Unary) (place : Place) (t : Term) → bare_term (term.Unary op place t) ≡ term.Unary op nowhere (bare_term t)
unfolding hidden-the_row-Term-0 hidden
bare_unary op place t = refl

pub bare_binary : (op : Binary) (place : Place) (t u : Term) → bare_term (term.Binary op place t u) ≡ term.Binary op nowhere (bare_term t) (bare_term u)
unfolding hidden-the_row-Term-0 hidden
bare_binary op place t u = refl

pub bare_choice : (place : Place) (t u v : Term) → bare_term (term.Choice place t u v) ≡ term.Choice nowhere (bare_term t) (bare_term u) (bare_term v)
unfolding hidden-the_row-Term-0 hidden
bare_choice place t u v = refl

bare_items : {n : _} (row : Row_of-Term n) → bare_terms row ≡ map bare_term (items-the_row-Term n row)
bare_items end_of-Term = refl
bare_items (more_of-Term t rest) = ap (λ (z : List Term). bare_term t ∷ z) (bare_items rest)

pub bare_call : (p : Path) (ts : List Term) → bare_term (term.Call p ts) ≡ term.Call (bare_path p) (map bare_term ts)
bare_call p ts = ap (λ (z : List Term). term.Call (bare_path p) z) (bare_items (hidden-the_row-Term-1 ts) ∙ ap (map bare_term) (items_hidden-the_row-Term-1 ts))
