-- Which place comes first in a text, and which of several broken rules.
use Rattle.std.specs.Prelude.{List, [], ◌∷◌, Option, Some, None, if◌then◌else◌}
use Rattle.ag_base.specs.declared.place.Place.{Place}
use Rattle.ag_base.specs.declared.place.Refusal.{Refusal}
use Rattle.ag_base.specs.Rules.{is_before, comes_before}
use Rattle.ag_terms.specs.declared.terms.Term.{Term, Number, Truth, Named, Unary', Binary', Choice', Call', end_of-Term, more_of-Term}
use Rattle.ag_terms.specs.declared.names.Ident.{Ident}
use Rattle.ag_terms.specs.declared.names.Path.{Path}

-- of two places the one that comes first
abbrev pub earlier : Place → Place → Place
earlier p q = if is_before q p then q else p

-- the first place of a name: that of its package, if it has one
abbrev pub first_of : Option Ident → Ident → Place
first_of None name = name.place
first_of (Some owner) name = owner.place

abbrev pub path_place : Path → Place
path_place p = first_of p.«package» p.name

-- the first token of an expression, without the parentheses round it; the arrow that is a `prev` has the place of that word
abbrev pub first_place : Term → Place
first_place (Number value place) = place
first_place (Truth value place) = place
first_place (Named path) = path_place path
first_place (Unary' op place _ arg) = place
first_place (Binary' op place _ (more_of-Term left end_of-Term) _ right) = earlier (first_place left) place
first_place (Choice' place _ test _ chosen _ other) = place
first_place (Call' path _ args) = path_place path

-- of two broken rules the one that is answered
abbrev pub first_refusal : Refusal → Refusal → Refusal
first_refusal r s = if comes_before s r then s else r

-- of several the one at the least place, and there the first in the order
abbrev pub first_with : Refusal → Option Refusal → Refusal
first_with r None = r
first_with r (Some s) = first_refusal r s

abbrev pub first_broken : List Refusal → Option Refusal
first_broken [] = None
first_broken (r ∷ rs) = Some (first_with r (first_broken rs))
