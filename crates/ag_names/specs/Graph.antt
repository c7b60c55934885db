-- The graph of implementations by their numbers, in which those inside themselves are sought.
use Rattle.std.specs.Prelude.{◌≡◌, ◌↔◌, ℕ, Bool, false, List, Option, Some, None, IsTrue, length, map, position, slice_get, slice_index_or}
use Rattle.std.specs.List.{filter_map}
use Rattle.ag_aadl.specs.declared.packages.Category.{Category}
use Rattle.ag_aadl.specs.declared.packages.Package.{Package}
use Rattle.ag_aadl.specs.declared.packages.Sub.{Sub}
use Rattle.ag_graph.specs.Edges.{with_edge}
use Rattle.ag_terms.specs.declared.names.Ident.{Ident}
use Rattle.ag_terms.specs.declared.names.Path.{Path}
use Rattle.ag_names.specs.Containing.{IsInsideItself}
use Rattle.ag_names.specs.Found.{TypeName, is_implementation, named_type}
use Rattle.ag_names.specs.Placed.{Implementation, implementations}

-- These tell of each implementation, by its number, whether it is inside itself.
pub record AreRecursive (all : List Package) (flags : List Bool) : Type 0 where
  pub long : length flags ≡ length (implementations all)
  pub right : (n : ℕ) (i : Implementation) → slice_get (implementations all) n ≡ Some i
      → IsTrue (slice_index_or flags n false) ↔ IsInsideItself all i

-- the number of the implementation that a use names, if it names one that is there
abbrev pub number_as : List Package → TypeName → Option Ident → Option ℕ
number_as all n None = None
number_as all n (Some name) = position (is_implementation n name.text) (implementations all)

-- the number of the implementation of a subcomponent
abbrev pub number_by : List Package → Package → Category → Option Path → Option ℕ
number_by all p category None = None
number_by all p category (Some path) = number_as all (named_type p category path) path.body

abbrev pub sub_number : List Package → Package → Sub → Option ℕ
sub_number all p s = number_by all p s.category s.of

-- the graph in which the last vertex leads to that number too, if it is one
abbrev pub with_target : List (List ℕ) → Option ℕ → List (List ℕ)
with_target graph None = graph
with_target graph (Some n) = with_edge graph n

-- those of all subcomponents, in their order
abbrev pub targets_of : List Package → Implementation → List ℕ
targets_of all i = filter_map (λ s. number_by all i.owner s.category s.of) i.body.subs

-- the graph of implementations by their numbers
abbrev pub graph_of : List Package → List (List ℕ)
graph_of all = map (targets_of all) (implementations all)
