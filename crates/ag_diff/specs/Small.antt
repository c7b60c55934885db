-- How large the numbers of a model are.
use Rattle.std.specs.Prelude.{◌<◌, ◌^◌, All, ⊤, unsigned_abs}
use Rattle.ag_kernel.specs.declared.theory.Found.{Found}
use Rattle.ag_kernel.specs.declared.theory.Found.TheVariants.{Model, Line, Leaf}

-- the numbers, if there are any, are of magnitude less than 2^62
abbrev pub HasSmallNumbers : Found → Type 0
HasSmallNumbers (Model numbers) = All (λ x. unsigned_abs x < 2 ^ 62) numbers
HasSmallNumbers (Line n) = ⊤
HasSmallNumbers Leaf = ⊤
