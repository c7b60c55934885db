-- That a value is of a type has one proof.
use Rattle.std.specs.Prelude.{Option, Some, None}
use Rattle.ag_terms.specs.declared.clauses.Ty.{Ty}
use Rattle.ag_terms.specs.declared.clauses.Ty.TheVariants.{Int, Bool as Boolean}
use Rattle.ag_linear.specs.declared.value.Value.{Value}
use Rattle.ag_linear.specs.declared.value.Value.TheVariants as value
use Rattle.ag_types.specs.SumRows.{IsValueOf}

pub value_of-prop : (ty : Ty) (o : Option Value) → IsProp (IsValueOf ty o)
value_of-prop Int None = Prim.hlevel
value_of-prop Int (Some (value.Whole z)) = Prim.hlevel
value_of-prop Int (Some (value.Truth b)) = Prim.hlevel
value_of-prop Boolean None = Prim.hlevel
value_of-prop Boolean (Some (value.Whole z)) = Prim.hlevel
value_of-prop Boolean (Some (value.Truth b)) = Prim.hlevel
