-- What the constants of a scope are worth.
use Rattle.std.specs.Prelude.{◌≡◌, ℕ, List, Option, Some, None, slice_get, slice_index_or}
use Rattle.ag_symbols.specs.Seen.{Seen}
use Rattle.ag_linear.specs.declared.value.Value.{Value}
use Rattle.ag_types.specs.Meaning.{Reading, Run, number, worth}
use Rattle.ag_types.specs.SumRows.{IsValueOf}
use Rattle.ag_types.specs.Uses.{Constant, constants_of, AreValues}

-- the constants of a scope have these values, each one of its type, and in every run each is worth what its expression is worth where that stands
pub record AreWorth (s : Seen) (values : List (Option Value)) : Type 0 where
  pub valued : AreValues s values
  pub there : (k : ℕ) (c : Constant) → slice_get (constants_of s) k ≡ Some c → IsValueOf c.var.ty (slice_index_or values k None)
  pub worth_of : (k : ℕ) (c : Constant) → slice_get (constants_of s) k ≡ Some c →
      (r : Reading) → r.names ≡ c.names → r.values ≡ values → (run : Run) (at : ℕ) → number (slice_index_or values k None) ≡ worth r run c.term at
