use Rattle.std.proofs.Common.{◌≡◌, ℕ, List, drop}
use Rattle.std.specs.Prelude.{map}
use Rattle.ag_symbols.specs.Indexed.{first_by, found_first}
use Rattle.ag_symbols.specs.Seen.{position_from, var_name}
use Rattle.ag_symbols.proofs.table.push_slots.Given as goal

abbrev pub invariant-loop-var : goal.invariant-loop-var
invariant-loop-var l = record {
  counted : l.at ≡ l.var-index;
  placed : (name : List ℕ) → found_first (first_by (λ e. e.name.now) (λ e. e.at) name l.slots.items) (position_from var_name name l.at (map (λ v. v.now) (drop l.var-index l.vars))) ≡ found_first (first_by (λ e. e.name.now) (λ e. e.at) name l.fn.slots.items) (position_from var_name name 0 (map (λ v. v.now) l.vars));
}
