-- Lines and multipliers.
use Rattle.std.specs.Prelude.{ℕ, ℤ, pos, List}
use Rattle.ag_query.specs.declared.rows.Atom.{Atom}
use Rattle.ag_kernel.specs.declared.line.Line.{Line}
use Rattle.ag_kernel.specs.Rules.{line_at, unfolded}
use Rattle.ag_diff.specs.declared.edges.Edge.{Edge}

-- a line that is named, with its multiplier
abbrev pub named : List Line → ℕ × ℤ → Line × ℤ
named lines p = (line_at lines p.0, p.1)

-- the edge's literal unfolded, once
abbrev pub unfolded_once : List Atom → Edge → Line × ℤ
unfolded_once atoms e = (unfolded atoms e.lit, pos 1)
