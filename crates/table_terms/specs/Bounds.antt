-- The bounds of a command at an index of a table.
use Rattle.std.specs.Prelude.{ℕ, List, Option, Some, option_map, option_and_then, slice_get, ⊤}
use Rattle.std.specs.declared.ops.Bound.{Bound}
use Rattle.std.specs.declared.ops.Bound.TheVariants as ends
use Rattle.table_cmd.specs.declared.command.KeyBound.{KeyBound}
use Rattle.table_cmd.specs.declared.command.KeyBound.TheVariants as keys
use Rattle.table_cmd.specs.declared.command.Value.{Value}
use Rattle.table_schema.specs.Shape.{TableShape}
use Rattle.table_terms.specs.declared.bounds.ProbeBound.{ProbeBound}
use Rattle.table_terms.specs.declared.bounds.ProbeBound.TheVariants as probes
use Rattle.table_terms.specs.Table.{Cells}
use Rattle.table_terms.specs.Values.{◌>>=◌, probe_from}
use Rattle.table_terms.specs.Words.{IsKeyAt}

-- the search key that values are at the index of a number
abbrev pub probe_there : TableShape → ℕ → List Value → Option Cells
probe_there shape index values = option_and_then (λ i. probe_from shape.columns i values) (slice_get shape.indices index)

-- a bound with the search key that its values are at the index of a number
abbrev pub bound_at : TableShape → ℕ → KeyBound → Option ProbeBound
bound_at shape index (keys.Included values) = option_map (λ probe. probes.Included probe) (probe_there shape index values)
bound_at shape index (keys.Excluded values) = option_map (λ probe. probes.Excluded probe) (probe_there shape index values)
bound_at shape index keys.Unbounded = Some probes.Unbounded

-- two bounds, where each has a search key or needs none
abbrev pub bounds_at : TableShape → ℕ → (low high : KeyBound) → Option (ProbeBound × ProbeBound)
bounds_at shape index low high = do
  l ← bound_at shape index low
  h ← bound_at shape index high
  Some (l, h)

-- as the container takes it
abbrev pub end_of : ProbeBound → Bound Cells
end_of (probes.Included probe) = ends.Included probe
end_of (probes.Excluded probe) = ends.Excluded probe
end_of probes.Unbounded = ends.Unbounded

-- a bound by a search key of the index of a number, or by none
abbrev pub IsBoundAt : TableShape → ℕ → ProbeBound → Type 0
IsBoundAt shape index (probes.Included probe) = IsKeyAt shape index probe
IsBoundAt shape index (probes.Excluded probe) = IsKeyAt shape index probe
IsBoundAt shape index probes.Unbounded = ⊤
