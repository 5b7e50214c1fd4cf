use Rattle.std.proofs.Common.{◌≡◌, ◌++◌, drop}
use Rattle.std.specs.Prelude.{option_map}
use Rattle.table_terms.specs.Values.{part_cells}
use Rattle.table_terms.proofs.values.probe_from.Given as goal

abbrev pub invariant-loop-place : goal.invariant-loop-place
invariant-loop-place l =
    option_map (λ rest. l.cells.items ++ rest) (part_cells l.columns (drop l.place l.parts) (drop l.place l.values)) ≡ part_cells l.columns l.parts l.values
