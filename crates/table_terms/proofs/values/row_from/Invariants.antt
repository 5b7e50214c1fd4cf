use Rattle.std.proofs.Common.{◌≡◌, ◌++◌, drop}
use Rattle.std.specs.Prelude.{option_map}
use Rattle.table_terms.specs.Values.{column_cells}
use Rattle.table_terms.proofs.values.row_from.Given as goal

abbrev pub invariant-loop-column : goal.invariant-loop-column
invariant-loop-column l =
    option_map (λ rest. l.cells.items ++ rest) (column_cells l.fields (drop l.column-index l.columns)) ≡ column_cells l.fields l.columns
