use Rattle.std.proofs.Common.{◌≡◌, drop}
use Rattle.std.specs.Prelude.{find, bytes_eq}
use Rattle.table_schema.specs.declared.column.Column.{Column}
use Rattle.table_terms.proofs.edits.column_named.Given as goal

abbrev pub invariant-loop-column : goal.invariant-loop-column
invariant-loop-column l =
    find (λ (column : Column). bytes_eq column.name l.name) (drop l.column-index l.columns) ≡ find (λ (column : Column). bytes_eq column.name l.name) l.columns
