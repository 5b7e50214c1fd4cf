use Rattle.std.proofs.Common.{◌≡◌, ◌++◌, [], drop}
use Rattle.csv.specs.Records.{fields_of, partial_of}
use Rattle.table_rows.specs.Csv.{row_fields}
use Rattle.table_rows.proofs.printing.row_fields.Given as goal

abbrev pub invariant-loop-place : goal.invariant-loop-place
invariant-loop-place l = record {
  fields : fields_of l.row ++ row_fields (drop l.place l.columns) (drop l.place l.cells) ≡ row_fields l.columns l.cells;
  partial : partial_of l.row ≡ [];
}
