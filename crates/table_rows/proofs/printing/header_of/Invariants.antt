use Rattle.std.proofs.Common.{◌≡◌, [], take}
use Rattle.csv.specs.Records.{fields_of, partial_of}
use Rattle.table_rows.specs.Csv.{names_of}
use Rattle.table_rows.proofs.printing.header_of.Given as goal

abbrev pub invariant-loop-column : goal.invariant-loop-column
invariant-loop-column l = record {
  fields : fields_of l.row ≡ names_of (take l.column-index l.columns);
  partial : partial_of l.row ≡ [];
}
