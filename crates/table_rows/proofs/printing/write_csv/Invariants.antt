use Rattle.std.proofs.Common.{◌≡◌, ◌++◌, false, flat_map, take}
use Rattle.std.specs.Io.KnownBytes.{Appends}
use Rattle.container_model.specs.State.{list_at}
use Rattle.csv.specs.Writing.{default_writer, fields_written, has_written, row_text, text_written, writer_setup}
use Rattle.table_rows.specs.Csv.{names_of, row_at}
use Rattle.table_rows.proofs.printing.write_csv.Given as goal

abbrev pub invariant-loop-handle : goal.invariant-loop-handle
invariant-loop-handle g l = record {
  text : Appends (g.W.Write.contents l.fn.to) (text_written g.W.Write.contents l.rows)
      (row_text default_writer (names_of l.table.shape.columns) ++ flat_map (row_at l.table) (take l.handle-index (list_at l.table.records.lists l.index)));
  setup : writer_setup l.rows ≡ default_writer;
  fields : fields_written l.rows ≡ 0;
  clean : has_written l.rows ≡ false;
}
