use Rattle.table_rows.proofs.Cells.{reads}
use Rattle.table_rows.proofs.law.csv_cells.Goals as goal

pub returns : goal.returns
returns c = reads
