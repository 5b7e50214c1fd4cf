use Rattle.table_reply.proofs.Cells.{slice_get_item}
use Rattle.table_reply.proofs.records.print_cell_at.Goals as goal

pub returns : goal.returns
returns c =
    rw (← slice_get_item c.args.cells.now c.args.place c.get.result c.get.ensures.lookup) c.print_cell.ensures
