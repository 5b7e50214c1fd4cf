use Rattle.std.proofs.Common.{flat_map, take}
use Rattle.std.specs.Io.KnownBytes.{Appends}
use Rattle.container_model.specs.State.{list_at}
use Rattle.table_rows.specs.Inserts.{insert_line_at}
use Rattle.table_rows.proofs.inserts.write_inserts.Given as goal

abbrev pub invariant-loop-handle : goal.invariant-loop-handle
invariant-loop-handle g l =
    Appends (g.W.Write.contents l.fn.to) (g.W.Write.contents l.to) (flat_map (insert_line_at l.table) (take l.handle-index (list_at l.table.records.lists l.index)))
