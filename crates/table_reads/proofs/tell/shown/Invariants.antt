use Rattle.std.proofs.Common.{◌≡◌, take}
use Rattle.table_reads.specs.Shown.{entries_of, shown_entries}
use Rattle.table_reads.proofs.tell.shown.Given as goal

abbrev pub invariant-loop-handle : goal.invariant-loop-handle
invariant-loop-handle l = shown_entries l.shown.items ≡ entries_of l.container.entries (take l.handle-index l.handles)
