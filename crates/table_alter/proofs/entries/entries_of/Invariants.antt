use Rattle.std.proofs.Common.{◌≡◌, None, map, take}
use Rattle.std.specs.List.{AllByRecursion}
use Rattle.table_alter.specs.Sources.{entry_from, first_unheld}
use Rattle.table_alter.proofs.entries.entries_of.Given as goal

abbrev pub invariant-loop-handle : goal.invariant-loop-handle
invariant-loop-handle l = record {
  entries : l.entries.items ≡ map (entry_from l.sources) (take l.handle-index l.table.records.entries);
  held : AllByRecursion (λ e. first_unheld l.columns e.row ≡ None) l.entries.items;
}
