use Rattle.std.proofs.Common.{◌≡◌, map, take}
use Rattle.logged_tables.proofs.tables.names_of.Given as goal

abbrev pub invariant-loop-table : goal.invariant-loop-table
invariant-loop-table g l = l.names.items ≡ map (λ t. t.table.shape.name) (take l.table-index l.tables)
