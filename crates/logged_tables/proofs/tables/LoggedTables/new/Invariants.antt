use Rattle.std.proofs.Common.{◌≡◌, vec_len, ◌+◌, length}
use Rattle.logged_tables.proofs.tables.LoggedTables.new.Given as goal

abbrev pub invariant-loop-table : goal.invariant-loop-table
invariant-loop-table g l = vec_len l.locks + length l.table-iterator.rest.items ≡ vec_len l.fn.tables
