use Rattle.std.proofs.Common.{◌≡◌, vec_len, ◌+◌, length, map, take}
use Rattle.logged_tables.proofs.tables.LoggedTables.into_tables.Given as goal

abbrev pub invariant-loop-lock : goal.invariant-loop-lock
invariant-loop-lock g l = (vec_len l.tables + length l.lock-iterator.rest.items ≡ vec_len l.names) × (map (λ t. t.table.shape.name) l.tables.items ≡ take (vec_len l.tables) l.names.items)
