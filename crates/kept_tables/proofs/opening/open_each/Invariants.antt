use Rattle.std.proofs.Common.{◌≡◌, ◌+◌, length}
use Rattle.std.specs.List.{All}
use Rattle.kept_tables.specs.Opened.{IsOpened}
use Rattle.kept_tables.proofs.opening.open_each.Given as goal

abbrev pub invariant-loop-ready : goal.invariant-loop-ready
invariant-loop-ready l = (length l.tables.items + length l.ready-iterator.rest.items ≡ length l.fn.decided.items) × All IsOpened l.tables.items
