use Rattle.std.proofs.Common.{◌≤◌, length}
use Rattle.shared_tables.proofs.Prefixes.{Agree}
use Rattle.shared_tables.proofs.cell.TableCell.has_writes.Given as goal

abbrev pub invariant-loop-before : goal.invariant-loop-before
invariant-loop-before l = Agree l.session l.entry-items l.before l.writes.items l.next × (l.next ≤ length l.writes.items)
