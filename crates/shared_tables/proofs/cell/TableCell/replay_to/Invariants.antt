use Rattle.std.proofs.Common.{◌≡◌, take}
use Rattle.shared_tables.specs.Journal.{replay}
use Rattle.shared_tables.proofs.cell.TableCell.replay_to.Given as goal

abbrev pub invariant-loop-index : goal.invariant-loop-index
invariant-loop-index l = l.table ≡ replay l.self.shape (take l.index l.self.journal)
