use Rattle.std.proofs.Common.{take}
use Rattle.std.specs.Prelude.{All}
use Rattle.shared_tables.specs.Journals.{AllAgree}
use Rattle.shared_tables.proofs.unlocked.first_mismatch.Given as goal

abbrev pub invariant-loop-table : goal.invariant-loop-table
invariant-loop-table l = All (AllAgree l.passes) (take l.table l.cells)
