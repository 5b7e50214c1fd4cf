use Rattle.std.proofs.Common.{◌≡◌, take}
use Rattle.shared_tables.specs.Journals.{fresh_cells}
use Rattle.shared_tables.proofs.shared.fresh_cells.Given as goal

abbrev pub invariant-loop-spec : goal.invariant-loop-spec
invariant-loop-spec l = l.cells.items ≡ fresh_cells (take l.spec-index l.specs) l.workers
