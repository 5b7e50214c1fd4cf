use Rattle.std.proofs.Common.{◌≡◌, map, take}
use Rattle.std.specs.Prelude.{All}
use Rattle.shared_tables.specs.Journals.{IsLegalCell, cells_of}
use Rattle.shared_tables.proofs.unlocked.are_of.Given as goal

abbrev pub invariant-loop-place : goal.invariant-loop-place
invariant-loop-place l =
    (take l.place l.cells ≡ cells_of (take l.place l.specs) l.workers (map (λ cell. cell.journal) (take l.place l.cells)))
    × All IsLegalCell (take l.place l.cells)
