use Rattle.std.proofs.Common.{◌≡◌, drop}
use Rattle.tables_c.specs.Cells.{hold_key}
use Rattle.tables_c.proofs.search.hold_key.Given as goal

abbrev pub invariant-loop-place : goal.invariant-loop-place
invariant-loop-place l = hold_key l.columns (drop l.place l.parts) (drop l.place l.cells) ≡ hold_key l.columns l.parts l.cells
