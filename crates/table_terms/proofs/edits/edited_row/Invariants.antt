use Rattle.std.proofs.Common.{◌≡◌, ◌++◌, drop}
use Rattle.std.specs.Prelude.{option_map}
use Rattle.table_terms.specs.Edits.{edited_from}
use Rattle.table_terms.proofs.edits.edited_row.Given as goal

abbrev pub invariant-loop-place : goal.invariant-loop-place
invariant-loop-place l =
    option_map (λ rest. l.edited.items ++ rest) (edited_from l.columns l.set l.add l.place (drop l.place l.cells)) ≡ edited_from l.columns l.set l.add 0 l.cells
