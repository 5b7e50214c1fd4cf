use Rattle.std.proofs.Common.{◌≡◌, ◌++◌, drop}
use Rattle.table_terms.specs.Edits.{keyed_from}
use Rattle.table_terms.proofs.new_key.keyed_row.Given as goal

abbrev pub invariant-loop-column : goal.invariant-loop-column
invariant-loop-column l = l.keyed.items ++ keyed_from l.parts l.key l.column (drop l.column l.cells) ≡ keyed_from l.parts l.key 0 l.cells
