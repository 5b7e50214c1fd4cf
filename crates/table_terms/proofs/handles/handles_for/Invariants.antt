use Rattle.std.proofs.Common.{◌≡◌, ◌++◌, drop}
use Rattle.std.specs.Prelude.{option_map}
use Rattle.table_terms.specs.Words.{spelled}
use Rattle.table_terms.proofs.handles.handles_for.Given as goal

abbrev pub invariant-loop-text : goal.invariant-loop-text
invariant-loop-text l = option_map (λ rest. l.handles.items ++ rest) (spelled (drop l.text-index l.texts)) ≡ spelled l.texts
