use Rattle.std.proofs.Common.{◌≡◌, map, take}
use Rattle.table_alter.proofs.scaffold.handles_of.Given as goal

abbrev pub invariant-loop-entry : goal.invariant-loop-entry
invariant-loop-entry l = l.handles.items ≡ map (λ e. e.handle) (take l.entry-index l.entries)
