use Rattle.std.proofs.Common.{◌≡◌, drop}
use Rattle.table_alter.specs.Altered.{first_beyond}
use Rattle.table_alter.proofs.entries.first_beyond.Given as goal

abbrev pub invariant-loop-entry : goal.invariant-loop-entry
invariant-loop-entry l = first_beyond l.max (drop l.entry-index l.entries) ≡ first_beyond l.max l.entries
