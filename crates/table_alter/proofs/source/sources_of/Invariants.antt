use Rattle.std.proofs.Common.{◌≡◌, map, take}
use Rattle.table_alter.specs.Sources.{source_of}
use Rattle.table_alter.proofs.source.sources_of.Given as goal

abbrev pub invariant-loop-column : goal.invariant-loop-column
invariant-loop-column l = l.sources.items ≡ map (source_of l.before l.fills) (take l.column-index l.after)
