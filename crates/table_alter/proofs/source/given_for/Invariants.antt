use Rattle.std.proofs.Common.{◌≡◌, drop}
use Rattle.table_alter.specs.Sources.{given_for}
use Rattle.table_alter.proofs.source.given_for.Given as goal

abbrev pub invariant-loop-fill : goal.invariant-loop-fill
invariant-loop-fill l = given_for (drop l.fill-index l.fills) l.name ≡ given_for l.fills l.name
