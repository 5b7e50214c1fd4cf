use Rattle.std.proofs.Common.{◌≡◌, map, take}
use Rattle.table_step.specs.Step.{new_table}
use Rattle.table_engine.proofs.carry.Tables.new.Given as goal

abbrev pub invariant-loop-spec : goal.invariant-loop-spec
invariant-loop-spec l = l.tables.items ≡ map new_table (take l.spec-index l.specs)
