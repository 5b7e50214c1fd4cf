use Rattle.std.proofs.Common.{◌≡◌, map, take}
use Rattle.table_cmd.specs.declared.command.HandleText.TheVariants.{Handle}
use Rattle.table_state.proofs.parts.handles_of.Given as goal

abbrev pub invariant-loop-handle : goal.invariant-loop-handle
invariant-loop-handle l = l.texts.items ≡ map Handle (take l.handle-index l.handles)
