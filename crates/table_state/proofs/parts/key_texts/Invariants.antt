use Rattle.std.proofs.Common.{◌≡◌, map, take}
use Rattle.table_state.specs.State.{part_text}
use Rattle.table_state.proofs.parts.key_texts.Given as goal

abbrev pub invariant-loop-part : goal.invariant-loop-part
invariant-loop-part l = l.names.items ≡ map (part_text l.fn.columns) (take l.part-index l.parts)
