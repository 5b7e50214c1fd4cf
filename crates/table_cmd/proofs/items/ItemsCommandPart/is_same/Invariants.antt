use Rattle.std.proofs.Common.{◌≡◌, take}
use Rattle.table_cmd.proofs.items.ItemsCommandPart.is_same.Given as goal

abbrev pub invariant-loop-place : goal.invariant-loop-place
invariant-loop-place g l = take l.place l.self ≡ take l.place l.other
