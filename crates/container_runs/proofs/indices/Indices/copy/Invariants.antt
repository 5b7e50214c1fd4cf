use Rattle.std.proofs.Common.{◌≡◌, take}
use Rattle.container_runs.proofs.indices.Indices.copy.Given as goal

abbrev pub invariant-loop-key : goal.invariant-loop-key
invariant-loop-key l = l.keys.items ≡ take l.key-index l.self.keys.items
