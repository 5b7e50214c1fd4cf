use Rattle.std.proofs.Common.{arith}
use Rattle.hash_index.proofs.segments.locate.Goals as goal

pub returns : goal.returns
returns c = record { at = omega arith; within = omega arith }
