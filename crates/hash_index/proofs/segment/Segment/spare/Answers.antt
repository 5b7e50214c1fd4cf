use Rattle.std.proofs.Common.{arith}
use Rattle.hash_index.proofs.Paired.{count_is}
use Rattle.hash_index.proofs.segment.Segment.spare.Goals as goal

pub returns : goal.returns
returns c = omega (arith, count_is c.args.self.now, c.capacity.ensures, c.len.ensures)
