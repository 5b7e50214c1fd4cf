use Rattle.std.proofs.Common.{length}
use Rattle.table_folder.specs.Reading.{Takes}
use Rattle.table_folder.proofs.reading.LogReader.take.Given as goal

abbrev pub invariant-loop-front : goal.invariant-loop-front
invariant-loop-front l = Takes l.fn.self l.piece l.left l.self

abbrev pub decreases-loop-front : goal.decreases-loop-front
decreases-loop-front l = length l.left
