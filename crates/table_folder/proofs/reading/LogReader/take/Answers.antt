use Rattle.std.proofs.Common.{refl}
use Rattle.table_folder.proofs.Pieces.{takes_line}
use Rattle.table_folder.proofs.reading.LogReader.take.Goals as goal

pub loop-front-preserved : goal.loop-front-preserved
loop-front-preserved c =
    takes_line c.args.self.now c.loop-front.self (record c.loop-front.self { line = c.extend_from_slice.new.self }) c.end_line.new.self c.args.piece.now c.loop-front.left.now c.in-Some.front.now c.in-Some.rest.now
    c.loop-front.invariant c.in-Some.ensures.0 c.in-Some.ensures.1 refl c.in_ok-extend_from_slice.ensures.items c.end_line.ensures.0 c.end_line.ensures.1
