use Rattle.std.proofs.Common.{◌-◌, ◌≤◌, drop, arith, length-take}
use Rattle.table_folder.proofs.Fronts.{window_reads}
use Rattle.table_folder.proofs.window.WindowLogFile.read_from.Goals as goal
use Rattle.table_folder.proofs.window.WindowLogFile.read_from.Goals.{then-left-piece, else-left-piece}

pub returns-clause-bytes : goal.returns-clause-bytes
returns-clause-bytes g c =
    let room : c.if-left-piece.room ≤ c.args.self.now.end - c.in-Some.place = elim c.if-left-piece.branch [ then-left-piece w ↦ omega arith | else-left-piece w ↦ omega arith ] in
    window_reads c.read_from.result (g.L.LogFile.contents c.args.self.now.file) c.args.self.now.first c.args.self.now.end c.args.at c.in-Some.place c.read_from.new.piece
    (drop c.if-left-piece.room c.args.piece.now) (omega arith) (omega (arith, c.read_from.ensures.room, length-take c.if-left-piece.room c.args.piece.now)) c.read_from.ensures.bound c.read_from.ensures.bytes
