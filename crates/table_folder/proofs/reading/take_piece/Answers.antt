use Rattle.std.proofs.Common.{refl}
use Rattle.table_folder.proofs.Pieces.{takes_piece}
use Rattle.table_folder.proofs.reading.take_piece.Goals as goal

pub returns-clause-rest : goal.returns-clause-rest
returns-clause-rest g c bytes is =
    takes_piece c.args.reader.now c.take.new.self c.args.at c.in_ok-count.count _ _ bytes refl (c.in_ok-count.ensures.bytes.read bytes is) c.in_ok-take.ensures
