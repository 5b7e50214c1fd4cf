use Rattle.std.proofs.Common.{refl}
use Rattle.table_folder.specs.Lines.{with_byte}
use Rattle.table_folder.proofs.Pieces.{folds_piece}
use Rattle.table_folder.proofs.lines.take_piece.Goals as goal

pub returns-clause-rest : goal.returns-clause-rest
returns-clause-rest g c bytes is =
    folds_piece with_byte c.args.lines.now c.take.new.self c.args.at c.in_ok-count.count _ _ bytes refl (c.in_ok-count.ensures.bytes.read bytes is) c.take.ensures
