use Rattle.std.proofs.Common.{◌+◌, drop, take, ap, ◌∙◌, arith}
use Rattle.checked_log.specs.Digest.{finished}
use Rattle.table_folder.proofs.Fronts.{within_front}
use Rattle.table_folder.proofs.Pieces.{piece_there}
use Rattle.table_folder.proofs.digesting.take_piece.Goals as goal

pub returns-clause-rest : goal.returns-clause-rest
returns-clause-rest g c bytes is =
    let read = within_front c.args.at c.in_ok-count.count c.args.end c.read_some.new.piece bytes (omega (arith, c.in_ok-count.ensures.within)) (c.in_ok-count.ensures.read bytes is) in
    c.take.ensures (drop (c.args.at + c.in_ok-count.count) (take c.args.end bytes))
    ∙ ap (finished c.args.digesting.now) (piece_there c.args.at c.in_ok-count.count c.read_some.new.piece (take c.args.end bytes) read)
