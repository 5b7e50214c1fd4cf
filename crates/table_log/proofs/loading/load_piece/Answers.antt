use Rattle.std.proofs.Common.{subst}
use Rattle.table_log.specs.Loading.{Loads, Refuses}
use Rattle.table_log.proofs.Feeding.{loads_to, refuses_from}
use Rattle.table_log.proofs.loading.load_piece.Goals as goal

pub returns-in-Ok-take-clause-loaded : goal.returns-in-Ok-take-clause-loaded
returns-in-Ok-take-clause-loaded g c =
    loads_to (g.D.Disk.contents c.args.disk.now) c.read.new.piece c.args.at c.in-Ok.count c.args.loader.now c.take.new.self c.in-Ok.ensures.bytes.read
    (subst (λ xs. Loads c.args.loader.now xs c.take.new.self) c.split_at.ensures.front c.in-Ok-take.ensures.loaded)

pub returns-in-Err-take-clause-refused : goal.returns-in-Err-take-clause-refused
returns-in-Err-take-clause-refused g c =
    refuses_from (g.D.Disk.contents c.args.disk.now) c.read.new.piece c.args.at c.in-Ok.count c.args.loader.now c.in-Err-take.why c.in-Ok.ensures.bytes.read
    (subst (λ xs. Refuses c.args.loader.now xs c.in-Err-take.why) c.split_at.ensures.front c.in-Err-take.ensures.refused)
