use Rattle.std.proofs.Common.{arith}
use Rattle.checked_log.specs.Whole.{ended, whole}
use Rattle.checked_disk.proofs.Sure.{sure_grows}
use Rattle.checked_disk.proofs.disk.CheckedDisk.kept.Goals as goal

pub returns-clause-of : goal.returns-clause-of
returns-clause-of g c = λ bytes is.
    let disk = c.args.self.now in
    let base = disk.texts.base in
    record {
      lines = disk.kept bytes is;
      sure = omega (arith, disk.tail bytes is, sure_grows base (whole base (ended bytes)) disk.texts.reader.durable disk.log.durable disk.durable);
    }
