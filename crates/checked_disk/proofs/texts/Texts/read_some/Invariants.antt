use Rattle.std.proofs.Common.{◌≡◌, ◌-◌}
use Rattle.checked_disk.specs.Files.{IsQuiet}
use Rattle.checked_disk.specs.Reading.{IsReading, KeepsTail}
use Rattle.checked_disk.proofs.texts.Texts.read_some.Given as goal

abbrev pub invariant-loop-self : goal.invariant-loop-self
invariant-loop-self g l = record {
  contents : g.F.LogFiles.contents l.disk.files ≡ g.F.LogFiles.contents l.fn.disk.files;
  size : l.disk.size ≡ l.fn.disk.size;
  base : l.self.base ≡ l.fn.self.base;
  read_at : l.self.read_at ≡ l.fn.self.read_at;
  reading : IsReading (g.F.LogFiles.contents l.fn.disk.files) l.self;
  quiet : IsQuiet g.F.LogFiles.written g.F.LogFiles.may_leave g.F.LogFiles.moment g.F.LogFiles.left_since l.fn.disk.files l.disk.files;
  tail : KeepsTail (g.F.LogFiles.contents l.fn.disk.files) l.fn.self l.self;
}

abbrev pub decreases-loop-self : goal.decreases-loop-self
decreases-loop-self g l = l.disk.size - l.self.reader.place
