use Rattle.std.proofs.Common.{◌≡◌, ◌++◌, ◌+◌, ℕ, List, length}
use Rattle.std.specs.Io.KnownBytes.{append_known}
use Rattle.file_disk.proofs.disk.FileDiskDisk.append.Given as goal

abbrev pub invariant-loop-rest : goal.invariant-loop-rest
invariant-loop-rest g l = record {
  done : List ℕ;
  split : done ++ l.rest ≡ l.bytes;
  written : g.F.LogFile.contents l.self.file ≡ append_known (g.F.LogFile.contents l.fn.self.file) done;
  size : l.self.size ≡ l.fn.self.size + length done;
  synced : l.self.synced ≡ l.fn.self.synced;
  failures : l.self.failures ≡ l.fn.self.failures;
}

abbrev pub decreases-loop-rest : goal.decreases-loop-rest
decreases-loop-rest g l = length l.rest
