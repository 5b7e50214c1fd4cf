use Rattle.std.proofs.Common.{◌≡◌, ◌+◌, ◌<◌, ◌^◌, ◌++◌, max, ℕ, List, length, option_map}
use Rattle.file_disk.specs.File.{over}
use Rattle.checked_disk.specs.Files.{Writes}
use Rattle.checked_disk.specs.Stands.{WriteLasts}
use Rattle.checked_disk.proofs.held.Held.write.Given as goal

abbrev pub invariant-loop-rest : goal.invariant-loop-rest
invariant-loop-rest g l = record {
  done : List ℕ;
  split : done ++ l.rest ≡ l.bytes;
  place : l.place ≡ l.at + length done;
  room : l.at + length l.bytes < 2 ^ 64;
  contents : g.F.LogFiles.contents l.self.files ≡ option_map (over l.at done) (g.F.LogFiles.contents l.fn.self.files);
  size : l.self.size ≡ max l.fn.self.size (l.at + length done);
  mark : g.F.LogFiles.mark l.self.files ≡ g.F.LogFiles.mark l.fn.self.files;
  settles : g.F.LogFiles.settles l.self.files ≡ g.F.LogFiles.settles l.fn.self.files;
  puts : g.F.LogFiles.puts l.self.files ≡ g.F.LogFiles.puts l.fn.self.files;
  places : Writes (g.F.LogFiles.written l.fn.self.files) (g.F.LogFiles.written l.self.files) l.at (length done);
  lasts : WriteLasts g.F.LogFiles.may_leave g.F.LogFiles.moment g.F.LogFiles.left_since l.at l.bytes l.fn.self.files l.self.files;
}

abbrev pub decreases-loop-rest : goal.decreases-loop-rest
decreases-loop-rest g l = length l.rest
