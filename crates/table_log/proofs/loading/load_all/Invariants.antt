use Rattle.std.proofs.Common.{◌≡◌, ◌≤◌, ◌-◌, length}
use Rattle.table_log.specs.Loading.{LoadsTo}
use Rattle.table_log.proofs.loading.load_all.Given as goal

abbrev pub invariant-loop-at : goal.invariant-loop-at
invariant-loop-at g l = record {
  loads : LoadsTo (g.D.Disk.contents l.initial.disk) 0 l.initial.loader l.at l.loader;
  contents : g.D.Disk.contents l.disk ≡ g.D.Disk.contents l.initial.disk;
  size : g.D.Disk.size l.disk ≡ g.D.Disk.size l.initial.disk;
  synced : g.D.Disk.synced l.disk ≡ g.D.Disk.synced l.initial.disk;
  failures : g.D.Disk.failures l.disk ≡ g.D.Disk.failures l.initial.disk;
  number : l.loader.number ≤ l.at;
  line : length l.loader.line.items ≤ l.at;
  within : l.at ≤ l.end;
  same : g.D.Disk.same l.initial.disk l.disk;
}

abbrev pub decreases-loop-at : goal.decreases-loop-at
decreases-loop-at g l = l.end - l.at
