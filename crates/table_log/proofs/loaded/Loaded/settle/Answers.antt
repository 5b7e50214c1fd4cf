use Rattle.std.proofs.Common.{◌≡◌, ◌∙◌, ◌⊎◌, ◌-◌, subst, take}
use Rattle.std.specs.Prelude.{option_map}
use Rattle.table_log.specs.Loaded.{LoadedData}
use Rattle.table_log.proofs.Feeding.{settled_by}
use Rattle.table_log.proofs.Replays.{loads_log}
use Rattle.table_log.proofs.loaded.Loaded.settle.Goals as goal

pub invariant_of-result : goal.invariant_of-result
invariant_of-result g c =
    let log = settled_by c.self.invariant.start (g.D.Disk.contents c.self.inside.disk) (g.D.Disk.contents c.cut.new.self) c.size.result c.self.inside.torn c.self.inside.table
    c.self.invariant.replayed (λ bytes known. c.size.ensures ∙ g.met.D.Disk.counted c.self.inside.disk bytes known) c.in-Ok.ensures.contents.0 in
    record {
      start = c.self.invariant.start;
      is_empty = c.self.invariant.is_empty;
      stands = λ bytes known over. log bytes known;
      loads = λ bytes known. loads_log c.self.invariant.start c.self.inside.table bytes (log bytes known);
    }

pub returns-in-Err-clause-left : goal.returns-in-Err-clause-left
returns-in-Err-clause-left g c =
    let old = g.D.Disk.contents c.self.inside.disk in
    let new = g.D.Disk.contents c.cut.new.self in
    subst (λ (log : LoadedData). (new ≡ log.bytes) ⊎ (new ≡ option_map (take (log.size - log.torn)) log.bytes)) c.self.view_is
    (subst (λ n. (new ≡ old) ⊎ (new ≡ option_map (take (n - c.self.inside.torn)) old)) c.size.ensures c.in-Err.ensures.contents)
