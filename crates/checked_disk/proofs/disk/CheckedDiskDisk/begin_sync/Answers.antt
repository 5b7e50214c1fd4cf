use Rattle.std.proofs.Common.{◌≡◌, ℕ, List, Option, subst, sym, ◌∙◌, arith}
use Rattle.checked_disk.specs.Begun.{HadLines}
use Rattle.checked_disk.specs.Reading.{IsReading}
use Rattle.checked_disk.specs.declared.disk.Log.{Log}
use Rattle.checked_disk.proofs.Begun.{had_all, nothing_written}
use Rattle.checked_disk.proofs.disk.CheckedDiskDisk.begin_sync.Goals as goal

pub invariant_of-self : goal.invariant_of-self
invariant_of-self g c =
    let old = c.args.self.now in
    let same = c.begin_settle.ensures.contents in
    record {
      kept = λ bytes known. old.kept bytes (sym same ∙ known);
      reading = subst (λ (o : Option (List ℕ)). IsReading o old.texts) (sym same) old.reading;
      within = omega (arith, old.within, c.begin_settle.ensures.size);
      told = old.told;
      tail = λ bytes known. old.tail bytes (sym same ∙ known);
      durable = old.durable;
      had = λ log is bytes known.
          let now : old.log ≡ log = cc in
          subst (λ (l : Log). HadLines old.texts.base bytes l) now (had_all old.texts.base bytes old.log (old.kept bytes (sym same ∙ known)));
      written = λ over settled p low high. (c.begin_settle.ensures.places p).0 (old.written over settled p low high);
      sure = λ bytes known. old.sure bytes (sym same ∙ known);
    }

pub returns-clause-sure : goal.returns-clause-sure
returns-clause-sure g c = λ synced safe.
    let self = c.args.self.now in
    let files = self.disk.files in
    let quiet =
    nothing_written g.F.LogFiles.may_leave g.F.LogFiles.moment g.F.LogFiles.left_since files c.begin_settle.new.self.files self.texts.base (g.F.LogFiles.contents files)
    (g.F.LogFiles.contents c.begin_settle.new.self.files) self.next self.log.durable synced (g.met.F.LogFiles.only_now files) c.begin_settle.ensures.contents c.begin_settle.ensures.crash c.begin_settle.ensures.time
    safe in
    (quiet.0, (synced, omega arith, quiet.1))
