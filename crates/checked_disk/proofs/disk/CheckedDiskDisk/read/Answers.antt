use Rattle.std.proofs.Common.{ℕ, List, Option, refl, subst, sym, ◌∙◌, arith}
use Rattle.checked_log.specs.Whole.{ended, whole}
use Rattle.checked_log.specs.declared.recovery.Link.{Link}
use Rattle.checked_disk.specs.Kept.{IsKept}
use Rattle.checked_disk.specs.Reading.{IsReading}
use Rattle.checked_disk.specs.Safe.{IsSure}
use Rattle.checked_disk.specs.Stands.{Stands}
use Rattle.checked_disk.proofs.Begun.{begun_moved}
use Rattle.checked_disk.proofs.Moments.{quiet_lasts}
use Rattle.checked_disk.proofs.Sure.{from_lasts}
use Rattle.checked_disk.proofs.Synced.{synced_moved}
use Rattle.checked_disk.proofs.disk.CheckedDiskDisk.read.Goals as goal

pub returns-in-Ok-clause-sure : goal.returns-in-Ok-clause-sure
returns-in-Ok-clause-sure g c = λ synced safe.
    let base = c.args.self.now.texts.base in
    let files = c.args.self.now.disk.files in
    let new = c.read_on.new.disk.files in
    let leaves = g.F.LogFiles.may_leave new in
    let lasts =
    quiet_lasts g.F.LogFiles.may_leave g.F.LogFiles.moment g.F.LogFiles.left_since g.F.LogFiles.written files new (Stands base (whole base (ended safe.bytes)) synced)
    (g.met.F.LogFiles.only_now files) c.read_on.ensures.quiet safe.sure.each in (
      from_lasts g.F.LogFiles.may_leave g.F.LogFiles.moment g.F.LogFiles.left_since files new base (g.F.LogFiles.contents files) safe.bytes synced safe.known lasts.moments,
      (
        synced,
        omega arith,
        record {
          bytes = safe.bytes;
          known = c.read_on.ensures.contents ∙ safe.known;
          slot = safe.slot;
          enough = safe.enough;
          sure = subst (λ (b : Link). IsSure b safe.bytes synced leaves) (sym c.read_on.ensures.base) (record { served = safe.sure.served; each = lasts.now });
        },
      ),
    )

pub returns-in-Err-clause-sure : goal.returns-in-Err-clause-sure
returns-in-Err-clause-sure g c = λ synced safe.
    let base = c.args.self.now.texts.base in
    let files = c.args.self.now.disk.files in
    let new = c.read_on.new.disk.files in
    let leaves = g.F.LogFiles.may_leave new in
    let lasts =
    quiet_lasts g.F.LogFiles.may_leave g.F.LogFiles.moment g.F.LogFiles.left_since g.F.LogFiles.written files new (Stands base (whole base (ended safe.bytes)) synced)
    (g.met.F.LogFiles.only_now files) c.read_on.ensures.quiet safe.sure.each in (
      from_lasts g.F.LogFiles.may_leave g.F.LogFiles.moment g.F.LogFiles.left_since files new base (g.F.LogFiles.contents files) safe.bytes synced safe.known lasts.moments,
      (
        synced,
        omega arith,
        record {
          bytes = safe.bytes;
          known = c.read_on.ensures.contents ∙ safe.known;
          slot = safe.slot;
          enough = safe.enough;
          sure = subst (λ (b : Link). IsSure b safe.bytes synced leaves) (sym c.read_on.ensures.base) (record { served = safe.sure.served; each = lasts.now });
        },
      ),
    )

pub invariant_of-self : goal.invariant_of-self
invariant_of-self g c =
    let old = c.args.self.now in
    let same = c.read_on.ensures.contents in
    let base = c.read_on.ensures.base in
    let texts = c.read_on.new.self in
    record {
      kept = λ bytes known. subst (λ (b : Link). IsKept b bytes old.log.last old.log.end old.log.size) (sym base) (old.kept bytes (sym same ∙ known));
      reading = subst (λ (o : Option (List ℕ)). IsReading o texts) (sym same) c.read_on.ensures.reading;
      within = omega (arith, old.within, c.read_on.ensures.size);
      told = old.told;
      tail = λ bytes known. c.read_on.ensures.tail.tail old.tail bytes (sym same ∙ known);
      durable = omega (arith, old.durable, c.read_on.ensures.tail.durable);
      had = begun_moved old.texts.base texts.base (g.F.LogFiles.contents old.disk.files) (g.F.LogFiles.contents c.read_on.new.disk.files) old.begun base same old.had;
      written = λ over settled p low high. (c.read_on.ensures.quiet.places p).0 (old.written over settled p (omega (arith, low, c.read_on.ensures.tail.grows)) high);
      sure = λ bytes known. synced_moved old.texts.base texts.base old.log old.log bytes base refl refl (old.sure bytes (sym same ∙ known));
    }

pub invariant_of-self-in-Err : goal.invariant_of-self-in-Err
invariant_of-self-in-Err g c =
    let old = c.args.self.now in
    let same = c.read_on.ensures.contents in
    let base = c.read_on.ensures.base in
    let texts = c.read_on.new.self in
    record {
      kept = λ bytes known. subst (λ (b : Link). IsKept b bytes old.log.last old.log.end old.log.size) (sym base) (old.kept bytes (sym same ∙ known));
      reading = subst (λ (o : Option (List ℕ)). IsReading o texts) (sym same) c.read_on.ensures.reading;
      within = omega (arith, old.within, c.read_on.ensures.size);
      told = old.told;
      tail = λ bytes known. c.read_on.ensures.tail.tail old.tail bytes (sym same ∙ known);
      durable = omega (arith, old.durable, c.read_on.ensures.tail.durable);
      had = begun_moved old.texts.base texts.base (g.F.LogFiles.contents old.disk.files) (g.F.LogFiles.contents c.read_on.new.disk.files) old.begun base same old.had;
      written = λ over settled p low high. (c.read_on.ensures.quiet.places p).0 (old.written over settled p (omega (arith, low, c.read_on.ensures.tail.grows)) high);
      sure = λ bytes known. synced_moved old.texts.base texts.base old.log old.log bytes base refl refl (old.sure bytes (sym same ∙ known));
    }
