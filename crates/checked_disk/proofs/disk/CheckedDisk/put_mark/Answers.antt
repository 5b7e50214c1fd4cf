use Rattle.std.proofs.Common.{◌≡◌, ◌++◌, List, ℕ, Option, refl, ap, subst, sym, ◌∙◌, arith}
use Rattle.checked_log.specs.Whole.{ended, whole}
use Rattle.checked_disk.specs.Files.{Follows, IsSlot, Marked}
use Rattle.checked_disk.specs.Kept.{slot_of}
use Rattle.checked_disk.specs.Reading.{IsReading}
use Rattle.checked_disk.specs.Stands.{Stands}
use Rattle.checked_disk.proofs.Begun.{begun_moved, line_served}
use Rattle.checked_disk.proofs.Moments.{goes_on, started}
use Rattle.checked_disk.proofs.Sure.{from_lasts, marks_sure, other_is_slot}
use Rattle.checked_disk.proofs.disk.CheckedDisk.put_mark.Goals as goal

pub returns-in_err-put_mark-clause-sure : goal.returns-in_err-put_mark-clause-sure
returns-in_err-put_mark-clause-sure g c = λ synced safe.
    let last = c.args.last in
    let base = c.args.self.now.texts.base in
    let next = c.args.self.now.next in
    let files = c.args.self.now.disk.files in
    let leaves = g.F.LogFiles.may_leave c.put_mark.new.self.files in
    let served = line_served base safe.bytes last (c.requires.lines safe.bytes safe.known) synced safe.enough safe.sure.served in
    let P = Stands base (whole base (ended safe.bytes)) synced in
    let fits = c.requires.fits in
    let line : c.deref.result.now ≡ slot_of last = c.deref.ensures.value ∙ c.in-Ok.ensures.all ∙ ap (λ (l : List ℕ). l ++ slot_of last) c.clear.ensures.items in
    let follows = subst (λ (l : List ℕ). Follows (Marked next l) (g.F.LogFiles.may_leave files) leaves) line (c.put_mark.ensures.crash last safe.slot fits line) in
    let each =
    marks_sure base safe.bytes synced last next (g.F.LogFiles.may_leave files) leaves fits served safe.slot safe.sure follows in
    let start = started g.F.LogFiles.may_leave g.F.LogFiles.moment g.F.LogFiles.left_since files P (g.met.F.LogFiles.only_now files) safe.sure.each in
    let all = goes_on g.F.LogFiles.may_leave g.F.LogFiles.moment g.F.LogFiles.left_since files files c.put_mark.new.self.files P start c.put_mark.ensures.time each in (
      from_lasts g.F.LogFiles.may_leave g.F.LogFiles.moment g.F.LogFiles.left_since files c.put_mark.new.self.files base (g.F.LogFiles.contents files) safe.bytes synced safe.known
          all.moments,
      record {
        bytes = safe.bytes;
        known = c.put_mark.ensures.contents ∙ safe.known;
        slot = safe.slot;
        enough = safe.enough;
        sure = record { served = safe.sure.served; each = each };
      },
    )

pub returns-clause-sure : goal.returns-clause-sure
returns-clause-sure g c = λ synced safe.
    let last = c.args.last in
    let base = c.args.self.now.texts.base in
    let next = c.args.self.now.next in
    let files = c.args.self.now.disk.files in
    let leaves = g.F.LogFiles.may_leave c.put_mark.new.self.files in
    let served = line_served base safe.bytes last (c.requires.lines safe.bytes safe.known) synced safe.enough safe.sure.served in
    let P = Stands base (whole base (ended safe.bytes)) synced in
    let fits = c.requires.fits in
    let line : c.deref.result.now ≡ slot_of last = c.deref.ensures.value ∙ c.in-Ok.ensures.all ∙ ap (λ (l : List ℕ). l ++ slot_of last) c.clear.ensures.items in
    let follows = subst (λ (l : List ℕ). Follows (Marked next l) (g.F.LogFiles.may_leave files) leaves) line (c.put_mark.ensures.crash last safe.slot fits line) in
    let each =
    marks_sure base safe.bytes synced last next (g.F.LogFiles.may_leave files) leaves fits served safe.slot safe.sure follows in
    let start = started g.F.LogFiles.may_leave g.F.LogFiles.moment g.F.LogFiles.left_since files P (g.met.F.LogFiles.only_now files) safe.sure.each in
    let all = goes_on g.F.LogFiles.may_leave g.F.LogFiles.moment g.F.LogFiles.left_since files files c.put_mark.new.self.files P start c.put_mark.ensures.time each in (
      from_lasts g.F.LogFiles.may_leave g.F.LogFiles.moment g.F.LogFiles.left_since files c.put_mark.new.self.files base (g.F.LogFiles.contents files) safe.bytes synced safe.known
          all.moments,
      record {
        bytes = safe.bytes;
        known = c.put_mark.ensures.contents ∙ safe.known;
        slot = subst IsSlot (sym c.other-next.ensures) (other_is_slot next);
        enough = safe.enough;
        sure = record { served = safe.sure.served; each = each };
      },
    )

pub invariant_of-self-in-Break-1 : goal.invariant_of-self-in-Break-1
invariant_of-self-in-Break-1 g c =
    let old = c.args.self.now in
    let same = c.put_mark.ensures.contents in
    record {
      kept = λ bytes known. old.kept bytes (sym same ∙ known);
      reading = subst (λ (o : Option (List ℕ)). IsReading o old.texts) (sym same) old.reading;
      within = omega (arith, old.within, c.put_mark.ensures.size);
      told = old.told;
      tail = λ bytes known. old.tail bytes (sym same ∙ known);
      durable = old.durable;
      had = begun_moved old.texts.base old.texts.base (g.F.LogFiles.contents old.disk.files) (g.F.LogFiles.contents c.put_mark.new.self.files) old.begun refl same old.had;
      written = λ over settled p low high. (c.put_mark.ensures.places p).0 (old.written over settled p low high);
      sure = λ bytes known. old.sure bytes (sym same ∙ known);
    }

pub invariant_of-self-2 : goal.invariant_of-self-2
invariant_of-self-2 g c =
    let old = c.args.self.now in
    let same = c.put_mark.ensures.contents in
    record {
      kept = λ bytes known. old.kept bytes (sym same ∙ known);
      reading = subst (λ (o : Option (List ℕ)). IsReading o old.texts) (sym same) old.reading;
      within = omega (arith, old.within, c.put_mark.ensures.size);
      told = old.told;
      tail = λ bytes known. old.tail bytes (sym same ∙ known);
      durable = old.durable;
      had = begun_moved old.texts.base old.texts.base (g.F.LogFiles.contents old.disk.files) (g.F.LogFiles.contents c.put_mark.new.self.files) old.begun refl same old.had;
      written = λ over settled p low high. (c.put_mark.ensures.places p).0 (old.written over settled p low high);
      sure = λ bytes known. old.sure bytes (sym same ∙ known);
    }
