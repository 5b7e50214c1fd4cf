use Rattle.std.proofs.Common.{◌≡◌, ◌-◌, ◌≤◌, ℕ, List, Option, true, length, take, refl, ap, subst, sym, ◌∙◌, arith}
use Rattle.checked_log.specs.Whole.{ended, whole}
use Rattle.checked_log.specs.declared.recovery.Link.{Link}
use Rattle.checked_disk.specs.Begun.{HasLines}
use Rattle.checked_disk.specs.Plain.{plain_lines}
use Rattle.checked_disk.specs.Reading.{IsReading}
use Rattle.checked_disk.specs.Safe.{IsSafe, IsSure, entries_of}
use Rattle.checked_disk.specs.Stands.{StandsFrom}
use Rattle.checked_disk.specs.declared.disk.Log.{Log}
use Rattle.checked_disk.specs.declared.texts.Texts.{Texts}
use Rattle.checked_disk.proofs.Begun.{begun_moved, has, nothing_written, sure_on, synced_begun}
use Rattle.checked_disk.proofs.Moments.{joined, weaker}
use Rattle.checked_disk.proofs.Sure.{stands_before}
use Rattle.checked_disk.proofs.disk.CheckedDisk.count_begun.Goals as goal

pub returns-in_err-count-clause-sure : goal.returns-in_err-count-clause-sure
returns-in_err-count-clause-sure g c = λ synced safe.
    let self = c.args.self.now in
    let files = self.disk.files in
    let quiet =
    nothing_written g.F.LogFiles.may_leave g.F.LogFiles.moment g.F.LogFiles.left_since files c.end_settle.new.self.files self.texts.base (g.F.LogFiles.contents files)
    (g.F.LogFiles.contents c.end_settle.new.self.files) self.next self.log.durable synced (g.met.F.LogFiles.only_now files) c.end_settle.ensures.contents c.end_settle.ensures.crash c.end_settle.ensures.time safe in
    (quiet.0, (synced, omega arith, quiet.1))

pub returns-then-not-is_more-clause-sure : goal.returns-then-not-is_more-clause-sure
returns-then-not-is_more-clause-sure g c = λ synced safe.
    let self = c.args.self.now in
    let files = self.disk.files in
    let quiet =
    nothing_written g.F.LogFiles.may_leave g.F.LogFiles.moment g.F.LogFiles.left_since files c.end_settle.new.self.files self.texts.base (g.F.LogFiles.contents files)
    (g.F.LogFiles.contents c.end_settle.new.self.files) self.next self.log.durable synced (g.met.F.LogFiles.only_now files) c.end_settle.ensures.contents c.end_settle.ensures.crash c.end_settle.ensures.time safe in
    (quiet.0, (synced, omega arith, quiet.1))

pub returns-in_err-put_mark-clause-sure : goal.returns-in_err-put_mark-clause-sure
returns-in_err-put_mark-clause-sure g c = λ synced safe.
    let self = c.args.self.now in
    let base = self.texts.base in
    let files = self.disk.files in
    let old = g.F.LogFiles.contents files in
    let settled = c.end_settle.new.self.files in
    let leaves = g.F.LogFiles.may_leave settled in
    let quiet =
    nothing_written g.F.LogFiles.may_leave g.F.LogFiles.moment g.F.LogFiles.left_since files settled base old (g.F.LogFiles.contents settled) self.next self.log.durable synced
    (g.met.F.LogFiles.only_now files) c.end_settle.ensures.contents c.end_settle.ensures.crash c.end_settle.ensures.time safe in
    let was = c.args.was in
    let last = ap (λ (l : Link). l.number) c.link-last.ensures.is in
    let more = c.is_more.ensures c.if-not-is_more.false in
    let kept = self.kept safe.bytes safe.known in
    let sure =
    sure_on base safe.bytes was (self.had was c.requires safe.bytes safe.known) old safe.known (g.F.LogFiles.written files) self.texts.reader.tail self.texts.reader.durable synced c.in_ok-count.count
    self.log.end leaves c.in_ok-count.ensures.durable more.1 (self.tail safe.bytes safe.known) (omega (arith, self.durable, safe.enough)) kept.is_end
    (λ p low high. self.written c.if-self.false more.0 p low high) safe.sure.served (λ d left. safe.sure.each d (c.end_settle.ensures.crash d left)) in
    let here : IsSafe base (g.F.LogFiles.contents settled) self.next c.link-last.result.number sure.0 leaves =
    record { bytes = safe.bytes; known = c.end_settle.ensures.contents ∙ safe.known; slot = safe.slot; enough = omega (arith, sure.2, last); sure = sure.3 } in
    let m = c.put_mark.ensures.sure sure.0 here in
    let marked = c.put_mark.new.self in
    let P = StandsFrom base (entries_of base old) synced in
    let marks =
    weaker g.F.LogFiles.may_leave g.F.LogFiles.moment g.F.LogFiles.left_since settled marked.disk.files (StandsFrom base (entries_of base (g.F.LogFiles.contents settled)) sure.0) P
    (stands_before base base old (g.F.LogFiles.contents settled) self.next c.link-last.result.number sure.0 synced leaves refl (ap (entries_of base) c.end_settle.ensures.contents) sure.1) m.0 in
    let moments = joined g.F.LogFiles.may_leave g.F.LogFiles.moment g.F.LogFiles.left_since files settled marked.disk.files P quiet.0 marks in
    let base_is : marked.texts.base ≡ base = ap (λ (t : Texts). t.base) c.put_mark.ensures.base in (
      moments,
      (
        sure.0,
        sure.1,
        record {
          bytes = m.1.bytes;
          known = m.1.known;
          slot = m.1.slot;
          enough = omega (arith, ap (λ (l : Log). l.durable) c.put_mark.ensures.log, safe.enough, sure.1);
          sure = subst (λ (b : Link). IsSure b m.1.bytes sure.0 (g.F.LogFiles.may_leave marked.disk.files)) (sym base_is) m.1.sure;
        },
      ),
    )

pub returns-clause-sure : goal.returns-clause-sure
returns-clause-sure g c = λ synced safe.
    let self = c.args.self.now in
    let base = self.texts.base in
    let files = self.disk.files in
    let old = g.F.LogFiles.contents files in
    let settled = c.end_settle.new.self.files in
    let leaves = g.F.LogFiles.may_leave settled in
    let quiet =
    nothing_written g.F.LogFiles.may_leave g.F.LogFiles.moment g.F.LogFiles.left_since files settled base old (g.F.LogFiles.contents settled) self.next self.log.durable synced
    (g.met.F.LogFiles.only_now files) c.end_settle.ensures.contents c.end_settle.ensures.crash c.end_settle.ensures.time safe in
    let was = c.args.was in
    let last = ap (λ (l : Link). l.number) c.link-last.ensures.is in
    let more = c.is_more.ensures c.if-not-is_more.false in
    let kept = self.kept safe.bytes safe.known in
    let sure =
    sure_on base safe.bytes was (self.had was c.requires safe.bytes safe.known) old safe.known (g.F.LogFiles.written files) self.texts.reader.tail self.texts.reader.durable synced c.in_ok-count.count
    self.log.end leaves c.in_ok-count.ensures.durable more.1 (self.tail safe.bytes safe.known) (omega (arith, self.durable, safe.enough)) kept.is_end
    (λ p low high. self.written c.if-self.false more.0 p low high) safe.sure.served (λ d left. safe.sure.each d (c.end_settle.ensures.crash d left)) in
    let here : IsSafe base (g.F.LogFiles.contents settled) self.next c.link-last.result.number sure.0 leaves =
    record { bytes = safe.bytes; known = c.end_settle.ensures.contents ∙ safe.known; slot = safe.slot; enough = omega (arith, sure.2, last); sure = sure.3 } in
    let m = c.put_mark.ensures.sure sure.0 here in
    let marked = c.put_mark.new.self in
    let P = StandsFrom base (entries_of base old) synced in
    let marks =
    weaker g.F.LogFiles.may_leave g.F.LogFiles.moment g.F.LogFiles.left_since settled marked.disk.files (StandsFrom base (entries_of base (g.F.LogFiles.contents settled)) sure.0) P
    (stands_before base base old (g.F.LogFiles.contents settled) self.next c.link-last.result.number sure.0 synced leaves refl (ap (entries_of base) c.end_settle.ensures.contents) sure.1) m.0 in
    let moments = joined g.F.LogFiles.may_leave g.F.LogFiles.moment g.F.LogFiles.left_since files settled marked.disk.files P quiet.0 marks in
    let base_is : marked.texts.base ≡ base = ap (λ (t : Texts). t.base) c.put_mark.ensures.base in (
      moments,
      (
        sure.0,
        sure.1,
        record {
          bytes = m.1.bytes;
          known = m.1.known;
          slot = m.1.slot;
          enough = sure.2;
          sure = subst (λ (b : Link). IsSure b m.1.bytes sure.0 (g.F.LogFiles.may_leave marked.disk.files)) (sym base_is) m.1.sure;
        },
      ),
    )

pub put_mark-requires-clause-lines : goal.put_mark-requires-clause-lines
put_mark-requires-clause-lines g c = λ bytes known.
    let self = c.args.self.now in
    let had = self.had c.args.was c.requires bytes (sym c.end_settle.ensures.contents ∙ known) in
    subst (λ (l : Link). HasLines self.texts.base bytes l) (sym c.link-last.ensures.is) (has self.texts.base bytes c.args.was had)

pub invariant_of-self-2-clause-sure : goal.invariant_of-self-2-clause-sure
invariant_of-self-2-clause-sure g c = λ bytes known.
    let self = c.args.self.now in
    let was = c.args.was in
    let had = self.had was c.requires bytes (sym (c.put_mark.ensures.contents ∙ c.end_settle.ensures.contents) ∙ known) in
    let base_is = ap (λ (t : Texts). t.base) c.put_mark.ensures.base in
    subst (λ (b : Link). was.size ≤ length (plain_lines (take (was.last.number - b.number) (whole b (ended bytes))))) (sym base_is) (synced_begun self.texts.base bytes was had)

pub invariant_of-self-2-clause-told : goal.invariant_of-self-2-clause-told
invariant_of-self-2-clause-told g c =
    let more = c.is_more.ensures c.if-not-is_more.false in
    omega (arith, more.3, ap (λ (l : Log). l.last.number) c.put_mark.ensures.log)

pub invariant_of-self-2-clause-durable : goal.invariant_of-self-2-clause-durable
invariant_of-self-2-clause-durable g c =
    let more = c.is_more.ensures c.if-not-is_more.false in
    omega (arith, more.2, c.args.self.now.durable, ap (λ (t : Texts). t.reader.durable) c.put_mark.ensures.base)

pub invariant_of-self-2-clause-written : goal.invariant_of-self-2-clause-written
invariant_of-self-2-clause-written g c = λ over settled p low high.
    let more = c.is_more.ensures c.if-not-is_more.false in
    (c.put_mark.ensures.places p).0
    ((c.in_ok-count.ensures.places p).0
    (c.args.self.now.written c.if-self.false more.0 p (omega (arith, low, ap (λ (t : Texts). t.reader.tail) c.put_mark.ensures.base)) (omega (arith, high, ap (λ (l : Log). l.end) c.put_mark.ensures.log))))

pub invariant_of-self : goal.invariant_of-self
invariant_of-self g c =
    let old = c.args.self.now in
    let same = c.end_settle.ensures.contents in
    record {
      kept = λ bytes known. old.kept bytes (sym same ∙ known);
      reading = subst (λ (o : Option (List ℕ)). IsReading o old.texts) (sym same) old.reading;
      within = omega (arith, old.within, c.end_settle.ensures.size);
      told = old.told;
      tail = λ bytes known. old.tail bytes (sym same ∙ known);
      durable = old.durable;
      had = begun_moved old.texts.base old.texts.base (g.F.LogFiles.contents old.disk.files) (g.F.LogFiles.contents c.end_settle.new.self.files) old.begun refl same old.had;
      written = λ over. cc over;
      sure = λ bytes known. old.sure bytes (sym same ∙ known);
    }

pub invariant_of-self-then-not-is_more : goal.invariant_of-self-then-not-is_more
invariant_of-self-then-not-is_more g c =
    let old = c.args.self.now in
    let same = c.end_settle.ensures.contents in
    record {
      kept = λ bytes known. old.kept bytes (sym same ∙ known);
      reading = subst (λ (o : Option (List ℕ)). IsReading o old.texts) (sym same) old.reading;
      within = omega (arith, old.within, c.end_settle.ensures.size);
      told = old.told;
      tail = λ bytes known. old.tail bytes (sym same ∙ known);
      durable = old.durable;
      had = begun_moved old.texts.base old.texts.base (g.F.LogFiles.contents old.disk.files) (g.F.LogFiles.contents c.end_settle.new.self.files) old.begun refl same old.had;
      written = λ over settled p low high. (c.in_ok-count.ensures.places p).0 (old.written c.if-self.false settled p low high);
      sure = λ bytes known. old.sure bytes (sym same ∙ known);
    }

pub invariant_of-self-else-not-is_more : goal.invariant_of-self-else-not-is_more
invariant_of-self-else-not-is_more g c =
    let old = c.args.self.now in
    let same = c.end_settle.ensures.contents in
    record {
      kept = λ bytes known. old.kept bytes (sym same ∙ known);
      reading = subst (λ (o : Option (List ℕ)). IsReading o old.texts) (sym same) old.reading;
      within = omega (arith, old.within, c.end_settle.ensures.size);
      told = old.told;
      tail = λ bytes known. old.tail bytes (sym same ∙ known);
      durable = old.durable;
      had = begun_moved old.texts.base old.texts.base (g.F.LogFiles.contents old.disk.files) (g.F.LogFiles.contents c.end_settle.new.self.files) old.begun refl same old.had;
      written = λ over. cc over;
      sure = λ bytes known. old.sure bytes (sym same ∙ known);
    }
