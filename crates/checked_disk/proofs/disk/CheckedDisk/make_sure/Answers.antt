use Rattle.std.proofs.Common.{◌≡◌, ◌≤◌, ℕ, List, Option, true, refl, ap, subst, sym, ◌∙◌, arith}
use Rattle.checked_log.specs.declared.recovery.Link.{Link}
use Rattle.checked_disk.specs.Kept.{IsKept}
use Rattle.checked_disk.specs.Reading.{IsReading}
use Rattle.checked_disk.specs.Safe.{IsSafe, IsSure, entries_of}
use Rattle.checked_disk.specs.Stands.{StandsFrom}
use Rattle.checked_disk.specs.declared.disk.Log.{Log}
use Rattle.checked_disk.specs.declared.texts.Texts.{Texts}
use Rattle.checked_disk.proofs.Begun.{begun_moved, has_all}
use Rattle.checked_disk.proofs.Moments.{goes_on, joined, weaker}
use Rattle.checked_disk.proofs.Sure.{safe_less, safe_stands, settled_sure, stands_before, sure_last}
use Rattle.checked_disk.proofs.Synced.{synced_all}
use Rattle.checked_disk.proofs.disk.CheckedDisk.make_sure.Goals as goal

pub returns-in_err-settle-clause-sure : goal.returns-in_err-settle-clause-sure
returns-in_err-settle-clause-sure g c = λ synced safe.
    let base = c.args.self.now.texts.base in
    let first = c.args.self.now.disk.files in
    let old = g.F.LogFiles.contents first in
    let mid = c.renew.new.self in
    let mid_contents = g.F.LogFiles.contents mid.disk.files in
    let mid_leaves = g.F.LogFiles.may_leave mid.disk.files in
    let settled = c.settle.new.self.files in
    let r = c.renew.ensures.sure synced safe in
    let P = StandsFrom base (entries_of base old) synced in
    let before =
    safe_stands base mid.texts.base old mid_contents mid.next mid.log.durable r.1.0 synced mid_leaves c.renew.ensures.base c.renew.ensures.entries r.1.1 r.1.2 in
    let after =
    goes_on g.F.LogFiles.may_leave g.F.LogFiles.moment g.F.LogFiles.left_since first mid.disk.files settled P (record { now = before; moments = r.0 }) c.settle.ensures.time
    (λ d left. before d (c.settle.ensures.crash d left)) in (
      after.moments,
      (
        r.1.0,
        r.1.1,
        safe_less mid.texts.base mid_contents (g.F.LogFiles.contents settled) mid.next mid.log.durable r.1.0 mid_leaves (g.F.LogFiles.may_leave settled) c.settle.ensures.contents
            c.settle.ensures.crash r.1.2,
      ),
    )

pub returns-in_err-put_mark-clause-sure : goal.returns-in_err-put_mark-clause-sure
returns-in_err-put_mark-clause-sure g c = λ synced safe.
    let base = c.args.self.now.texts.base in
    let first = c.args.self.now.disk.files in
    let old = g.F.LogFiles.contents first in
    let mid = c.renew.new.self in
    let mid_contents = g.F.LogFiles.contents mid.disk.files in
    let mid_leaves = g.F.LogFiles.may_leave mid.disk.files in
    let settled = c.settle.new.self.files in
    let r = c.renew.ensures.sure synced safe in
    let P = StandsFrom base (entries_of base old) synced in
    let before =
    safe_stands base mid.texts.base old mid_contents mid.next mid.log.durable r.1.0 synced mid_leaves c.renew.ensures.base c.renew.ensures.entries r.1.1 r.1.2 in
    let after =
    goes_on g.F.LogFiles.may_leave g.F.LogFiles.moment g.F.LogFiles.left_since first mid.disk.files settled P (record { now = before; moments = r.0 }) c.settle.ensures.time
    (λ d left. before d (c.settle.ensures.crash d left)) in
    let last = c.link-last.result in
    let same : last ≡ mid.log.last = c.link-last.ensures.is in
    let number = ap (λ (l : Link). l.number) same in
    let kept = subst (λ (l : Link). IsKept mid.texts.base r.1.2.bytes l mid.log.end mid.log.size) (sym same) (mid.kept r.1.2.bytes r.1.2.known) in
    let sure =
    settled_sure mid.texts.base r.1.2.bytes last mid.log.end mid.log.size kept mid_contents r.1.2.known (g.F.LogFiles.written mid.disk.files) mid.texts.reader.tail mid.texts.reader.durable r.1.0
    (mid.tail r.1.2.bytes r.1.2.known) (omega (arith, mid.durable, r.1.2.enough))
    (λ p low high. c.in_ok-renew.ensures.written p (omega (arith, c.renew.ensures.tail, low)) (omega (arith, ap (λ (l : Log). l.end) c.renew.ensures.log, high))) (g.F.LogFiles.may_leave settled)
    c.in_ok-settle.ensures.durable r.1.2.sure.served (λ d left. r.1.2.sure.each d (c.settle.ensures.crash d left)) in
    let here : IsSafe mid.texts.base (g.F.LogFiles.contents settled) mid.next last.number last.number (g.F.LogFiles.may_leave settled) =
    record { bytes = r.1.2.bytes; known = c.settle.ensures.contents ∙ r.1.2.known; slot = r.1.2.slot; enough = omega arith; sure = sure } in
    let m = c.put_mark.ensures.sure last.number here in
    let marked = c.put_mark.new.self in
    let leaves = g.F.LogFiles.may_leave marked.disk.files in
    let base_is : marked.texts.base ≡ mid.texts.base = ap (λ (t : Texts). t.base) c.put_mark.ensures.base in
    let upto : synced ≤ last.number =
    omega (arith, r.1.1, sure_last mid.texts.base mid_contents mid.next mid.log.durable r.1.0 mid_leaves last mid.log.end mid.log.size r.1.2 kept) in
    let marks =
    weaker g.F.LogFiles.may_leave g.F.LogFiles.moment g.F.LogFiles.left_since settled marked.disk.files
    (StandsFrom mid.texts.base (entries_of mid.texts.base (g.F.LogFiles.contents settled)) last.number) P
    (stands_before base mid.texts.base old (g.F.LogFiles.contents settled) mid.next mid.log.durable last.number synced (g.F.LogFiles.may_leave settled) c.renew.ensures.base
    (ap (entries_of mid.texts.base) c.settle.ensures.contents ∙ c.renew.ensures.entries) upto) m.0 in
    let moments = joined g.F.LogFiles.may_leave g.F.LogFiles.moment g.F.LogFiles.left_since first settled marked.disk.files P after.moments marks in (
      moments,
      (
        last.number,
        upto,
        record {
          bytes = m.1.bytes;
          known = m.1.known;
          slot = m.1.slot;
          enough = omega (arith, ap (λ (l : Log). l.durable) c.put_mark.ensures.log, mid.told, number);
          sure = subst (λ (b : Link). IsSure b m.1.bytes last.number leaves) (sym base_is) m.1.sure;
        },
      ),
    )

pub returns-clause-sure : goal.returns-clause-sure
returns-clause-sure g c = λ synced safe.
    let base = c.args.self.now.texts.base in
    let first = c.args.self.now.disk.files in
    let old = g.F.LogFiles.contents first in
    let mid = c.renew.new.self in
    let mid_contents = g.F.LogFiles.contents mid.disk.files in
    let mid_leaves = g.F.LogFiles.may_leave mid.disk.files in
    let settled = c.settle.new.self.files in
    let r = c.renew.ensures.sure synced safe in
    let P = StandsFrom base (entries_of base old) synced in
    let before =
    safe_stands base mid.texts.base old mid_contents mid.next mid.log.durable r.1.0 synced mid_leaves c.renew.ensures.base c.renew.ensures.entries r.1.1 r.1.2 in
    let after =
    goes_on g.F.LogFiles.may_leave g.F.LogFiles.moment g.F.LogFiles.left_since first mid.disk.files settled P (record { now = before; moments = r.0 }) c.settle.ensures.time
    (λ d left. before d (c.settle.ensures.crash d left)) in
    let last = c.link-last.result in
    let same : last ≡ mid.log.last = c.link-last.ensures.is in
    let number = ap (λ (l : Link). l.number) same in
    let kept = subst (λ (l : Link). IsKept mid.texts.base r.1.2.bytes l mid.log.end mid.log.size) (sym same) (mid.kept r.1.2.bytes r.1.2.known) in
    let sure =
    settled_sure mid.texts.base r.1.2.bytes last mid.log.end mid.log.size kept mid_contents r.1.2.known (g.F.LogFiles.written mid.disk.files) mid.texts.reader.tail mid.texts.reader.durable r.1.0
    (mid.tail r.1.2.bytes r.1.2.known) (omega (arith, mid.durable, r.1.2.enough))
    (λ p low high. c.in_ok-renew.ensures.written p (omega (arith, c.renew.ensures.tail, low)) (omega (arith, ap (λ (l : Log). l.end) c.renew.ensures.log, high))) (g.F.LogFiles.may_leave settled)
    c.in_ok-settle.ensures.durable r.1.2.sure.served (λ d left. r.1.2.sure.each d (c.settle.ensures.crash d left)) in
    let here : IsSafe mid.texts.base (g.F.LogFiles.contents settled) mid.next last.number last.number (g.F.LogFiles.may_leave settled) =
    record { bytes = r.1.2.bytes; known = c.settle.ensures.contents ∙ r.1.2.known; slot = r.1.2.slot; enough = omega arith; sure = sure } in
    let m = c.put_mark.ensures.sure last.number here in
    let marked = c.put_mark.new.self in
    let leaves = g.F.LogFiles.may_leave marked.disk.files in
    let base_is : marked.texts.base ≡ mid.texts.base = ap (λ (t : Texts). t.base) c.put_mark.ensures.base in
    let upto : synced ≤ last.number =
    omega (arith, r.1.1, sure_last mid.texts.base mid_contents mid.next mid.log.durable r.1.0 mid_leaves last mid.log.end mid.log.size r.1.2 kept) in
    let marks =
    weaker g.F.LogFiles.may_leave g.F.LogFiles.moment g.F.LogFiles.left_since settled marked.disk.files
    (StandsFrom mid.texts.base (entries_of mid.texts.base (g.F.LogFiles.contents settled)) last.number) P
    (stands_before base mid.texts.base old (g.F.LogFiles.contents settled) mid.next mid.log.durable last.number synced (g.F.LogFiles.may_leave settled) c.renew.ensures.base
    (ap (entries_of mid.texts.base) c.settle.ensures.contents ∙ c.renew.ensures.entries) upto) m.0 in
    let moments = joined g.F.LogFiles.may_leave g.F.LogFiles.moment g.F.LogFiles.left_since first settled marked.disk.files P after.moments marks in (
      moments,
      (
        last.number,
        upto,
        record {
          bytes = m.1.bytes;
          known = m.1.known;
          slot = m.1.slot;
          enough = omega (arith, ap (λ (l : Log). l.last.number) c.put_mark.ensures.log, mid.told, number);
          sure = subst (λ (b : Link). IsSure b m.1.bytes last.number leaves) (sym base_is) m.1.sure;
        },
      ),
    )

pub returns-clause-durable : goal.returns-clause-durable
returns-clause-durable g c = λ synced safe.
    let base = c.args.self.now.texts.base in
    let first = c.args.self.now.disk.files in
    let old = g.F.LogFiles.contents first in
    let mid = c.renew.new.self in
    let mid_contents = g.F.LogFiles.contents mid.disk.files in
    let mid_leaves = g.F.LogFiles.may_leave mid.disk.files in
    let settled = c.settle.new.self.files in
    let r = c.renew.ensures.sure synced safe in
    let P = StandsFrom base (entries_of base old) synced in
    let before =
    safe_stands base mid.texts.base old mid_contents mid.next mid.log.durable r.1.0 synced mid_leaves c.renew.ensures.base c.renew.ensures.entries r.1.1 r.1.2 in
    let after =
    goes_on g.F.LogFiles.may_leave g.F.LogFiles.moment g.F.LogFiles.left_since first mid.disk.files settled P (record { now = before; moments = r.0 }) c.settle.ensures.time
    (λ d left. before d (c.settle.ensures.crash d left)) in
    let last = c.link-last.result in
    let same : last ≡ mid.log.last = c.link-last.ensures.is in
    let number = ap (λ (l : Link). l.number) same in
    let kept = subst (λ (l : Link). IsKept mid.texts.base r.1.2.bytes l mid.log.end mid.log.size) (sym same) (mid.kept r.1.2.bytes r.1.2.known) in
    let sure =
    settled_sure mid.texts.base r.1.2.bytes last mid.log.end mid.log.size kept mid_contents r.1.2.known (g.F.LogFiles.written mid.disk.files) mid.texts.reader.tail mid.texts.reader.durable r.1.0
    (mid.tail r.1.2.bytes r.1.2.known) (omega (arith, mid.durable, r.1.2.enough))
    (λ p low high. c.in_ok-renew.ensures.written p (omega (arith, c.renew.ensures.tail, low)) (omega (arith, ap (λ (l : Log). l.end) c.renew.ensures.log, high))) (g.F.LogFiles.may_leave settled)
    c.in_ok-settle.ensures.durable r.1.2.sure.served (λ d left. r.1.2.sure.each d (c.settle.ensures.crash d left)) in
    let here : IsSafe mid.texts.base (g.F.LogFiles.contents settled) mid.next last.number last.number (g.F.LogFiles.may_leave settled) =
    record { bytes = r.1.2.bytes; known = c.settle.ensures.contents ∙ r.1.2.known; slot = r.1.2.slot; enough = omega arith; sure = sure } in
    let m = c.put_mark.ensures.sure last.number here in
    let marked = c.put_mark.new.self in
    let leaves = g.F.LogFiles.may_leave marked.disk.files in
    let base_is : marked.texts.base ≡ mid.texts.base = ap (λ (t : Texts). t.base) c.put_mark.ensures.base in
    let upto : synced ≤ last.number =
    omega (arith, r.1.1, sure_last mid.texts.base mid_contents mid.next mid.log.durable r.1.0 mid_leaves last mid.log.end mid.log.size r.1.2 kept) in
    let marks =
    weaker g.F.LogFiles.may_leave g.F.LogFiles.moment g.F.LogFiles.left_since settled marked.disk.files
    (StandsFrom mid.texts.base (entries_of mid.texts.base (g.F.LogFiles.contents settled)) last.number) P
    (stands_before base mid.texts.base old (g.F.LogFiles.contents settled) mid.next mid.log.durable last.number synced (g.F.LogFiles.may_leave settled) c.renew.ensures.base
    (ap (entries_of mid.texts.base) c.settle.ensures.contents ∙ c.renew.ensures.entries) upto) m.0 in
    let moments = joined g.F.LogFiles.may_leave g.F.LogFiles.moment g.F.LogFiles.left_since first settled marked.disk.files P after.moments marks in
    let all : last.number ≡ c.args.self.now.log.last.number = number ∙ ap (λ (l : Log). l.last.number) c.renew.ensures.log in
    let is : IsSafe marked.texts.base (g.F.LogFiles.contents marked.disk.files) marked.next marked.log.last.number last.number leaves = record {
      bytes = m.1.bytes;
      known = m.1.known;
      slot = m.1.slot;
      enough = omega (arith, ap (λ (l : Log). l.last.number) c.put_mark.ensures.log, mid.told, number);
      sure = subst (λ (b : Link). IsSure b m.1.bytes last.number leaves) (sym base_is) m.1.sure;
    } in
    subst (λ (n : ℕ). IsSafe marked.texts.base (g.F.LogFiles.contents marked.disk.files) marked.next marked.log.last.number n leaves) all is

pub invariant_of-self-2-clause-sure : goal.invariant_of-self-2-clause-sure
invariant_of-self-2-clause-sure g c =
    let marked = c.put_mark.new.self in
    let then = record marked.log { durable = marked.log.last.number; is_settled = true; synced = marked.log.size } in
    synced_all marked.texts.base (g.F.LogFiles.contents marked.disk.files) marked.log marked.kept then refl refl

pub put_mark-requires-clause-lines : goal.put_mark-requires-clause-lines
put_mark-requires-clause-lines g c = λ bytes known.
    let mid = c.renew.new.self in
    has_all mid.texts.base bytes c.link-last.result (c.link-last.ensures.is ∙ (mid.kept bytes (sym c.settle.ensures.contents ∙ known)).is_last)

pub invariant_of-self : goal.invariant_of-self
invariant_of-self g c =
    let old = c.renew.new.self in
    let same = c.settle.ensures.contents in
    record {
      kept = λ bytes known. old.kept bytes (sym same ∙ known);
      reading = subst (λ (o : Option (List ℕ)). IsReading o old.texts) (sym same) old.reading;
      within = omega (arith, old.within, c.settle.ensures.size);
      told = old.told;
      tail = λ bytes known. old.tail bytes (sym same ∙ known);
      durable = old.durable;
      had = begun_moved old.texts.base old.texts.base (g.F.LogFiles.contents old.disk.files) (g.F.LogFiles.contents c.settle.new.self.files) old.begun refl same old.had;
      written = λ over. cc over;
      sure = λ bytes known. old.sure bytes (sym same ∙ known);
    }
