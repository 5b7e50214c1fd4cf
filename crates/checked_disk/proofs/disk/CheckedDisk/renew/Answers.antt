use Rattle.std.proofs.Common.{◌≡◌, ◌≤◌, Some, length, option_map, take, ap, refl, subst, sym, ◌∙◌, arith}
use Rattle.checked_log.specs.Whole.{ended, whole}
use Rattle.checked_log.specs.declared.recovery.Link.{Link}
use Rattle.checked_disk.specs.Plain.{plain_contents}
use Rattle.checked_disk.specs.Safe.{IsSure, entries_of}
use Rattle.checked_disk.specs.Stands.{Stands, sure_text}
use Rattle.checked_disk.proofs.Lasting.{cut_lasts, sure_within}
use Rattle.checked_disk.proofs.Logs.{keeps_cut, kept_at}
use Rattle.checked_disk.proofs.Moments.{lasts_joined, started}
use Rattle.checked_disk.proofs.Sure.{cut_begins, cut_sure, entries_cut, from_lasts, tail_cut, tail_moved, was_cut}
use Rattle.checked_disk.proofs.Synced.{synced_cut, synced_moved}
use Rattle.checked_disk.proofs.disk.CheckedDisk.renew.Goals as goal

pub invariant_of-self : goal.invariant_of-self
invariant_of-self g c =
    let log = c.args.self.now.log in
    let base = c.args.self.now.texts.base in
    let texts = c.rewind.ensures in
    let same = c.in_err-shorten.ensures.kept in
    record {
      kept = λ bytes is.
          kept_at base c.rewind.new.self.base bytes log.last log.last log.end log.end log.size log.size (sym texts.base) refl refl refl (c.args.self.now.kept bytes (sym same.0 ∙ is));
      reading = texts.reading (g.F.LogFiles.contents c.shorten.new.self.files);
      within = omega (arith, same.1, c.args.self.now.within);
      told = c.args.self.now.told;
      tail = λ bytes is.
          tail_moved base c.rewind.new.self.base c.args.self.now.texts.reader.durable c.rewind.new.self.reader.durable c.args.self.now.texts.reader.tail c.rewind.new.self.reader.tail bytes texts.base
          texts.durable texts.tail (c.args.self.now.tail bytes (sym same.0 ∙ is));
      durable = omega (arith, texts.durable, c.args.self.now.durable);
      had = λ was is. cc is;
      written = λ over settled. cc (c.if-self.false, settled);
      sure = λ bytes is. synced_moved base c.rewind.new.self.base log log bytes texts.base refl refl (c.args.self.now.sure bytes (sym same.0 ∙ is));
    }

pub invariant_of-self-2 : goal.invariant_of-self-2
invariant_of-self-2 g c =
    let log = c.args.self.now.log in
    let base = c.args.self.now.texts.base in
    let old = g.F.LogFiles.contents c.args.self.now.disk.files in
    let texts = c.rewind.ensures in
    let cut = keeps_cut base old log.last log.end log.size c.args.self.now.kept in
    let reading = texts.reading (g.F.LogFiles.contents c.rewrite_from.new.disk.files) in
    let durable = c.args.self.now.texts.reader.durable in
    let tail = c.args.self.now.texts.reader.tail in
    let is = c.rewrite_from.ensures.contents ∙ c.in_ok-shorten.ensures.cut.0 in
    record {
      kept = λ bytes known. kept_at base c.rewind.new.self.base bytes log.last log.last log.end log.end log.size log.size (sym texts.base) refl refl refl (cut.0 bytes (sym is ∙ known));
      reading = record { sound = reading.sound; within = reading.within; left = reading.left; ends = reading.ends };
      within = omega (arith, c.in_ok-shorten.ensures.cut.1, c.rewrite_from.ensures.size);
      told = c.args.self.now.told;
      tail = λ bytes known.
          tail_moved base c.rewind.new.self.base durable c.rewind.new.self.reader.durable tail c.rewind.new.self.reader.tail bytes texts.base texts.durable texts.tail
          (was_cut old log.end bytes (λ b. tail ≤ length (sure_text base (whole base (ended b)) durable))
          (λ b b_is. tail_cut base b log.end durable tail (c.args.self.now.kept b b_is).is_end (c.args.self.now.tail b b_is)) (sym is ∙ known));
      durable = omega (arith, texts.durable, c.args.self.now.durable);
      had = λ was is. cc is;
      written = λ over settled. cc (c.if-self.false, settled);
      sure = λ bytes known.
          synced_moved base c.rewind.new.self.base log log bytes texts.base refl refl (synced_cut base old log c.args.self.now.kept c.args.self.now.sure bytes (sym is ∙ known));
    }

pub returns-in_err-shorten-clause-sure : goal.returns-in_err-shorten-clause-sure
returns-in_err-shorten-clause-sure g c = λ synced safe.
    let log = c.args.self.now.log in
    let base = c.args.self.now.texts.base in
    let files = c.args.self.now.disk.files in
    let old = g.F.LogFiles.contents files in
    let kept = c.args.self.now.kept safe.bytes safe.known in
    let es = whole base (ended safe.bytes) in
    let few : length (sure_text base es synced) ≤ log.end = omega (arith, sure_within base es synced, kept.is_end) in
    let start = started g.F.LogFiles.may_leave g.F.LogFiles.moment g.F.LogFiles.left_since files (Stands base es synced) (g.met.F.LogFiles.only_now files) safe.sure.each in
    let cut =
    cut_lasts g.F.LogFiles.may_leave g.F.LogFiles.moment g.F.LogFiles.left_since files files c.shorten.new.self.files log.end base es synced few start c.shorten.ensures.crash
    c.shorten.ensures.time in
    let leaves = g.F.LogFiles.may_leave c.shorten.new.self.files in (
      from_lasts g.F.LogFiles.may_leave g.F.LogFiles.moment g.F.LogFiles.left_since files c.shorten.new.self.files base old safe.bytes synced safe.known cut.moments,
      (
        synced,
        omega arith,
        record {
          bytes = safe.bytes;
          known = c.in_err-shorten.ensures.kept.0 ∙ safe.known;
          slot = safe.slot;
          enough = safe.enough;
          sure = subst (λ (b : Link). IsSure b safe.bytes synced leaves) (sym c.rewind.ensures.base) (record { served = safe.sure.served; each = cut.now });
        },
      ),
    )

pub returns-in_err-rewrite_from-clause-contents : goal.returns-in_err-rewrite_from-clause-contents
returns-in_err-rewrite_from-clause-contents g c =
    let log = c.args.self.now.log in
    let base = c.args.self.now.texts.base in
    let cut = keeps_cut base (g.F.LogFiles.contents c.args.self.now.disk.files) log.last log.end log.size c.args.self.now.kept in
    ap (λ (b : Link). plain_contents b (g.F.LogFiles.contents c.rewrite_from.new.disk.files)) c.rewind.ensures.base
    ∙ ap (plain_contents base) (c.rewrite_from.ensures.contents ∙ c.in_ok-shorten.ensures.cut.0) ∙ cut.1

pub returns-clause-contents : goal.returns-clause-contents
returns-clause-contents g c =
    let log = c.args.self.now.log in
    let base = c.args.self.now.texts.base in
    let cut = keeps_cut base (g.F.LogFiles.contents c.args.self.now.disk.files) log.last log.end log.size c.args.self.now.kept in
    ap (λ (b : Link). plain_contents b (g.F.LogFiles.contents c.rewrite_from.new.disk.files)) c.rewind.ensures.base
    ∙ ap (plain_contents base) (c.rewrite_from.ensures.contents ∙ c.in_ok-shorten.ensures.cut.0) ∙ cut.1

pub returns-in_err-rewrite_from-clause-entries : goal.returns-in_err-rewrite_from-clause-entries
returns-in_err-rewrite_from-clause-entries g c =
    let log = c.args.self.now.log in
    let base = c.args.self.now.texts.base in
    let old = g.F.LogFiles.contents c.args.self.now.disk.files in
    ap (λ (b : Link). entries_of b (g.F.LogFiles.contents c.rewrite_from.new.disk.files)) c.rewind.ensures.base
    ∙ ap (entries_of base) (c.rewrite_from.ensures.contents ∙ c.in_ok-shorten.ensures.cut.0) ∙ entries_cut base old log.end (λ bytes is. (c.args.self.now.kept bytes is).is_end)

pub returns-clause-entries : goal.returns-clause-entries
returns-clause-entries g c =
    let log = c.args.self.now.log in
    let base = c.args.self.now.texts.base in
    let old = g.F.LogFiles.contents c.args.self.now.disk.files in
    ap (λ (b : Link). entries_of b (g.F.LogFiles.contents c.rewrite_from.new.disk.files)) c.rewind.ensures.base
    ∙ ap (entries_of base) (c.rewrite_from.ensures.contents ∙ c.in_ok-shorten.ensures.cut.0) ∙ entries_cut base old log.end (λ bytes is. (c.args.self.now.kept bytes is).is_end)

pub returns-in_err-rewrite_from-clause-sure : goal.returns-in_err-rewrite_from-clause-sure
returns-in_err-rewrite_from-clause-sure g c = λ synced safe.
    let log = c.args.self.now.log in
    let base = c.args.self.now.texts.base in
    let files = c.args.self.now.disk.files in
    let old = g.F.LogFiles.contents files in
    let kept = c.args.self.now.kept safe.bytes safe.known in
    let es = whole base (ended safe.bytes) in
    let few : length (sure_text base es synced) ≤ log.end = omega (arith, sure_within base es synced, kept.is_end) in
    let start = started g.F.LogFiles.may_leave g.F.LogFiles.moment g.F.LogFiles.left_since files (Stands base es synced) (g.met.F.LogFiles.only_now files) safe.sure.each in
    let cut =
    cut_lasts g.F.LogFiles.may_leave g.F.LogFiles.moment g.F.LogFiles.left_since files files c.shorten.new.self.files log.end base es synced few start c.shorten.ensures.crash
    c.shorten.ensures.time in
    let left = take log.end safe.bytes in
    let known : g.F.LogFiles.contents c.shorten.new.self.files ≡ Some left = c.in_ok-shorten.ensures.cut.0 ∙ ap (option_map (take log.end)) safe.known in
    let written = c.rewrite_from.ensures.lasts left base es synced known (cut_begins base safe.bytes log.end synced kept.is_end) cut.now in
    let both = lasts_joined g.F.LogFiles.may_leave g.F.LogFiles.moment g.F.LogFiles.left_since files c.shorten.new.self.files c.rewrite_from.new.disk.files (Stands base es synced) cut written in
    let leaves = g.F.LogFiles.may_leave c.rewrite_from.new.disk.files in (
      from_lasts g.F.LogFiles.may_leave g.F.LogFiles.moment g.F.LogFiles.left_since files c.rewrite_from.new.disk.files base old safe.bytes synced safe.known both.moments,
      (
        synced,
        omega arith,
        record {
          bytes = left;
          known = c.rewrite_from.ensures.contents ∙ known;
          slot = safe.slot;
          enough = safe.enough;
          sure = subst (λ (b : Link). IsSure b left synced leaves) (sym c.rewind.ensures.base) (cut_sure base safe.bytes log.end synced leaves kept.is_end safe.sure.served both.now);
        },
      ),
    )

pub returns-clause-sure : goal.returns-clause-sure
returns-clause-sure g c = λ synced safe.
    let log = c.args.self.now.log in
    let base = c.args.self.now.texts.base in
    let files = c.args.self.now.disk.files in
    let old = g.F.LogFiles.contents files in
    let kept = c.args.self.now.kept safe.bytes safe.known in
    let es = whole base (ended safe.bytes) in
    let few : length (sure_text base es synced) ≤ log.end = omega (arith, sure_within base es synced, kept.is_end) in
    let start = started g.F.LogFiles.may_leave g.F.LogFiles.moment g.F.LogFiles.left_since files (Stands base es synced) (g.met.F.LogFiles.only_now files) safe.sure.each in
    let cut =
    cut_lasts g.F.LogFiles.may_leave g.F.LogFiles.moment g.F.LogFiles.left_since files files c.shorten.new.self.files log.end base es synced few start c.shorten.ensures.crash
    c.shorten.ensures.time in
    let left = take log.end safe.bytes in
    let known : g.F.LogFiles.contents c.shorten.new.self.files ≡ Some left = c.in_ok-shorten.ensures.cut.0 ∙ ap (option_map (take log.end)) safe.known in
    let written = c.rewrite_from.ensures.lasts left base es synced known (cut_begins base safe.bytes log.end synced kept.is_end) cut.now in
    let both = lasts_joined g.F.LogFiles.may_leave g.F.LogFiles.moment g.F.LogFiles.left_since files c.shorten.new.self.files c.rewrite_from.new.disk.files (Stands base es synced) cut written in
    let leaves = g.F.LogFiles.may_leave c.rewrite_from.new.disk.files in (
      from_lasts g.F.LogFiles.may_leave g.F.LogFiles.moment g.F.LogFiles.left_since files c.rewrite_from.new.disk.files base old safe.bytes synced safe.known both.moments,
      (
        synced,
        omega arith,
        record {
          bytes = left;
          known = c.rewrite_from.ensures.contents ∙ known;
          slot = safe.slot;
          enough = safe.enough;
          sure = subst (λ (b : Link). IsSure b left synced leaves) (sym c.rewind.ensures.base) (cut_sure base safe.bytes log.end synced leaves kept.is_end safe.sure.served both.now);
        },
      ),
    )
