use Rattle.std.proofs.Common.{◌+◌, ◌≤◌, ℕ, length, subst, sym, arith}
use Rattle.checked_log.specs.Whole.{ended, whole}
use Rattle.checked_log.specs.declared.recovery.Link.{Link}
use Rattle.checked_disk.specs.Files.{IsSlot}
use Rattle.checked_disk.specs.Kept.{IsKept}
use Rattle.checked_disk.specs.Safe.{IsSure}
use Rattle.checked_disk.specs.Stands.{sure_text}
use Rattle.checked_disk.proofs.Opening.{start_sure}
use Rattle.checked_disk.proofs.disk.CheckedDisk.resume.Goals as goal

pub invariant_of-result-2 : goal.invariant_of-result-2
invariant_of-result-2 g c =
    let kept = c.args.kept in
    let texts = c.in-Ok-Ok.texts in
    let tail = c.in-Ok-Ok.ensures.tail in
    record {
      kept = λ bytes is.
          subst (λ (b : Link). IsKept b bytes kept.log.last kept.log.end kept.log.size) (sym c.in-Ok-Ok.ensures.base) (c.requires.kept bytes is).lines;
      reading = c.in-Ok-Ok.ensures.reading (g.F.LogFiles.contents c.args.files);
      within = omega (arith, c.if-size-kept.false);
      told = kept.told;
      tail = λ bytes is.
          subst (λ (b : Link). texts.reader.tail ≤ length (sure_text b (whole b (ended bytes)) texts.reader.durable)) (sym c.in-Ok-Ok.ensures.base)
          (subst (λ (n : ℕ). texts.reader.tail ≤ length (sure_text kept.base (whole kept.base (ended bytes)) n)) (sym tail.1)
          (subst (λ (n : ℕ). n ≤ length (sure_text kept.base (whole kept.base (ended bytes)) kept.log.durable)) (sym tail.0) (c.requires.kept bytes is).sure));
      durable = omega (arith, tail.1);
      had = λ was is. cc is;
      written = λ over settled. cc settled;
      sure = λ bytes is. omega arith;
    }

pub returns-clause-start : goal.returns-clause-start
returns-clause-start g c = λ marks es next few was.
    let base = c.args.kept.base in
    let leaves = g.F.LogFiles.may_leave c.args.files in
    record {
      bytes = was.bytes;
      known = was.known;
      slot = subst (λ (at : ℕ). IsSlot at) next was.slot;
      enough = few;
      sure =
          subst (λ (b : Link). IsSure b was.bytes (base.number + length es) leaves) (sym c.in-Ok-Ok.ensures.base)
          (start_sure base marks es was.bytes was.answered leaves was.each);
    }
