use Rattle.std.proofs.Common.{◌+◌, length, subst, sym, ◌∙◌, arith}
use Rattle.checked_log.specs.declared.recovery.Link.{Link}
use Rattle.checked_disk.specs.Kept.{IsKept}
use Rattle.checked_disk.specs.Safe.{IsSure}
use Rattle.checked_disk.proofs.Opening.{start_durable, start_sure}
use Rattle.checked_disk.proofs.disk.CheckedDisk.recover.Goals as goal

pub invariant_of-result : goal.invariant_of-result
invariant_of-result g c =
    let found = c.in-Ok.walked in
    let tail = c.in-Ok.ensures.tail in
    record {
      kept = λ bytes is.
          subst (λ (b : Link). IsKept b bytes found.recovered.last found.recovered.end found.size) (sym c.in-Ok.ensures.base)
          (c.in-Ok.ensures.kept bytes (sym c.in-Ok.ensures.contents ∙ is));
      reading = c.in-Ok.ensures.reading (g.F.LogFiles.contents c.walk.new.disk.files);
      within = omega (arith, c.in-Ok.ensures.within, c.in-Ok.ensures.size);
      told = c.in-Ok.ensures.told;
      tail = λ bytes is. omega (arith, tail.0);
      durable = omega (arith, tail.1);
      had = λ was is. cc is;
      written = λ over settled. cc settled;
      sure = λ bytes is. omega arith;
    }

pub returns-clause-safe : goal.returns-clause-safe
returns-clause-safe g c = λ es was.
    let leaves = g.F.LogFiles.may_leave c.walk.new.disk.files in
    record {
      bytes = was.bytes;
      known = c.walk.ensures.contents ∙ was.known;
      slot = was.slot;
      enough = start_durable c.args.base c.args.marks es was.bytes was.answered c.in-Ok.walked.recovered (c.in-Ok.ensures.recovered was.bytes was.known);
      sure =
          subst (λ (b : Link). IsSure b was.bytes (c.args.base.number + length es) leaves) (sym c.in-Ok.ensures.base)
          (start_sure c.args.base c.args.marks es was.bytes was.answered leaves (λ d left. was.each d (c.walk.ensures.quiet.less d left)));
    }
