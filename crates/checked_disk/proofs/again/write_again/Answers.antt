use Rattle.std.proofs.Common.{inl, ◌∙◌, arith}
use Rattle.checked_disk.proofs.Lasting.{wrote_lasts}
use Rattle.checked_disk.proofs.Moments.{writes_more}
use Rattle.checked_disk.proofs.again.write_again.Goals as goal

pub returns-in_default-clause-lasts : goal.returns-in_default-clause-lasts
returns-in_default-clause-lasts g c = λ base es synced agrees here.
    wrote_lasts g.F.LogFiles.may_leave g.F.LogFiles.moment g.F.LogFiles.left_since c.args.files.now c.loop.files c.write_at.new.self c.args.at c.args.bytes.now base es synced agrees
    (c.loop.invariant.lasts base es synced agrees here) c.write_at.ensures.crash c.write_at.ensures.time

pub returns-in_default-2-clause-lasts : goal.returns-in_default-2-clause-lasts
returns-in_default-2-clause-lasts g c = λ base es synced agrees here.
    wrote_lasts g.F.LogFiles.may_leave g.F.LogFiles.moment g.F.LogFiles.left_since c.args.files.now c.loop.files c.write_at.new.self c.args.at c.args.bytes.now base es synced agrees
    (c.loop.invariant.lasts base es synced agrees here) c.write_at.ensures.crash c.write_at.ensures.time

pub loop-preserved : goal.loop-preserved
loop-preserved g c =
    let inv = c.loop.invariant in
    record {
      contents = c.in-Err.ensures.bytes ∙ inv.contents;
      mark = c.write_at.ensures.mark ∙ inv.mark;
      settles = c.write_at.ensures.settles ∙ inv.settles;
      puts = c.write_at.ensures.puts ∙ inv.puts;
      places = writes_more _ _ _ c.args.at c.args.at 0 0 (omega arith) (omega arith) inv.places c.in-Err.ensures.places 0 (inl (omega arith));
      lasts = λ base es synced agrees here.
          wrote_lasts g.F.LogFiles.may_leave g.F.LogFiles.moment g.F.LogFiles.left_since c.args.files.now c.loop.files c.write_at.new.self c.args.at c.args.bytes.now base es synced agrees
          (inv.lasts base es synced agrees here) c.write_at.ensures.crash c.write_at.ensures.time;
    }
