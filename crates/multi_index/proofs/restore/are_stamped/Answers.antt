use Rattle.std.proofs.Common.{◌+◌, ap, sym, subst, arith}
use Rattle.container_model.specs.declared.handle.Entry.{Entry}
use Rattle.multi_index.proofs.Restored.{HasSeen, one_seen}
use Rattle.multi_index.proofs.restore.are_stamped.Goals as goal

pub loop-entry-preserved : goal.loop-entry-preserved
loop-entry-preserved g c =
    let entries = c.args.entries.now in
    let k = c.loop-entry.entry-index in
    let d = c.entry-item.result in
    let here = ap (λ (e : Entry _). e.handle.stamp) c.entry-item.is in
    subst (λ (e : Entry _). HasSeen c.args.writes entries (k + 1) e.handle.stamp) (sym c.entry-item.is)
    (one_seen c.args.writes entries k c.loop-entry.last d c.loop-entry-test.true c.loop-entry.invariant (omega (arith, c.if-stamp-last.false, here)) (omega (arith, c.if-stamp-writes.false, here)))
