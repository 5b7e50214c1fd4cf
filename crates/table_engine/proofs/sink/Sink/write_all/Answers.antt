use Rattle.std.proofs.Common.{◌++◌, take, drop, ap, ◌∙◌, append_assoc}
use Rattle.std.proofs.KnownBytes.{Appends-trans}
use Rattle.std.proofs.lemmas.List.{take-append-drop}
use Rattle.table_engine.proofs.Devices.{kept_count}
use Rattle.table_engine.proofs.sink.Sink.write_all.Goals as goal

pub loop-rest-preserved : goal.loop-rest-preserved
loop-rest-preserved g c =
    let contents = g.W.Write.contents in
    let loop = c.loop-rest in
    let inv = loop.invariant in
    let n = c.in-Ok.taken in
    record {
      done = inv.done ++ take n loop.rest.now;
      split = rw c.split_at.ensures.back (append_assoc inv.done (take n loop.rest.now) (drop n loop.rest.now) ∙ (ap (λ xs. inv.done ++ xs) (take-append-drop n loop.rest.now) ∙ inv.split));
      written = Appends-trans (contents c.args.self.now.inner) (contents loop.self.inner) (contents c.write.new.self.inner) inv.done (take n loop.rest.now) inv.written c.in-Ok.ensures.bytes;
      failures = c.in-Ok.ensures.failures ∙ (kept_count n _ _ c.if-taken-eq0.false ∙ inv.failures);
    }
