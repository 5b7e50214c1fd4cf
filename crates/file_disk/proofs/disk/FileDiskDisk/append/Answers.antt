use Rattle.std.proofs.Common.{◌≡◌, ◌+◌, ◌++◌, take, drop, length, ap, arith, ◌∙◌, append_assoc}
use Rattle.std.specs.Io.KnownBytes.{append_known}
use Rattle.std.proofs.lemmas.List.{length-append, length-take-le, take-append-drop}
use Rattle.file_disk.proofs.Counts.{append_twice}
use Rattle.file_disk.proofs.disk.FileDiskDisk.append.Goals as goal

pub loop-rest-preserved : goal.loop-rest-preserved
loop-rest-preserved g c =
    let loop = c.loop-rest in
    let inv = loop.invariant in
    let n = c.in-Ok.taken in
    let front = take n loop.rest.now in
    let few : length front ≡ n = length-take-le n loop.rest.now c.in-Ok.ensures.bound in
    let all : length (inv.done ++ front) ≡ length inv.done + length front = length-append inv.done front in
    let before : loop.self.size ≡ c.args.self.now.size + length inv.done = inv.size in
    let more : c.put.new.self.size ≡ loop.self.size + n = c.in-Ok.ensures.size in
    record {
      done = inv.done ++ front;
      split = rw c.split_at.ensures.back (append_assoc inv.done front (drop n loop.rest.now) ∙ (ap (λ xs. inv.done ++ xs) (take-append-drop n loop.rest.now) ∙ inv.split));
      written = c.in-Ok.ensures.bytes ∙ (ap (λ o. append_known o front) inv.written ∙ append_twice (g.F.LogFile.contents c.args.self.now.file) inv.done front);
      size = omega arith;
      synced = c.in-Ok.ensures.synced ∙ inv.synced;
      failures = c.in-Ok.ensures.failures ∙ inv.failures;
    }
