use Rattle.std.proofs.Common.{◌≡◌, ◌+◌, ◌-◌, inr, ℕ, List, Option, Some, length, take, drop, ap, sym, ◌∙◌, arith}
use Rattle.checked_disk.specs.Files.{IsThere}
use Rattle.checked_disk.proofs.Lasting.{rewrite_more, rewrite_read}
use Rattle.checked_disk.proofs.Moments.{writes_more, writes_quiet}
use Rattle.checked_disk.proofs.Over.{known_there, rewritten}
use Rattle.checked_disk.proofs.tail.rewrite_from.Goals as goal

pub returns-in_err-count-clause-lasts : goal.returns-in_err-count-clause-lasts
returns-in_err-count-clause-lasts g c =
    rewrite_read g.F.LogFiles.may_leave g.F.LogFiles.moment g.F.LogFiles.left_since g.F.LogFiles.written g.F.LogFiles.contents c.args.disk.now.files c.loop-at.disk.files c.read.new.self.files
    (g.met.F.LogFiles.only_now c.loop-at.disk.files) c.loop-at.invariant.lasts c.read.ensures.quiet

pub returns-then-count-eq0-clause-lasts : goal.returns-then-count-eq0-clause-lasts
returns-then-count-eq0-clause-lasts g c =
    rewrite_read g.F.LogFiles.may_leave g.F.LogFiles.moment g.F.LogFiles.left_since g.F.LogFiles.written g.F.LogFiles.contents c.args.disk.now.files c.loop-at.disk.files c.read.new.self.files
    (g.met.F.LogFiles.only_now c.loop-at.disk.files) c.loop-at.invariant.lasts c.read.ensures.quiet

-- the bytes that were read stand there
there : (at count : ℕ) (front piece : List ℕ) (contents : Option (List ℕ)) → front ≡ take count piece → length front ≡ count
    → ((known : List ℕ) → contents ≡ Some known → take count piece ≡ take count (drop at known)) → IsThere contents at front
there at count front piece contents is long read known known_is = ap (λ (n : ℕ). take n (drop at known)) long ∙ sym (read known known_is) ∙ sym is

pub returns-in_err-write-clause-contents : goal.returns-in_err-write-clause-contents
returns-in_err-write-clause-contents g c =
    let read = c.in_ok-count.ensures in
    let short = c.in_err-write.ensures.front in
    let front = c.split_at.result.0.now in
    let old = g.F.LogFiles.contents c.read.new.self.files in
    short.2
    ∙ rewritten c.loop-at.at short.0 front old (omega (arith, short.1))
    (there c.loop-at.at c.in_ok-count.count front c.read.new.piece old c.split_at.ensures.front c.split_at.ensures.front_len (λ known is. read.bytes.read known (sym c.read.ensures.contents ∙ is)))
    ∙ c.read.ensures.contents ∙ c.loop-at.invariant.contents

pub returns-in_err-write-clause-lasts : goal.returns-in_err-write-clause-lasts
returns-in_err-write-clause-lasts g c =
    let inv = c.loop-at.invariant in
    let read = c.in_ok-count.ensures in
    rewrite_more g.F.LogFiles.may_leave g.F.LogFiles.moment g.F.LogFiles.left_since g.F.LogFiles.written g.F.LogFiles.contents c.args.disk.now.files c.loop-at.disk.files c.read.new.self.files
    c.write.new.self.files c.loop-at.at c.split_at.result.0.now (g.met.F.LogFiles.only_now c.loop-at.disk.files)
    (there c.loop-at.at c.in_ok-count.count c.split_at.result.0.now c.read.new.piece (g.F.LogFiles.contents c.args.disk.now.files) c.split_at.ensures.front c.split_at.ensures.front_len
    (λ known is. read.bytes.read known (inv.contents ∙ is))) inv.lasts c.read.ensures.quiet c.write.ensures.lasts

pub loop-at-preserved : goal.loop-at-preserved
loop-at-preserved g c =
    let inv = c.loop-at.invariant in
    let read = c.in_ok-count.ensures in
    let wrote = c.in_ok-write.ensures in
    let at = c.loop-at.at in
    let front = c.split_at.result.0.now in
    let old = g.F.LogFiles.contents c.read.new.self.files in
    let long = c.split_at.ensures.front_len in
    record {
      contents =
          wrote.ok.0
          ∙ known_there at front old
          (there at c.in_ok-count.count front c.read.new.piece old c.split_at.ensures.front long (λ known is. read.bytes.read known (sym c.read.ensures.contents ∙ is)))
          ∙ c.read.ensures.contents ∙ inv.contents;
      size = omega (arith, wrote.ok.1, read.bytes.within, c.read.ensures.size, inv.size);
      mark = c.write.ensures.mark ∙ c.read.ensures.mark ∙ inv.mark;
      settles = c.write.ensures.settles ∙ c.read.ensures.settles ∙ inv.settles;
      puts = c.write.ensures.puts ∙ c.read.ensures.puts ∙ inv.puts;
      end = inv.end;
      from = omega (arith, inv.from);
      upto = omega (arith, read.bytes.within, inv.size);
      places =
          writes_more _ _ _ c.args.start at (at - c.args.start) (length front) (omega (arith, inv.from)) inv.from (writes_quiet _ _ _ c.args.start (at - c.args.start) inv.places c.read.ensures.quiet.places)
          wrote.places (at + c.in_ok-count.count - c.args.start) (inr (omega (arith, inv.from), omega (arith, inv.from)));
      lasts =
          rewrite_more g.F.LogFiles.may_leave g.F.LogFiles.moment g.F.LogFiles.left_since g.F.LogFiles.written g.F.LogFiles.contents c.args.disk.now.files c.loop-at.disk.files c.read.new.self.files
          c.write.new.self.files at front (g.met.F.LogFiles.only_now c.loop-at.disk.files)
          (there at c.in_ok-count.count front c.read.new.piece (g.F.LogFiles.contents c.args.disk.now.files) c.split_at.ensures.front long (λ known is. read.bytes.read known (inv.contents ∙ is)))
          inv.lasts c.read.ensures.quiet c.write.ensures.lasts;
    }
