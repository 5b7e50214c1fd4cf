use Rattle.std.proofs.Common.{◌≡◌, ◌+◌, ◌++◌, ℕ, List, length, drop, take, ap, refl, ◌∙◌, arith}
use Rattle.checked_disk.proofs.Moments.{quiet_joined, quiet_none}
use Rattle.checked_disk.proofs.Pieces.{piece_there, walking_ends, walking_more, walking_begins}
use Rattle.checked_disk.proofs.recovering.walk_all.Goals as goal

pub loop-reader-init : goal.loop-reader-init
loop-reader-init g c = record {
  contents = refl;
  size = refl;
  same_mark = refl;
  settles = refl;
  puts = refl;
  quiet = quiet_none g.F.LogFiles.may_leave g.F.LogFiles.moment g.F.LogFiles.left_since g.F.LogFiles.written c.args.disk.now.files;
  end = refl;
  place = let none = c.requires.fresh.0 in omega arith;
  sound = c.requires.sound;
  mark = refl;
  plain = c.requires.fresh.2;
  so_far = λ bytes is. walking_begins c.args.reader.now bytes c.requires.fresh.0 c.requires.fresh.1;
}

pub loop-reader-preserved : goal.loop-reader-preserved
loop-reader-preserved g c =
    let inv = c.loop-reader.invariant in
    let count = c.in-Ok.count in
    let cur = c.loop-reader.reader in
    let takes = c.in_ok-take.ensures.takes in
    let read = c.in-Ok.ensures in
    let front = c.split_at.result.0.now in
    record {
      contents = read.contents ∙ inv.contents;
      size = read.size ∙ inv.size;
      same_mark = read.mark ∙ inv.same_mark;
      settles = read.settles ∙ inv.settles;
      puts = read.puts ∙ inv.puts;
      quiet =
          quiet_joined g.F.LogFiles.may_leave g.F.LogFiles.moment g.F.LogFiles.left_since g.F.LogFiles.written c.args.disk.now.files c.loop-reader.disk.files c.read.new.self.files inv.quiet
          c.read.ensures.quiet;
      end = inv.end;
      place = omega (arith, takes.place, c.split_at.ensures.front_len, read.bytes.within, inv.size);
      sound = record { lacks = takes.sound.lacks; room = takes.sound.room };
      mark = takes.mark ∙ inv.mark;
      plain = c.clear.ensures.items;
      so_far = λ bytes is.
          let same : front ≡ take count c.read.new.piece = c.split_at.ensures.front in
          let there : front ++ drop (cur.place + length front) bytes ≡ drop cur.place bytes =
          ap (λ (n : ℕ). front ++ drop (cur.place + n) bytes) c.split_at.ensures.front_len ∙ ap (λ (l : List ℕ). l ++ drop (cur.place + count) bytes) same
          ∙ piece_there cur.place count c.read.new.piece bytes (read.bytes.read bytes (inv.contents ∙ is)) in
          let more = walking_more c.args.reader.now cur c.take.new.self front bytes c.loop-reader.size (inv.so_far bytes is) inv.mark inv.plain takes there in
          record { walk = more.walk; is_size = omega (arith, more.is_size, c.in-Some.ensures.1) };
    }

pub returns-clause-found : goal.returns-clause-found
returns-clause-found g c = λ bytes is.
    let inv = c.loop-reader.invariant in
    let count = c.args.disk.now.counted bytes is in
    walking_ends c.args.reader.now c.loop-reader.reader bytes c.loop-reader.size (inv.so_far bytes is) inv.sound (omega (arith, inv.end))

pub returns-in_default-clause-quiet : goal.returns-in_default-clause-quiet
returns-in_default-clause-quiet g c =
    quiet_joined g.F.LogFiles.may_leave g.F.LogFiles.moment g.F.LogFiles.left_since g.F.LogFiles.written c.args.disk.now.files c.loop-reader.disk.files c.read.new.self.files
    c.loop-reader.invariant.quiet c.read.ensures.quiet

pub returns-then-count-eq0-clause-quiet : goal.returns-then-count-eq0-clause-quiet
returns-then-count-eq0-clause-quiet g c =
    quiet_joined g.F.LogFiles.may_leave g.F.LogFiles.moment g.F.LogFiles.left_since g.F.LogFiles.written c.args.disk.now.files c.loop-reader.disk.files c.read.new.self.files
    c.loop-reader.invariant.quiet c.read.ensures.quiet

pub returns-in_err-take-clause-quiet : goal.returns-in_err-take-clause-quiet
returns-in_err-take-clause-quiet g c =
    quiet_joined g.F.LogFiles.may_leave g.F.LogFiles.moment g.F.LogFiles.left_since g.F.LogFiles.written c.args.disk.now.files c.loop-reader.disk.files c.read.new.self.files
    c.loop-reader.invariant.quiet c.read.ensures.quiet

pub returns-in_default-checked_add-clause-quiet : goal.returns-in_default-checked_add-clause-quiet
returns-in_default-checked_add-clause-quiet g c =
    quiet_joined g.F.LogFiles.may_leave g.F.LogFiles.moment g.F.LogFiles.left_since g.F.LogFiles.written c.args.disk.now.files c.loop-reader.disk.files c.read.new.self.files
    c.loop-reader.invariant.quiet c.read.ensures.quiet

pub returns-clause-quiet : goal.returns-clause-quiet
returns-clause-quiet g c = c.loop-reader.invariant.quiet
