use Rattle.std.proofs.Common.{◌≡◌, ◌+◌, ◌++◌, inr, [], List, ℕ, length, take, drop, option_map, ap, refl, sym, ◌∙◌, arith, append_assoc, length-append, take-append-drop}
use Rattle.std.proofs.lemmas.List.{length-take-le}
use Rattle.file_disk.specs.File.{over}
use Rattle.checked_disk.proofs.Lasting.{write_begins, write_joined}
use Rattle.checked_disk.proofs.Moments.{writes_more, writes_none}
use Rattle.checked_disk.proofs.Over.{known_more, known_none}
use Rattle.checked_disk.proofs.held.Held.write.Goals as goal

pub loop-rest-init : goal.loop-rest-init
loop-rest-init g c =
    let files = c.args.self.now.files in
    record {
      done = [];
      split = refl;
      place = omega arith;
      room = omega (arith, c.in-Some.ensures.0, c.in-Some.ensures.1);
      contents = sym (known_none c.args.at (g.F.LogFiles.contents files));
      size = omega (arith, c.requires);
      mark = refl;
      settles = refl;
      puts = refl;
      places = writes_none (g.F.LogFiles.written files) c.args.at;
      lasts = write_begins g.F.LogFiles.may_leave g.F.LogFiles.moment g.F.LogFiles.left_since files c.args.at c.args.bytes.now (g.met.F.LogFiles.only_now files);
    }

pub loop-rest-preserved : goal.loop-rest-preserved
loop-rest-preserved g c =
    let loop = c.loop-rest in
    let inv = loop.invariant in
    let n = c.in-Ok.count in
    let rest = loop.rest.now in
    let front = take n rest in
    let put = c.in-Ok.ensures in
    let few : length front ≡ n = length-take-le n rest put.bound in
    let all : length (inv.done ++ front) ≡ length inv.done + length front = length-append inv.done front in
    let old = g.F.LogFiles.contents c.args.self.now.files in
    record {
      done = inv.done ++ front;
      split = rw c.split_at.ensures.back (append_assoc inv.done front (drop n rest) ∙ (ap (λ (l : List ℕ). inv.done ++ l) (take-append-drop n rest) ∙ inv.split));
      place = omega (arith, inv.place);
      room = inv.room;
      contents =
          put.bytes ∙ ap (option_map (over loop.place front)) inv.contents ∙ ap (λ (k : ℕ). option_map (over k front) (option_map (over c.args.at inv.done) old)) inv.place
          ∙ known_more c.args.at inv.done front old (λ bytes is. omega (arith, c.requires, c.args.self.now.counted bytes is));
      size = omega (arith, put.size, inv.size, inv.place);
      mark = put.mark ∙ inv.mark;
      settles = put.settles ∙ inv.settles;
      puts = put.puts ∙ inv.puts;
      places =
          writes_more _ _ _ c.args.at loop.place (length inv.done) n (omega (arith, inv.place)) (omega (arith, inv.place)) inv.places put.places (length (inv.done ++ front))
          (inr (omega (arith, inv.place), inv.place));
      lasts =
          write_joined g.F.LogFiles.may_leave g.F.LogFiles.moment g.F.LogFiles.left_since c.args.self.now.files loop.self.files c.put.new.self.files c.args.at loop.place inv.done rest
          c.args.bytes.now inv.split inv.place inv.lasts c.put.ensures.lasts;
    }

pub returns-in-Ok-eq0-clause-lasts : goal.returns-in-Ok-eq0-clause-lasts
returns-in-Ok-eq0-clause-lasts g c =
    let inv = c.loop-rest.invariant in
    write_joined g.F.LogFiles.may_leave g.F.LogFiles.moment g.F.LogFiles.left_since c.args.self.now.files c.loop-rest.self.files c.put.new.self.files c.args.at c.loop-rest.place inv.done
    c.loop-rest.rest.now c.args.bytes.now inv.split inv.place inv.lasts c.put.ensures.lasts

pub returns-in-Ok-eq0-2-clause-lasts : goal.returns-in-Ok-eq0-2-clause-lasts
returns-in-Ok-eq0-2-clause-lasts g c =
    let inv = c.loop-rest.invariant in
    write_joined g.F.LogFiles.may_leave g.F.LogFiles.moment g.F.LogFiles.left_since c.args.self.now.files c.loop-rest.self.files c.put.new.self.files c.args.at c.loop-rest.place inv.done
    c.loop-rest.rest.now c.args.bytes.now inv.split inv.place inv.lasts c.put.ensures.lasts
