use Rattle.std.proofs.Common.{◌≤◌, ◌-◌, length, drop, ap, arith, length-drop, length-take}
use Rattle.checked_disk.proofs.Pieces.{moved}
use Rattle.checked_disk.proofs.texts.Texts.hand_out.Goals as goal

pub returns-clause-reading : goal.returns-clause-reading
returns-clause-reading c = λ contents reading.
    let plain = c.args.self.now.reader.plain.items in
    let handed = c.args.self.now.handed in
    let found = c.deref.result.now in
    let same = ap length c.deref.ensures.value in
    let few : c.min-count.result ≤ length (drop handed plain) =
    omega (arith, same, length-drop handed plain, length-drop handed found, length-take (length found - handed) (drop handed found)) in
    let within = reading.within in
    record {
      sound = reading.sound;
      within = omega (arith, length-drop handed plain);
      left = λ bytes is. moved c.args.self.now.read_at handed c.min-count.result plain _ _ few (reading.left bytes is);
      ends = reading.ends;
    }
