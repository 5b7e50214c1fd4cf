use Rattle.std.proofs.Common.{◌≤◌, ap, arith, length}
use Rattle.index_set.specs.Set.{keys_of, specs_of}
use Rattle.index_tests.specs.declared.tens.Tens.{Tens}
use Rattle.index_tests.proofs.ByTens.{live_new}
use Rattle.index_tests.proofs.live.Live.new.Goals as goal

pub returns : goal.returns
returns c =
    let s = c.in-Ok-new.made in
    let made = c.in-Ok-new.ensures in
    let few : (keys_of s).keyed ≤ length (specs_of s) = omega (arith, ap (λ (k : Tens). k.keyed) made.keys, ap length made.specs, ap length c.in-Ok.ensures) in
    live_new {s = s} made.empty made.kept.filed.sound.keys few c.in_ok-first.ensures.put c.in_ok-second.ensures.put c.in_ok-third.ensures.put c.in_ok-third.ensures.sound
