use Rattle.std.proofs.Common.{◌≡◌, ◌-◌, length, drop, ap, ◌∙◌, arith, length-drop, take_all}
use Rattle.table_folder.specs.StateFile.{last_line}
use Rattle.table_folder.proofs.Signing.{signed_test}
use Rattle.table_folder.proofs.framing.is_signed.Goals as goal

pub returns-clause-signed : goal.returns-clause-signed
returns-clause-signed g c bytes is =
    let before = c.args.before in
    let here = c.digest_of_front.ensures.contents ∙ is in
    let size : c.size-end.result ≡ length bytes = c.size-end.ensures ∙ g.met.D.Disk.counted c.digest_of_front.new.disk bytes here in
    signed_test before bytes c.as_bytes.result.now c.as_slice.result.now c.eq.result
    (c.as_bytes.ensures.value ∙ c.in_ok-line.ensures ∙ ap last_line (c.in_ok-digest_of_front.ensures.digest bytes is))
    (c.as_slice.ensures.value ∙ c.in_ok-found.ensures.read bytes here ∙ take_all (c.size-end.result - before) (drop before bytes) (omega (arith, length-drop before bytes)))
    c.eq.ensures
