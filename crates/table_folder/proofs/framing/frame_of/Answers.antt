use Rattle.std.proofs.Common.{◌≡◌, length, ◌∙◌, arith}
use Rattle.table_folder.proofs.Signing.{signed_front, signed_length}
use Rattle.table_folder.proofs.framing.frame_of.Goals as goal

pub returns-in_default-clause-framed : goal.returns-in_default-clause-framed
returns-in_default-clause-framed g c bytes is front room ends =
    let size : c.size.result ≡ length bytes = c.size.ensures ∙ g.met.D.Disk.counted c.args.disk.now bytes is in
    absurd (omega (arith, signed_length bytes front ends, c.in_default.ensures))

pub returns-then-before-first-clause-framed : goal.returns-then-before-first-clause-framed
returns-then-before-first-clause-framed g c bytes is front room ends =
    let size : c.size.result ≡ length bytes = c.size.ensures ∙ g.met.D.Disk.counted c.args.disk.now bytes is in
    absurd (omega (arith, signed_length bytes front ends, c.in-Some.ensures))

pub returns-then-not-branch-clause-framed : goal.returns-then-not-branch-clause-framed
returns-then-not-branch-clause-framed g c bytes is front room ends =
    let size : c.size.result ≡ length bytes = c.size.ensures ∙ g.met.D.Disk.counted c.args.disk.now bytes is in
    let yes = (c.in_ok-is_signed.ensures.signed bytes is).1 (signed_front c.in-Some.before bytes front (omega (arith, c.in-Some.ensures)) ends) in
    let no = c.if-not-branch.true in
    cc
