use Rattle.std.proofs.Common.{◌≡◌, ◌≤◌, ◌^◌, ◌+◌, drop}
use Rattle.key_extract.specs.KeyDigests.{text_place as the_text_place}
use Rattle.key_extract.proofs.digest.text_place.Given as goal

abbrev pub invariant-loop-byte : goal.invariant-loop-byte
invariant-loop-byte l = (l.place + the_text_place l.room (drop l.byte-index l.bytes) ≡ the_text_place (2 ^ 46) l.bytes) × (l.place + l.room ≤ 2 ^ 46)
