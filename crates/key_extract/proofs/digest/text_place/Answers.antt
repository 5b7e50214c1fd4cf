use Rattle.std.proofs.Common.{◌^◌, get_or, drop, ap, ◌∙◌, arith}
use Rattle.key_extract.specs.KeyDigests.{text_place as the_text_place}
use Rattle.key_extract.specs.DigestLaws.{places_below}
use Rattle.key_extract.proofs.TextPlaces.{no_room, narrows}
use Rattle.key_extract.proofs.digest.text_place.Goals as goal

pub returns-then-room-eq0-clause-place : goal.returns-then-room-eq0-clause-place
returns-then-room-eq0-clause-place c =
    let rest = drop c.loop-byte.byte-index c.args.bytes.now in
    let none = ap (λ room. the_text_place room rest) c.if-room-eq0.true ∙ no_room rest in
    omega (arith, none, c.loop-byte.invariant.0)

pub overflow_add-place : goal.overflow_add-place
overflow_add-place c =
    let below = places_below c.loop-byte.room (get_or c.args.bytes.now c.loop-byte.byte-index 0) in
    record { fits = omega (arith, below, c.byte_place-start.ensures, c.loop-byte.invariant.1) }

pub loop-byte-preserved : goal.loop-byte-preserved
loop-byte-preserved c = narrows c.args.bytes.now c.loop-byte.byte-index c.loop-byte.place c.loop-byte.room c.byte_place-start.result c.byte_place.result c.loop-byte-test.true c.byte_place-start.ensures c.byte_place.ensures (the_text_place (2 ^ 46) c.args.bytes.now) (2 ^ 46) c.loop-byte.invariant
