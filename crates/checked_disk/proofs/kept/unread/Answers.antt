use Rattle.std.proofs.Common.{None, ap, refl, subst, sym, ◌∙◌}
use Rattle.checked_disk.specs.Reading.{IsSound}
use Rattle.checked_disk.specs.declared.reader.Reader.{Reader}
use Rattle.checked_disk.proofs.Pieces.{fresh_reading}
use Rattle.checked_disk.proofs.kept.unread.Goals as goal

pub returns-clause-reading : goal.returns-clause-reading
returns-clause-reading c =
    let fresh = c.new-reader.ensures in
    let kept = c.reserve.ensures.kept in
    let sound : IsSound c.reserve.new.self = subst (λ (r : Reader). IsSound r) (sym kept) (record { lacks = fresh.sound.lacks; room = fresh.sound.room }) in
    fresh_reading _ None (ap (λ (r : Reader). r.walk) kept ∙ fresh.walk) (ap (λ (r : Reader). r.place) kept ∙ fresh.none.0) (ap (λ (r : Reader). r.line.items) kept ∙ fresh.none.1)
    (c.reserve.ensures.plain ∙ fresh.none.2) refl refl (record { lacks = sound.lacks; room = sound.room })
