use Rattle.std.proofs.Common.{◌≡◌, ◌≤◌, ℕ, List, Option, Ok, Err, ap, length, refl, subst, sym, ◌∙◌}
use Rattle.checked_log.specs.Recover.{walk_from, walked, with_count}
use Rattle.checked_log.specs.Whole.{ended}
use Rattle.checked_log.specs.declared.recovery.Link.{Link}
use Rattle.checked_log.specs.declared.walk.Walk.{Walk}
use Rattle.checked_disk.specs.Plain.{found_from}
use Rattle.checked_disk.specs.Reading.{HasWalked}
use Rattle.checked_disk.specs.declared.reader.Reader.{Reader}
use Rattle.checked_disk.proofs.Pieces.{fresh_reading}
use Rattle.checked_disk.proofs.Recovers.{judged_end, judged_told, recovered_kept, recovers}
use Rattle.checked_disk.proofs.recovering.walk.Goals as goal

-- from a new reader to one that took all bytes
took_all : (base : Link) (mark : Option Link) (old new : Reader) (w : Walk) (bytes : List ℕ) (size : ℕ) → old.mark ≡ mark → old.walk ≡ walk_from base mark → HasWalked old bytes size new
    → w ≡ new.walk → w ≡ walked mark (walk_from base mark) (ended bytes)
took_all base mark old new w bytes size by from found is =
    is ∙ found.walk ∙ ap (λ (m : Option Link). walked m old.walk (ended bytes)) by ∙ ap (λ (v : Walk). walked mark v (ended bytes)) from

pub returns-in-Err-clause-refused : goal.returns-in-Err-clause-refused
returns-in-Err-clause-refused g c = λ bytes is. c.in-Err.ensures.refused c.args.base c.args.mark bytes

pub returns-in-Err-judge-clause-refused : goal.returns-in-Err-judge-clause-refused
returns-in-Err-judge-clause-refused g c = λ bytes is.
    recovers c.args.base c.args.mark bytes c.reserve-2.new.self.walk c.walk_all.new.disk.size (Err c.in-Err-judge.refusal)
    (took_all c.args.base c.args.mark c.new-reader.result c.walk_all.new.reader c.reserve-2.new.self.walk bytes c.in-Ok.size c.new-reader.ensures.mark c.new-reader.ensures.walk
    (c.in-Ok.ensures.found bytes is) (ap (λ (r : Reader). r.walk) c.reserve-2.ensures.kept))
    (c.in-Ok.ensures.size ∙ c.args.disk.now.counted bytes is) c.in-Err-judge.ensures

pub returns-clause-recovered : goal.returns-clause-recovered
returns-clause-recovered g c = λ bytes is.
    recovers c.args.base c.args.mark bytes c.reserve-2.new.self.walk c.walk_all.new.disk.size (Ok c.in-Ok-judge.recovered)
    (took_all c.args.base c.args.mark c.new-reader.result c.walk_all.new.reader c.reserve-2.new.self.walk bytes c.in-Ok.size c.new-reader.ensures.mark c.new-reader.ensures.walk
    (c.in-Ok.ensures.found bytes is) (ap (λ (r : Reader). r.walk) c.reserve-2.ensures.kept))
    (c.in-Ok.ensures.size ∙ c.args.disk.now.counted bytes is) c.in-Ok-judge.ensures

pub returns-clause-kept : goal.returns-clause-kept
returns-clause-kept g c = λ bytes is.
    let found = c.in-Ok.ensures.found bytes is in
    recovered_kept c.args.base c.args.mark bytes c.in-Ok-judge.recovered c.in-Ok.size
    (recovers c.args.base c.args.mark bytes c.reserve-2.new.self.walk c.walk_all.new.disk.size (Ok c.in-Ok-judge.recovered)
    (took_all c.args.base c.args.mark c.new-reader.result c.walk_all.new.reader c.reserve-2.new.self.walk bytes c.in-Ok.size c.new-reader.ensures.mark c.new-reader.ensures.walk
    found (ap (λ (r : Reader). r.walk) c.reserve-2.ensures.kept))
    (c.in-Ok.ensures.size ∙ c.args.disk.now.counted bytes is) c.in-Ok-judge.ensures)
    (found.is_size ∙ ap (λ (v : Walk). length (found_from v (ended bytes))) c.new-reader.ensures.walk)

pub returns-clause-within : goal.returns-clause-within
returns-clause-within g c =
    let w = c.reserve-2.new.self.walk in
    subst (λ (n : ℕ). n ≤ c.args.disk.now.size)
    (sym
    (judged_end c.args.mark w.is_marked w.so_far c.in-Ok-judge.recovered c.walk_all.new.disk.size (sym c.in-Ok-judge.ensures)
    ∙ ap (λ (r : Reader). r.walk.so_far.end) c.reserve-2.ensures.kept))
    c.in-Ok.ensures.within

pub returns-clause-told : goal.returns-clause-told
returns-clause-told g c =
    let w = c.reserve-2.new.self.walk in
    judged_told c.args.mark w.is_marked (with_count c.walk_all.new.disk.size w.so_far) c.in-Ok-judge.recovered (sym c.in-Ok-judge.ensures)

pub returns-clause-reading : goal.returns-clause-reading
returns-clause-reading g c =
    let none = c.reset.ensures.none in
    let sound = c.reset.ensures.sound in
    fresh_reading _ c.reserve-2.new.self.mark c.reset.ensures.walk none.0 none.1 none.2 refl refl (record { lacks = sound.lacks; room = sound.room })
