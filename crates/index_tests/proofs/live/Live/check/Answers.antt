use Rattle.index_tests.proofs.ByTens.{live_from}
use Rattle.index_tests.proofs.Told.{cause_nodes}
use Rattle.index_tests.proofs.live.Live.check.Goals as goal

pub returns-in-Ok : goal.returns-in-Ok
returns-in-Ok c =
    let alike = c.check_index.ensures.unchanged in
    live_from c.check_index.ensures.kept.filed.sound c.requires alike.contents alike.same.keys alike.same.specs c.requires.keys c.requires.few

pub returns-in-Err : goal.returns-in-Err
returns-in-Err c =
    let alike = c.check_index.ensures.unchanged in
    live_from c.check_index.ensures.kept.filed.sound c.requires alike.contents alike.same.keys alike.same.specs c.requires.keys c.requires.few

pub told-requires : goal.told-requires
told-requires c =
    let alike = c.check_index.ensures.unchanged in
    let live = live_from c.check_index.ensures.kept.filed.sound c.requires alike.contents alike.same.keys alike.same.specs c.requires.keys c.requires.few in
    cause_nodes _ _ _ _ _ live.members c.in-Err.why c.in-Err.ensures.cause
