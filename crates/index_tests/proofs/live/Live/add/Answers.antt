use Rattle.std.proofs.Common.{arith}
use Rattle.std.proofs.lemmas.List.{length_push}
use Rattle.index_set.specs.Set.{specs_of}
use Rattle.index_tests.proofs.ByTens.{live_from}
use Rattle.index_tests.proofs.Told.{cause_nodes}
use Rattle.index_tests.proofs.live.Live.add.Goals as goal

pub returns-in-Ok : goal.returns-in-Ok
returns-in-Ok c =
    let came = c.in-Ok.ensures in
    live_from c.add_index.ensures.kept.filed.sound c.requires c.add_index.ensures.contents came.keys came.specs c.in_ok-keys.ensures.keys (omega (arith, length_push (specs_of c.args.self.now.set) c.args.spec, c.in_ok-keys.ensures.few))

pub returns-in-Err : goal.returns-in-Err
returns-in-Err c =
    let same = c.in-Err.ensures.unchanged.same in
    live_from c.add_index.ensures.kept.filed.sound c.requires c.add_index.ensures.contents same.keys same.specs c.requires.keys c.requires.few

pub told-requires : goal.told-requires
told-requires c =
    let same = c.in-Err.ensures.unchanged.same in
    let live = live_from c.add_index.ensures.kept.filed.sound c.requires c.add_index.ensures.contents same.keys same.specs c.requires.keys c.requires.few in
    cause_nodes _ _ _ _ _ live.members c.in-Err.refused.why c.in-Err.ensures.cause
