use Rattle.std.proofs.Common.{arith}
use Rattle.index_tests.proofs.Framing.{sound_at, columns_changed}
use Rattle.index_tests.proofs.every.unlink_from.Goals as goal

pub node_aged-requires : goal.node_aged-requires
node_aged-requires g c = (sound_at _ 0 c.args.indices.now c.args.place _ (omega arith) c.requires.sound).sound

pub unlink-requires-clause-sound : goal.unlink-requires-clause-sound
unlink-requires-clause-sound g c = (sound_at _ 0 c.args.indices.now c.args.place _ (omega arith) c.requires.sound).sound

pub returns-in-Some : goal.returns-in-Some
returns-in-Some g c = columns_changed _ _ c.unlink.ensures.contents c.args.indices.now c.args.place c.index-indices-place-in-Some.result c.unlink.new.self (omega arith) c.requires c.unlink.ensures.col c.unlink.ensures.sound c.unlink.ensures.others
