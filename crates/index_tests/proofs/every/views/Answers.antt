use Rattle.std.proofs.Common.{sym, subst, arith}
use Rattle.index_tests.specs.Kinds.{IsSoundIn}
use Rattle.index_tests.proofs.Framing.{sound_at}
use Rattle.index_tests.proofs.every.views.Goals as goal

pub view-requires : goal.view-requires
view-requires g c =
    subst (IsSoundIn c.args.store.now) (sym c.index-item.is) (sound_at _ 0 c.args.indices.now c.loop-index.index-index c.index-item.result (omega arith) c.requires.sound).sound
