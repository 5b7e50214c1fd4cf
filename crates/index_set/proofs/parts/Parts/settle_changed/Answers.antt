use Rattle.index_set.proofs.Refilled.{sound_refilled}
use Rattle.index_set.proofs.parts.Parts.settle_changed.Goals as goal

pub returns-clause-sound : goal.returns-clause-sound
returns-clause-sound g c = sound_refilled c.args.self.now c.requires.sound c.deref.result.now c.deref.ensures.value c.deref_mut.result.now c.deref_mut.ensures.value c.settle_each.new.indices c.settle_each.new.store c.settle_each.ensures.placed c.settle_each.ensures.within c.settle_each.ensures.contents
