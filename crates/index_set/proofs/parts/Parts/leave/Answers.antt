use Rattle.any_index.specs.Keyed.{marks_of}
use Rattle.std.proofs.Common.{rules}
use Rattle.index_set.specs.Indices.{AreKeyedBut}
use Rattle.index_set.proofs.Refilled.{sound_refilled, keyed_refilled}
use Rattle.index_set.proofs.parts.Parts.leave.Goals as goal

pub returns-clause-sound : goal.returns-clause-sound
returns-clause-sound g c = sound_refilled c.args.self.now c.requires.sound c.deref.result.now c.deref.ensures.value c.deref_mut.result.now c.deref_mut.ensures.value c.leave_each.new.indices c.leave_each.new.store c.leave_each.ensures.placed c.leave_each.ensures.within c.leave_each.ensures.contents

pub returns-clause-keyed : goal.returns-clause-keyed
returns-clause-keyed g c h =
    let order = g.E.Extract.order_of c.args.self.now.keys in
    let marks = marks_of g.E.Extract c.args.self.now.keys in
    let was : AreKeyedBut order marks c.args.self.now.store c.deref.result.now c.deref_mut.result.now c.args.n = search rules in
    keyed_refilled c.args.self.now c.requires.sound c.deref.result.now c.deref.ensures.value c.deref_mut.result.now c.deref_mut.ensures.value c.leave_each.new.indices c.leave_each.new.store c.leave_each.ensures.placed order marks (c.leave_each.ensures.keyed order marks was)
