use Rattle.node_store.proofs.NodeStore.remove.Goals.{in-One, in-Two, in-Three, in-Four, in-Five, in-Six, in-Seven, in-Eight}
use Rattle.node_store.proofs.NodeStore.remove.Goals as goal

pub returns-clause-removed : goal.returns-clause-removed
returns-clause-removed g c =
    elim c.match-self.branch [
      | in-One w ↦ rw (← c.self.view_is, w.self-inside-is, w.in-One.is) w.remove.ensures.removed
      | in-Two w ↦ rw (← c.self.view_is, w.self-inside-is, w.in-Two.is) w.remove-in-Two.ensures.removed
      | in-Three w ↦ rw (← c.self.view_is, w.self-inside-is, w.in-Three.is) w.remove-in-Three.ensures.removed
      | in-Four w ↦ rw (← c.self.view_is, w.self-inside-is, w.in-Four.is) w.remove-in-Four.ensures.removed
      | in-Five w ↦ rw (← c.self.view_is, w.self-inside-is, w.in-Five.is) w.remove-in-Five.ensures.removed
      | in-Six w ↦ rw (← c.self.view_is, w.self-inside-is, w.in-Six.is) w.remove-in-Six.ensures.removed
      | in-Seven w ↦ rw (← c.self.view_is, w.self-inside-is, w.in-Seven.is) w.remove-in-Seven.ensures.removed
      | in-Eight w ↦ rw (← c.self.view_is, w.self-inside-is, w.in-Eight.is) w.remove-in-Eight.ensures.removed
    ]
