use Rattle.node_store.proofs.Seen.{IsStore-view}
use Rattle.node_store.proofs.shelf.Shelf.added.Goals as goal

pub returns-clause-sound : goal.returns-clause-sound
returns-clause-sound g c = rw (← c.self.view_is) (IsStore-view c.self.invariant)
