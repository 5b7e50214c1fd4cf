use Rattle.std.proofs.Common.{◌∙◌}
use Rattle.node_store.proofs.ChainAge.{newest_in}
use Rattle.node_store.proofs.shelf.Shelf.newest.Goals as goal

pub returns : goal.returns
returns g c = c.node.ensures ∙ rw (← c.self.view_is) (newest_in c.self.invariant)
