use Rattle.std.proofs.Common.{◌∙◌, ap}
use Rattle.node_store.specs.Store.{len_of}
use Rattle.node_store.proofs.Seen.{IsStore-view, len-store}
use Rattle.node_store.proofs.shelf.Shelf.len.Goals as goal

pub returns-clause-len : goal.returns-clause-len
returns-clause-len g c = len-store c.self.invariant ∙ ap len_of c.self.view_is

pub returns-clause-sound : goal.returns-clause-sound
returns-clause-sound g c = rw (← c.self.view_is) (IsStore-view c.self.invariant)
