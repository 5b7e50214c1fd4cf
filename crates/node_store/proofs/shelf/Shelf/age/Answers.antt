use Rattle.node_store.proofs.Seen.{IsStore-view}
use Rattle.node_store.proofs.Fields.{is_there, age_read}
use Rattle.node_store.proofs.shelf.Shelf.age.Goals as goal

pub get-requires : goal.get-requires
get-requires g c = is_there c.self.invariant c.self.view_is c.args.n c.requires

pub returns-clause-age : goal.returns-clause-age
returns-clause-age g c = age_read c.self.invariant c.self.view_is c.args.n c.requires c.get.result.now c.get.ensures

pub returns-clause-sound : goal.returns-clause-sound
returns-clause-sound g c = rw (← c.self.view_is) (IsStore-view c.self.invariant)
