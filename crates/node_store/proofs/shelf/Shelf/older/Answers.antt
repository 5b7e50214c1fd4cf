use Rattle.std.proofs.Common.{◌∙◌}
use Rattle.node_store.proofs.Fields.{is_there, older_read}
use Rattle.node_store.proofs.shelf.Shelf.older.Goals as goal

pub get-requires : goal.get-requires
get-requires g c = is_there c.self.invariant c.self.view_is c.args.n c.requires

pub returns : goal.returns
returns g c = c.node.ensures ∙ older_read c.self.invariant c.self.view_is c.args.n c.requires c.get.result.now c.get.ensures
