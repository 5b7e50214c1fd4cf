use Rattle.std.proofs.Common.{◌∙◌, arith}
use Rattle.node_store.proofs.Fields.{linked_there, in_row, there, side_read}
use Rattle.node_store.proofs.shelf.Shelf.side.Goals as goal

pub get-requires : goal.get-requires
get-requires g c = linked_there c.self.invariant c.self.view_is c.args.n c.args.col c.requires

pub bounds-get-col : goal.bounds-get-col
bounds-get-col g c = there c.self.invariant c.self.view_is c.args.n c.args.col c.requires

pub offset_bounds-get-col : goal.offset_bounds-get-col
offset_bounds-get-col g c = omega (arith, there c.self.invariant c.self.view_is c.args.n c.args.col c.requires, c.self.invariant.narrow)

pub returns : goal.returns
returns g c = λ link is. c.side.ensures ∙ side_read c.self.invariant c.self.view_is c.args.n c.args.col c.requires c.get.result.now c.get.ensures _ c.args.second link is

pub listed : goal.listed
listed g c = in_row c.self.invariant c.self.view_is c.args.n c.args.col c.requires c.get.result.now c.get.ensures
