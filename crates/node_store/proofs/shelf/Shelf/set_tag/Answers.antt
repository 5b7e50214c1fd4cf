use Rattle.std.proofs.Common.{arith}
use Rattle.node_store.proofs.Fields.{linked_there, in_row, there, IsSound-linked, IsLinked-tagged}
use Rattle.node_store.proofs.shelf.Shelf.set_tag.Goals as goal

pub get_mut-changed-requires : goal.get_mut-changed-requires
get_mut-changed-requires g c = linked_there c.self.invariant c.self.view_is c.args.n c.args.col c.requires

pub bounds-changed-col : goal.bounds-changed-col
bounds-changed-col g c = there c.self.invariant c.self.view_is c.args.n c.args.col c.requires

pub offset_bounds-changed-col : goal.offset_bounds-changed-col
offset_bounds-changed-col g c = omega (arith, there c.self.invariant c.self.view_is c.args.n c.args.col c.requires, c.self.invariant.narrow)

pub invariant_of-self : goal.invariant_of-self
invariant_of-self g c = IsSound-linked c.self.invariant c.self.view_is c.args.n c.args.col c.requires c.get_mut-changed.result.now c.get_mut-changed.ensures.value c.set_tag.new.self

pub returns : goal.returns
returns g c =
    let tagged = IsLinked-tagged c.self.invariant c.self.view_is c.args.n c.args.col c.requires c.get_mut-changed.result.now c.get_mut-changed.ensures.value _ c.set_tag.new.self c.args.tag c.set_tag.ensures in
    let w = tagged c.requires.block c.requires.is in
    record { put = λ link is. (tagged link is).put; others = w.others; contents = w.contents }

pub listed : goal.listed
listed g c = in_row c.self.invariant c.self.view_is c.args.n c.args.col c.requires c.get_mut-changed.result.now c.get_mut-changed.ensures.value
