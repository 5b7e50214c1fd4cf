use Rattle.std.proofs.Common.{refl}
use Rattle.node_store.proofs.Fields.{is_there, record_read, IsSound-rewritten, store_rewritten}
use Rattle.node_store.proofs.shelf.Shelf.get_mut.Goals as goal

pub get_mut-block-requires : goal.get_mut-block-requires
get_mut-block-requires g c = is_there c.self.invariant c.self.view_is c.args.n c.requires

pub invariant_of-self-lent : goal.invariant_of-self-lent
invariant_of-self-lent g c w = IsSound-rewritten c.self.invariant c.self.view_is c.args.n c.requires c.get_mut-block.result.now c.get_mut-block.ensures.value w

pub returns : goal.returns
returns g c = (
  (refl, store_rewritten c.self.invariant c.self.view_is c.args.n c.requires c.get_mut-block.result.now c.get_mut-block.ensures.value),
  record { writes_back = tt; value = record_read c.self.invariant c.self.view_is c.args.n c.requires c.get_mut-block.result.now c.get_mut-block.ensures.value },
)
