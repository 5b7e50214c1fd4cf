use Rattle.std.proofs.Common.{arith}
use Rattle.node_store.proofs.ByNode.{IsNodeOf_kept}
use Rattle.index_tests.proofs.Framing.{sound_at, node_at, lacks_at, columns_changed, lacks_changed}
use Rattle.index_tests.proofs.every.put_into_each.Goals as goal

pub put-requires-clause-sound : goal.put-requires-clause-sound
put-requires-clause-sound g c = (sound_at _ 0 c.loop-place.indices c.loop-place.place _ (omega arith) c.loop-place.invariant.columns.sound).sound

pub put-requires-clause-node : goal.put-requires-clause-node
put-requires-clause-node g c = node_at c.loop-place.store c.loop-place.indices c.args.n c.loop-place.place _ (omega arith) c.loop-place.invariant.columns c.loop-place.invariant.node

pub put-requires-clause-new : goal.put-requires-clause-new
put-requires-clause-new g c = lacks_at _ c.loop-place.indices c.args.n c.loop-place.place _ (omega arith) c.loop-place.invariant.new

pub loop-place-preserved : goal.loop-place-preserved
loop-place-preserved g c = record {
  columns = columns_changed _ _ c.put.ensures.contents c.loop-place.indices c.loop-place.place c.index-indices-place.result c.put.new.self (omega arith) c.loop-place.invariant.columns c.put.ensures.col c.put.ensures.sound c.put.ensures.others;
  node = IsNodeOf_kept c.loop-place.store c.put.new.store c.args.n c.put.ensures.contents c.loop-place.invariant.node;
  new = lacks_changed _ _ c.put.ensures.contents c.loop-place.indices c.args.n c.loop-place.place c.index-indices-place.result c.put.new.self (omega arith) c.loop-place.invariant.columns.sound c.put.ensures.others c.loop-place.invariant.new;
}
