use Rattle.node_store.proofs.ByNode.{IsNode_kept}
use Rattle.any_index.proofs.ByAge.{Lacks_moved}
use Rattle.index_tests.proofs.put.put_by_hash.Goals as goal

pub link-requires-clause-node : goal.link-requires-clause-node
link-requires-clause-node g c = IsNode_kept c.args.store.now c.reserve_one.new.store _ _ c.args.n c.reserve_one.ensures.rest.contents c.reserve_one.ensures.rest.col c.requires.node

pub link-requires-clause-new : goal.link-requires-clause-new
link-requires-clause-new g c = Lacks_moved _ _ c.args.n c.reserve_one.ensures.list c.requires.new
