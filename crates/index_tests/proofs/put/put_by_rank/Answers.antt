use Rattle.ord_tree.proofs.Laws.{IsSound_from}
use Rattle.index_tests.proofs.Ordered.{tree_put}
use Rattle.index_tests.proofs.put.put_by_rank.Goals as goal

pub returns-then-is_ok-clause-sound : goal.returns-then-is_ok-clause-sound
returns-then-is_ok-clause-sound g c = IsSound_from _ _ _ c.link.ensures.tree.list

pub returns-then-is_ok-clause-order : goal.returns-then-is_ok-clause-order
returns-then-is_ok-clause-order g c =
    tree_put c.args.store.now c.link.new.store c.reserve_one.new.self c.link.new.self c.args.n c.link.ensures.tree.contents c.link.ensures.tree.col (rw c.reserve_one.ensures.same c.requires.order) c.link.ensures.tree.list c.link.ensures.digested
