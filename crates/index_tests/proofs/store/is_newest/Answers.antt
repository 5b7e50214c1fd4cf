use Rattle.std.proofs.Common.{sym, ◌∙◌}
use Rattle.node_store.proofs.Age.{last_node}
use Rattle.index_tests.proofs.store.is_newest.Goals as goal

pub is_node-requires-clause-other : goal.is_node-requires-clause-other
is_node-requires-clause-other c m e = (last_node c.args.store.now _ m c.len.ensures.sound (sym c.newest.ensures ∙ e)).node
