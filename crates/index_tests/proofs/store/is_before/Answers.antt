use Rattle.std.proofs.Common.{sym, ◌∙◌}
use Rattle.node_store.proofs.Age.{last_node}
use Rattle.index_tests.proofs.store.is_before.Goals as goal

pub is_node-requires-clause-other : goal.is_node-requires-clause-other
is_node-requires-clause-other c m e = (last_node c.args.store.now _ m c.age.ensures.sound (sym c.older.ensures ∙ e)).node
