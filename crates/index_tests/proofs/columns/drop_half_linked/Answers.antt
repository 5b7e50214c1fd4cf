use Rattle.node_store.specs.ByNode.{column_of}
use Rattle.seq_index.proofs.Laws.{IsSound_from}
use Rattle.index_tests.proofs.columns.drop_half_linked.Goals as goal

pub loop-name-init : goal.loop-name-init
loop-name-init c = record { sound = (c.new.ensures.col, IsSound_from _ _ _ (c.new.ensures.empty (column_of c.new-store.result)), tt); width = c.new-store.ensures.enough }
