use Rattle.index_set.specs.Set.{store_of}
use Rattle.index_tests.proofs.Arrived.{node_rewritten}
use Rattle.index_tests.proofs.set.rewrite.Goals as goal

pub returns-in-None-clause-node : goal.returns-in-None-clause-node
returns-in-None-clause-node g c = node_rewritten (store_of c.args.set.now) (store_of c.replace.new.self) c.args.n c.args.value c.replace.ensures.written.contents c.requires.node
