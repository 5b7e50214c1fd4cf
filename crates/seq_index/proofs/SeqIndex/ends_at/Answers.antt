use Rattle.node_store.specs.ByNode.{column_of}
use Rattle.seq_index.specs.Spelled.{spelled}
use Rattle.seq_index.proofs.ChainLists.{node_before, node_after}
use Rattle.seq_index.proofs.SeqIndex.ends_at.Goals as goal

pub returns-then-place-self-clause-before_held : goal.returns-then-place-self-clause-before_held
returns-then-place-self-clause-before_held g c = node_before c.args.store.now c.args.self.now (spelled (column_of c.args.store.now) c.args.self.now) c.args.place c.ends_from_front.result.0 c.requires.chain c.ends_from_front.ensures.before

pub returns-then-place-self-clause-after_held : goal.returns-then-place-self-clause-after_held
returns-then-place-self-clause-after_held g c = node_after c.args.store.now c.args.self.now (spelled (column_of c.args.store.now) c.args.self.now) c.args.place c.ends_from_front.result.1 c.requires.chain c.ends_from_front.ensures.after

pub returns-else-place-self-clause-before_held : goal.returns-else-place-self-clause-before_held
returns-else-place-self-clause-before_held g c = node_before c.args.store.now c.args.self.now (spelled (column_of c.args.store.now) c.args.self.now) c.args.place c.ends_from_back.result.0 c.requires.chain c.ends_from_back.ensures.before

pub returns-else-place-self-clause-after_held : goal.returns-else-place-self-clause-after_held
returns-else-place-self-clause-after_held g c = node_after c.args.store.now c.args.self.now (spelled (column_of c.args.store.now) c.args.self.now) c.args.place c.ends_from_back.result.1 c.requires.chain c.ends_from_back.ensures.after
