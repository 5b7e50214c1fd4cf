use Rattle.std.proofs.Common.{[], refl, rules}
use Rattle.std.proofs.lemmas.List.{append-nil}
use Rattle.node_store.proofs.ByNode.{node_of_column}
use Rattle.seq_index.specs.Spelled.{spelled, col_of}
use Rattle.seq_index.proofs.ChainLists.{AreNodes-chain_last}
use Rattle.seq_index.proofs.SeqIndex.push.Goals as goal
use Rattle.node_store.specs.ByNode.{column_of}

pub insert_between-requires-clause-before : goal.insert_between-requires-clause-before
insert_between-requires-clause-before g c = λ m e. node_of_column c.args.store.now (col_of c.args.self.now) m (AreNodes-chain_last _ _ _ c.requires.chain m e)

pub returns : goal.returns
returns g c = record {
  list = c.insert_between.ensures.list (spelled (column_of c.args.store.now) c.args.self.now) [] (rw append-nil c.requires.chain) (rw append-nil c.requires.new) c.requires.chain.last refl;
  col = search rules;
  others = search rules;
  contents = search rules;
}
