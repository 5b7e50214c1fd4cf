use Rattle.std.proofs.Common.{refl}
use Rattle.node_store.specs.ByNode.{column_of}
use Rattle.hash_index.specs.Spelled.{heads_of}
use Rattle.hash_index.proofs.Spelling.{chains_end}
use Rattle.node_store.specs.Store.{age_of}
use Rattle.hash_index.proofs.HashIndex.longest_chain.Goals as goal

pub loop-chain-init : goal.loop-chain-init
loop-chain-init g c = record {
  ends = chains_end (age_of c.args.store.now) (column_of c.args.store.now) c.args.self.now 0 (heads_of c.args.self.now) c.requires.chains;
  longest = refl;
}
