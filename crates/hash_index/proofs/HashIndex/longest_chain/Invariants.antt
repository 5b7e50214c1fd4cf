use Rattle.std.proofs.Common.{◌≡◌, length, map, fold, max, drop}
use Rattle.std.specs.List.{AllByRecursion}
use Rattle.node_store.specs.ByNode.{column_of}
use Rattle.hash_index.specs.Chains.{longest as the_longest}
use Rattle.hash_index.specs.Spelled.{heads_of, chains_of}
use Rattle.hash_index.specs.Walks.{rest_of, Ends}
use Rattle.hash_index.proofs.HashIndex.longest_chain.Given as goal

abbrev pub invariant-loop-chain : goal.invariant-loop-chain
invariant-loop-chain g l = record {
  ends : AllByRecursion (Ends (column_of l.store) l.self) (drop l.chain (heads_of l.self));
  longest : fold max l.longest (map length (map (rest_of (column_of l.store) l.self) (drop l.chain (heads_of l.self)))) ≡ the_longest (chains_of (column_of l.store) l.self);
}
