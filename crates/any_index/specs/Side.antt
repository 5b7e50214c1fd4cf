-- How the records of nodes stand to a key and to one another, and lists but for one node, as an index speaks of them.
pub use Rattle.ord_tree.specs.Side.{side_of, order_at}
pub use Rattle.ord_tree.specs.Same.{AreNodesOf, is_kept, without_excepted, equal_but}
