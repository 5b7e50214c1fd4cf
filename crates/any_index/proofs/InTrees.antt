-- Nodes of a tree that a change has left in order.
use Rattle.std.proofs.Common.{ℕ, List, refl, sym, ap, subst}
use Rattle.std.specs.Cmp.{IsTotalOrder}
use Rattle.std.specs.declared.cmp.Ordering.{Ordering}
use Rattle.list_model.specs.Order.{IsInOrder}
use Rattle.list_model.specs.Walk.{without, placed, settled}
use Rattle.node_store.specs.declared.Node.{Node}
use Rattle.node_store.specs.Store.{Store}
use Rattle.node_store.specs.ByNode.{column_of, record_of, same_node}
use Rattle.node_store.proofs.ByNode.{records_kept}
use Rattle.key_extract.specs.Digests.{Marks}
use Rattle.ord_tree.specs.declared.tree.OrdTree.{OrdTree}
use Rattle.ord_tree.specs.declared.tally.Tally.{Ghosts}
use Rattle.ord_tree.specs.Digests.{AreDigested, KeepsOtherDigests}
use Rattle.ord_tree.specs.Spelled.{col_of, index_of}
use Rattle.ord_tree.specs.Stored.{HasNode, BecomesTree, nodes_of}
use Rattle.ord_tree.proofs.Digested.{digested_at, AreDigested_others}
use Rattle.ord_tree.proofs.Laws.{spelled_is, Spells_distinct}
use Rattle.ord_tree.proofs.Ordered.{IsInOrder_placed, IsInOrder_settled}
use Rattle.ord_tree.proofs.Settling.{IsInOrder_same}
use Rattle.hash_index.proofs.Laws.{Lacks_without}
use Rattle.any_index.specs.Side.{order_at}
use Rattle.any_index.specs.Keyed.{AreOrdered, digest_by}

module _ {R T : Type 0} {G : Ghosts T} (order : ℕ → R → R → Ordering) (marks : ℕ → R → Marks) (old new : Store R) (i j : OrdTree T G) where
  -- the nodes of a tree are in the order of its key, with their digests
  abbrev pub IsKeyedTree : Store R → OrdTree T G → List Node → Type 0
  IsKeyedTree s k xs = AreOrdered (order (index_of k)) (marks (index_of k)) s (col_of k) xs

  -- so are those of the tree that it has become
  ordered_in : (xs : List Node) → BecomesTree i j old new xs → IsInOrder (order_at (record_of old) (order (index_of i))) xs → AreDigested (digest_by (marks (index_of i))) new (col_of i) (nodes_of j new) → IsKeyedTree new j (nodes_of j new)
  ordered_in xs tree h digested = record {
    in_order = IsInOrder_same _ _ order _ _ _ _ (records_kept old new tree.contents) tree.index (spelled_is _ _ _ tree.list) h;
    digested = digested_at new (λ k. digest_by (marks k)) _ _ _ _ _ _ tree.index tree.col refl digested;
  }

  module _ (n : Node) where
    -- with one node less
    pub unlinked : BecomesTree i j old new (without (same_node n) (nodes_of i old)) → KeepsOtherDigests (column_of old (col_of i)) (column_of new (col_of i)) n → IsKeyedTree old i (without (same_node n) (nodes_of i old)) → IsKeyedTree new j (nodes_of j new)
    unlinked tree digests h =
        let xs = without (same_node n) (nodes_of i old) in
        let rest = AreDigested_others (digest_by (marks (index_of i))) old new (col_of i) n xs digests (λ m ne. ap (λ (f : Node → _). f m) (records_kept old new tree.contents)) (Lacks_without _ n) h.digested in
        ordered_in xs tree h.in_order (subst (AreDigested (digest_by (marks (index_of i))) new (col_of i)) (sym (spelled_is _ _ _ tree.list)) rest)

    module _ (total : IsTotalOrder (order (index_of i))) where
      -- with one node more
      pub linked : IsKeyedTree old i (nodes_of i old) → BecomesTree i j old new (placed (λ m. order_at (record_of old) (order (index_of i)) m n) n (nodes_of i old)) → AreDigested (digest_by (marks (index_of i))) new (col_of i) (nodes_of j new) → IsKeyedTree new j (nodes_of j new)
      linked h tree digested = ordered_in _ tree (IsInOrder_placed (record_of old) (order (index_of i)) total n (nodes_of i old) h.in_order) digested

      -- with one of them settled
      pub settled_in : HasNode i old n → IsKeyedTree old i (without (same_node n) (nodes_of i old)) → BecomesTree i j old new (settled (same_node n) (λ m. order_at (record_of old) (order (index_of i)) m n) n (nodes_of i old)) → AreDigested (digest_by (marks (index_of i))) new (col_of i) (nodes_of j new) → IsKeyedTree new j (nodes_of j new)
      settled_in node h tree digested = ordered_in _ tree (IsInOrder_settled (record_of old) (order (index_of i)) total n (nodes_of i old) node.held (Spells_distinct _ _ _ node.tree) h.in_order) digested
