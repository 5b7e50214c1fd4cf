-- An index that has its nodes where their keys put them is settled.
use Rattle.std.proofs.Common.{◌≡◌, ℕ, Bool, List, Option, sym, subst, refl}
use Rattle.std.specs.Prelude.{IsTrue}
use Rattle.std.specs.Cmp.{IsTotalOrder}
use Rattle.std.specs.declared.cmp.Ordering.{Ordering}
use Rattle.list_model.specs.Order.{IsInOrder}
use Rattle.list_model.specs.Walk.{settled}
use Rattle.any_index.proofs.InOrder.{settled_in_order}
use Rattle.node_store.specs.declared.Node.{Node}
use Rattle.node_store.specs.Nodes.{IsDistinct, Holds}
use Rattle.node_store.specs.Store.{Store}
use Rattle.node_store.specs.ByNode.{columns_in, record_of, same_node}
use Rattle.node_store.proofs.ByNode.{same_node-refl}
use Rattle.key_extract.specs.Digests.{Marks}
use Rattle.ord_tree.specs.Side.{order_at}
use Rattle.ord_tree.proofs.NodeWalks.{apart_at}
use Rattle.ord_tree.proofs.Sides.{order_at_total}
use Rattle.any_index.specs.declared.index.AnyIndex.{AnyIndex}
use Rattle.any_index.specs.declared.index.AnyIndex.TheVariants.{Sequenced, Random, Ordered, Ranked, Hashed}
use Rattle.any_index.specs.Keyed.{HasItsKey, IsKeyed}
use Rattle.any_index.specs.Lists.{settled_in}
use Rattle.any_index.specs.Spelled.{IsSound, list_of, kind_of, index_of}
use Rattle.any_index.proofs.Laws.{list_distinct}

module _ {R : Type 0} (records : Node → Option R) (n : Node) where
  settled_nodes : (compare : R → R → Ordering) → IsTotalOrder compare → (xs : List Node) → Holds xs n → IsDistinct xs → IsInOrder (order_at records compare) xs → settled (same_node n) (λ m. order_at records compare m n) n xs ≡ xs
  settled_nodes compare total xs held dist h =
      let apart = apart_at held.before n held.after (subst IsDistinct held.is dist) in
      subst (λ z. settled (same_node n) (λ m. order_at records compare m n) n z ≡ z) (sym held.is)
      (settled_in_order (order_at_total records compare total) (same_node n) held.before n held.after apart.before (same_node-refl n) (subst (IsInOrder (order_at records compare)) held.is h))

module _ {R : Type 0} (has_key : ℕ → Bool) (order : ℕ → R → R → Ordering) (total : (index : ℕ) → IsTrue (has_key index) → IsTotalOrder (order index)) (marks : ℕ → R → Marks) (s : Store R) (n : Node) where
  pub settled_keyed : (i : AnyIndex) → HasItsKey has_key i → IsSound (columns_in s) i → Holds (list_of (columns_in s) i) n → IsKeyed order marks s i →
      settled_in (kind_of i) (order_at (record_of s) (order (index_of i))) n (list_of (columns_in s) i) ≡ list_of (columns_in s) i
  settled_keyed (Sequenced i) key sound held h = refl
  settled_keyed (Random i) key sound held h = refl
  settled_keyed (Ordered i) key sound held h = settled_nodes (record_of s) n (order (index_of (Ordered i))) (total (index_of (Ordered i)) key) (list_of (columns_in s) (Ordered i)) held (list_distinct (columns_in s) (Ordered i) sound) h.in_order
  settled_keyed (Ranked i) key sound held h = settled_nodes (record_of s) n (order (index_of (Ranked i))) (total (index_of (Ranked i)) key) (list_of (columns_in s) (Ranked i)) held (list_distinct (columns_in s) (Ranked i) sound) h.in_order
  settled_keyed (Hashed i) key sound held h = refl
