-- Insertion and settling leave a list of nodes in the order of their records.
use Rattle.std.proofs.Common.{◌≡◌, ◌≢◌, List, [], ◌∷◌, Option, sym, ap, ◌∙◌, subst}
use Rattle.std.specs.List.{AllByRecursion}
use Rattle.std.specs.Option.{option_cmp}
use Rattle.std.specs.Ordering.{is_gt}
use Rattle.std.specs.Cmp.{IsTotalOrder}
use Rattle.std.specs.declared.cmp.Ordering.{Ordering}
use Rattle.node_store.specs.declared.Node.{Node}
use Rattle.node_store.specs.Nodes.{IsDistinct, Holds, Lacks}
use Rattle.node_store.specs.ByNode.{same_node}
use Rattle.node_store.proofs.ByNode.{same_node-refl}
use Rattle.list_model.specs.Order.{IsInOrder}
use Rattle.list_model.specs.Walk.{without, placed, settled}
use Rattle.list_model.proofs.InOrder.{IsInOrder-insert_sorted}
use Rattle.list_model.proofs.Kept.{EachPair-filter, EachPair-map}
use Rattle.list_model.proofs.Settled.{IsInOrder-settled}
use Rattle.ord_tree.specs.Side.{order_at}
use Rattle.ord_tree.proofs.NodeWalks.{apart_at, without_at}
use Rattle.ord_tree.proofs.Sides.{order_at_total}

pub IsInOrder_empty : (compare : Node → Node → Ordering) (xs : List Node) → xs ≡ [] → IsInOrder compare xs
IsInOrder_empty compare xs e = subst (λ (z : List Node). IsInOrder compare z) (sym e) tt

module _ {R : Type 0} (records : Node → Option R) (compare : R → R → Ordering) where
  -- a list without a node is in order as before
  pub IsInOrder_without : (n : Node) (xs : List Node) → IsInOrder (order_at records compare) xs → IsInOrder (order_at records compare) (without (same_node n) xs)
  IsInOrder_without n xs h = EachPair-filter _ _ xs h

  -- a change of one node's record leaves the order of the others
  pub IsInOrder_others : (new : Node → Option R) (n : Node) (xs : List Node) → ((m : Node) → m ≢ n → new m ≡ records m) → Lacks xs n → IsInOrder (order_at records compare) xs → IsInOrder (order_at new compare) xs
  IsInOrder_others new n xs others lacks h =
      EachPair-map (λ x. new x ≡ records x) _ _ (λ x y e f k. ap is_gt (ap (λ o. option_cmp compare o (new y)) e ∙ ap (λ o. option_cmp compare (records x) o) f) ∙ k) xs (same xs lacks) h
    where
      same : (ys : List Node) → Lacks ys n → AllByRecursion (λ x. new x ≡ records x) ys
      same [] l = tt
      same (y ∷ ys) l = (others y (λ e. l.0 (sym e)), same ys l.1)

  module _ (total : IsTotalOrder compare) where
    -- a node that is put after all whose key is at most its own stands in order
    pub IsInOrder_placed : (n : Node) (xs : List Node) → IsInOrder (order_at records compare) xs → IsInOrder (order_at records compare) (placed (λ m. order_at records compare m n) n xs)
    IsInOrder_placed n xs h = IsInOrder-insert_sorted (order_at_total records compare total) n xs h

    -- a node that settles stands in order
    pub IsInOrder_settled : (n : Node) (xs : List Node) → Holds xs n → IsDistinct xs → IsInOrder (order_at records compare) (without (same_node n) xs) → IsInOrder (order_at records compare) (settled (same_node n) (λ m. order_at records compare m n) n xs)
    IsInOrder_settled n xs k dist h =
        let d = subst IsDistinct k.is dist in
        let a = apart_at k.before n k.after d in
        let rest = subst (λ (z : List Node). IsInOrder (order_at records compare) z) (ap (λ (z : List Node). without (same_node n) z) k.is ∙ without_at k.before n k.after d) h in
        subst (λ (z : List Node). IsInOrder (order_at records compare) (settled (same_node n) (λ m. order_at records compare m n) n z)) (sym k.is)
        (IsInOrder-settled (order_at_total records compare total) (same_node n) k.before n k.after a.before (same_node-refl n) a.after rest)
