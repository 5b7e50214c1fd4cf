-- Trees whose lists are in order.
use Rattle.std.proofs.Common.{◌≡◌, ℕ, List, [], refl, ap, sym, subst}
use Rattle.std.specs.Cmp.{IsTotalOrder}
use Rattle.std.proofs.lemmas.Cmp.{nat_cmp_total, on_total}
use Rattle.node_store.specs.declared.Node.{Node}
use Rattle.node_store.specs.Column.{Column}
use Rattle.node_store.specs.Store.{Store}
use Rattle.node_store.specs.ByNode.{column_of, record_of, contents, same_node, AddsNode}
use Rattle.node_store.proofs.ByNode.{records_kept}
use Rattle.list_model.specs.Order.{IsInOrder}
use Rattle.list_model.specs.Walk.{without, placed}
use Rattle.ord_tree.specs.declared.tree.OrdTree.{OrdTree}
use Rattle.ord_tree.specs.declared.tally.Tally.{Ghosts}
use Rattle.ord_tree.specs.Digests.{AreDigested, KeepsOtherDigests}
use Rattle.ord_tree.specs.Tree.{stored_digest}
use Rattle.ord_tree.specs.Side.{order_at}
use Rattle.ord_tree.specs.Spelled.{Spells, IsSound, spelled, col_of}
use Rattle.ord_tree.proofs.Laws.{IsSound_from, IsSound_kept, IsSound_added, spelled_is, spelled_kept, spelled_added, Lacks_added}
use Rattle.ord_tree.proofs.Ordered.{IsInOrder_empty, IsInOrder_others, IsInOrder_placed, IsInOrder_without}
use Rattle.ord_tree.proofs.Digested.{digest_in, digested_at, AreDigested_others, AreDigested_kept, AreDigested_without}
use Rattle.ord_tree.proofs.Settling.{IsInOrder_same}
use Rattle.hash_index.proofs.Laws.{Lacks_without}
use Rattle.index_tests.specs.declared.keys.Keyed.{Keyed}
use Rattle.index_tests.specs.Keys.{by_key, IsByKey}

by_key_total : {T : Type 0} → IsTotalOrder (by_key {T = T})
by_key_total = on_total (λ a. a.key) nat_cmp_total

-- the same nodes with the same records
same_order : {T : Type 0} (old new : Store (Keyed T)) (xs ys : List Node) → contents new ≡ contents old → ys ≡ xs → IsInOrder (order_at (record_of old) by_key) xs → IsInOrder (order_at (record_of new) by_key) ys
same_order old new xs ys e f h = IsInOrder_same (record_of old) (record_of new) (λ _. by_key) 0 0 xs ys (records_kept old new e) refl f h

-- no digest is kept of no nodes
pub digested_empty : {R : Type 0} (digest : R → ℕ) (s : Store R) (col : ℕ) (xs : List Node) → xs ≡ [] → AreDigested digest s col xs
digested_empty digest s col xs e = subst (AreDigested digest s col) (sym e) tt

module _ {T X : Type 0} {G : Ghosts X} (old new : Store (Keyed T)) where
  -- the tree is sound, and its list in order
  abbrev pub IsTree : Store (Keyed T) → OrdTree X G → Type 0
  IsTree s i = IsSound (column_of s) i × IsByKey s (col_of i) (spelled (column_of s) i)

  -- a node is put in its place
  pub tree_put : (i j : OrdTree X G) (n : Node) → contents new ≡ contents old → col_of j ≡ col_of i → IsByKey old (col_of i) (spelled (column_of old) i) →
      Spells (column_of new) j (placed (λ m. order_at (record_of old) by_key m n) n (spelled (column_of old) i)) → AreDigested (λ _. 0) new (col_of i) (spelled (column_of new) j) → IsByKey new (col_of j) (spelled (column_of new) j)
  tree_put i j n e col order h digested =
      let sorted = IsInOrder_placed (record_of old) by_key by_key_total n (spelled (column_of old) i) order.0 in
      (same_order old new _ _ e (spelled_is (column_of new) j _ h) sorted, subst (λ k. AreDigested (λ _. 0) new k (spelled (column_of new) j)) (sym col) digested)

  -- a node is taken out
  pub tree_unlinked : (i j : OrdTree X G) (n : Node) → contents new ≡ contents old → col_of j ≡ col_of i → IsByKey old (col_of i) (spelled (column_of old) i) →
      Spells (column_of new) j (without (same_node n) (spelled (column_of old) i)) → KeepsOtherDigests (column_of old (col_of i)) (column_of new (col_of i)) n → IsTree new j
  tree_unlinked i j n e col order h digests =
      let xs = spelled (column_of old) i in
      let rest = AreDigested_without old (λ _. 0) (col_of i) n xs order.1 in
      let kept = AreDigested_others (λ _. 0) old new (col_of i) n (without (same_node n) xs) digests (λ m ne. ap (λ (f : Node → _). f m) (records_kept old new e)) (Lacks_without xs n) rest in (
        IsSound_from (column_of new) j _ h,
        (
          same_order old new _ _ e (spelled_is (column_of new) j _ h) (IsInOrder_without (record_of old) by_key n xs order.0),
          digested_at new (λ _ _. 0) 0 0 (col_of j) (col_of i) _ _ refl col (spelled_is (column_of new) j _ h) kept,
        ),
      )

  -- another column is changed
  pub tree_kept : (i : OrdTree X G) → contents new ≡ contents old → column_of new (col_of i) ≡ column_of old (col_of i) → IsTree old i → IsTree new i
  tree_kept i e same h =
      let list = spelled_kept (column_of old) (column_of new) i same in
      let kept = AreDigested_kept (λ _. 0) old new (col_of i) (spelled (column_of old) i) (λ m. ap (λ (c : Column). stored_digest c m) same) (λ m. ap (λ (f : Node → _). f m) (records_kept old new e)) h.1.1 in
      (IsSound_kept (column_of old) (column_of new) i same h.0, (same_order old new _ _ e list h.1.0, subst (AreDigested (λ _. 0) new (col_of i)) (sym list) kept))

  -- a node comes
  pub tree_added : (n : Node) (value : Keyed T) (i : OrdTree X G) → AddsNode old new n value → IsTree old i → IsTree new i
  tree_added n value i a h =
      let xs = spelled (column_of old) i in (
        IsSound_added old new n value i a h.0,
        subst (IsByKey new (col_of i)) (sym (spelled_added old new n value i a h.0)) (
          IsInOrder_others (record_of old) by_key (record_of new) n xs a.records.others (Lacks_added old new n value i xs a h.0) h.1.0,
          AreDigested_others (λ _. 0) old new (col_of i) n xs (λ m ne. ap digest_in ((a.columns (col_of i)).others m ne)) a.records.others (Lacks_added old new n value i xs a h.0) h.1.1,
        ),
      )

-- a tree of no nodes
pub tree_empty : {T X : Type 0} {G : Ghosts X} (s : Store (Keyed T)) (i : OrdTree X G) → Spells (column_of s) i [] → IsSound (column_of s) i × IsByKey s (col_of i) (spelled (column_of s) i)
tree_empty s i h =
    let list = spelled_is (column_of s) i [] h in
    (IsSound_from (column_of s) i [] h, (IsInOrder_empty (order_at (record_of s) by_key) (spelled (column_of s) i) list, digested_empty (λ _. 0) s (col_of i) (spelled (column_of s) i) list))
