-- An index that goes by other keys, which put its nodes where they are.
use Rattle.std.proofs.Common.{◌≡◌, ℕ, List, sym, ap, ◌∙◌, subst}
use Rattle.std.specs.declared.cmp.Ordering.{Ordering}
use Rattle.list_model.specs.Order.{IsInOrder}
use Rattle.node_store.specs.declared.Node.{Node}
use Rattle.node_store.specs.Store.{Store}
use Rattle.node_store.specs.ByNode.{column_of, record_of}
use Rattle.hash_index.specs.Hashed.{IsHashed}
use Rattle.key_extract.specs.Digests.{Marks}
use Rattle.ord_tree.specs.declared.tree.OrdTree.{OrdTree}
use Rattle.ord_tree.specs.declared.tally.Tally.{Ghosts}
use Rattle.ord_tree.specs.Digests.{AreDigested}
use Rattle.ord_tree.specs.Spelled.{spelled, col_of, index_of}
use Rattle.any_index.specs.Keyed.{AreOrdered, digest_by}
use Rattle.any_index.specs.Side.{order_at}

module _ {R : Type 0} (s : Store R) where
  pub ordered_by : (old new : R → R → Ordering) (was now : R → Marks) (c d : ℕ) (xs ys : List Node) → new ≡ old → now ≡ was → d ≡ c → ys ≡ xs → AreOrdered old was s c xs → AreOrdered new now s d ys
  ordered_by old new was now c d xs ys same marked col listed h = record {
    in_order = subst (λ zs. IsInOrder (order_at (record_of s) new) zs) (sym listed) (subst (λ (f : R → R → Ordering). IsInOrder (order_at (record_of s) f) xs) (sym same) h.in_order);
    digested = subst (λ zs. AreDigested (digest_by now) s d zs) (sym listed) (subst (λ z. AreDigested (digest_by now) s z xs) (sym col) (subst (λ (f : R → Marks). AreDigested (digest_by f) s c xs) (sym marked) h.digested));
  }

  -- the same tree by another number
  pub tree_by : {T : Type 0} {G : Ghosts T} (order after : ℕ → R → R → Ordering) (marks marks_after : ℕ → R → Marks) (i j : OrdTree T G) (k : ℕ) → index_of j ≡ k → col_of j ≡ col_of i → spelled (column_of s) j ≡ spelled (column_of s) i →
      after k ≡ order (index_of i) → marks_after k ≡ marks (index_of i) → AreOrdered (order (index_of i)) (marks (index_of i)) s (col_of i) (spelled (column_of s) i) → AreOrdered (after (index_of j)) (marks_after (index_of j)) s (col_of j) (spelled (column_of s) j)
  tree_by order after marks marks_after i j k index col list same marked h =
      ordered_by _ _ _ _ _ _ _ _ (ap after index ∙ same) (ap marks_after index ∙ marked) col list h

  pub hashed_by : (old new : R → ℕ) (c d : ℕ) (xs ys : List Node) → new ≡ old → d ≡ c → ys ≡ xs → IsHashed old s c xs → IsHashed new s d ys
  hashed_by old new c d xs ys same col listed h =
      subst (λ zs. IsHashed new s d zs) (sym listed) (subst (λ z. IsHashed new s z xs) (sym col) (subst (λ (f : R → ℕ). IsHashed f s c xs) (sym same) h))
