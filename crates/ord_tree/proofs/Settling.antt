-- What a removal and an insertion make of a node that is out of order.
use Rattle.std.proofs.Common.{◌≡◌, ℕ, Bool, false, cond, List, Option, sym, ap, ◌∙◌, subst}
use Rattle.std.specs.declared.cmp.Ordering.{Ordering}
use Rattle.node_store.specs.declared.Node.{Node}
use Rattle.list_model.specs.Order.{IsInOrder}
use Rattle.list_model.specs.Walk.{without, fits_between, placed, settled}
use Rattle.ord_tree.specs.Side.{order_at}

module _ {R : Type 0} where
  -- the order of nodes whose records are the same
  pub IsInOrder_same : (old new : Node → Option R) (compare : ℕ → R → R → Ordering) (index at : ℕ) (xs ys : List Node) → new ≡ old → at ≡ index → ys ≡ xs → IsInOrder (order_at old (compare index)) xs → IsInOrder (order_at new (compare at)) ys
  IsInOrder_same old new compare index at xs ys e f k h =
      subst (λ z. IsInOrder (order_at z (compare at)) ys) (sym e) (subst (λ z. IsInOrder (order_at old (compare z)) ys) (sym f) (subst (λ z. IsInOrder (order_at old (compare index)) z) (sym k) h))

  -- the place of a node among nodes whose records are the same
  pub placed_same : (old new : Node → Option R) (compare : ℕ → R → R → Ordering) (index at : ℕ) (n : Node) (xs ys : List Node) → new ≡ old → at ≡ index → ys ≡ xs →
      placed (λ m. order_at new (compare at) m n) n ys ≡ placed (λ m. order_at old (compare index) m n) n xs
  placed_same old new compare index at n xs ys e f k =
      ap (λ z. placed (λ m. order_at z (compare at) m n) n ys) e ∙ (ap (λ z. placed (λ m. order_at old (compare z) m n) n ys) f ∙ ap (λ z. placed (λ m. order_at old (compare index) m n) n z) k)

-- a node that does not fit is placed anew
pub settled_anew : (is : Node → Bool) (side : Node → Ordering) (n : Node) (xs : List Node) → fits_between is side xs ≡ false → placed side n (without is xs) ≡ settled is side n xs
settled_anew is side n xs e = ap (λ b. cond b xs (placed side n (without is xs))) (sym e)
