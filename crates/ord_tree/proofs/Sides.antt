-- Sides cut lists of nodes in order, and the order of records is one of nodes.
use Rattle.std.proofs.Common.{◌≡◌, ◌≤◌, Bool, true, false, List, [], ◌∷◌, Option, Some, None, refl, ap, sym, ◌∙◌, arith}
use Rattle.std.specs.List.{AllByRecursion}
use Rattle.std.specs.Option.{option_cmp, option_map_or}
use Rattle.std.specs.Cmp.{IsTotalOrder}
use Rattle.std.specs.Cmp.Lexicographic.{options_total}
use Rattle.std.specs.Ordering.{is_gt, is_le, ordering_index}
use Rattle.std.specs.declared.cmp.Ordering.{Ordering}
use Rattle.std.specs.declared.cmp.Ordering.TheVariants.{Less}
use Rattle.std.proofs.lemmas.Cmp.{on_total, upto}
use Rattle.node_store.specs.declared.Node.{Node}
use Rattle.list_model.specs.Order.{IsInOrder, CutsInThreeRuns}
use Rattle.list_model.proofs.Orders.{le_not_gt, not_gt_le}
use Rattle.ord_tree.specs.Side.{side_of, order_at}
use Rattle.ord_tree.specs.Cut.{AllAre, IsCut}

module _ {R : Type 0} (records : Node → Option R) where
  -- an order of records is one of nodes
  pub order_at_total : (compare : R → R → Ordering) → IsTotalOrder compare → IsTotalOrder (order_at records compare)
  order_at_total compare total = on_total records (options_total total)

  pub order_at_both : (compare : R → R → Ordering) (m n : Node) (a b : R) → records m ≡ Some a → records n ≡ Some b → order_at records compare m n ≡ compare a b
  order_at_both compare m n a b e f = ap (λ o. option_cmp compare o (records n)) e ∙ ap (λ o. option_cmp compare (Some a) o) f

  -- a side that cuts records in order cuts nodes in order
  pub side_cuts : (compare : R → R → Ordering) (side : R → Ordering) → CutsInThreeRuns compare side → CutsInThreeRuns (order_at records compare) (side_of records side)
  side_cuts compare side cuts m n h = at (records m) (records n) h
    where
      at : (o p : Option R) → is_gt (option_cmp compare o p) ≡ false → ordering_index (option_map_or side o Less) ≤ ordering_index (option_map_or side p Less)
      at None p h = omega arith
      at (Some a) None h = cc
      at (Some a) (Some b) h = cuts a b h

-- a test that no later member passes where an earlier one does not
module _ (compare : Node → Node → Ordering) (q : Node → Bool) (falls : (x y : Node) → is_gt (compare x y) ≡ false → q y ≡ true → q x ≡ true) where
  stays_false : (x y : Node) → is_gt (compare x y) ≡ false → q x ≡ false → q y ≡ false
  stays_false x y h e = by_test (q y) refl
    where
      by_test : (b : Bool) → q y ≡ b → q y ≡ false
      by_test false k = k
      by_test true k = let bad = sym e ∙ falls x y h k in cc bad

  all_false : (x : Node) (ys : List Node) → AllByRecursion (λ y. is_gt (compare x y) ≡ false) ys → q x ≡ false → AllAre false q ys
  all_false x [] h e = tt
  all_false x (y ∷ ys) h e = (stays_false x y h.0 e, all_false x ys h.1 e)

  pub IsCut_falls : (xs : List Node) → IsInOrder compare xs → IsCut q xs
  IsCut_falls [] h = tt
  IsCut_falls (x ∷ xs) h = ((λ e. all_false x xs h.0 e), IsCut_falls xs h.1)

-- a member cuts a list in order
pub IsCut_at : (compare : Node → Node → Ordering) → IsTotalOrder compare → (n : Node) (xs : List Node) → IsInOrder compare xs → IsCut (λ x. is_le (compare x n)) xs
IsCut_at compare total n xs h = IsCut_falls compare (λ x. is_le (compare x n)) (λ x y g e. not_gt_le (compare x n) (upto total x y n g (le_not_gt (compare y n) e))) xs h
