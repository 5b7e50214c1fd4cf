-- How the nodes of a list in order stand to a key.
use Rattle.std.proofs.Common.{◌≡◌, suc, ◌+◌, ◌≤◌, Bool, true, false, cond, not, List, [], ◌∷◌, Option, Some, refl, sym, ap, ◌∙◌, arith}
use Rattle.std.specs.Prelude.{find, count_by, slice_get}
use Rattle.std.specs.Option.{option_map_or}
use Rattle.std.specs.Ordering.{is_gt, ordering_index}
use Rattle.std.specs.declared.cmp.Ordering.{Ordering}
use Rattle.std.specs.declared.cmp.Ordering.TheVariants.{Less}
use Rattle.node_store.specs.declared.Node.{Node}
use Rattle.list_model.specs.Order.{EachPair, IsInOrder, CutsInThreeRuns}
use Rattle.list_model.proofs.Counts.{count_by-cons, count_by_none}
use Rattle.list_model.proofs.InOrder.{All-map}
use Rattle.ord_tree.specs.Side.{side_of, order_at}
use Rattle.ord_tree.proofs.Sides.{side_cuts}
use Rattle.ord_tree.proofs.Nearing.{EachPair-each}

-- a node's side is not above that of a later one
abbrev pub Rises : (Node → Ordering) → Node → Node → Type 0
Rises side x y = ordering_index (side x) ≤ ordering_index (side y)

-- in a list in order by the records the sides do not fall
pub Rises-from : {R : Type 0} (records : Node → Option R) (compare : R → R → Ordering) (side : R → Ordering) (xs : List Node) → CutsInThreeRuns compare side → IsInOrder (order_at records compare) xs → EachPair (Rises (side_of records side)) xs
Rises-from records compare side xs cuts h = EachPair-each (λ x y. is_gt (order_at records compare x y) ≡ false) (Rises (side_of records side)) (λ x y e. side_cuts records compare side cuts x y e) xs h

pub side_of-is : {R : Type 0} (records : Node → Option R) (side : R → Ordering) (n : Node) (r : R) → records n ≡ Some r → side_of records side n ≡ side r
side_of-is records side n r e = ap (λ (o : Option _). option_map_or side o Less) e

by_first : (q : Node → Bool) (x : Node) (xs : List Node) (b : Bool) → q x ≡ b → EachPair (λ x y. q x ≡ false → q y ≡ false) (x ∷ xs) → slice_get xs (count_by q xs) ≡ find (λ y. not (q y)) xs → slice_get (x ∷ xs) (count_by q (x ∷ xs)) ≡ find (λ y. not (q y)) (x ∷ xs)
by_first q x xs true e h rest =
    let n : count_by q (x ∷ xs) ≡ suc (count_by q xs) = count_by-cons q x xs ∙ (ap (λ (b : Bool). cond b 1 0 + count_by q xs) e ∙ omega arith) in
    ap (slice_get (x ∷ xs)) n ∙ rest ∙ sym (ap (λ (b : Bool). cond (not b) (Some x) (find (λ y. not (q y)) xs)) e)
by_first q x xs false e h rest =
    let n : count_by q (x ∷ xs) ≡ 0 = count_by_none q (x ∷ xs) (e, All-map (λ y. q x ≡ false → q y ≡ false) (λ y. q y ≡ false) (λ y f. f e) xs h.0) in
    ap (slice_get (x ∷ xs)) n ∙ sym (ap (λ (b : Bool). cond (not b) (Some x) (find (λ y. not (q y)) xs)) e)

-- where what does not pass stands after what does, the first that does not pass stands at the count
pub cut_found : (q : Node → Bool) (xs : List Node) → EachPair (λ x y. q x ≡ false → q y ≡ false) xs → slice_get xs (count_by q xs) ≡ find (λ x. not (q x)) xs
cut_found q [] h = refl
cut_found q (x ∷ xs) h = by_first q x xs (q x) refl h (cut_found q xs h.1)
