-- Laws of the nodes of a list, and of lists with the same nodes.
use Rattle.std.proofs.Common.{◌≡◌, ◌≢◌, ℕ, zero, suc, ◌<◌, true, false, List, [], ◌∷◌, ◌++◌, length, Some, refl, ap, sym, ◌∙◌, subst, slice_get, append_assoc, ⊎_elim, arith}
use Rattle.std.specs.Prelude.{IsPermutation}
use Rattle.std.specs.List.{AllByRecursion, IsDistinct as IsDistinctBy}
use Rattle.std.proofs.lemmas.List.Elements.{All-from_recursion, recursion_from_All}
use Rattle.std.proofs.lemmas.List.Sorted.{All-permutation}
use Rattle.std.proofs.lemmas.Map.Keys.{IsDistinct-IsPermutation}
use Rattle.node_store.specs.declared.Node.{Node}
use Rattle.node_store.specs.Column.{Column, IsNode, KeepsNodes}
use Rattle.node_store.specs.Nodes.{Lacks, Holds, IsDistinct, AllNodes}
use Rattle.node_store.specs.ByNode.{same_node}
use Rattle.node_store.proofs.ByNode.{same_node-refl, same_node-false, node_cases}

-- ---- a node that the list has not

pub differ : (n x : Node) → same_node n x ≡ false → n ≢ x
differ n x e k = let bad : true ≡ false = sym (same_node-refl n) ∙ (ap (same_node n) k ∙ e) in cc

pub others_differ : (n : Node) (xs : List Node) → Lacks xs n → AllByRecursion (λ y. same_node n y ≡ false) xs
others_differ n [] h = tt
others_differ n (x ∷ xs) h = (same_node-false n x h.0, others_differ n xs h.1)

lacks_from : (n : Node) (xs : List Node) → AllByRecursion (λ y. same_node n y ≡ false) xs → Lacks xs n
lacks_from n [] h = tt
lacks_from n (x ∷ xs) h = (differ n x h.0, lacks_from n xs h.1)

-- ---- a node that it has

-- the node at a place stands in the list
pub Holds_at : (xs : List Node) (place : ℕ) (n : Node) → slice_get xs place ≡ Some n → Holds xs n
Holds_at [] place n e = cc
Holds_at (x ∷ xs) zero n e = let s : x ≡ n = cc in record { before = []; after = xs; is = ap (λ (z : Node). z ∷ xs) s }
Holds_at (x ∷ xs) (suc place) n e = let h = Holds_at xs place n e in record { before = x ∷ h.before; after = h.after; is = ap (λ (l : List Node). x ∷ l) h.is }

-- a place that has a node is below the length
pub within_at : (xs : List Node) (place : ℕ) (n : Node) → slice_get xs place ≡ Some n → place < length xs
within_at [] place n e = cc
within_at (x ∷ xs) zero n e = omega arith
within_at (x ∷ xs) (suc place) n e = omega (arith, within_at xs place n e)

held_behind : (front back : List Node) → AllByRecursion (Holds (front ++ back)) back
held_behind front [] = tt
held_behind front (x ∷ back) =
    let e : front ++ x ∷ back ≡ (front ++ x ∷ []) ++ back = sym (append_assoc front (x ∷ []) back) in
    (record { before = front; after = back; is = refl }, subst (λ (z : List Node). AllByRecursion (Holds z) back) (sym e) (held_behind (front ++ x ∷ []) back))

-- each node of the list stands in it
pub each_held : (xs : List Node) → AllByRecursion (Holds xs) xs
each_held xs = held_behind [] xs

-- ---- the same nodes in another order

flips : (m n : Node) → same_node m n ≡ same_node n m
flips m n =
    ⊎_elim
    (λ (e : m ≡ n). ap (same_node m) (sym e) ∙ ap (λ (z : Node). same_node z m) e)
    (λ (ne : m ≢ n). same_node-false m n ne ∙ sym (same_node-false n m (λ e. ne (sym e))))
    (node_cases m n)

to_keys : (xs : List Node) → IsDistinct xs → IsDistinctBy same_node xs
unfolding IsDistinctBy
to_keys [] h = tt
to_keys (x ∷ xs) h = (others_differ x xs h.0, to_keys xs h.1)

from_keys : (xs : List Node) → IsDistinctBy same_node xs → IsDistinct xs
unfolding IsDistinctBy
from_keys [] h = tt
from_keys (x ∷ xs) h = (lacks_from x xs h.0, from_keys xs h.1)

pub IsDistinct_moved : (xs ys : List Node) → IsPermutation xs ys → IsDistinct xs → IsDistinct ys
IsDistinct_moved xs ys moved h = from_keys ys (IsDistinct-IsPermutation same_node flips xs ys moved (to_keys xs h))

all_nodes : (c : Column) (xs : List Node) → AllByRecursion (IsNode c) xs → AllNodes c xs
all_nodes c [] h = tt
all_nodes c (x ∷ xs) h = (h.0, all_nodes c xs h.1)

pub each_node : (c : Column) (xs : List Node) → AllNodes c xs → AllByRecursion (IsNode c) xs
each_node c [] h = tt
each_node c (x ∷ xs) h = (h.0, each_node c xs h.1)

pub AllNodes_moved : (c : Column) (xs ys : List Node) → IsPermutation xs ys → AllNodes c xs → AllNodes c ys
AllNodes_moved c xs ys moved h = all_nodes c ys (recursion_from_All (IsNode c) ys (All-permutation (IsNode c) xs ys moved (All-from_recursion (IsNode c) xs (each_node c xs h))))

pub AllNodes_kept : (c d : Column) (xs : List Node) → KeepsNodes c d → AllNodes c xs → AllNodes d xs
AllNodes_kept c d [] keep h = tt
AllNodes_kept c d (x ∷ xs) keep h = (keep x h.0, AllNodes_kept c d xs keep h.1)
