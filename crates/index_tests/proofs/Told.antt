-- Nodes that the indices of a set tell.
use Rattle.std.proofs.Common.{◌≡◌, ℕ, Bool, List, Option, Some, ◌<◌, ap, subst, arith, length}
use Rattle.std.specs.Prelude.{IfSome}
use Rattle.std.specs.List.{AllByRecursion}
use Rattle.std.specs.declared.cmp.Ordering.{Ordering}
use Rattle.node_store.specs.declared.Node.{Node}
use Rattle.node_store.specs.Nodes.{Holds}
use Rattle.node_store.specs.Store.{Store, IsNodeOf}
use Rattle.any_index.specs.At.{At, list_in}
use Rattle.index_set.specs.Added.{IsCause, clash}
use Rattle.index_set.specs.declared.build.NoIndex.{NoIndex}
use Rattle.index_set.specs.declared.build.NoIndex.TheVariants.{Columns, Clash, Memory}
use Rattle.index_set.specs.declared.parts.Parts.{Parts}
use Rattle.index_set.specs.Set.{store_of, specs_of, list_of, IsSound}
use Rattle.index_set.proofs.Members.{nodes_held_at}
use Rattle.index_set.proofs.Held.{All-held}
use Rattle.linked_set.proofs.Clashes.{clash_members}
use Rattle.index_tests.specs.Pairs.{IsPair}
use Rattle.index_tests.specs.Tens.{CauseNodes}

-- a node of an index of a sound set is one of its store
pub at_node : {R E : Type 0} {has_key : E → ℕ → Bool} (s : Parts R E) → IsSound has_key s → (k : ℕ) → k < length (specs_of s) → (a : At R E) → list_in a ≡ list_of s k → (n : Node) → Holds (list_in a) n → IsNodeOf (store_of s) n
at_node s sound k lt a same n held = All-held (IsNodeOf (store_of s)) (list_of s k) n (subst (λ l. Holds l n) same held) (nodes_held_at s sound k lt)

-- so is one of one of two indices that a look-up told
pub told_node : {R E : Type 0} (s : Parts R E) (n : Node) → IsPair s n → (k : ℕ) → k < 2 → (a : At R E) → list_in a ≡ list_of s k → (X : Node → Type 0) (o : Option Node) → IfSome o (λ m. Holds (list_in a) m × X m) → (m : Node) → o ≡ Some m → IsNodeOf (store_of s) m
told_node s n pair k lt a same X o found m e =
    let two : length (specs_of s) ≡ 2 = ap length pair.specs in
    at_node s pair.sound k (omega (arith, lt, two)) a same m (subst (λ x. IfSome x (λ m. Holds (list_in a) m × X m)) e found).0

-- the nodes of a cause are among those that were given
pub cause_nodes : {R : Type 0} (s : Store R) (has_column : Type 0) (compare : Node → Node → Ordering) (unique : Bool) (ns : List Node) → AllByRecursion (IsNodeOf s) ns → (why : NoIndex) → IsCause has_column (clash compare unique ns) why → CauseNodes s why
cause_nodes s has_column compare unique ns all Columns is = tt
cause_nodes s has_column compare unique ns all (Clash first second) is = clash_members (IsNodeOf s) compare unique ns all first second is.1
cause_nodes s has_column compare unique ns all Memory is = tt
