-- A list but for one node.
use Rattle.std.specs.Prelude.{◌≡◌, Bool, false, not, ◌&&◌, List, find, Option, Some, None}
use Rattle.std.specs.Option.{option_map_or}
use Rattle.std.specs.Ordering.{is_eq}
use Rattle.std.specs.declared.cmp.Ordering.{Ordering}
use Rattle.node_store.specs.declared.Node.{Node}
use Rattle.node_store.specs.Store.{Store, IsNodeOf}
use Rattle.node_store.specs.ByNode.{same_node}
use Rattle.list_model.specs.Walk.{without}

-- the node is one of the store, if there is one
abbrev pub AreNodesOf : {R : Type 0} → Store R → Option Node → Type 0
AreNodesOf s o = (m : Node) → o ≡ Some m → IsNodeOf s m

-- whether the node is another than the excepted one
abbrev pub is_kept : Option Node → Node → Bool
is_kept except n = not (option_map_or (λ m. same_node m n) except false)

-- the list without the excepted node
abbrev pub without_excepted : Option Node → List Node → List Node
without_excepted None xs = xs
without_excepted (Some m) xs = without (same_node m) xs

-- the first node that has the key, other than the excepted one
abbrev pub equal_but : Option Node → (Node → Ordering) → List Node → Option Node
equal_but except side xs = find (λ n. is_kept except n && is_eq (side n)) xs
