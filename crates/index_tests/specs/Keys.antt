-- The order of records by their keys.
use Rattle.std.specs.Prelude.{ℕ, List}
use Rattle.std.specs.Ordering.{nat_cmp}
use Rattle.std.specs.declared.cmp.Ordering.{Ordering}
use Rattle.node_store.specs.declared.Node.{Node}
use Rattle.node_store.specs.Store.{Store}
use Rattle.node_store.specs.ByNode.{record_of}
use Rattle.list_model.specs.Order.{IsInOrder}
use Rattle.ord_tree.specs.Digests.{AreDigested}
use Rattle.ord_tree.specs.Side.{order_at}
use Rattle.index_tests.specs.declared.keys.Keyed.{Keyed}

abbrev pub by_key : {T : Type 0} → Keyed T → Keyed T → Ordering
by_key a b = nat_cmp a.key b.key

-- the list of nodes is in the order of their records, and their links in the column have the digests of those: 0
abbrev pub IsByKey : {T : Type 0} → Store (Keyed T) → ℕ → List Node → Type 0
IsByKey s col xs = IsInOrder (order_at (record_of s) by_key) xs × AreDigested (λ _. 0) s col xs
