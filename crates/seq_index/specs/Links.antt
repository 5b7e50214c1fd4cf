-- What the links of a run of nodes say.
use Rattle.std.specs.Prelude.{◌≡◌, ◌≢◌, List, [], ◌∷◌, Option, Some, None}
use Rattle.node_store.specs.Digest.{no_digest}
use Rattle.node_store.specs.declared.Node.{Node}
use Rattle.node_store.specs.declared.Link.{Link}
use Rattle.node_store.specs.Column.{Column, IsNode}
pub use Rattle.node_store.specs.Column.{KeepsOthers}
use Rattle.node_store.specs.Nodes.{IsDistinct, first_or, last_or}
use Rattle.node_store.specs.Store.{Store, IsNodeOf}

-- the block of a node that stands between these two
abbrev pub chain_link : Option Node → Option Node → Link
chain_link before after = record { a = before; b = after; up = None; tag = 0; height = 0; digest = no_digest }

-- the nodes are linked to and fro, and their ends lead to `before` and `after`
abbrev pub Runs : Column → Option Node → List Node → Option Node → Type 0
Runs c before [] after = Unit {0}
Runs c before (x ∷ xs) after = (c x ≡ Some (chain_link before (first_or xs after))) × Runs c (Some x) xs after

-- the store has the node, if there is one
abbrev pub AreNodes : Column → Option Node → Type 0
AreNodes c o = (m : Node) → o ≡ Some m → IsNode c m

-- the node is one of the store, if there is one
abbrev pub AreNodesOf : {R : Type 0} → Store R → Option Node → Type 0
AreNodesOf s o = (m : Node) → o ≡ Some m → IsNodeOf s m

-- a run that ends with `at` now leads to `next`, and no other block changed
pub record SetsNext (c d : Column) (at next : Option Node) : Type 0 where
  pub runs : (xs : List Node) (p q : Option Node) → IsDistinct xs → at ≡ last_or xs None → Runs c p xs q → Runs d p xs next
  pub others : (m : Node) → at ≢ Some m → d m ≡ c m
  pub nodes : (m : Node) → IsNode c m → IsNode d m

-- a run that begins with `at` now leads back to `prev`, and no other block changed
pub record SetsPrev (c d : Column) (at prev : Option Node) : Type 0 where
  pub runs : (xs : List Node) (p q : Option Node) → IsDistinct xs → at ≡ first_or xs None → Runs c p xs q → Runs d prev xs q
  pub others : (m : Node) → at ≢ Some m → d m ≡ c m
  pub nodes : (m : Node) → IsNode c m → IsNode d m

-- the end of a chain after a change: the old one where the change has a neighbour on that side
abbrev pub end_beside : Option Node → Option Node → Option Node → Option Node
end_beside None end new_end = new_end
end_beside (Some m) end new_end = end
