-- Digests of records' keys that links keep.
use Rattle.std.specs.Prelude.{◌≡◌, ◌≢◌, ℕ, ◌/◌, ◌^◌, List}
use Rattle.std.specs.List.{AllByRecursion}
use Rattle.std.specs.Option.{option_map_or}
use Rattle.node_store.specs.declared.Node.{Node}
use Rattle.node_store.specs.Column.{Column}
use Rattle.node_store.specs.Digest.{digest_number}
use Rattle.node_store.specs.Store.{Store}
use Rattle.node_store.specs.ByNode.{column_of, record_of}
use Rattle.ord_tree.specs.Tree.{stored_digest}

-- as much of a node's digest as a link holds
abbrev pub kept_digest : {R : Type 0} → (R → ℕ) → Store R → Node → ℕ
kept_digest digest s n = option_map_or (λ r. digest r / 2 ^ 16) (record_of s n) 0

-- the link of the node has the digest of its record
abbrev pub KeepsDigest : {R : Type 0} → (R → ℕ) → Store R → ℕ → Node → Type 0
KeepsDigest digest s col n = digest_number (stored_digest (column_of s col) n) ≡ kept_digest digest s n

-- the same of each node of the list
abbrev pub AreDigested : {R : Type 0} → (R → ℕ) → Store R → ℕ → List Node → Type 0
AreDigested digest s col xs = AllByRecursion (KeepsDigest digest s col) xs

-- the new column has the same digest of each node
abbrev pub KeepsDigests : Column → Column → Type 0
KeepsDigests c d = (m : Node) → stored_digest d m ≡ stored_digest c m

-- of each node but this one
abbrev pub KeepsOtherDigests : Column → Column → Node → Type 0
KeepsOtherDigests c d n = (m : Node) → m ≢ n → stored_digest d m ≡ stored_digest c m
