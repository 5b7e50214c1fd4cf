-- Nodes by their records: hashes that are kept, and how a record stands to a key.
use Rattle.std.specs.Prelude.{◌≡◌, ℕ, false, List, filter, Option}
use Rattle.std.specs.List.{AllByRecursion}
use Rattle.std.specs.Option.{option_map, option_map_or}
use Rattle.std.specs.Ordering.{is_eq}
use Rattle.std.specs.declared.cmp.Ordering.{Ordering}
use Rattle.std.specs.declared.cmp.Ordering.TheVariants.{Less}
use Rattle.node_store.specs.declared.Node.{Node}
use Rattle.node_store.specs.Store.{Store}
use Rattle.node_store.specs.ByNode.{same_node, column_of, record_of}
use Rattle.list_model.specs.Walk.{without}
use Rattle.hash_index.specs.Chains.{tag_at}

-- the column keeps of this node the hash of its record
abbrev pub KeepsHash : {R : Type 0} → (R → ℕ) → Store R → ℕ → Node → Type 0
KeepsHash hash s col n = tag_at (column_of s col) n ≡ option_map hash (record_of s n)

-- the same of each node of the list
abbrev pub IsHashed : {R : Type 0} → (R → ℕ) → Store R → ℕ → List Node → Type 0
IsHashed hash s col xs = AllByRecursion (KeepsHash hash s col) xs

-- how a node's record stands to a key
abbrev pub side_of : {R : Type 0} → (R → Ordering) → Store R → Node → Ordering
side_of side s n = option_map_or side (record_of s n) Less

-- the nodes that have the key
abbrev pub matches : (Node → Ordering) → List Node → List Node
matches side xs = filter (λ n. is_eq (side n)) xs

-- the nodes other than the excepted one
abbrev pub others : Option Node → List Node → List Node
others except xs = without (λ n. option_map_or (λ m. same_node m n) except false) xs
