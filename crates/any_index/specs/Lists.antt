-- What the changes of an index of one kind make of its list.
use Rattle.std.specs.Prelude.{ℕ, cond, List, length, insert, Option}
use Rattle.std.specs.Option.{option_map_or}
use Rattle.std.specs.declared.cmp.Ordering.{Ordering}
use Rattle.container_model.specs.declared.handle.Kind.{Kind}
use Rattle.container_model.specs.declared.handle.Kind.TheVariants.{Sequenced, Random, Ordered, Ranked, Hashed}
use Rattle.container_model.specs.State.{is_sorted_kind}
use Rattle.list_model.specs.Place.{not_above}
use Rattle.list_model.specs.Walk.{settled}
use Rattle.node_store.specs.declared.Node.{Node}
use Rattle.node_store.specs.ByNode.{same_node}
pub use Rattle.row_index.specs.Sunk.{IsSunk}
use Rattle.any_index.specs.Spelled.{age_cmp}

-- where a new node goes: in a sequence to the place that was asked for, or last; by its key after its equals; by its age
abbrev pub entry_place : Kind → (Node → ℕ) → (Node → Node → Ordering) → Option ℕ → Node → List Node → ℕ
entry_place Sequenced ages compare at n xs = option_map_or (λ p. p) at (length xs)
entry_place Random ages compare at n xs = option_map_or (λ p. p) at (length xs)
entry_place Ordered ages compare at n xs = not_above (λ m. compare m n) xs
entry_place Ranked ages compare at n xs = not_above (λ m. compare m n) xs
entry_place Hashed ages compare at n xs = not_above (λ m. age_cmp ages m n) xs

-- the list with a new node
abbrev pub entered : Kind → (Node → ℕ) → (Node → Node → Ordering) → Option ℕ → Node → List Node → List Node
entered kind ages compare at n xs = insert xs (entry_place kind ages compare at n xs) n

-- the list after a node's record has changed: in one in order the node settles
abbrev pub settled_in : Kind → (Node → Node → Ordering) → Node → List Node → List Node
settled_in kind compare n xs = cond (is_sorted_kind kind) (settled (same_node n) (λ m. compare m n) n xs) xs
