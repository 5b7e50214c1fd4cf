-- Nodes that were added before all others of their hash.
use Rattle.std.specs.Prelude.{◌≡◌, ◌≢◌, ℕ, ◌<◌, ◌≤◌, List, Some}
use Rattle.std.specs.List.{AllByRecursion}
use Rattle.node_store.specs.declared.Node.{Node}
use Rattle.node_store.specs.Column.{Column}
use Rattle.hash_index.specs.declared.head.Head.{Head}
use Rattle.hash_index.specs.Heads.{first_in}
use Rattle.hash_index.specs.Chains.{tag_at}

-- each other node of the list that has the hash of this one was added after it
abbrev pub IsOldestOf : (Node → ℕ) → Column → List Node → Node → Type 0
IsOldestOf ages c xs n = AllByRecursion (λ m. tag_at c m ≡ tag_at c n → m ≢ n → ages n < ages m) xs

-- where the mark says so of the first node, it was
abbrev pub IsOldest : (Node → ℕ) → Column → List Node → Head → Type 0
IsOldest ages c xs h = 192 ≤ h.mark → (n : Node) → first_in h ≡ Some n → IsOldestOf ages c xs n

abbrev pub AreOldest : (Node → ℕ) → Column → List Node → List Head → Type 0
AreOldest ages c xs hs = AllByRecursion (IsOldest ages c xs) hs
