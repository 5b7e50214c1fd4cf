-- The heads of chains: first nodes with marks.
use Rattle.std.specs.Prelude.{◌≡◌, ℕ, ◌+◌, ◌/◌, ◌%◌, ◌^◌, ◌<◌, ◌==◌, ◌&&◌, not, nat_lt, cond, Bool, List, Option, Some, None}
use Rattle.std.specs.List.{AllByRecursion}
use Rattle.node_store.specs.declared.Node.{Node}
use Rattle.node_store.specs.declared.Link.{Link}
use Rattle.node_store.specs.Column.{Column}
use Rattle.hash_index.specs.declared.head.Head.{Head}

-- the first node of a chain with this head
abbrev pub first_in : Head → Option Node
first_in h = h.node

-- the first node, if the mark says that no other comes after it
abbrev pub alone_in : Head → Option Node
alone_in h = cond (nat_lt h.mark 128) (first_in h) None

-- where the mark says that the node is alone, no node comes after it, and the mark has the top bits of its hash
abbrev pub IsRight : Column → Head → Type 0
IsRight c h = h.mark < 128 → (n : Node) (l : Link) → first_in h ≡ Some n → c n ≡ Some l → (l.b ≡ None) × (h.mark ≡ l.tag / 2 ^ 58 + 64)

-- each of the heads is right
abbrev pub AreRight : Column → List Head → Type 0
AreRight c hs = AllByRecursion (IsRight c) hs

-- whether the mark says that there is no node
abbrev pub is_empty : ℕ → Bool
is_empty mark = nat_lt mark 64

-- whether the mark says that no node may have this hash: there is none, or one that is alone and has other bits
abbrev pub passes : ℕ → ℕ → Bool
passes hash mark = nat_lt mark 128 && not (mark == hash / 2 ^ 58 + 64)

-- where the nodes that may have this hash begin
abbrev pub start_in : ℕ → Head → Option Node
start_in hash h = cond (passes hash h.mark) None (first_in h)

-- the first node, if the mark has the top bits of this hash
abbrev pub hinted_in : ℕ → Head → Option Node
hinted_in hash h = cond (h.mark % 64 == hash / 2 ^ 58) (first_in h) None
