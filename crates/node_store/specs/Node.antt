-- Nodes and their places.
use Rattle.std.specs.Prelude.{◌≡◌, ℕ, Option, Some, None, refl}
use mathlib.Core.Path.{ap, sym}
use denote.RawPtr.{Ptr, block_ptr, null_ptr, count_of}
use Rattle.node_store.specs.declared.Node.{Node}

-- the node whose block has this number
abbrev pub node_by : ℕ → Node
node_by block = record { place = record { ptr = block_ptr block 0 }; start = refl }

-- a place is null, or the start of a block
abbrev pub IsStart : Ptr → Type 0
IsStart p = count_of p ≡ 0

-- the node at a place, if it leads anywhere
abbrev pub node_there : Ptr → Option Node
node_there null_ptr = None
node_there (block_ptr block offset) = Some (node_by block)

-- where it is, null for none
abbrev pub place_there : Option Node → Ptr
place_there None = null_ptr
place_there (Some n) = n.place.ptr

-- nothing is lost so
pub place_back : (p : Ptr) → IsStart p → place_there (node_there p) ≡ p
place_back null_ptr start = refl
place_back (block_ptr block offset) start = ap (block_ptr block) (sym start)
