-- The first nodes of chains in segments, all of one size.
use Rattle.std.specs.Prelude.{◌≡◌, ℕ, ◌+◌, ◌-◌, ◌*◌, ◌<◌, List, [], ◌∷◌, ◌++◌, length, map, Option}
use Rattle.std.specs.Vec.{vec_capacity}
use Rattle.std.specs.Coded.{coded_ℕ}
use denote.Struct.Props.{≡_prop}
use Rattle.node_store.specs.declared.Node.{Node}
use Rattle.hash_index.specs.declared.head.Head.{Head}
use Rattle.hash_index.specs.declared.segment.Segment.{Segment}
pub use Rattle.hash_index.specs.Heads.{first_in}

-- the heads that have these marks and nodes
abbrev pub paired : List ℕ → List (Option Node) → List Head
paired [] ns = []
paired (m ∷ ms) [] = []
paired (m ∷ ms) (n ∷ ns) = record { mark = m; node = n } ∷ paired ms ns

-- the heads of a segment
abbrev pub items_of : Segment → List Head
items_of s = paired s.marks.items s.nodes.items

-- how many it has room for
abbrev pub capacity_of : Segment → ℕ
capacity_of s = vec_capacity s.nodes

-- the heads of the chains, segment by segment
abbrev pub all_in : List Segment → List Head
all_in [] = []
all_in (s ∷ ss) = items_of s ++ all_in ss

-- the first node of each chain
abbrev pub heads_in : List Segment → List (Option Node)
heads_in ss = map first_in (all_in ss)

-- each segment is of this size, and all but the last are full
abbrev pub AreSegments : ℕ → List Segment → Type 0
AreSegments size [] = Unit {0}
AreSegments size (s ∷ []) = capacity_of s ≡ size
AreSegments size (s ∷ (t ∷ ss)) = (length (items_of s) ≡ size) × AreSegments size (t ∷ ss)

-- how many more the last has room for
abbrev pub spare : List Segment → ℕ
spare [] = 0
spare (s ∷ []) = capacity_of s - length (items_of s)
spare (s ∷ (t ∷ ss)) = spare (t ∷ ss)

-- where each segment is of size 512, the chain stands at this place of this segment
pub record IsAt (chain segment place : ℕ) : Type 0 where
  pub at : chain ≡ 512 * segment + place
  pub within : place < 512

pub AreSegments_prop : (size : ℕ) (ss : List Segment) → IsProp (AreSegments size ss)
AreSegments_prop size [] = λ a b k. tt
AreSegments_prop size (s ∷ []) = ≡_prop coded_ℕ (capacity_of s) size
AreSegments_prop size (s ∷ (t ∷ ss)) = λ a b k. (≡_prop coded_ℕ (length (items_of s)) size a.0 b.0 k, AreSegments_prop size (t ∷ ss) a.1 b.1 k)
