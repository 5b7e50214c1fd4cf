-- The list that a chain spells.
use Rattle.std.specs.Prelude.{◌≡◌, ◌+◌, ◌<◌, ◌^◌, ℕ, zero, suc, List, [], ◌∷◌, length, Option, Some, None, option_and_then}
use Rattle.node_store.specs.declared.Node.{Node}
use Rattle.node_store.specs.Column.{Column}
use Rattle.node_store.specs.Nodes.{IsDistinct, first_or, last_or}
use Rattle.seq_index.specs.declared.SeqIndex.{SeqIndex}
pub use Rattle.node_store.specs.Nodes.{Holds}
pub use Rattle.seq_index.specs.Links.{KeepsOthers}
use Rattle.seq_index.specs.Links.{Runs}

-- the index is the chain of these nodes
pub record Spells (cs : ℕ → Column) (i : SeqIndex) (xs : List Node) : Type 0 where
  pub runs : Runs (cs i.col) None xs None
  pub first : i.first ≡ first_or xs None
  pub last : i.last ≡ last_or xs None
  pub distinct : IsDistinct xs
  pub len : i.len ≡ length xs
  pub fits : i.len < 2 ^ 64

-- the column that the index uses
abbrev pub col_of : SeqIndex → ℕ
col_of i = i.col

-- one node more can be counted
abbrev pub HasRoom : SeqIndex → Type 0
HasRoom i = i.len + 1 < 2 ^ 64

-- the node that `b` leads to
abbrev pub following : Column → Node → Option Node
following c n = option_and_then (λ l. l.b) (c n)

-- the nodes that `b` leads through, at most this many
abbrev pub follow : Column → Option Node → ℕ → List Node
follow c o zero = []
follow c None (suc k) = []
follow c (Some n) (suc k) = n ∷ follow c (following c n) k

-- the list that the column spells
unfoldable pub spelled : (ℕ → Column) → SeqIndex → List Node
spelled cs i = follow (cs i.col) i.first i.len

-- the index is a chain
abbrev pub IsSound : (ℕ → Column) → SeqIndex → Type 0
IsSound cs i = Spells cs i (spelled cs i)
