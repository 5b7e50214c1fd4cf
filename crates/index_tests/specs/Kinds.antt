-- What an index of each kind spells.
use Rattle.std.specs.Prelude.{ℕ, List}
use Rattle.node_store.specs.declared.Node.{Node}
use Rattle.node_store.specs.Column.{Column}
use Rattle.node_store.specs.Store.{Store, age_of}
use Rattle.node_store.specs.ByNode.{column_of}
use Rattle.seq_index.specs.Spelled as chains
use Rattle.row_index.specs.Spelled as rows
use Rattle.ord_tree.specs.Spelled as trees
use Rattle.hash_index.specs.Spelled as buckets
use Rattle.index_tests.specs.declared.keys.Keyed.{Keyed}
use Rattle.index_tests.specs.declared.index.Index.{Index}
use Rattle.index_tests.specs.declared.index.Index.TheVariants.{Chain, Row, Ordered, Ranked, Hashed}
use Rattle.index_tests.specs.Keys.{IsByKey}

-- the list that it spells
abbrev pub listed : (ℕ → Column) → Index → List Node
listed cs (Chain i) = chains.spelled cs i
listed cs (Row i) = rows.spelled cs i
listed cs (Ordered i) = trees.spelled cs i
listed cs (Ranked i) = trees.spelled cs i
listed cs (Hashed i) = buckets.spelled cs i

-- the column that it uses
abbrev pub col_in : Index → ℕ
col_in (Chain i) = chains.col_of i
col_in (Row i) = rows.col_of i
col_in (Ordered i) = trees.col_of i
col_in (Ranked i) = trees.col_of i
col_in (Hashed i) = buckets.col_of i

-- its links are those of a list, and a tree's list is in order
abbrev pub IsSoundIn : {T : Type 0} → Store (Keyed T) → Index → Type 0
IsSoundIn s (Chain i) = chains.IsSound (column_of s) i
IsSoundIn s (Row i) = rows.IsSound (column_of s) i
IsSoundIn s (Ordered i) = trees.IsSound (column_of s) i × IsByKey s (trees.col_of i) (trees.spelled (column_of s) i)
IsSoundIn s (Ranked i) = trees.IsSound (column_of s) i × IsByKey s (trees.col_of i) (trees.spelled (column_of s) i)
IsSoundIn s (Hashed i) = buckets.IsSound (age_of s) (column_of s) i
