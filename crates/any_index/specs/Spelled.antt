-- The list of an index of any kind.
use Rattle.std.specs.Prelude.{ℕ, List}
use Rattle.std.specs.Ordering.{nat_cmp}
use Rattle.std.specs.declared.cmp.Ordering.{Ordering}
use Rattle.container_model.specs.declared.handle.Kind.{Kind}
use Rattle.container_model.specs.declared.handle.Kind.TheVariants as kind
use Rattle.list_model.specs.Place.{stable_sorted}
use Rattle.node_store.specs.declared.Node.{Node}
use Rattle.node_store.specs.ByNode.{Columns}
pub use Rattle.node_store.specs.Column.{KeepsOthers}
pub use Rattle.node_store.specs.Nodes.{Holds}
use Rattle.seq_index.specs.Spelled as seq
use Rattle.row_index.specs.Spelled as row
use Rattle.ord_tree.specs.Spelled as ord
use Rattle.hash_index.specs.Spelled as hash
use Rattle.any_index.specs.declared.index.AnyIndex.{AnyIndex}
use Rattle.any_index.specs.declared.index.AnyIndex.TheVariants.{Sequenced, Random, Ordered, Ranked, Hashed}

abbrev pub kind_of : AnyIndex → Kind
kind_of (Sequenced i) = kind.Sequenced
kind_of (Random i) = kind.Random
kind_of (Ordered i) = kind.Ordered
kind_of (Ranked i) = kind.Ranked
kind_of (Hashed i) = kind.Hashed

-- the column that the index uses
abbrev pub col_of : AnyIndex → ℕ
col_of (Sequenced i) = seq.col_of i
col_of (Random i) = row.col_of i
col_of (Ordered i) = ord.col_of i
col_of (Ranked i) = ord.col_of i
col_of (Hashed i) = hash.col_of i

-- the number of the index, by which keys are asked for; a sequence has no key, and its column for a number
abbrev pub index_of : AnyIndex → ℕ
index_of (Sequenced i) = seq.col_of i
index_of (Random i) = row.col_of i
index_of (Ordered i) = ord.index_of i
index_of (Ranked i) = ord.index_of i
index_of (Hashed i) = hash.index_of i

-- the links of the column are those of the index
abbrev pub IsSound : Columns → AnyIndex → Type 0
IsSound cs (Sequenced i) = seq.IsSound cs.links i
IsSound cs (Random i) = row.IsSound cs.links i
IsSound cs (Ordered i) = ord.IsSound cs.links i
IsSound cs (Ranked i) = ord.IsSound cs.links i
IsSound cs (Hashed i) = hash.IsSound cs.ages cs.links i

-- one more node needs no memory
abbrev pub HasRoom : AnyIndex → Type 0
HasRoom (Sequenced i) = seq.HasRoom i
HasRoom (Random i) = row.HasRoom i
HasRoom (Ordered i) = ord.HasRoom i
HasRoom (Ranked i) = ord.HasRoom i
HasRoom (Hashed i) = hash.HasRoom i

-- how the ages of two nodes stand to one another
abbrev pub age_cmp : (Node → ℕ) → Node → Node → Ordering
age_cmp ages m n = nat_cmp (ages m) (ages n)

-- the nodes by rising age
abbrev pub by_age : (Node → ℕ) → List Node → List Node
by_age ages xs = stable_sorted (age_cmp ages) xs

-- the nodes of the index in its order; a hashed one has them in the order of their adds
abbrev pub list_of : Columns → AnyIndex → List Node
list_of cs (Sequenced i) = seq.spelled cs.links i
list_of cs (Random i) = row.spelled cs.links i
list_of cs (Ordered i) = ord.spelled cs.links i
list_of cs (Ranked i) = ord.spelled cs.links i
list_of cs (Hashed i) = by_age cs.ages (hash.spelled cs.links i)
