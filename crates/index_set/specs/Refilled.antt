-- What giving an index other nodes asks for, answers and leaves.
use Rattle.std.specs.Prelude.{ℕ, ◌<◌, Bool, false, List, [], length, slice_index_or, Option}
use Rattle.std.specs.List.{AllByRecursion}
use Rattle.std.specs.declared.cmp.Ordering.{Ordering}
use Rattle.node_store.specs.declared.Node.{Node}
use Rattle.node_store.specs.Nodes.{IsDistinct}
use Rattle.node_store.specs.Store.{IsNodeOf, age_of}
use Rattle.container_model.specs.declared.handle.Kind.TheVariants.{Sequenced}
use Rattle.key_extract.specs.declared.extract.Extract.{Ghosts}
use Rattle.any_index.specs.Side.{order_at}
use Rattle.index_set.specs.declared.parts.Parts.{Parts}
use Rattle.index_set.specs.Added as added
use Rattle.index_set.specs.Set.{store_of, keys_of, specs_of, record_of, kind_at}

-- whether an index is unique
abbrev pub is_unique_at : {R E : Type 0} → Parts R E → ℕ → Bool
is_unique_at s index = (slice_index_or (specs_of s) index (record { kind = Sequenced; unique = false })).unique

module _ {R E P : Type 0} (X : Ghosts E R P) (s : Parts R E) (index : ℕ) (ns : List Node) where
  -- how two nodes stand to one another by the key of the index
  abbrev pub order_here : Node → Node → Ordering
  order_here = order_at (record_of s) (X.order_of (keys_of s) index)

  -- its list
  abbrev pub new_list : List Node
  new_list = added.entered_all (age_of (store_of s)) order_here (kind_at s index) [] ns

  -- the two nodes of one key that it may not have
  abbrev pub clash_here : Option (Node × Node)
  clash_here = added.clash order_here (is_unique_at s index) ns

  -- there is such an index, and the nodes are of the set, each once
  pub record CanRefill : Type 0 where
    pub within : index < length (specs_of s)
    pub nodes : AllByRecursion (IsNodeOf (store_of s)) ns
    pub distinct : IsDistinct ns
