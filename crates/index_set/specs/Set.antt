-- A set of records as the lists of its indices.
use Rattle.key_extract.specs.Digests.{Marks}
use Rattle.std.specs.Prelude.{◌≡◌, ℕ, ◌≤◌, ◌<◌, Bool, false, List, length, slice_get, Option, Some, IsTrue}
use Rattle.std.specs.Option.{option_map_or}
use Rattle.std.specs.declared.cmp.Ordering.{Ordering}
use Rattle.std.specs.declared.cmp.Ordering.TheVariants.{Equal}
use Rattle.node_store.specs.declared.Node.{Node}
use Rattle.node_store.specs.Store.{Store, IsStore, IsNodeOf, width_of}
use Rattle.node_store.specs.Store as records
use Rattle.node_store.specs.ByNode as store
use Rattle.container_model.specs.declared.handle.Spec.{Spec}
use Rattle.container_model.specs.declared.handle.Kind.{Kind}
use Rattle.container_model.specs.declared.handle.Kind.TheVariants.{Sequenced}
use Rattle.container_model.specs.State.{KeysMatch, has_key_kind}
use Rattle.any_index.specs.Side.{side_of}
use Rattle.index_set.specs.declared.parts.Parts.{Parts}
use Rattle.index_set.specs.declared.changed.Changed.{Changed}
use Rattle.index_set.specs.Changed as beside
use Rattle.index_set.specs.Each as each
use Rattle.index_set.specs.Indices as every
use Rattle.index_set.specs.Lists.{AreUniqueFrom}

module _ {R E : Type 0} where
  -- its records, and which nodes have them
  abbrev pub store_of : Parts R E → Store R
  store_of s = s.store

  abbrev pub keys_of : Parts R E → E
  keys_of s = s.keys

  -- what each index is to be
  abbrev pub specs_of : Parts R E → List Spec
  specs_of s = s.specs.items

  -- all but the indices
  abbrev pub contents : Parts R E → store.Contents R
  contents s = store.contents s.store

  -- the record of each node
  abbrev pub record_of : Parts R E → Node → Option R
  record_of s = store.record_of s.store

  -- the list of each index, in the order of their numbers
  abbrev pub lists_of : Parts R E → List (List Node)
  lists_of s = every.lists_in (store.columns_in s.store) s.indices.items

  -- that of one index
  abbrev pub list_of : Parts R E → ℕ → List Node
  list_of s index = each.list_at (lists_of s) index

  -- the kind of one index
  abbrev pub kind_at : Parts R E → ℕ → Kind
  kind_at s index = option_map_or (λ (spec : Spec). spec.kind) (slice_get s.specs.items index) Sequenced

  -- how many columns of the store its indices may have
  abbrev pub columns_of : Parts R E → ℕ
  columns_of s = s.columns

  -- how the record of a node stands to a search key of one index
  abbrev pub probe_side : {P : Type 0} → (E → ℕ → R → P → Ordering) → Parts R E → ℕ → P → Node → Ordering
  probe_side order s index probe = side_of (store.record_of s.store) (λ a. order s.keys index a probe)

  -- each index has room for one more node
  abbrev pub HasRoom : Parts R E → Type 0
  HasRoom s = every.HaveRoom s.specs.items s.indices.items

  -- what holds of every set: one to eight indices, of which those that compare records, and they alone, have a key, over a
  -- store of numbered nodes with a column for each
  pub record IsSound (has_key : E → ℕ → Bool) (s : Parts R E) : Type 0 where
    pub some : 1 ≤ length s.specs.items
    pub few : length s.specs.items ≤ 8
    pub keys : KeysMatch (has_key s.keys) s.specs.items
    pub placed : every.ArePlaced (store.columns_in s.store) s.specs.items s.indices.items
    pub nodes : IsStore s.store
    pub columns : length s.specs.items ≤ s.columns
    pub most : s.columns ≤ 8
    pub within : every.AreWithin s.columns s.specs.items s.indices.items
    pub wide : s.columns ≤ width_of s.store

  -- each index has its nodes where their records' keys put them
  abbrev pub IsKeyed : (E → ℕ → R → R → Ordering) → (E → ℕ → R → Marks) → Parts R E → Type 0
  IsKeyed order marks s = every.AreKeyed (order s.keys) (marks s.keys) s.store s.specs.items s.indices.items

  -- all but one node, whose record may have changed
  abbrev pub IsKeyedBut : (E → ℕ → R → R → Ordering) → (E → ℕ → R → Marks) → Parts R E → Node → Type 0
  IsKeyedBut order marks s n = every.AreKeyedBut (order s.keys) (marks s.keys) s.store s.specs.items s.indices.items n

  -- all but the excepted node
  abbrev pub IsKeyedExcept : (E → ℕ → R → R → Ordering) → (E → ℕ → R → Marks) → Parts R E → Option Node → Type 0
  IsKeyedExcept order marks s except = every.AreKeyedExcept (order s.keys) (marks s.keys) s.store s.specs.items s.indices.items except

  -- at each unique index no two nodes but the excepted one have one key
  abbrev pub IsUniqueExcept : (E → ℕ → R → R → Ordering) → Parts R E → Option Node → Type 0
  IsUniqueExcept order s except = AreUniqueFrom (order s.keys) (record_of s) except 0 (specs_of s) (lists_of s)

  -- the set once the record of n has been written through `get_mut`
  abbrev pub with_record : Parts R E → Node → R → Parts R E
  with_record s n r = record s { store = records.with_record s.store n r }

  -- at each index that has a key, the key of the record of n is that of this record
  pub record HasKeysOf (order : E → ℕ → R → R → Ordering) (s : Parts R E) (n : Node) (before : R) : Type 0 where
    pub row : R
    pub is : record_of s n ≡ Some row
    pub equal : (index : ℕ) → index < length (specs_of s) → IsTrue (has_key_kind (kind_at s index)) → order s.keys index row before ≡ Equal

  -- the record of n has the keys of one with which each index had its nodes where their records' keys put them
  pub record IsRestored (order : E → ℕ → R → R → Ordering) (marks : E → ℕ → R → Marks) (s : Parts R E) (n : Node) : Type 0 where
    pub before : R
    pub keyed : IsKeyed order marks (with_record s n before)
    pub keys : HasKeysOf order s n before

  -- at each index but the changed ones the key of a record is that of another
  pub record AgreesBeside (order : E → ℕ → R → R → Ordering) (s : Parts R E) (changed : Changed) (row before : R) : Type 0 where
    pub equal : (index : ℕ) → index < length (specs_of s) → beside.may_differ changed index ≡ false → IsTrue (has_key_kind (kind_at s index)) → order s.keys index row before ≡ Equal

  -- each index at which the key has not changed has its nodes where their records' keys put them
  abbrev pub IsKeyedBeside : (E → ℕ → R → R → Ordering) → (E → ℕ → R → Marks) → Parts R E → Changed → Type 0
  IsKeyedBeside order marks s changed = beside.AreKeyedBeside (order s.keys) changed (marks s.keys) s.store s.specs.items s.indices.items

  -- no unique index at which the key has not changed has another node with the record's key
  abbrev pub IsFreeBeside : (E → ℕ → R → R → Ordering) → Parts R E → Changed → Option Node → R → Type 0
  IsFreeBeside order s changed except row = beside.AreFreeBeside (order s.keys) changed (record_of s) (specs_of s) (lists_of s) except row

  -- nothing but the nodes, their records and the indices may have changed
  pub record IsOfSame (old new : Parts R E) : Type 0 where
    pub keys : new.keys ≡ old.keys
    pub specs : new.specs.items ≡ old.specs.items
    pub columns : new.columns ≡ old.columns

  -- neither these nor the records and lists have changed
  pub record IsAlike (old new : Parts R E) : Type 0 where
    pub same : IsOfSame old new
    pub contents : contents new ≡ contents old
    pub lists : lists_of new ≡ lists_of old

  -- each index has each node of the store
  pub record AreHeld (s : Parts R E) : Type 0 where
    pub each : (n : Node) → IsNodeOf (store_of s) n → every.HoldIt (lists_of s) n
