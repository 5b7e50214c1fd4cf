-- What a contract sees of an index that is borrowed with the store of its nodes and their keys.
use Rattle.std.specs.Prelude.{ℕ, Bool, List, IsTrue, refl}
use Rattle.std.specs.Coded.{Coded, code_by, coded×}
use Rattle.std.specs.declared.cmp.Ordering.{Ordering}
use Rattle.node_store.specs.declared.Node.{Node}
use Rattle.node_store.specs.Store.{Store, store_code}
use Rattle.node_store.specs.ByNode.{record_of}
use Rattle.container_model.specs.declared.handle.Kind.{Kind}
use Rattle.container_model.specs.State.{has_key_kind, is_hashed_kind, is_sorted_kind}
use Rattle.key_extract.specs.declared.extract.Extract.{Ghosts}
use Rattle.any_index.specs.contracts.index.AnyIndex as any
use Rattle.any_index.specs.declared.index.AnyIndex.{AnyIndex}
use Rattle.any_index.specs.Side.{side_of}
use Rattle.any_index.specs.Spelled.{kind_of, index_of}
use Rattle.any_index.specs.Stored.{nodes_of}

-- an index with the store of its nodes and their keys
pub record At (R E : Type 0) : Type 0 where
  pub index : AnyIndex
  pub store : Store R
  pub keys : E

-- how the logic stores one
abbrev pub at_code : {R E : Type 0} → Coded R → Coded E → Coded (At R E)
at_code {R} {E} r e = code_by (AnyIndex × (Store R × E)) (coded× any.the_row.coded (coded× (store_code r) e)) (λ a. (a.index, (a.store, a.keys))) (λ p. record { index = p.0; store = p.1.0; keys = p.1.1 }) (λ _. refl)

module _ {R E : Type 0} where
  -- its list
  abbrev pub list_in : At R E → List Node
  list_in a = nodes_of a.index a.store

  -- its kind
  abbrev pub kind_in : At R E → Kind
  kind_in a = kind_of a.index

  -- the number that its keys are asked for by
  abbrev pub number_in : At R E → ℕ
  number_in a = index_of a.index

  -- how the record of a node stands to a search key of it
  abbrev pub side_in : {P : Type 0} → (E → ℕ → R → P → Ordering) → At R E → P → Node → Ordering
  side_in order a probe = side_of (record_of a.store) (λ r. order a.keys (number_in a) r probe)

  module _ {P : Type 0} (X : Ghosts E R P) (a : At R E) where
    -- the probe is a key of the index, a whole one where it is hashed
    pub record IsKey (probe : P) : Type 0 where
      pub kind : IsTrue (has_key_kind (kind_in a))
      pub fits : IsTrue (is_sorted_kind (kind_in a)) → IsTrue (X.does_fit a.keys (number_in a) probe)
      pub whole : IsTrue (is_hashed_kind (kind_in a)) → IsTrue (X.is_whole a.keys (number_in a) probe)

    -- the index is of such a kind, and the probe is a key of it, or a leading part of one
    pub record IsLead (is_kind : Kind → Bool) (probe : P) : Type 0 where
      pub kind : IsTrue (is_kind (kind_in a))
      pub fits : IsTrue (X.does_fit a.keys (number_in a) probe)
