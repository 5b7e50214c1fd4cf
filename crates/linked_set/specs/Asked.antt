-- What the calls on linked sets ask for.
use Rattle.any_index.specs.Keyed.{marks_of}
use Rattle.std.specs.Prelude.{◌≡◌, ℕ, ◌+◌, ◌<◌, ◌≤◌, ◌^◌, Bool, List, [], ◌∷◌, ◌++◌, length, remove, Option, None, IsTrue}
use Rattle.std.specs.declared.ops.Bound.{Bound}
use Rattle.node_store.specs.declared.Node.{Node}
use Rattle.container_model.specs.declared.handle.Entry.{Entry}
use Rattle.container_model.specs.declared.handle.Kind.{Kind}
use Rattle.container_model.specs.declared.handle.Spec.{Spec}
use Rattle.container_model.specs.declared.refusal.Why.{Why}
use Rattle.container_model.specs.Find as find
use Rattle.container_model.specs.Indices.{KeepsEach, KeepsRest}
use Rattle.container_model.specs.State.{State, KeysMatch, has_key_kind, is_hashed_kind, is_sorted_kind}
use Rattle.key_extract.specs.declared.extract.Extract.{Ghosts}
use Rattle.index_set.specs.declared.parts.Parts.{Parts}
use Rattle.index_set.specs.Set.{keys_of, specs_of, columns_of, kind_at}
use Rattle.index_set.specs.declared.by_row.ByRow.{ByRow}
use Rattle.linked_set.specs.Edges.{KeyFits}
use Rattle.index_set.specs.Set.{AreHeld}
use Rattle.linked_set.specs.Records.{Records}
use Rattle.linked_set.specs.Seen.{IsLinked}

module _ {E R P : Type 0} where
  -- the index is of one of these kinds, and the probe fits its key
  pub record FitsAt (kinds : Kind → Bool) (does_fit : E → ℕ → P → Bool) (s : State E R) (index : ℕ) (probe : P) : Type 0 where
    pub kind : IsTrue (kinds (find.kind_at s index))
    pub fits : IsTrue (does_fit s.keys index probe)

  -- the probe is a key of the index: it fits the key of one in order, and is a whole key of a hashed one
  pub record IsKeyOf (does_fit is_whole : E → ℕ → P → Bool) (s : State E R) (index : ℕ) (probe : P) : Type 0 where
    pub fits : IsTrue (is_sorted_kind (find.kind_at s index)) → IsTrue (does_fit s.keys index probe)
    pub whole : IsTrue (is_hashed_kind (find.kind_at s index)) → IsTrue (is_whole s.keys index probe)

  -- the index has keys, and the probe is one of them
  pub record CanFindBy (does_fit is_whole : E → ℕ → P → Bool) (s : State E R) (index : ℕ) (probe : P) : Type 0 where
    pub kind : IsTrue (has_key_kind (find.kind_at s index))
    pub key : IsKeyOf does_fit is_whole s index probe

  -- the index is in order, and both bounds fit its key
  pub record AreBoundsOf (does_fit : E → ℕ → P → Bool) (s : State E R) (index : ℕ) (low high : Bound P) : Type 0 where
    pub kind : IsTrue (is_sorted_kind (find.kind_at s index))
    pub low_fits : KeyFits (does_fit s.keys index) low
    pub high_fits : KeyFits (does_fit s.keys index) high

-- indices that records may begin with, where there may be so many: at least one, at most eight, and their keys
pub record IsDeclared (room : ℕ) (has_key : ℕ → Bool) (specs : List Spec) : Type 0 where
  pub some : 1 ≤ length specs
  pub few : length specs ≤ room
  pub most : room ≤ 8
  pub keys : KeysMatch has_key specs

module _ {E R O H : Type 0} (has_key : E → ℕ → Bool) (order : E → ℕ → O) (hash : E → ℕ → H) (s : State E R) where
  -- keys for one index more, which are those of the records at each index that is there
  pub record HasKeysWith (spec : Spec) (new : E) : Type 0 where
    pub keys : KeysMatch (has_key new) (s.specs ++ spec ∷ [])
    pub orders : KeepsEach (order s.keys) (order new) s.specs
    pub hashes : KeepsEach (hash s.keys) (hash new) s.specs

  -- keys for all indices but one that is there, which are those of the records at each of them, at its new number
  pub record HasKeysWithout (gone : ℕ) (new : E) : Type 0 where
    pub index : gone < length s.specs
    pub keys : KeysMatch (has_key new) (remove s.specs gone)
    pub orders : KeepsRest (order s.keys) (order new) s.specs gone
    pub hashes : KeepsRest (hash s.keys) (hash new) s.specs gone

-- one record more has a number for its slot and, where nothing keeps it out, for its age
pub record CanGrow {E R : Type 0} (r : Records E R) (limit : Option Why) : Type 0 where
  pub narrow : length r.entries < 2 ^ 32
  pub count : limit ≡ None → r.added + 1 < 2 ^ 64

-- ---- what its functions on sets of nodes ask for

-- the records of a key can be taken out: each index has each node, and the probe is a key of the index, a whole one
-- where the index is hashed
pub record CanTakeKey {E R P : Type 0} (X : Ghosts E R P) (set : Parts (Entry R) (ByRow E)) (slots : List (Option Node)) (k : ℕ) (probe : P) : Type 0 where
  pub linked : IsLinked X.has_key X.order_of (marks_of X) set slots
  pub held : AreHeld set
  pub index : k < length (specs_of set)
  pub kind : IsTrue (has_key_kind (kind_at set k))
  pub fits : IsTrue (is_sorted_kind (kind_at set k)) → IsTrue (X.does_fit (keys_of set).keys k probe)
  pub whole : IsTrue (is_hashed_kind (kind_at set k)) → IsTrue (X.is_whole (keys_of set).keys k probe)

module _ {E R P : Type 0} (X : Ghosts E R P) (set : Parts (Entry R) (ByRow E)) (slots : List (Option Node)) where
  -- an index may be added: there may be one more, and the keys are those of the set and one more
  pub record CanAddIndex (spec : Spec) (given : E) : Type 0 where
    pub linked : IsLinked X.has_key X.order_of (marks_of X) set slots
    pub room : length (specs_of set) < columns_of set
    pub keys : KeysMatch (X.has_key given) (specs_of set ++ spec ∷ [])
    pub orders : KeepsEach (X.order_of (keys_of set).keys) (X.order_of given) (specs_of set)
    pub hashes : KeepsEach (X.hash_of (keys_of set).keys) (X.hash_of given) (specs_of set)

  -- an index may be dropped: it is one of several, and the keys are those of the others
  pub record CanDropIndex (gone : ℕ) (given : E) : Type 0 where
    pub linked : IsLinked X.has_key X.order_of (marks_of X) set slots
    pub index : gone < length (specs_of set)
    pub several : 1 < length (specs_of set)
    pub keys : KeysMatch (X.has_key given) (remove (specs_of set) gone)
    pub orders : KeepsRest (X.order_of (keys_of set).keys) (X.order_of given) (specs_of set) gone
    pub hashes : KeepsRest (X.hash_of (keys_of set).keys) (X.hash_of given) (specs_of set) gone
