-- What dropping an index of a set asks for, and what becomes of those that stay.
use Rattle.key_extract.specs.Digests.{Marks}
use Rattle.std.specs.Prelude.{◌≡◌, ℕ, ◌<◌, cond, List, length, remove, slice_index_or}
use Rattle.std.specs.declared.cmp.Ordering.{Ordering}
use Rattle.node_store.specs.ByNode.{columns_in}
use Rattle.node_store.specs.Store.{Store}
use Rattle.container_model.specs.State.{KeysMatch, has_key_kind}
use Rattle.container_model.specs.Indices.{KeepsRest}
use Rattle.key_extract.specs.declared.extract.Extract.{Ghosts}
use Rattle.any_index.specs.declared.index.AnyIndex.{AnyIndex}
use Rattle.any_index.specs.Keyed.{IsKeyed, IsSameKey}
use Rattle.any_index.specs.Spelled.{IsSound, HasRoom, list_of, kind_of, col_of, index_of}
use Rattle.index_set.specs.declared.parts.Parts.{Parts}
use Rattle.index_set.specs.Set.{keys_of, specs_of}

-- an index goes by the keys of this number now, if it has a key, and is else as it was
pub record IsRenumbered {R : Type 0} (s : Store R) (index : ℕ) (old new : AnyIndex) : Type 0 where
  pub sound : IsSound (columns_in s) new
  pub list : list_of (columns_in s) new ≡ list_of (columns_in s) old
  pub kind : kind_of new ≡ kind_of old
  pub col : col_of new ≡ col_of old
  pub number : index_of new ≡ cond (has_key_kind (kind_of old)) index (index_of old)
  pub room : HasRoom old → HasRoom new
  pub keyed : (order after : ℕ → R → R → Ordering) (marks marks_after : ℕ → R → Marks) → IsSameKey (kind_of old) (order (index_of old)) (after index) → IsSameKey (kind_of old) (marks (index_of old)) (marks_after index) →
      IsKeyed order marks s old → IsKeyed after marks_after s new

module _ {R : Type 0} (s : Store R) where
  -- the links of each are those of the store
  abbrev pub AreSound : List AnyIndex → Type 0
  AreSound is = (j : ℕ) (d : AnyIndex) → j < length is → IsSound (columns_in s) (slice_index_or is j d)

  -- each goes by the keys of its own number
  abbrev pub AreRenumbered : (old new : List AnyIndex) → Type 0
  AreRenumbered old new = (j : ℕ) (d : AnyIndex) → j < length old → IsRenumbered s j (slice_index_or old j d) (slice_index_or new j d)

module _ {R E P : Type 0} (X : Ghosts E R P) (s : Parts R E) (gone : ℕ) (given : E) where
  -- it is one of several indices, and the keys are those of the others
  pub record CanDrop : Type 0 where
    pub index : gone < length (specs_of s)
    pub several : 1 < length (specs_of s)
    pub keys : KeysMatch (X.has_key given) (remove (specs_of s) gone)
    pub orders : KeepsRest (X.order_of (keys_of s)) (X.order_of given) (specs_of s) gone
    pub hashes : KeepsRest (X.hash_of (keys_of s)) (X.hash_of given) (specs_of s) gone
