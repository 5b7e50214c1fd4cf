-- What a contract sees of one index of a set.
use Rattle.std.specs.Prelude.{◌≡◌, ℕ, IsTrue}
use Rattle.container_model.specs.State.{has_key_kind, is_hashed_kind, is_sorted_kind}
use Rattle.key_extract.specs.declared.extract.Extract.{Ghosts}
use Rattle.any_index.specs.At.{At, list_in, kind_in, number_in}
use Rattle.index_set.specs.declared.parts.Parts.{Parts}
use Rattle.index_set.specs.Set.{store_of, keys_of, list_of, kind_at}

module _ {R E : Type 0} (s : Parts R E) (k : ℕ) where
  -- the borrowed index is that of the number
  pub record IsAt (a : At R E) : Type 0 where
    pub list : list_in a ≡ list_of s k
    pub kind : kind_in a ≡ kind_at s k
    pub number : IsTrue (has_key_kind (kind_at s k)) → number_in a ≡ k
    pub store : a.store ≡ store_of s
    pub keys : a.keys ≡ keys_of s

  -- the probe is a key of the index, a whole one where it is hashed
  pub record IsKey {P : Type 0} (X : Ghosts E R P) (probe : P) : Type 0 where
    pub kind : IsTrue (has_key_kind (kind_at s k))
    pub fits : IsTrue (is_sorted_kind (kind_at s k)) → IsTrue (X.does_fit (keys_of s) k probe)
    pub whole : IsTrue (is_hashed_kind (kind_at s k)) → IsTrue (X.is_whole (keys_of s) k probe)
