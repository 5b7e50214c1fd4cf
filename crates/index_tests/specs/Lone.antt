-- An index by itself over a store, by its keys.
use Rattle.std.specs.Prelude.{◌≡◌, ◌<◌}
use Rattle.node_store.specs.Store.{Store, width_of}
use Rattle.container_model.specs.State.{has_key_kind}
use Rattle.key_extract.specs.declared.extract.Extract.{Ghosts}
use Rattle.any_index.specs.declared.index.AnyIndex.{AnyIndex}
use Rattle.any_index.specs.Spelled.{kind_of, col_of, index_of}
use Rattle.any_index.specs.Stored.{IsIn}
use Rattle.any_index.specs.Keyed.{marks_of, IsKeyed}

-- it is sound, it has a key where its kind has one, its nodes are where their keys put them, and the store has its column
pub record IsLone {E R P : Type 0} (X : Ghosts E R P) (s : Store R) (i : AnyIndex) (keys : E) : Type 0 where
  pub sound : IsIn i s
  pub key : X.has_key keys (index_of i) ≡ has_key_kind (kind_of i)
  pub keyed : IsKeyed (X.order_of keys) (marks_of X keys) s i
  pub column : col_of i < width_of s
