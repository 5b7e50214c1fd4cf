-- What the calls of a set ask for, and the changes of its records.
use Rattle.any_index.specs.Keyed.{marks_of}
use Rattle.std.specs.Prelude.{ℕ, ◌<◌, length, Some, None, IsTrue}
use Rattle.node_store.specs.declared.Node.{Node}
use Rattle.container_model.specs.State.{is_sequence_kind}
use Rattle.key_extract.specs.declared.extract.Extract.{Ghosts}
use Rattle.index_set.specs.declared.parts.Parts.{Parts}
use Rattle.index_set.specs.Set.{specs_of, kind_at, IsSound, IsKeyed, IsKeyedBut, IsUniqueExcept, AreHeld}

module _ {R E P : Type 0} (X : Ghosts E R P) where
  -- each index has its nodes where their keys put them, and a unique one has each key once
  pub record IsFiled (s : Parts R E) : Type 0 where
    pub sound : IsSound X.has_key s
    pub keyed : IsKeyed X.order_of (marks_of X) s
    pub unique : IsUniqueExcept X.order_of s None

  -- but for this node, whose record may have changed
  pub record IsFiledBut (s : Parts R E) (n : Node) : Type 0 where
    pub sound : IsSound X.has_key s
    pub keyed : IsKeyedBut X.order_of (marks_of X) s n
    pub unique : IsUniqueExcept X.order_of s (Some n)

  -- what holds of every set: it is filed, and each index has each node
  pub record IsKept (s : Parts R E) : Type 0 where
    pub filed : IsFiled s
    pub held : AreHeld s

-- there is a sequence of this number
pub record IsSequence {R E : Type 0} (s : Parts R E) (k : ℕ) : Type 0 where
  pub index : k < length (specs_of s)
  pub kind : IsTrue (is_sequence_kind (kind_at s k))
