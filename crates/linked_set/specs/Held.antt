-- The records of a container that have not a key.
use Rattle.std.specs.Prelude.{ℕ, Bool, not}
use Rattle.std.specs.Ordering.{is_eq}
use Rattle.std.specs.declared.cmp.Ordering.{Ordering}
use Rattle.container_model.specs.declared.handle.Handle.{Handle}
use Rattle.container_model.specs.declared.handle.Entry.{Entry}
use Rattle.container_model.specs.State.{side_of}
use Rattle.index_set.specs.declared.parts.Parts.{Parts}
use Rattle.index_set.specs.Set.{keys_of, contents}
use Rattle.index_set.specs.declared.by_row.ByRow.{ByRow}
use Rattle.linked_set.specs.Linked.{entries_in}

-- whether the record of a handle has another key than this at an index
abbrev pub has_other_key : {E R P : Type 0} → (E → ℕ → R → P → Ordering) → Parts (Entry R) (ByRow E) → ℕ → P → Handle → Bool
has_other_key order set index probe h = not (is_eq (side_of (λ a. order (keys_of set).keys index a probe) (entries_in (contents set)) h))
