-- How long a handle names its record.
use Rattle.std.specs.Prelude.{◌≡◌, ℕ, ◌≤◌, Bool, true, false, ◌&&◌, not, List, [], ◌∷◌, is_some, Some}
use Rattle.std.specs.Ordering.{is_eq}
use Rattle.std.specs.declared.cmp.Ordering.{Ordering}
use Rattle.container_model.specs.declared.handle.Handle.{Handle}
use Rattle.container_model.specs.State.{State, is_handle}
use Rattle.container_model.specs.Find.{is_live, probe_side}
use Rattle.container_model.specs.Insert.{At, ban, with_inserted}
use Rattle.container_model.specs.Change.{with_replaced, with_modified, with_erased, with_key_erased, cleared}
use Rattle.container_model.specs.Sequence.{with_relocated, with_reversed, with_sorted, with_list}
use Rattle.container_model.specs.Undone.{with_modified_or_undone}
use Rattle.container_model.specs.Indices.{with_index, without_index}
use Rattle.container_model.specs.declared.handle.Spec.{Spec}

-- a write of a container, with keys of `E`, records of `R` and search keys of `P`
pub data Write (E R P : Type 0) : Type 0 where
  Inserted : (at : At) (row : R) → Write E R P
  Replaced : (h : Handle) (row : R) → Write E R P
  Modified : (h : Handle) (row : R) → Write E R P
  ModifiedOrUndone : (h : Handle) (change undo : R → R) → Write E R P
  Erased : (h : Handle) → Write E R P
  KeyErased : (index : ℕ) (probe : P) → Write E R P
  Cleared : Write E R P
  Relocated : (index place : ℕ) (h : Handle) → Write E R P
  Reversed : (index : ℕ) → Write E R P
  Sorted : (compare : R → R → Ordering) (index : ℕ) → Write E R P
  Rearranged : (index : ℕ) (handles : List Handle) → Write E R P
  IndexAdded : (spec : Spec) (keys : E) → Write E R P
  IndexDropped : (index : ℕ) (keys : E) → Write E R P

module _ {E R P : Type 0} (order : E → ℕ → R → R → Ordering) (probe_order : E → ℕ → R → P → Ordering) where
  -- the container after a write
  abbrev pub after : State E R → Write E R P → State E R
  after s (Inserted at row) = with_inserted order s at row
  after s (Replaced h row) = with_replaced order s h row
  after s (Modified h row) = with_modified order s h row
  after s (ModifiedOrUndone h change undo) = with_modified_or_undone order s h change undo
  after s (Erased h) = with_erased s h
  after s (KeyErased index probe) = with_key_erased probe_order s index probe
  after s Cleared = cleared s
  after s (Relocated index place h) = with_relocated s index place h
  after s (Reversed index) = with_reversed s index
  after s (Sorted compare index) = with_sorted compare s index
  after s (Rearranged index handles) = with_list s index handles
  after s (IndexAdded spec keys) = with_index order s spec keys
  after s (IndexDropped index keys) = without_index s index keys

  -- and after one write after another
  abbrev pub after_all : State E R → List (Write E R P) → State E R
  after_all s [] = s
  after_all s (w ∷ ws) = after_all (after s w) ws

  -- whether a write takes out the record of a handle: it is erased, has the key that is erased, is cleared, or is lost to a ban
  abbrev pub takes_out : State E R → Write E R P → Handle → Bool
  takes_out s (Inserted at row) g = false
  takes_out s (Replaced h row) g = false
  takes_out s (Modified h row) g = is_some (ban order s (Some h) row) && is_handle h g
  takes_out s (ModifiedOrUndone h change undo) g = false
  takes_out s (Erased h) g = is_handle h g
  takes_out s (KeyErased index probe) g = is_eq (probe_side probe_order s index probe g)
  takes_out s Cleared g = true
  takes_out s (Relocated index place h) g = false
  takes_out s (Reversed index) g = false
  takes_out s (Sorted compare index) g = false
  takes_out s (Rearranged index handles) g = false
  takes_out s (IndexAdded spec keys) g = false
  takes_out s (IndexDropped index keys) g = false

  -- a live handle stays live until a write takes out its record
  abbrev pub LivesUntilTakenOut : State E R → Type 0
  LivesUntilTakenOut s = (w : Write E R P) (h : Handle) → is_live s h ≡ true → is_live (after s w) h ≡ not (takes_out s w h)

  -- a stale handle of a write that was made stays stale, whatever is written
  abbrev pub StaysStale : State E R → Type 0
  StaysStale s = (ws : List (Write E R P)) (h : Handle) → h.stamp ≤ s.writes → is_live s h ≡ false → is_live (after_all s ws) h ≡ false

-- a live handle is of a write that was made
abbrev pub IsOfPastWrite : {E R : Type 0} → State E R → Type 0
IsOfPastWrite s = (h : Handle) → is_live s h ≡ true → h.stamp ≤ s.writes
