-- The container that is seen in a set with other entries and lists.
use Rattle.std.proofs.Common.{◌≡◌, ℕ, ◌+◌, Bool, List, map}
use Rattle.std.specs.Prelude.{filter}
use Rattle.std.specs.declared.cmp.Ordering.{Ordering}
use Rattle.container_model.specs.declared.handle.Handle.{Handle}
use Rattle.container_model.specs.declared.handle.Entry.{Entry}
use Rattle.container_model.specs.declared.handle.Spec.{Spec}
use Rattle.container_model.specs.State.{State}
use Rattle.container_model.specs.Change.{with_only, settled_from, with_replaced, with_row}
use Rattle.index_set.specs.declared.parts.Parts.{Parts}
use Rattle.index_set.specs.Set.{specs_of, contents, record_of, lists_of, IsOfSame, keys_of}
use Rattle.index_set.specs.declared.by_row.ByRow.{ByRow}
use Rattle.linked_set.specs.Linked.{entries_in, handles_in}
use Rattle.linked_set.specs.Seen.{seen}

-- the container of these parts
abbrev pub state_with : {E R : Type 0} → ℕ → ℕ → ℕ → E → List Spec → List (Entry R) → List (List Handle) → State E R
state_with most max writes keys specs entries lists = record { keys = keys; specs = specs; most = most; max = max; writes = writes; entries = entries; lists = lists }

module _ {E R : Type 0} (old new : Parts (Entry R) (ByRow E)) (keep : Handle → Bool) (max writes : ℕ)
    (same : IsOfSame old new) (entries : entries_in (contents new) ≡ filter (λ e. keep e.handle) (entries_in (contents old)))
    (lists : handles_in (record_of new) (lists_of new) ≡ map (λ list. filter keep list) (handles_in (record_of old) (lists_of old))) where
  -- the container is the one with those records alone that are kept
  pub seen_only : seen new max (writes + 1) ≡ with_only keep (seen old max writes)
  seen_only = λ i. state_with (same.columns i) max (writes + 1) (same.keys i).keys (same.specs i) (entries i) (lists i)

module _ {E R : Type 0} (order : E → ℕ → R → R → Ordering) (old new : Parts (Entry R) (ByRow E)) (h : Handle) (row : R) (max writes : ℕ) (same : IsOfSame old new) (entries : entries_in (contents new) ≡ with_row h row (entries_in (contents old)))
    (lists : handles_in (record_of new) (lists_of new) ≡ settled_from (order (keys_of old).keys) (entries_in (contents old)) h row 0 (specs_of old) (handles_in (record_of old) (lists_of old))) where
  -- the container is the one with the row changed
  pub seen_replaced : seen new max (writes + 1) ≡ with_replaced order (seen old max writes) h row
  seen_replaced = λ i. state_with (same.columns i) max (writes + 1) (same.keys i).keys (same.specs i) (entries i) (lists i)
