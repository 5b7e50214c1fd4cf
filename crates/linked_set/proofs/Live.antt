-- Handles that name a record, and those that name none.
use Rattle.key_extract.specs.Digests.{Marks}
use Rattle.std.proofs.Common.{◌≡◌, ℕ, Bool, true, false, List, Option, Some, None, refl, ap}
use Rattle.std.specs.Prelude.{IsTrue, not, is_some}
use Rattle.std.specs.declared.cmp.Ordering.{Ordering}
use Rattle.container_model.specs.declared.handle.Entry.{Entry}
use Rattle.container_model.specs.declared.handle.Handle.{Handle}
use Rattle.container_model.specs.State.{is_handle, row_of}
use Rattle.node_store.specs.declared.Node.{Node}
use Rattle.slot_table.specs.Slots.{item_at}
use Rattle.index_set.specs.declared.parts.Parts.{Parts}
use Rattle.index_set.specs.Set.{store_of, contents, record_of}
use Rattle.index_set.specs.declared.by_row.ByRow.{ByRow}
use Rattle.linked_set.specs.Linked.{handle_of, entries_in}
use Rattle.linked_set.specs.Seen.{IsLinked}
use Rattle.linked_set.proofs.Contents.{has_record}
use Rattle.linked_set.proofs.LeadsTo.{row_of_live, row_of_stale, row_of_free}

is_not : (b : Bool) → IsTrue (not b) → b ≡ false
is_not false h = refl
is_not true h = cc

module _ {E R : Type 0} {has_key : E → ℕ → Bool} {order : E → ℕ → R → R → Ordering} {marks : E → ℕ → R → Marks} (set : Parts (Entry R) (ByRow E)) (slots : List (Option Node)) (linked : IsLinked has_key order marks set slots) (h : Handle) where
  abbrev handle : Node → Handle
  handle = handle_of (record_of set)

  abbrev entries : List (Entry R)
  entries = entries_in (contents set)

  -- a handle that its slot's node does not have names no record
  pub none_seen : ((n : Node) → item_at slots h.slot ≡ Some n → IsTrue (not (is_handle h (handle n)))) → row_of entries h ≡ None
  none_seen none =
      elim (item_at slots h.slot) as (λ (o : Option Node). item_at slots h.slot ≡ o → row_of entries h ≡ None) [
        | None ↦ λ free. row_of_free (store_of set) slots linked.sound.nodes linked.leads h free
        | Some n ↦ λ at. row_of_stale (store_of set) slots linked.sound.nodes linked.leads h n at (is_not _ (none n at))
      ] refl

  pub stale_seen : ((n : Node) → item_at slots h.slot ≡ Some n → IsTrue (not (is_handle h (handle n)))) → is_some (row_of entries h) ≡ false
  stale_seen none = ap is_some (none_seen none)

  module _ (n : Node) (at : item_at slots h.slot ≡ Some n) (named : is_handle h (handle n) ≡ true) where
    -- the handle names a record
    pub live_seen : is_some (row_of entries h) ≡ true
    live_seen =
        let p = has_record (store_of set) n (linked.leads.slot_of h.slot n at).0 in
        ap is_some (row_of_live (store_of set) slots linked.sound.nodes linked.leads linked.apart h n p.0 at named p.1)
