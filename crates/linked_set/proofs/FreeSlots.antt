-- The least free slot of a table of slots is that of the records that lie in it.
use Rattle.std.proofs.Common.{◌≡◌, ◌↔◌, ℕ, zero, suc, ◌+◌, ◌<◌, ◌≤◌, Bool, true, false, cond, List, length, Option, None, refl, sym, below_more, arith}
use Rattle.container_model.specs.declared.handle.Entry.{Entry}
use Rattle.container_model.specs.Insert.{is_free, free_slot, free_slot_from}
use Rattle.container_model.proofs.FreeSlot.{free_slot-is_free}
use Rattle.slot_table.specs.Slots.{item_at, first_free}
use Rattle.slot_table.proofs.Laws.{first_free_unique}

module _ {R : Type 0} (entries : List (Entry R)) where
  taken_from : (slot more : ℕ) → ((k : ℕ) → k < slot → is_free entries k ≡ false) → (k : ℕ) → k < free_slot_from entries slot more → is_free entries k ≡ false
  taken_from slot zero taken = taken
  taken_from slot (suc more) taken =
      by_here (is_free entries slot) refl (λ e. taken_from (slot + 1) more (below_more _ _ taken e))
    where
      by_here : (b : Bool) → is_free entries slot ≡ b → (is_free entries slot ≡ false → (k : ℕ) → k < free_slot_from entries (slot + 1) more → is_free entries k ≡ false) → (k : ℕ) → k < cond b slot (free_slot_from entries (slot + 1) more) → is_free entries k ≡ false
      by_here true e rest = taken
      by_here false e rest = rest e

  -- each slot before the free one is taken
  pub below-free_slot : (k : ℕ) → k < free_slot entries → is_free entries k ≡ false
  below-free_slot = taken_from 0 (length entries) (λ k lt. absurd (omega arith))

  at_most : (slot more : ℕ) → free_slot_from entries slot more ≤ slot + more
  at_most slot zero = omega arith
  at_most slot (suc more) = by_here (is_free entries slot) (at_most (slot + 1) more)
    where
      by_here : (b : Bool) → free_slot_from entries (slot + 1) more ≤ (slot + 1) + more → cond b slot (free_slot_from entries (slot + 1) more) ≤ slot + suc more
      by_here true h = omega arith
      by_here false h = omega arith

  -- it is at most as high as there are records
  pub free_slot-le-length : free_slot entries ≤ length entries
  free_slot-le-length = omega (arith, at_most 0 (length entries))

  pub free_slot-first_free : {T : Type 0} (items : List (Option T)) → ((slot : ℕ) → (item_at items slot ≡ None) ↔ (is_free entries slot ≡ true)) → free_slot entries ≡ first_free items
  free_slot-first_free items same =
      sym (first_free_unique items (free_slot entries)
      ((same (free_slot entries)).1 (free_slot-is_free entries))
      (λ k lt free. let e = (same k).0 free in let no = below-free_slot k lt in cc))
