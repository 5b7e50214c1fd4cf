-- Slots numbered from 0, each of which has an item or is free.
use Rattle.std.specs.Prelude.{ℕ, zero, suc, ◌<◌, List, [], ◌∷◌, Option, None, slice_index_or}
use Rattle.std.specs.Option.{is_none}
use Rattle.std.specs.List.{position_or_len}

-- what lies in the slots, from the first on, and how many slots there is memory for
pub record Slots (T : Type 0) : Type 0 where
  pub items : List (Option T)
  pub capacity : ℕ

-- what lies in a slot; those past the end are free
abbrev pub item_at : {T : Type 0} → List (Option T) → ℕ → Option T
item_at items slot = slice_index_or items slot None

-- the least free slot
abbrev pub first_free : {T : Type 0} → List (Option T) → ℕ
first_free items = position_or_len is_none items

-- the slots with this in the slot, and free slots before it where there were none yet
abbrev pub with_item : {T : Type 0} → List (Option T) → ℕ → Option T → List (Option T)
with_item [] zero item = item ∷ []
with_item [] (suc slot) item = None ∷ with_item [] slot item
with_item (x ∷ items) zero item = item ∷ items
with_item (x ∷ items) (suc slot) item = x ∷ with_item items slot item

-- one more slot can be taken without memory
abbrev pub HasRoom : {T : Type 0} → Slots T → Type 0
HasRoom slots = first_free slots.items < slots.capacity
