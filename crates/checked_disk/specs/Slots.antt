-- Which slot of a mark is put next.
use Rattle.std.specs.Prelude.{◌≡◌, ℕ, ◌≤◌, List, Some}
use Rattle.checked_log.specs.Mark.{slot_mark}
use Rattle.checked_log.specs.declared.recovery.Link.{Link}
use Rattle.checked_disk.specs.Files.{other_slot, slot_at}

-- the slot at a place tells no mark, or the other one tells one of a write that is no earlier
abbrev pub IsOlderSlot : List ℕ → ℕ → Type 0
IsOlderSlot mark at =
    (m : Link) → slot_mark (slot_at at mark) ≡ Some m → (n : Link) × (slot_mark (slot_at (other_slot at) mark) ≡ Some n) × (m.number ≤ n.number)

-- the slot at a place tells no mark of a later write than this
abbrev pub TellsNoLater : List ℕ → ℕ → ℕ → Type 0
TellsNoLater mark at number = (m : Link) → slot_mark (slot_at at mark) ≡ Some m → m.number ≤ number
