-- How handles are spelled: slot, colon and stamp.
use Rattle.std.specs.Prelude.{ℕ, ◌<◌, ◌^◌, List, [], ◌∷◌, codes, decimal}
use Rattle.container_model.specs.declared.handle.Handle.{Handle}
use Rattle.table_reply.specs.Buffer.{joined}

-- the numbers of a handle fit their types
abbrev pub HandleFits : Handle → Type 0
HandleFits h = (h.slot < 2 ^ 32) × (h.stamp < 2 ^ 64)

-- a handle's text: both numbers in decimal, with a colon between
unfoldable pub spelling : Handle → List ℕ
spelling h = joined (decimal h.slot ∷ codes ":" ∷ decimal h.stamp ∷ [])
