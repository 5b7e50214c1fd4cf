-- What a change of a record tells.
use Rattle.std.specs.Prelude.{ℕ, Option, Some, None}
use Rattle.container_model.specs.declared.handle.Handle.{Handle}
use Rattle.linked_set.specs.declared.modify.Modified.{Modified}
use Rattle.linked_set.specs.declared.modify.Modified.TheVariants.{Kept, Erased}

-- that it stays, or the changed row that is lost, with the unique index in which another record has its key, and that record
abbrev pub told : {R : Type 0} → Option (ℕ × Handle) → R → Modified R
told None row = Kept
told (Some at) row = Erased row at.0 at.1
