-- What is kept of a log while its files are closed.
use Rattle.std.specs.Prelude.{ℕ, ◌≤◌, false, List, length}
use Rattle.checked_log.specs.Whole.{ended, whole}
use Rattle.checked_disk.specs.Kept.{IsKept}
use Rattle.checked_disk.specs.Stands.{sure_text}
use Rattle.checked_disk.specs.declared.disk.Log.{Log}
use Rattle.checked_disk.specs.declared.kept.Kept.{Kept}

-- It tells of the whole log of these bytes, and the lines before its tail are durable.
pub record IsKeptOf (bytes : List ℕ) (kept : Kept) : Type 0 where
  pub lines : IsKept kept.base bytes kept.log.last kept.log.end kept.log.size
  pub sure : kept.tail ≤ length (sure_text kept.base (whole kept.base (ended bytes)) kept.log.durable)

-- of files that were opened again nothing is known to be synced by this process
abbrev pub unsettled : Log → Log
unsettled log = record log { is_settled = false; synced = 0 }
