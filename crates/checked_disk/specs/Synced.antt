-- Which lines a log's synced bytes are.
use Rattle.std.specs.Prelude.{◌≡◌, ℕ, ◌-◌, ◌≤◌, List, length, take, Option, Some}
use Rattle.checked_log.specs.Whole.{ended, whole}
use Rattle.checked_log.specs.declared.recovery.Link.{Link}
use Rattle.checked_disk.specs.Plain.{plain_lines}
use Rattle.checked_disk.specs.declared.disk.Log.{Log}

-- So many first bytes of the plain lines are known to be synced: they are those of lines that are known to be durable.
abbrev pub SyncedAreDurable : Link → Option (List ℕ) → Log → Type 0
SyncedAreDurable base contents log =
    (bytes : List ℕ) → contents ≡ Some bytes → log.synced ≤ length (plain_lines (take (log.durable - base.number) (whole base (ended bytes))))
