-- What is known of a log's files between two calls, and what a call keeps of it.
use Rattle.std.specs.Prelude.{◌≡◌, ℕ, ◌≤◌, List, [], Option, Some, None}
use Rattle.checked_log.specs.Line.{Entry}
use Rattle.checked_log.specs.Safe.{IsServed}
use Rattle.checked_log.specs.Whole.{ended, whole}
use Rattle.checked_log.specs.declared.recovery.Link.{Link}
use Rattle.checked_disk.specs.Files.{AllLeft, IsSlot, LeavesOnly, Left}
use Rattle.checked_disk.specs.Stands.{Stands, StandsFrom}
use Rattle.checked_disk.specs.declared.disk.CheckedDisk.{CheckedDisk}
use Rattle.checked_disk.specs.declared.files.LogFiles.{Ghosts}

-- the lines of a log whose bytes are known
abbrev pub entries_of : Link → Option (List ℕ) → List Entry
entries_of base None = []
entries_of base (Some bytes) = whole base (ended bytes)

-- Whatever a crash leaves has the lines of these bytes up to a number, and none of them, and no mark, tells more as durable.
pub record IsSure (base : Link) (bytes : List ℕ) (synced : ℕ) (may_leave : Left → Type 0) : Type 0 where
  pub served : IsServed base None (whole base (ended bytes)) synced
  pub each : AllLeft may_leave (Stands base (whole base (ended bytes)) synced)

-- The log's bytes are known, and its lines are sure up to a number.
pub record IsSafe (base : Link) (contents : Option (List ℕ)) (next durable synced : ℕ) (may_leave : Left → Type 0) : Type 0 where
  pub bytes : List ℕ
  pub known : contents ≡ Some bytes
  pub slot : IsSlot next
  pub enough : durable ≤ synced
  pub sure : IsSure base bytes synced may_leave

-- so it is between two calls
abbrev pub IsSafeAt : {F : Type 0} {G : Ghosts F} → ℕ → CheckedDisk F G → Type 0
IsSafeAt {F} {G} synced d = IsSafe d.texts.base (G.contents d.disk.files) d.next d.log.durable synced (G.may_leave d.disk.files)

-- Up to whatever number the lines were sure before a call, a crash at any moment of it leaves those, and behind it they still are.
abbrev pub KeepsSure : {F : Type 0} {G : Ghosts F} → CheckedDisk F G → CheckedDisk F G → Type 0
KeepsSure {F} {G} old new =
    (synced : ℕ) → IsSafeAt synced old
    → LeavesOnly G.moment G.left_since old.disk.files new.disk.files (StandsFrom old.texts.base (entries_of old.texts.base (G.contents old.disk.files)) synced)
    × ((n : ℕ) × (synced ≤ n) × IsSafeAt n new)

-- and then they are sure up to the last
abbrev pub MakesSure : {F : Type 0} {G : Ghosts F} → CheckedDisk F G → CheckedDisk F G → Type 0
MakesSure old new = (synced : ℕ) → IsSafeAt synced old → IsSafeAt old.log.last.number new
