-- Logs that are synced.
use Rattle.std.specs.Prelude.{◌≡◌, ◌⊎◌, ℕ, ◌<◌, ◌≤◌, List, length, if◌then◌else◌, Some, Result, Ok, Err, slice_get, slice_set}
use Rattle.table_log.specs.Logged.{LogData, failed_log, synced_log}
use Rattle.table_log.specs.declared.fault.Over.{Over}

-- all bytes of the log are synced: they were so before, or else a sync was made
abbrev pub IsSynced : LogData → LogData → Type 0
IsSynced old new = ((old.size ≤ old.synced) × (new ≡ old)) ⊎ (new ≡ synced_log old)

-- the log could not be synced, now or before
abbrev pub IsUnsynced : LogData → LogData → Type 0
IsUnsynced old new = new ≡ (if old.is_over then old else failed_log old)

abbrev pub SyncsOne : Result (Unit {0}) Over → LogData → LogData → Type 0
SyncsOne (Ok x) old new = IsSynced old new
SyncsOne (Err why) old new = IsUnsynced old new

-- the logs before a place are synced, and the others are as before
pub record SyncsFront (place : ℕ) (olds news : List LogData) : Type 0 where
  pub size : length news ≡ length olds
  pub synced : (k : ℕ) (old : LogData) → k < place → slice_get olds k ≡ Some old → (new : LogData) × (slice_get news k ≡ Some new) × IsSynced old new
  pub kept : (k : ℕ) → place ≤ k → slice_get news k ≡ slice_get olds k

-- the logs before a place are synced, and the one at it can't be
pub record StopsAt (olds news : List LogData) : Type 0 where
  pub place : ℕ
  pub mid : List LogData
  pub front : SyncsFront place olds mid
  pub old : LogData
  pub new : LogData
  pub at : slice_get olds place ≡ Some old
  pub stopped : IsUnsynced old new
  pub news_are : news ≡ slice_set mid place new

-- all logs are synced, or those before one that can't be
abbrev pub Syncs : Result (Unit {0}) Over → List LogData → List LogData → Type 0
Syncs (Ok x) olds news = SyncsFront (length olds) olds news
Syncs (Err why) olds news = StopsAt olds news
