-- What a crash may leave of a log.
use Rattle.std.specs.Prelude.{◌≡◌, ℕ, ◌≤◌, List, ◌++◌, length, take, replicate}
use Rattle.table_engine.specs.Devices.{IsFront}
use Rattle.table_step.specs.Step.{TableState}
use Rattle.table_log.specs.Log.{IsLoaded, whole_lines}

-- A crash may leave any front of the bytes that has at least the synced ones, and zeros behind it.
pub record MayLeave (bytes : List ℕ) (synced : ℕ) (left : List ℕ) : Type 0 where
  pub front : List ℕ
  pub lost : List ℕ
  pub zeros : ℕ
  pub whole : front ++ lost ≡ bytes
  pub has_synced : synced ≤ length front
  pub is_left : left ≡ front ++ replicate zeros 0

-- What is left loads. Its lines are the first of the log's, and all that were whole in the synced bytes are among them.
pub record KeepsSynced (start : TableState) (bytes : List ℕ) (synced : ℕ) (left : List ℕ) : Type 0 where
  pub kept : List ℕ
  pub table : TableState
  pub loaded : IsLoaded start left kept table
  pub invents_none : IsFront (whole_lines left) (whole_lines bytes)
  pub loses_none : (n : ℕ) → n ≤ synced → IsFront (whole_lines (take n bytes)) (whole_lines left)
