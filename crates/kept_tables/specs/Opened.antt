-- Logs of a folder once they are opened.
use Rattle.std.specs.Prelude.{◌≡◌, false}
use Rattle.table_log.specs.Logged.{LogData}

-- all of the log is synced, its disk never failed, and it is not over
pub record IsOpened (log : LogData) : Type 0 where
  pub synced : log.synced ≡ log.size
  pub failures : log.failures ≡ 0
  pub works : log.is_over ≡ false
