-- What a start finds of the bytes that a disk has synced.
use Rattle.std.specs.Prelude.{◌≡◌, ℕ, ◌≤◌, List, length, Some}
use Rattle.checked_log.specs.declared.recovery.Link.{Link}
use Rattle.table_engine.specs.Devices.{IsFront}
use Rattle.table_folder.specs.Disk.{Image}
use Rattle.table_folder.specs.Found.{Beginning, Declared, Finds}
use Rattle.table_log.specs.Log.{replayed}
use Rattle.table_terms.specs.Table.{TableState}

-- A start finds the table after a front of these plain lines, with its last write. The front has the first bytes, so many of them.
pub record FindsSynced (d : Declared) (from : Beginning) (bytes : List ℕ) (synced : ℕ) (image : Image) : Type 0 where
  pub front : List ℕ
  pub is_front : IsFront front bytes
  pub enough : synced ≤ length front
  pub table : TableState
  pub leave : replayed from.table front ≡ Some table
  pub last : Link
  pub finds : Finds d table last image
