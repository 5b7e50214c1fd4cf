-- A log that was read, before anything of its disk is changed.
use Rattle.std.specs.Prelude.{◌≡◌, ◌-◌, ◌≤◌, ℕ, List, length, take, false, option_map, Option, Some}
use Rattle.table_schema.specs.Shape.{TableShape}
use Rattle.table_step.specs.Step.{TableState, new_table}
use Rattle.table_log.specs.Log.{IsLoaded, begun}
use Rattle.table_log.specs.Logged.{LogData}

-- what a clause sees of it: the declaration of the empty table that the log begins with, unless it begins with another table, the table that its
-- whole lines leave, how many bytes stand behind them, and of its disk the bytes where they are known, how many they are, how many of them are
-- synced, and how often it failed
pub record LoadedData : Type 0 where
  pub declared : Option TableShape
  pub table : TableState
  pub torn : ℕ
  pub bytes : Option (List ℕ)
  pub size : ℕ
  pub synced : ℕ
  pub failures : ℕ

-- The whole lines leave the table, and so many bytes stand behind them.
pub record IsReplayed (start : TableState) (bytes : List ℕ) (torn : ℕ) (table : TableState) : Type 0 where
  pub behind : torn ≡ length (begun bytes)
  pub loaded : IsLoaded start bytes (take (length bytes - torn) bytes) table

-- The table is what the whole lines leave of the one that the log begins with.
pub record IsReady (log : LoadedData) : Type 0 where
  pub start : TableState
  pub is_empty : (shape : TableShape) → log.declared ≡ Some shape → start ≡ new_table shape
  pub within : log.torn ≤ log.size
  pub replayed : (bytes : List ℕ) → log.bytes ≡ Some bytes → IsReplayed start bytes log.torn log.table

-- it begins with the empty table of this declaration, or with another, and its disk is as it was
pub record IsUntouched (declared : Option TableShape) (bytes : Option (List ℕ)) (size synced failures : ℕ) (log : LoadedData) : Type 0 where
  pub begins : log.declared ≡ declared
  pub same_bytes : log.bytes ≡ bytes
  pub same_size : log.size ≡ size
  pub same_synced : log.synced ≡ synced
  pub same_failures : log.failures ≡ failures

-- the log once what stands behind its whole lines is cut off, and the rest synced
abbrev pub settled_log : LoadedData → LogData
settled_log log =
    let size = log.size - log.torn in
    record { declared = log.declared; table = log.table; bytes = option_map (take size) log.bytes; size = size; synced = size; failures = log.failures; is_over = false }
