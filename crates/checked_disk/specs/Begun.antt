-- A sync that goes on beside the calls.
use Rattle.std.specs.Prelude.{◌≡◌, ◌⊎◌, ℕ, ◌≤◌, List, ◌++◌, length, take, Option, Some, Result, Ok, Err}
use Rattle.checked_log.specs.Chain.{Chained, log_text}
use Rattle.checked_log.specs.Line.{Entry}
use Rattle.checked_log.specs.Whole.{last_link}
use Rattle.checked_log.specs.declared.recovery.Link.{Link}
use Rattle.checked_disk.specs.Kept.{IsKept}
use Rattle.checked_disk.specs.declared.disk.Log.{Log}

-- These bytes begin with a chain of lines whose last write is this.
pub record HasLines (base : Link) (bytes : List ℕ) (last : Link) : Type 0 where
  pub entries : List Entry
  pub rest : List ℕ
  pub chain : Chained base entries
  pub front : bytes ≡ log_text entries ++ rest
  pub is_last : last ≡ last_link base entries

-- They begin with the lines that a log had, and those are whole.
pub record HadLines (base : Link) (bytes : List ℕ) (log : Log) : Type 0 where
  pub within : log.end ≤ length bytes
  pub kept : IsKept base (take log.end bytes) log.last log.end log.size

-- the same of known bytes, once a sync was begun
abbrev pub IsBegun : Link → Option (List ℕ) → Option Log → Type 0
IsBegun base contents begun = (log : Log) → begun ≡ Some log → (bytes : List ℕ) → contents ≡ Some bytes → HadLines base bytes log

-- what a sync counts that was begun: all that the log had then, or nothing
abbrev pub CountsBegun : {E : Type 0} → Result (Unit {0}) E → Option Log → Log → Log → Type 0
CountsBegun (Ok x) begun log then = (then ≡ log) ⊎ ((was : Log) × (begun ≡ Some was) × (then ≡ record log { durable = was.last.number; synced = was.size }))
CountsBegun (Err e) begun log then = then ≡ log
