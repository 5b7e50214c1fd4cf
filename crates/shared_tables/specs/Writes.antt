-- The writes that a pass keeps, with their answers in one list of bytes.
use Rattle.std.specs.Prelude.{ℕ, ◌+◌, ◌≤◌, List, map, take, drop}
use Rattle.shared_tables.specs.Journal.{AnsweredData}
use Rattle.shared_tables.specs.declared.writes.Written.{Written}

-- what a clause sees of them: the writes, and for how many writes and bytes more there is room
pub record WritesData : Type 0 where
  pub items : List AnsweredData
  pub rows : ℕ
  pub bytes : ℕ

-- its answer is among so many bytes
abbrev pub IsWithin : ℕ → Written → Type 0
IsWithin count w = w.start + w.length ≤ count

-- a write, and all, with their answers among these bytes
abbrev pub answered_of : List ℕ → Written → AnsweredData
answered_of bytes w = record { number = w.number; command = w.command.value; answer = take w.length (drop w.start bytes) }

abbrev pub answered_in : List ℕ → List Written → List AnsweredData
answered_in bytes rows = map (answered_of bytes) rows
