-- What a clause sees of a pass.
use Rattle.std.specs.Prelude.{ℕ, List, [], map, replicate, Option, None}
use Rattle.std.specs.List.{range_with_len}
use Rattle.shared_tables.specs.Journal.{AnsweredData}

-- of one table: the session's accepted writes, the number of writes that it saw, and its last look
pub record TrackData : Type 0 where
  pub writes : List AnsweredData
  pub seen : ℕ
  pub look : Option AnsweredData

abbrev pub fresh : TrackData
fresh = record { writes = []; seen = 0; look = None }

pub record PassData : Type 0 where
  pub session : ℕ
  pub tracks : List TrackData

-- a pass of a session that was answered nothing yet in so many tables
abbrev pub fresh_pass : ℕ → ℕ → PassData
fresh_pass tables session = record { session = session; tracks = replicate tables fresh }

-- one for each session
abbrev pub fresh_passes : ℕ → ℕ → List PassData
fresh_passes tables workers = map (fresh_pass tables) (range_with_len 0 workers)
