-- What a reader of a log makes of further bytes.
use Rattle.std.specs.Prelude.{◌≡◌, ℕ, List, ◌++◌}
use Rattle.checked_log.specs.Cuts.{Lacks}
use Rattle.table_folder.specs.Ended.{ended_of}
use Rattle.table_folder.specs.declared.reading.LogReader.{LogReader}

-- A reader was given these bytes, and has still to take the last of them. Whatever follows, it says what all of them and what follows say.
pub record Takes (old : LogReader) (piece left : List ℕ) (new : LogReader) : Type 0 where
  pub lacks : Lacks 10 new.line.items
  pub ended : (rest : List ℕ) → ended_of old.ended (old.line.items ++ (piece ++ rest)) ≡ ended_of new.ended (new.line.items ++ (left ++ rest))
