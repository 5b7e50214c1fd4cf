-- What the files of an older program leave.
use Rattle.std.specs.Prelude.{◌≡◌, ℕ, List, Option, Some, None}
use Rattle.table_folder.specs.declared.older.Older.{Older}
use Rattle.table_folder.specs.declared.older.Older.TheVariants.{State, Table}
use Rattle.table_log.specs.Loaded.{IsReplayed}
use Rattle.table_terms.specs.Table.{TableState}

-- the number of the state that takes the place of the files
abbrev pub number_of : Older → ℕ
number_of (Table t) = t.records.writes
number_of (State number) = number

-- the table that a log of these bytes leaves of the one that it begins with: that one itself, where there is no log
abbrev pub IsLeftBy : TableState → Option (List ℕ) → TableState → Type 0
IsLeftBy start None table = table ≡ start
IsLeftBy start (Some bytes) table = (torn : ℕ) × IsReplayed start bytes torn table
