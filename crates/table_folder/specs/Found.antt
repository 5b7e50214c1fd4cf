-- The table that a start finds in the files of a folder.
use Rattle.std.specs.Prelude.{◌≡◌, ◌≢◌, ◌<◌, ◌^◌, ℕ, false, List, Option, Some, None, Ok}
use Rattle.checked_disk.specs.Plain.{plain_text}
use Rattle.checked_log.specs.Mark.{marks_of}
use Rattle.checked_log.specs.Recover.{recovered_of}
use Rattle.checked_log.specs.declared.recovery.Link.{Link}
use Rattle.checked_log.specs.declared.recovery.Recovered.{Recovered}
use Rattle.table_folder.specs.Disk.{Image}
use Rattle.table_folder.specs.Ended.{is_later, log_judged}
use Rattle.table_folder.specs.Opened.{bytes_in}
use Rattle.table_folder.specs.StateFile.{state_file}
use Rattle.table_folder.specs.declared.ended.OldLog.TheVariants.{Later}
use Rattle.table_folder.specs.declared.name.FileName.TheVariants.{Declaration, Log, Mark, State}
use Rattle.table_log.specs.Log.{replayed}
use Rattle.table_state.specs.Standing.{CanStand}
use Rattle.table_schema.specs.Shape.{TableShape}
use Rattle.table_terms.specs.Table.{IsOfSameTable, TableState, new_table}

-- a table's declaration, the types of its columns as a state's first line has them, and the digest of the declaration's text
pub record Declared : Type 0 where
  pub shape : TableShape
  pub types : List ℕ
  pub digest : ℕ

abbrev pub declared_as : TableShape → List ℕ → ℕ → Declared
declared_as shape types digest = record { shape = shape; types = types; digest = digest }

-- what a log goes on from: a table, its last write, and the number of the state that it is, if it is one
pub record Beginning : Type 0 where
  pub table : TableState
  pub link : Link
  pub state : Option ℕ

-- a table of this declaration, as many of whose writes were accepted
pub record IsTable (d : Declared) (t : TableState) (last : Link) : Type 0 where
  pub number : last.number ≡ t.records.writes
  pub digest : last.digest < 2 ^ 64
  pub stands : CanStand t
  pub same : IsOfSameTable t.shape d.shape

-- these bytes are the state of a table
pub record IsState (d : Declared) (bytes : List ℕ) (b : Beginning) : Type 0 where
  pub file : bytes ≡ state_file d.types b.link.digest b.table
  pub is_table : IsTable d b.table b.link
  pub number : b.state ≡ Some b.link.number

-- what a log goes on from where the state's file is this: that state, or the empty table where there is none
abbrev pub BeginsWith : Declared → Option (List ℕ) → Beginning → Type 0
BeginsWith d (Some bytes) b = IsState d bytes b
BeginsWith d None b = b ≡ record { table = new_table d.shape; link = record { number = 0; digest = d.digest }; state = None }

abbrev pub mark_in : Option (List ℕ) → Option Link
mark_in file = (marks_of (bytes_in file)).mark

-- recovery opens the log beside its mark, with this last write, and its writes lead to the table; no line stands behind the whole ones
pub record GoesOn (b : Beginning) (log mark : Option (List ℕ)) (t : TableState) (last : Link) : Type 0 where
  pub recovered : Recovered
  pub opens : recovered_of b.link (mark_in mark) (bytes_in log) ≡ Ok recovered
  pub is_last : recovered.last ≡ last
  pub leaves : replayed b.table (plain_text b.link (bytes_in log)) ≡ Some t

-- a log that begins elsewhere is behind no later state, and has no later writes: a start goes on
pub record IsBeside (d : Declared) (b : Beginning) (begin : Option ℕ) (bytes : List ℕ) : Type 0 where
  pub begins : is_later begin b.state ≡ false
  pub ends : log_judged d.digest begin bytes b.link ≢ Later

-- A start finds this table with this last write.
pub record Finds (d : Declared) (t : TableState) (last : Link) (files : Image) : Type 0 where
  pub from : Beginning
  pub begins : BeginsWith d (files State) from
  pub goes_on : GoesOn from (files (Log from.state)) (files Mark) t last
  pub is_table : IsTable d t last
  pub there : from.state ≡ None → files Declaration ≢ None → files (Log None) ≢ None
  pub beside : (begin : Option ℕ) (bytes : List ℕ) → begin ≢ from.state → files (Log begin) ≡ Some bytes → IsBeside d from begin bytes

-- the log that it goes on from has no later writes, also behind its whole lines, and a state of its last write is not there yet
pub record IsDue (d : Declared) (t : TableState) (last : Link) (files : Image) : Type 0 where
  pub finds : Finds d t last files
  pub not_later : log_judged d.digest finds.from.state (bytes_in (files (Log finds.from.state))) last ≢ Later
  pub older : finds.from.state ≢ Some last.number
