-- What a start makes of the files of a table.
use Rattle.std.specs.Prelude.{◌≡◌, ◌≢◌, ℕ, Option, None, Ok}
use Rattle.std.specs.Option.{option_map_or}
use Rattle.checked_log.specs.Mark.{marks_of}
use Rattle.checked_log.specs.Recover.{recovered_of}
use Rattle.checked_log.specs.declared.mark.Marks.{Marks}
use Rattle.checked_log.specs.declared.recovery.Recovered.{Recovered}
use Rattle.table_folder.specs.Base.{state_in}
use Rattle.table_folder.specs.Disk.{Image}
use Rattle.table_folder.specs.Found.{Declared}
use Rattle.table_folder.specs.Opened.{bytes_in}
use Rattle.table_folder.specs.StateIn.{IsReadOf}
use Rattle.table_folder.specs.declared.base.Base.{Base}
use Rattle.table_folder.specs.declared.name.FileName.TheVariants.{Declaration, Log, Mark, State}
use Rattle.table_schema.specs.Shape.{TableShape}
use Rattle.table_terms.specs.Table.{TableState, new_table}

-- a log of the empty table is there where the table is declared
abbrev pub IsThereWhereDeclared : Option ℕ → Image → Type 0
IsThereWhereDeclared state files = state ≡ None → files Declaration ≢ None → files (Log None) ≢ None

-- the table that a log goes on from
abbrev pub start_of : TableShape → Option TableState → TableState
start_of shape table = option_map_or (λ t. t) table (new_table shape)

-- What is found in these files: the state, the mark, and the log that recovery opens beside it.
pub record IsFoundIn (d : Declared) (files : Image) (base : Base) (table : Option TableState) (marks : Marks) (recovered : Recovered) : Type 0 where
  pub state : IsReadOf d (files State) base table
  pub mark : marks ≡ marks_of (bytes_in (files Mark))
  pub opens : recovered_of base.link marks.mark (bytes_in (files (Log (state_in base)))) ≡ Ok recovered
  pub there : IsThereWhereDeclared (state_in base) files
