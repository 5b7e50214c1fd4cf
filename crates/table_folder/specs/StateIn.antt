-- What is read of a state's file.
use Rattle.std.specs.Prelude.{◌≡◌, ◌≢◌, ◌≤◌, ℕ, ◌-◌, List, ◌++◌, drop, length, take, Option, Some, None, option_map}
use Rattle.std.specs.Option.{option_map_or}
use Rattle.table_folder.specs.Base.{at_state, of_empty, state_in}
use Rattle.table_folder.specs.Found.{Beginning, Declared}
use Rattle.table_folder.specs.StateFile.{first_line, signed, state_file}
use Rattle.table_folder.specs.declared.base.Base.{Base}
use Rattle.table_folder.specs.declared.framing.Framed.{Framed}
use Rattle.table_schema.specs.Shape.{TableShape}
use Rattle.table_terms.specs.Table.{IsOfSameTable, TableState, new_table}

-- what stands from one place to another
abbrev pub part : ℕ → ℕ → List ℕ → List ℕ
part first end bytes = take (end - first) (drop first bytes)

-- the same, where the bytes are known
abbrev pub part_known : ℕ → ℕ → Option (List ℕ) → Option (List ℕ)
part_known first end bytes = option_map (part first end) bytes

-- behind so many bytes stands a last line with their digest, and this is the front of them
pub record IsFrame (first : ℕ) (bytes : List ℕ) (framed : Framed) : Type 0 where
  pub room : first ≤ framed.before
  pub within : framed.before ≤ length bytes
  pub ends : bytes ≡ signed (take framed.before bytes)
  pub line : framed.line.items ≡ take first bytes

-- so is a file framed that has so many bytes and more before its last line, and no other is
abbrev pub IsFramed : ℕ → List ℕ → Option Framed → Type 0
IsFramed first bytes (Some framed) = IsFrame first bytes framed
IsFramed first bytes None = (front : List ℕ) → first ≤ length front → bytes ≢ signed front

-- a file that has a state's first line with this digest and its last line, and between them this
abbrev pub IsFileOf : List ℕ → List ℕ → ℕ → List ℕ → Type 0
IsFileOf types bytes digest inner = bytes ≡ signed (first_line types digest ++ inner)

-- the table that a log goes on from is this one, of a state or the empty one
abbrev pub beginning_of : TableShape → Base → Option TableState → Beginning
beginning_of shape base table = record { table = option_map_or (λ t. t) table (new_table shape); link = base.link; state = state_in base }

-- these bytes are the state of a table, with which a log begins so
pub record IsStateOf (d : Declared) (bytes : List ℕ) (base : Base) (t : TableState) : Type 0 where
  pub file : bytes ≡ state_file d.types base.link.digest t
  pub same : IsOfSameTable t.shape d.shape
  pub at : base ≡ at_state d.digest (record { number = t.records.writes; digest = base.link.digest })

-- what is read of a state's file: its table, or that there is none
abbrev pub IsReadOf : Declared → Option (List ℕ) → Base → Option TableState → Type 0
IsReadOf d None base table = (base ≡ of_empty d.digest) × (table ≡ None)
IsReadOf d (Some bytes) base None = ⊥
IsReadOf d (Some bytes) base (Some t) = IsStateOf d bytes base t
