-- What each call of a C program does to what its handle leads to.
use Rattle.std.specs.Prelude.{◌≡◌, ◌⊎◌, ℕ, Bool, false, ◌<◌, ◌≤◌, nat_le, List, [], ◌∷◌, ◌++◌, length, take, drop, map, slice_get, if◌then◌else◌, All, Option, None, Some, Result, Ok, Err}
use Rattle.std.specs.Bool.{MatchBool}
use Rattle.table_schema.specs.Shape.{TableShape}
use Rattle.table_schema.specs.declared.fault.SchemaFault.{SchemaFault}
use Rattle.table_schema.specs.declared.fault.SchemaFault.TheVariants as faults
use Rattle.table_reply.specs.Buffer.{Buffer, joined}
use Rattle.table_step.specs.Step.{new_table}
use Rattle.table_engine.specs.Lines.{short}
use Rattle.table_engine.specs.Run.{Machine, Run, Signal, Waits, bytes_of, end, ready_room}
use Rattle.kept_tables.specs.Lines.{EndsLine, TakesPiece}
use Rattle.kept_tables.specs.Opened.{IsOpened}
use Rattle.kept_tables.specs.Syncs.{Syncs}
use Rattle.kept_tables.specs.declared.stream.Stop.{Stop}
use Rattle.kept_tables.specs.declared.stream.StopWhy.{StopWhy}
use Rattle.kept_tables.specs.declared.stream.StopWhy.TheVariants as whys
use Rattle.kept_tables.specs.declared.fault.OpenFault.{OpenFault}
use Rattle.kept_tables.specs.declared.fault.OpenFault.TheVariants as opens
use Rattle.system_files.specs.declared.folder.TakeFault.{TakeFault}
use Rattle.system_files.specs.declared.folder.TakeFault.TheVariants as takes
use Rattle.table_log.specs.declared.fault.Over.{Over}
use Rattle.tables_c.specs.declared.handle.Handle.{Handle}
use Rattle.tables_c.specs.declared.held.Held.{Held}
use Rattle.tables_c.specs.declared.held.Side.{Side}
use Rattle.tables_c.specs.declared.held.Side.TheVariants as sides
use Rattle.tables_c.specs.declared.kept.Kept.{Kept}
use Rattle.tables_c.specs.declared.memory.Memory.{Memory}
use Rattle.tables_c.specs.declared.status.TheConstants.{OK, MEMORY, TOML, SHAPE, LIMIT, NAME, KEY, HANDLE, ROOM, DEVICE, TAKEN, OTHER, HURT, LOG}

-- what a handle leads to: tables with the answers that wait, or none
abbrev pub led : Handle → Option Held
led h = if h.is_open then Some h.value else None

-- ---- open

-- the status of a fault
abbrev pub number_of : SchemaFault → ℕ
number_of faults.Memory = MEMORY
number_of faults.Toml = TOML
number_of faults.Shape = SHAPE
number_of faults.Limit = LIMIT
number_of faults.Name = NAME
number_of faults.Key = KEY

-- the empty tables of a schema, and no line begun
pub record AreFresh (meant : Result (List TableShape) SchemaFault) (engine : Machine) : Type 0 where
  pub shapes : List TableShape
  pub are_meant : meant ≡ Ok shapes
  pub tables : engine.tables ≡ map new_table shapes
  pub unfinished : engine.unfinished ≡ short [] ∷ []

-- no answer waits, and there is room for one
abbrev pub IsReady : Buffer → Type 0
IsReady out = (out.bytes ≡ []) × (ready_room ≤ out.room)

abbrev pub IsFresh : Result (List TableShape) SchemaFault → Held → Type 0
IsFresh meant held = (memory : Memory) × (held.side ≡ sides.Memory memory) × AreFresh meant memory.engine × IsReady held.out

-- the status of a schema's own fault, or that of memory
abbrev pub Refuses : Result (List TableShape) SchemaFault → ℕ → Type 0
Refuses meant status = (status ≡ MEMORY) ⊎ ((fault : SchemaFault) × (meant ≡ Err fault) × (status ≡ number_of fault))

abbrev pub Opens : Option Held → Result (List TableShape) SchemaFault → ℕ → Option Held → Type 0
Opens (Some held) meant status after = (status ≡ HANDLE) × (after ≡ Some held)
Opens None meant status after = ((status ≡ OK) × (held : Held) × (after ≡ Some held) × IsFresh meant held) ⊎ ((after ≡ None) × Refuses meant status)

-- ---- a folder

-- The tables that a folder keeps, as many as a schema without fault has. All of their logs are synced, no line is begun, and no log was over. They are
-- synced before answers are told, or are not.
abbrev pub AreKept : Result (List TableShape) SchemaFault → Bool → Kept → Type 0
AreKept meant is_synced kept = (shapes : List TableShape) × (meant ≡ Ok shapes) × (length kept.tables.tables ≡ length shapes) × All IsOpened kept.tables.tables
    × (kept.tables.unfinished ≡ short []) × (kept.tables.is_over ≡ false) × (kept.is_synced ≡ is_synced)

abbrev pub IsKeeping : Result (List TableShape) SchemaFault → Bool → Held → Type 0
IsKeeping meant is_synced held = (kept : Kept) × (held.side ≡ sides.Folder kept) × AreKept meant is_synced kept × IsReady held.out

-- the status of a folder that is not taken
abbrev pub take_number : TakeFault → ℕ
take_number takes.Memory = MEMORY
take_number takes.Folder = DEVICE
take_number takes.Lock = DEVICE
take_number takes.Taken = TAKEN

-- the status of tables that are not opened
abbrev pub open_number : OpenFault → ℕ
open_number opens.Memory = MEMORY
open_number opens.File = DEVICE
open_number opens.Declared = OTHER
open_number opens.Hurt = HURT

-- the status of a folder whose path is no text, that is not taken, or whose tables are not opened
abbrev pub IsOfFolder : ℕ → Type 0
IsOfFolder status = (status ≡ DEVICE) ⊎ (((fault : TakeFault) × (status ≡ take_number fault)) ⊎ ((fault : OpenFault) × (status ≡ open_number fault)))

-- that of the schema's own fault or of memory, or that of a folder where the schema has no fault
abbrev pub RefusesFolder : Result (List TableShape) SchemaFault → ℕ → Type 0
RefusesFolder meant status = Refuses meant status ⊎ ((shapes : List TableShape) × (meant ≡ Ok shapes) × IsOfFolder status)

abbrev pub OpensFolder : Option Held → Result (List TableShape) SchemaFault → Bool → ℕ → Option Held → Type 0
OpensFolder (Some held) meant is_synced status after = (status ≡ HANDLE) × (after ≡ Some held)
OpensFolder None meant is_synced status after = ((status ≡ OK) × (held : Held) × (after ≡ Some held) × IsKeeping meant is_synced held) ⊎ ((after ≡ None) × RefusesFolder meant status)

-- ---- lines in memory

-- the machine takes the signals, and what it tells waits behind what waited before
abbrev pub Tells : Machine → Buffer → List Signal → Machine → Buffer → Type 0
Tells old out ss new out' = (told : List (List ℕ)) × Run old ss told new × (out'.bytes ≡ out.bytes ++ joined told)

-- The signal that comes next ends a line that has an answer, and there is too little room for one. With room for one at the
-- begin, something was taken.
pub record Stops (old : Machine) (out : Buffer) (ss : List Signal) (taken : ℕ) (new : Machine) (out' : Buffer) : Type 0 where
  pub is_less : taken < length ss
  pub front : Tells old out (take taken ss) new out'
  pub waits : Waits new (λ _. out'.room) (slice_get ss taken)
  pub moves : ready_room ≤ out.room → 0 < taken

-- all signals are taken, or those before the one that has to wait
abbrev pub Carries : Machine → Buffer → List Signal → ℕ → ℕ → Machine → Buffer → Type 0
Carries old out ss status taken new out' =
    ((status ≡ OK) × (taken ≡ length ss) × Tells old out ss new out') ⊎ ((status ≡ MEMORY) × Stops old out ss taken new out')

-- ---- lines in a folder

-- the status of a line that is not told
abbrev pub stop_number : StopWhy → ℕ
stop_number whys.Memory = MEMORY
stop_number whys.Over = LOG

-- the same tables of a folder, whose logs may have more
abbrev pub StaysKept : Kept → Kept → Type 0
StaysKept old new = (new.folder ≡ old.folder) × (new.is_synced ≡ old.is_synced)

abbrev pub StopTold : Result (Unit {0}) Stop → ℕ → ℕ → ℕ → Type 0
StopTold (Ok x) all status taken = (status ≡ OK) × (taken ≡ all)
StopTold (Err stop) all status taken = (status ≡ stop_number stop.why) × (taken ≡ stop.taken)

abbrev pub KeptCalls : Kept → Buffer → List ℕ → ℕ → ℕ → Kept → Buffer → Type 0
KeptCalls old out lines status taken new out' =
    StaysKept old new × ((result : Result (Unit {0}) Stop) × StopTold result (length lines) status taken × TakesPiece result lines old.tables out new.tables out')

abbrev pub EndTold : Result (Unit {0}) StopWhy → ℕ → Type 0
EndTold (Ok x) status = status ≡ OK
EndTold (Err why) status = status ≡ stop_number why

abbrev pub KeptEnds : Kept → Buffer → ℕ → Kept → Buffer → Type 0
KeptEnds old out status new out' = StaysKept old new × ((result : Result (Unit {0}) StopWhy) × EndTold result status × EndsLine result old.tables out new.tables out')

-- ---- lines on either side

abbrev pub SideCalls : Side → Buffer → List ℕ → ℕ → ℕ → Side → Buffer → Type 0
SideCalls (sides.Memory old) out lines status taken (sides.Memory new) out' = Carries old.engine out (bytes_of 0 lines) status taken new.engine out'
SideCalls (sides.Folder old) out lines status taken (sides.Folder new) out' = KeptCalls old out lines status taken new out'
SideCalls (sides.Memory old) out lines status taken (sides.Folder new) out' = ⊥
SideCalls (sides.Folder old) out lines status taken (sides.Memory new) out' = ⊥

abbrev pub Carried : Held → List ℕ → ℕ → ℕ → Held → Type 0
Carried old lines status taken new = SideCalls old.side old.out lines status taken new.side new.out

abbrev pub Calls : Option Held → List ℕ → ℕ → ℕ → Option Held → Type 0
Calls None lines status taken after = (status ≡ HANDLE) × (taken ≡ 0) × (after ≡ None)
Calls (Some old) lines status taken after = (new : Held) × (after ≡ Some new) × Carried old lines status taken new

abbrev pub SideEnds : Side → Buffer → ℕ → Side → Buffer → Type 0
SideEnds (sides.Memory old) out status (sides.Memory new) out' = (taken : ℕ) × Carries old.engine out (end 0 ∷ []) status taken new.engine out'
SideEnds (sides.Folder old) out status (sides.Folder new) out' = KeptEnds old out status new out'
SideEnds (sides.Memory old) out status (sides.Folder new) out' = ⊥
SideEnds (sides.Folder old) out status (sides.Memory new) out' = ⊥

abbrev pub EndCarried : Held → ℕ → Held → Type 0
EndCarried old status new = SideEnds old.side old.out status new.side new.out

abbrev pub Ends : Option Held → ℕ → Option Held → Type 0
Ends None status after = (status ≡ HANDLE) × (after ≡ None)
Ends (Some old) status after = (new : Held) × (after ≡ Some new) × EndCarried old status new

-- ---- syncs

-- the logs of a folder are synced, or those before one that can't be
abbrev pub KeptSyncs : Kept → Result (Unit {0}) Over → Kept → Type 0
KeptSyncs old result new =
    StaysKept old new × (new.tables.unfinished ≡ old.tables.unfinished) × (new.tables.is_over ≡ old.tables.is_over) × Syncs result old.tables.tables new.tables.tables

-- the same before answers are told, where that is asked for
abbrev pub Settles : Kept → Result (Unit {0}) Over → Kept → Type 0
Settles old result new = MatchBool old.is_synced (KeptSyncs old result new) ((result ≡ Ok tt) × (new ≡ old))

abbrev pub sync_number : Result (Unit {0}) Over → ℕ
sync_number (Ok x) = OK
sync_number (Err why) = LOG

abbrev pub SideSyncs : Side → ℕ → Side → Type 0
SideSyncs (sides.Memory old) status new = (status ≡ OK) × (new ≡ sides.Memory old)
SideSyncs (sides.Folder old) status (sides.Folder new) = (result : Result (Unit {0}) Over) × (status ≡ sync_number result) × KeptSyncs old result new
SideSyncs (sides.Folder old) status (sides.Memory new) = ⊥

abbrev pub SyncsHeld : Held → ℕ → Held → Type 0
SyncsHeld old status new = SideSyncs old.side status new.side × (new.out ≡ old.out)

abbrev pub SyncsAll : Option Held → ℕ → Option Held → Type 0
SyncsAll None status after = (status ≡ HANDLE) × (after ≡ None)
SyncsAll (Some old) status after = (new : Held) × (after ≡ Some new) × SyncsHeld old status new

-- ---- answers

-- What waits is moved to the front of the room, and the room behind it is as before. Where it does not fit, nothing is done.
pub record Hands (old : Buffer) (room : List ℕ) (status count : ℕ) (room' : List ℕ) (new : Buffer) : Type 0 where
  pub counted : count ≡ length old.bytes
  pub done : MatchBool (nat_le count (length room))
      ((status ≡ OK) × (room' ≡ old.bytes ++ drop count room) × (new.bytes ≡ []) × (ready_room ≤ new.room))
      ((status ≡ ROOM) × (room' ≡ room) × (new ≡ old))

-- What waits is moved where the logs that it rests on are settled. Else nothing is told.
abbrev pub HandsSettled : Result (Unit {0}) Over → Buffer → List ℕ → ℕ → ℕ → List ℕ → Buffer → Type 0
HandsSettled (Ok x) old room status count room' new = Hands old room status count room' new
HandsSettled (Err why) old room status count room' new = (status ≡ LOG) × (count ≡ 0) × (room' ≡ room) × (new ≡ old)

abbrev pub KeptMoves : Kept → Buffer → List ℕ → ℕ → ℕ → List ℕ → Kept → Buffer → Type 0
KeptMoves old out room status count room' new out' = (result : Result (Unit {0}) Over) × Settles old result new × HandsSettled result out room status count room' out'

abbrev pub SideMoves : Side → Buffer → List ℕ → ℕ → ℕ → List ℕ → Side → Buffer → Type 0
SideMoves (sides.Memory old) out room status count room' new out' = (new ≡ sides.Memory old) × Hands out room status count room' out'
SideMoves (sides.Folder old) out room status count room' (sides.Folder new) out' = KeptMoves old out room status count room' new out'
SideMoves (sides.Folder old) out room status count room' (sides.Memory new) out' = ⊥

abbrev pub Moves : Held → List ℕ → ℕ → ℕ → List ℕ → Held → Type 0
Moves old room status count room' new = SideMoves old.side old.out room status count room' new.side new.out

abbrev pub Takes : Option Held → List ℕ → ℕ → ℕ → List ℕ → Option Held → Type 0
Takes None room status count room' after = (status ≡ HANDLE) × (count ≡ 0) × (room' ≡ room) × (after ≡ None)
Takes (Some old) room status count room' after = (new : Held) × (after ≡ Some new) × Moves old room status count room' new
