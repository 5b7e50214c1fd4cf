-- What comes of the journals at the end of a serving, by what makes files, before and after.
use Rattle.std.specs.Prelude.{◌≡◌, ◌⊎◌, ℕ, List, Option, None, Some, Result, Ok, Err, if◌then◌else◌, nat_lt}
use Rattle.std.specs.Io.KnownBytes.{Appends}
use Rattle.table_engine.specs.Devices.{AppendsFront}
use Rattle.table_schema.specs.Shape.{TableShape}
use Rattle.shared_tables.specs.Journal.{EntryData}
use Rattle.shared_tables.specs.Journals.{AreJournals, Gathered}
use Rattle.shared_tables.specs.Pass.{PassData}
use Rattle.shared_tables.specs.Text.{journals_text}
use Rattle.table_server.specs.Fault.{status_of}
use Rattle.table_server.specs.Making.{Making}
use Rattle.table_server.specs.declared.fault.Fault.{Fault}
use Rattle.table_server.specs.declared.fault.Fault.TheVariants.{Read, Write, Listen, Memory, Words, Address, Schema, Mismatch}
use Rattle.table_sockets.specs.declared.end.End.{End}
use Rattle.table_sockets.specs.declared.end.End.TheVariants as end

-- how a call ends that answers nothing but a fault
abbrev pub Outcome : Type 0
Outcome = Result (Unit {0}) Fault

-- ---- one file

-- a path, and what was begun for it
pub record Tried (B : Type 0) : Type 0 where
  pub path : List ℕ
  pub begun : B

-- The path was tried, if there is one, beside the path of a file that is read.
abbrev pub Begins : {F B M : Type 0} → Making F B M → Option (List ℕ) → List ℕ → F → F → Option (Tried B) → Type 0
Begins making None read before after None = after ≡ before
Begins making (Some path) read before after (Some tried) = (tried.path ≡ path) × making.begun before path read after tried.begun
Begins making _ read before after _ = ⊥

-- the path was tried, and refused
abbrev pub IsNotBegun : {F B M : Type 0} → Making F B M → Option (List ℕ) → List ℕ → F → F → Type 0
IsNotBegun making None read before after = ⊥
IsNotBegun making (Some path) read before after = making.not_begun before path read after

-- A file was made of what had been begun for a path, and got this text.
pub record IsFilled {F B M : Type 0} (making : Making F B M) (fills : M → M → Type 0) (ends : F → List ℕ → M → F → Type 0) (tried : Tried B) (before after : F) : Type 0 where
  pub there : F
  pub made : M
  pub is_made : making.made before tried.path tried.begun there made
  pub filled : M
  pub fills_it : fills made filled
  pub ends_it : ends there tried.path filled after

-- The text is in a file that was made of what had been begun for a path, and that very file was put there. Nothing was done where nothing had been begun.
abbrev pub IsWritten : {F B M : Type 0} → Making F B M → (M → Option (List ℕ)) → Option (Tried B) → List ℕ → F → F → Type 0
IsWritten making contents None text before after = after ≡ before
IsWritten making contents (Some tried) text before after =
    IsFilled making (λ made whole. Appends (contents made) (contents whole) text) making.put tried before after

-- The file was refused: it was not made, a write to it failed behind a front of the text, or it was not put at its path.
abbrev pub IsRefused : {F B M : Type 0} → Making F B M → (M → Option (List ℕ)) → Option (Tried B) → List ℕ → F → F → Type 0
IsRefused making contents None text before after = ⊥
IsRefused making contents (Some tried) text before after =
    making.not_made before tried.path tried.begun after
    ⊎ (IsFilled making (λ made cut. AppendsFront (contents made) (contents cut) text) making.left tried before after
    ⊎ IsFilled making (λ made whole. Appends (contents made) (contents whole) text) making.not_put tried before after)

-- ---- the journals

-- The journals of a schema's tables are what these passes know of them, and this comes of their text.
pub record AreGathered (comes : List ℕ → Type 0) (schema : List TableShape) (workers : ℕ) (passes : List PassData) : Type 0 where
  pub tables : List (List EntryData)
  pub gathered : Gathered schema workers tables passes
  pub come : comes (journals_text tables)

-- The journals of a schema's tables are legal. Nothing compared them with what the passes know. This comes of their text.
pub record AreUncompared (comes : List ℕ → Type 0) (schema : List TableShape) (workers : ℕ) : Type 0 where
  pub tables : List (List EntryData)
  pub journals_are : AreJournals schema workers tables
  pub come : comes (journals_text tables)

-- the journals are what the passes know, and are written to the file of a path, if there is one
abbrev pub IsKept : {F B M : Type 0} → Making F B M → (M → Option (List ℕ)) → Option (Tried B) → List TableShape → ℕ → List PassData → F → F → Type 0
IsKept making contents tried schema workers passes before after =
    AreGathered (λ text. IsWritten making contents tried text before after) schema workers passes

-- the journals are what the passes know, but their file was refused
abbrev pub IsUnwritten : {F B M : Type 0} → Making F B M → (M → Option (List ℕ)) → Option (Tried B) → List TableShape → ℕ → List PassData → F → F → Type 0
IsUnwritten making contents tried schema workers passes before after =
    AreGathered (λ text. IsRefused making contents tried text before after) schema workers passes

-- memory was refused before the journals were compared; they are written as they stand, or their file was refused
abbrev pub IsUncompared : {F B M : Type 0} → Making F B M → (M → Option (List ℕ)) → Option (Tried B) → List TableShape → ℕ → F → F → Type 0
IsUncompared making contents tried schema workers before after =
    AreUncompared (λ text. IsWritten making contents tried text before after ⊎ IsRefused making contents tried text before after) schema workers

-- How the journals are kept, by how that ends: nothing is written at a mismatch.
abbrev pub Keeps : {F B M : Type 0} → Making F B M → (M → Option (List ℕ)) → Option (Tried B) → List TableShape → ℕ → List PassData → F → F → Outcome → Type 0
Keeps making contents tried schema workers passes before after (Ok _) = IsKept making contents tried schema workers passes before after
Keeps making contents tried schema workers passes before after (Err Write) = IsUnwritten making contents tried schema workers passes before after
Keeps making contents tried schema workers passes before after (Err Memory) =
    IsUnwritten making contents tried schema workers passes before after ⊎ IsUncompared making contents tried schema workers before after
Keeps making contents tried schema workers passes before after (Err Mismatch) = after ≡ before
Keeps making contents tried schema workers passes before after (Err Read) = ⊥
Keeps making contents tried schema workers passes before after (Err Listen) = ⊥
Keeps making contents tried schema workers passes before after (Err (Words text)) = ⊥
Keeps making contents tried schema workers passes before after (Err Address) = ⊥
Keeps making contents tried schema workers passes before after (Err (Schema fault)) = ⊥

-- ---- the end of the threads

-- the fault of the greater status, and of equals the first
abbrev pub later_of : Fault → Outcome → Outcome
later_of first (Ok _) = Err first
later_of first (Err second) = if nat_lt (status_of first) (status_of second) then Err second else Err first

-- How the journals are kept after threads that ended so, and how that ends. Each end keeps them but a mismatch.
abbrev pub KeepsAfter : {F B M : Type 0} → Making F B M → (M → Option (List ℕ)) → Option (Tried B) → List TableShape → ℕ → List PassData → F → F → End → Outcome → Type 0
KeepsAfter making contents tried schema workers passes before after end.Fine outcome = Keeps making contents tried schema workers passes before after outcome
KeepsAfter making contents tried schema workers passes before after end.Memory outcome =
    (kept : Outcome) × Keeps making contents tried schema workers passes before after kept × (outcome ≡ later_of Memory kept)
KeepsAfter making contents tried schema workers passes before after end.Listen outcome =
    (kept : Outcome) × Keeps making contents tried schema workers passes before after kept × (outcome ≡ later_of Listen kept)
KeepsAfter making contents tried schema workers passes before after end.Mismatch outcome = (after ≡ before) × (outcome ≡ Err Mismatch)
