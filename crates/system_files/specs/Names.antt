-- The names of a table's files in a folder.
use Rattle.std.specs.Prelude.{ℕ, ◌++◌, ◌∷◌, codes, decimal, List, Option, Some, None}
use Rattle.table_folder.specs.declared.name.FileName.{FileName}
use Rattle.table_folder.specs.declared.name.FileName.TheVariants.{Declaration, DeclarationDraft, Log, LogDraft, Mark, PlainLog, PlainLogLeft, State, StateDraft}

-- the name of the log that begins with the empty table, or behind the state of a number
abbrev pub log_name : List ℕ → Option ℕ → List ℕ → List ℕ
log_name table None end = table ++ end
log_name table (Some number) end = table ++ (46 ∷ (decimal number ++ end))

-- its path
abbrev pub log_path : List ℕ → List ℕ → Option ℕ → List ℕ → List ℕ
log_path folder table None end = folder ++ (codes "/" ++ (table ++ end))
log_path folder table (Some number) end = folder ++ (codes "/" ++ (table ++ (codes "." ++ (decimal number ++ end))))

-- the path of a file whose name ends so
abbrev pub file_path : List ℕ → List ℕ → List ℕ → List ℕ
file_path folder table end = folder ++ (codes "/" ++ (table ++ (codes "." ++ end)))

-- the path of a table's file
abbrev pub path_of : List ℕ → List ℕ → FileName → List ℕ
path_of folder table Declaration = file_path folder table (codes "schema")
path_of folder table DeclarationDraft = file_path folder table (codes "schema.part")
path_of folder table State = file_path folder table (codes "state")
path_of folder table StateDraft = file_path folder table (codes "state.new")
path_of folder table (Log number) = log_path folder table number (codes ".log")
path_of folder table LogDraft = file_path folder table (codes "log.new")
path_of folder table Mark = file_path folder table (codes "mark")
path_of folder table (PlainLog number) = log_path folder table number (codes ".jsonl")
path_of folder table (PlainLogLeft number) = log_path folder table number (codes ".jsonl.old")
