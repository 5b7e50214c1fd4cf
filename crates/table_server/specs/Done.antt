-- What the program has done where it ends with status 0.
use Rattle.std.specs.Prelude.{◌≡◌, ℕ, List, Option, None, Some, Ok, map}
use Rattle.std.specs.Io.KnownBytes.{Appends, Consumes, IsAtEnd}
use Rattle.program_words.specs.Asked.{Files}
use Rattle.schema_file.specs.Meaning.{schema_of}
use Rattle.table_schema.specs.Shape.{TableShape}
use Rattle.table_schema.specs.Builtin.{builtin_schema}
use Rattle.table_step.specs.Step.{TableState, new_table}
use Rattle.table_engine.specs.Devices.{raised}
use Rattle.table_engine.specs.Whole.{AnswersLines, lines_of}
use Rattle.table_engine.specs.declared.source.Source.{Source}

-- The bytes that a reader had left, of which it has none left.
abbrev pub ReadsAll : Option (List ℕ) → Option (List ℕ) → List ℕ → Type 0
ReadsAll before after bytes = Consumes before after bytes × IsAtEnd after

-- The bytes are those that a file had left, which was just opened at this path, and none is left of them.
pub record AreOfFile {F : Type 0} (is_at : List ℕ → F → Type 0) (remaining : F → Option (List ℕ)) (path bytes : List ℕ) : Type 0 where
  pub opened : F
  pub closed : F
  pub is_opened : is_at path opened
  pub are_read : ReadsAll (remaining opened) (remaining closed) bytes

-- The schema is what all bytes of the file at this path mean.
pub record IsOfFile {F : Type 0} (is_at : List ℕ → F → Type 0) (remaining : F → Option (List ℕ)) (path : List ℕ) (schema : List TableShape) : Type 0 where
  pub bytes : List ℕ
  pub are_file : AreOfFile is_at remaining path bytes
  pub means : schema_of bytes ≡ Ok schema

-- The schema is that of the file at this path, and the built-in one where no path is given.
abbrev pub IsSchema : {F : Type 0} → (List ℕ → F → Type 0) → (F → Option (List ℕ)) → Option (List ℕ) → List TableShape → Type 0
IsSchema is_at remaining None schema = schema ≡ builtin_schema
IsSchema is_at remaining (Some path) schema = IsOfFile is_at remaining path schema

-- The bytes are those of the file at this path, and the whole input where no path is given.
abbrev pub AreLines : {F : Type 0} → (List ℕ → F → Type 0) → (F → Option (List ℕ)) → Option (List ℕ) → Option (List ℕ) → Option (List ℕ) → List ℕ → Type 0
AreLines is_at remaining None input_before input_after bytes = ReadsAll input_before input_after bytes
AreLines is_at remaining (Some path) input_before input_after bytes = AreOfFile is_at remaining path bytes

-- The input has told its end where no path is given, and was not touched where one is.
abbrev pub EndsInput : {I : Type 0} → Option (List ℕ) → Source I → Source I → Type 0
EndsInput None before after = after.ends ≡ raised before.ends
EndsInput (Some path) before after = after ≡ before

-- The lines of some bytes are answered one after another, on the empty tables of a schema, and their answers are appended.
pub record Serves (schema : List TableShape) (bytes : List ℕ) (before after : Option (List ℕ)) : Type 0 where
  pub text : List ℕ
  pub last : List TableState
  pub answers : AnswersLines (map new_table schema) (lines_of bytes) text last
  pub written : Appends before after text

-- The lines of the file of lines, or of the input, are answered on the empty tables of a schema.
pub record ServesLines {F : Type 0} (is_at : List ℕ → F → Type 0) (remaining : F → Option (List ℕ)) (path : Option (List ℕ)) (schema : List TableShape) (input_before input_after output_before output_after : Option (List ℕ)) : Type 0 where
  pub bytes : List ℕ
  pub are_lines : AreLines is_at remaining path input_before input_after bytes
  pub serves : Serves schema bytes output_before output_after

-- The lines of the file of lines, or of the input, are answered by the schema of the schema file, or by the built-in one.
pub record Done {F : Type 0} (is_at : List ℕ → F → Type 0) (remaining : F → Option (List ℕ)) (files : Files) (input_before input_after output_before output_after : Option (List ℕ)) : Type 0 where
  pub schema : List TableShape
  pub is_schema : IsSchema is_at remaining files.schema schema
  pub serves : ServesLines is_at remaining files.commands schema input_before input_after output_before output_after
