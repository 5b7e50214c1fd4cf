-- What a schema file means: its tables, or the first fault.
use Rattle.std.specs.Prelude.{ℕ, List, if◌then◌else◌, Option, Some, None, Result, Err}
use Rattle.std.specs.Str.{is_utf8}
use Rattle.toml.specs.Data.{Members}
use Rattle.toml.specs.Parse.{parse_document}
use Rattle.table_schema.specs.declared.fault.SchemaFault.{SchemaFault}
use Rattle.table_schema.specs.declared.fault.SchemaFault.TheVariants as faults
use Rattle.table_schema.specs.Shape.{TableShape}
use Rattle.table_schema.specs.Draft.{TableDraft}
use Rattle.table_schema.specs.Meaning.{tested}
use Rattle.schema_file.specs.Tree.{drafts_of}

-- after the shape
abbrev pub of_drafts : Option (List TableDraft) → Result (List TableShape) SchemaFault
of_drafts None = Err faults.Shape
of_drafts (Some drafts) = tested drafts

-- after the document
abbrev pub of_document : Option Members → Result (List TableShape) SchemaFault
of_document None = Err faults.Toml
of_document (Some ms) = of_drafts (drafts_of ms)

-- the document that the bytes are
abbrev pub document_of : List ℕ → Option Members
document_of bytes = if is_utf8 bytes then parse_document bytes else None

-- what the bytes of a schema file mean
unfoldable pub schema_of : List ℕ → Result (List TableShape) SchemaFault
schema_of bytes = of_document (document_of bytes)
