-- The commands that a line can say: numbers fit their types, texts are UTF-8, and fields stand in ascending order of their names.
use Rattle.std.specs.Prelude.{ℕ, ℤ, pos, negsuc, ◌<◌, ◌^◌, List, map, Option, Some, None, IsUtf8, ⊤}
use Rattle.std.specs.Ordering.{nat_cmp}
use Rattle.std.specs.Cmp.Lexicographic.{slice_cmp}
use Rattle.std.specs.List.{AllByRecursion}
use Rattle.std.specs.List.Sorted.{IsStrictlySortedBy}
use Rattle.key_extract.specs.declared.cell.Cell.{Cell}
use Rattle.key_extract.specs.declared.cell.Cell.TheVariants as cells
use Rattle.table_reply.specs.Spelling.{HandleFits}
use Rattle.table_cmd.specs.declared.command.Value.{Value}
use Rattle.table_cmd.specs.declared.command.Value.TheVariants as values
use Rattle.table_cmd.specs.declared.command.Field.{Field}
use Rattle.table_cmd.specs.declared.command.Position.{Position}
use Rattle.table_cmd.specs.declared.command.Changes.{Changes}
use Rattle.table_cmd.specs.declared.command.Changes.TheVariants.{Set, Add, Both}
use Rattle.table_cmd.specs.declared.command.KeyBound.{KeyBound}
use Rattle.table_cmd.specs.declared.command.KeyBound.TheVariants.{Included, Excluded, Unbounded}
use Rattle.table_cmd.specs.declared.command.HandleText.{HandleText}
use Rattle.table_cmd.specs.declared.command.HandleText.TheVariants as texts
use Rattle.table_cmd.specs.declared.command.Command.{Command}
use Rattle.table_cmd.specs.declared.command.Command.TheVariants as commands

-- a whole number of 64 bits with its sign
abbrev pub IntFits : ℤ → Type 0
IntFits (pos n) = n < 2 ^ 63
IntFits (negsuc n) = n < 2 ^ 63

abbrev pub CellFits : Cell → Type 0
CellFits cells.Null = ⊤
CellFits (cells.Int n) = IntFits n
CellFits (cells.Text s) = IsUtf8 s
CellFits (cells.Bool b) = ⊤

abbrev pub ValueFits : Value → Type 0
ValueFits (values.Cell c) = CellFits c
ValueFits values.Other = ⊤

abbrev pub FieldFits : Field → Type 0
FieldFits f = IsUtf8 f.name × ValueFits f.value

-- fields, each name once and in ascending order of their bytes
abbrev pub FieldsFit : List Field → Type 0
FieldsFit fs = AllByRecursion FieldFits fs × IsStrictlySortedBy (slice_cmp nat_cmp) (map (λ f. f.name) fs)

abbrev pub HandleTextFits : HandleText → Type 0
HandleTextFits (texts.Handle h) = HandleFits h
HandleTextFits texts.Bad = ⊤

abbrev pub EndFits : Option HandleText → Type 0
EndFits None = ⊤
EndFits (Some h) = HandleTextFits h

abbrev pub PositionFits : Option Position → Type 0
PositionFits None = ⊤
PositionFits (Some p) = IsUtf8 p.index × (p.place < 2 ^ 64)

abbrev pub IndexFits : Option (List ℕ) → Type 0
IndexFits None = ⊤
IndexFits (Some index) = IsUtf8 index

abbrev pub NamesFit : Option (List (List ℕ)) → Type 0
NamesFit None = ⊤
NamesFit (Some names) = AllByRecursion IsUtf8 names

abbrev pub ChangesFit : Changes → Type 0
ChangesFit (Set set) = FieldsFit set
ChangesFit (Add add) = FieldsFit add
ChangesFit (Both set add) = FieldsFit set × FieldsFit add

abbrev pub KeyFits : List Value → Type 0
KeyFits = AllByRecursion ValueFits

abbrev pub BoundFits : KeyBound → Type 0
BoundFits (Included key) = KeyFits key
BoundFits (Excluded key) = KeyFits key
BoundFits Unbounded = ⊤

abbrev pub CommandFits : Command → Type 0
CommandFits (commands.Insert table row position) = IsUtf8 table × FieldsFit row × PositionFits position
CommandFits (commands.Replace table handle row) = IsUtf8 table × HandleTextFits handle × FieldsFit row
CommandFits (commands.Modify table handle changes rollback) = IsUtf8 table × HandleTextFits handle × ChangesFit changes
CommandFits (commands.ModifyKey table index handle key rollback) = IsUtf8 table × IsUtf8 index × HandleTextFits handle × KeyFits key
CommandFits (commands.Erase table handle index) = IsUtf8 table × HandleTextFits handle × IndexFits index
CommandFits (commands.EraseKey table index key) = IsUtf8 table × IsUtf8 index × KeyFits key
CommandFits (commands.Clear table) = IsUtf8 table
CommandFits (commands.Move table index handle place) = IsUtf8 table × IsUtf8 index × HandleTextFits handle × (place < 2 ^ 64)
CommandFits (commands.Rearrange table index handles) = IsUtf8 table × IsUtf8 index × AllByRecursion HandleTextFits handles
CommandFits (commands.Reverse table index) = IsUtf8 table × IsUtf8 index
CommandFits (commands.Sort table index by) = IsUtf8 table × IsUtf8 index × AllByRecursion IsUtf8 by
CommandFits (commands.AddIndex table index kind unique key) = IsUtf8 table × IsUtf8 index × NamesFit key
CommandFits (commands.DropIndex table index) = IsUtf8 table × IsUtf8 index
CommandFits (commands.Get table handle) = IsUtf8 table × HandleTextFits handle
CommandFits (commands.Size table) = IsUtf8 table
CommandFits (commands.Find table index key) = IsUtf8 table × IsUtf8 index × KeyFits key
CommandFits (commands.Count table index key) = IsUtf8 table × IsUtf8 index × KeyFits key
CommandFits (commands.Lower table index key) = IsUtf8 table × IsUtf8 index × KeyFits key
CommandFits (commands.Upper table index key) = IsUtf8 table × IsUtf8 index × KeyFits key
CommandFits (commands.Range table index low high) = IsUtf8 table × IsUtf8 index × BoundFits low × BoundFits high
CommandFits (commands.Nth table index place) = IsUtf8 table × IsUtf8 index × (place < 2 ^ 64)
CommandFits (commands.Rank table index position) = IsUtf8 table × IsUtf8 index × EndFits position
CommandFits (commands.Place table index handle) = IsUtf8 table × IsUtf8 index × HandleTextFits handle
CommandFits (commands.FindRank table index key) = IsUtf8 table × IsUtf8 index × KeyFits key
CommandFits (commands.LowerRank table index key) = IsUtf8 table × IsUtf8 index × KeyFits key
CommandFits (commands.UpperRank table index key) = IsUtf8 table × IsUtf8 index × KeyFits key
CommandFits (commands.Next table index position) = IsUtf8 table × IsUtf8 index × EndFits position
CommandFits (commands.Prev table index position) = IsUtf8 table × IsUtf8 index × EndFits position
CommandFits (commands.List table index) = IsUtf8 table × IsUtf8 index
