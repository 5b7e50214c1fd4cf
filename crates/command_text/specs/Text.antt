-- The canonical text of a command: a JSON object in compact form, with the keys that the command has in ascending order.
use Rattle.std.specs.Prelude.{ℕ, List, [], ◌∷◌, Bool, true, false, Option, Some, None, option_map, map, codes}
use Rattle.serde_json.specs.Data.{Data, null, boolean, number, string, array, object, unsigned, Items, no_items, item, Members, no_members, member}
use Rattle.serde_json.specs.Written.{compact_text}
use Rattle.table_reply.specs.Answer.{data_of}
use Rattle.table_schema.specs.KindText.{kind_text}
use Rattle.table_reply.specs.Spelling.{spelling}
use Rattle.table_cmd.specs.declared.command.Value.{Value}
use Rattle.table_cmd.specs.declared.command.Value.TheVariants.{Cell, Other}
use Rattle.table_cmd.specs.declared.command.Field.{Field}
use Rattle.table_cmd.specs.declared.command.Changes.{Changes}
use Rattle.table_cmd.specs.declared.command.Changes.TheVariants.{Set, Add, Both}
use Rattle.table_cmd.specs.declared.command.KeyBound.{KeyBound}
use Rattle.table_cmd.specs.declared.command.KeyBound.TheVariants.{Included, Excluded, Unbounded}
use Rattle.table_cmd.specs.declared.command.HandleText.{HandleText}
use Rattle.table_cmd.specs.declared.command.HandleText.TheVariants as texts
use Rattle.table_cmd.specs.declared.command.Command.{Command}
use Rattle.table_cmd.specs.declared.command.Command.TheVariants as commands
use Rattle.table_cmd.specs.Command.{table_in}

-- ---- values

-- the items of an array
abbrev pub items_of : List Data → Items
items_of [] = no_items
items_of (d ∷ ds) = item d (items_of ds)

-- a value; what is a cell of no type is an empty array
abbrev pub value_data : Value → Data
value_data (Cell c) = data_of (Some c)
value_data Other = array no_items

-- a key
abbrev pub key_data : List Value → Data
key_data values = array (items_of (map value_data values))

-- fields under their names, in their order
abbrev pub field_members : List Field → Members
field_members [] = no_members
field_members (f ∷ fs) = member f.name (value_data f.value) (field_members fs)

-- a row, or what is set or added
abbrev pub fields_data : List Field → Data
fields_data fs = object (field_members fs)

-- a handle; a text that spells none is empty
abbrev pub handle_data : HandleText → Data
handle_data (texts.Handle h) = string (spelling h)
handle_data texts.Bad = string []

-- handles in their order
abbrev pub handles_data : List HandleText → Data
handles_data hs = array (items_of (map handle_data hs))

-- names in their order
abbrev pub names_data : List (List ℕ) → Data
names_data ns = array (items_of (map (λ n. string n) ns))

-- a handle, or null for the end
abbrev pub end_data : Option HandleText → Data
end_data None = null
end_data (Some h) = handle_data h

-- a place
abbrev pub count_data : ℕ → Data
count_data n = number (unsigned n)

-- ---- what a command has under each key, if it has it

-- what is added
abbrev pub added : Changes → Option Data
added (Set set) = None
added (Add add) = Some (fields_data add)
added (Both set add) = Some (fields_data add)

abbrev pub add_of : Command → Option Data
add_of (commands.Modify table handle changes rollback) = added changes
add_of other = None

-- the names to sort by
abbrev pub by_of : Command → Option Data
by_of (commands.Sort table index by) = Some (names_data by)
by_of other = None

-- the key of a bound that still belongs to the range
abbrev pub included : KeyBound → Option Data
included (Included key) = Some (key_data key)
included (Excluded key) = None
included Unbounded = None

-- the key of a bound that no longer belongs to the range
abbrev pub excluded : KeyBound → Option Data
excluded (Included key) = None
excluded (Excluded key) = Some (key_data key)
excluded Unbounded = None

-- the low bound
abbrev pub low_included_of : Command → Option Data
low_included_of (commands.Range table index low high) = included low
low_included_of other = None

abbrev pub low_excluded_of : Command → Option Data
low_excluded_of (commands.Range table index low high) = excluded low
low_excluded_of other = None

-- the handle, or the position
abbrev pub handle_of : Command → Option Data
handle_of (commands.Replace table handle row) = Some (handle_data handle)
handle_of (commands.Modify table handle changes rollback) = Some (handle_data handle)
handle_of (commands.ModifyKey table index handle key rollback) = Some (handle_data handle)
handle_of (commands.Erase table handle index) = Some (handle_data handle)
handle_of (commands.Move table index handle place) = Some (handle_data handle)
handle_of (commands.Get table handle) = Some (handle_data handle)
handle_of (commands.Place table index handle) = Some (handle_data handle)
handle_of (commands.Rank table index position) = Some (end_data position)
handle_of (commands.Next table index position) = Some (end_data position)
handle_of (commands.Prev table index position) = Some (end_data position)
handle_of other = None

-- the handles
abbrev pub handles_of : Command → Option Data
handles_of (commands.Rearrange table index handles) = Some (handles_data handles)
handles_of other = None

-- the index
abbrev pub index_of : Command → Option Data
index_of (commands.Insert table row position) = option_map (λ p. string p.index) position
index_of (commands.ModifyKey table index handle key rollback) = Some (string index)
index_of (commands.Erase table handle index) = option_map string index
index_of (commands.EraseKey table index key) = Some (string index)
index_of (commands.Move table index handle place) = Some (string index)
index_of (commands.Rearrange table index handles) = Some (string index)
index_of (commands.Reverse table index) = Some (string index)
index_of (commands.Sort table index by) = Some (string index)
index_of (commands.AddIndex table index kind unique key) = Some (string index)
index_of (commands.DropIndex table index) = Some (string index)
index_of (commands.Find table index key) = Some (string index)
index_of (commands.Count table index key) = Some (string index)
index_of (commands.Lower table index key) = Some (string index)
index_of (commands.Upper table index key) = Some (string index)
index_of (commands.Range table index low high) = Some (string index)
index_of (commands.Nth table index place) = Some (string index)
index_of (commands.Rank table index position) = Some (string index)
index_of (commands.Place table index handle) = Some (string index)
index_of (commands.FindRank table index key) = Some (string index)
index_of (commands.LowerRank table index key) = Some (string index)
index_of (commands.UpperRank table index key) = Some (string index)
index_of (commands.Next table index position) = Some (string index)
index_of (commands.Prev table index position) = Some (string index)
index_of (commands.List table index) = Some (string index)
index_of other = None

-- the key
abbrev pub key_of : Command → Option Data
key_of (commands.ModifyKey table index handle key rollback) = Some (key_data key)
key_of (commands.EraseKey table index key) = Some (key_data key)
key_of (commands.Find table index key) = Some (key_data key)
key_of (commands.Count table index key) = Some (key_data key)
key_of (commands.Lower table index key) = Some (key_data key)
key_of (commands.Upper table index key) = Some (key_data key)
key_of (commands.FindRank table index key) = Some (key_data key)
key_of (commands.LowerRank table index key) = Some (key_data key)
key_of (commands.UpperRank table index key) = Some (key_data key)
key_of other = None

-- the names of the columns of a new index's key
abbrev pub columns_of : Command → Option Data
columns_of (commands.AddIndex table index kind unique key) = option_map names_data key
columns_of other = None

-- the kind of a new index
abbrev pub new_kind_of : Command → Option Data
new_kind_of (commands.AddIndex table index kind unique key) = Some (string (kind_text kind))
new_kind_of other = None

-- the high bound
abbrev pub high_included_of : Command → Option Data
high_included_of (commands.Range table index low high) = included high
high_included_of other = None

abbrev pub high_excluded_of : Command → Option Data
high_excluded_of (commands.Range table index low high) = excluded high
high_excluded_of other = None

-- the place that is looked up
abbrev pub nth_of : Command → Option Data
nth_of (commands.Nth table index place) = Some (count_data place)
nth_of other = None

-- the name of the operation
abbrev pub op_name : Command → List ℕ
op_name (commands.Insert table row position) = codes "insert"
op_name (commands.Replace table handle row) = codes "replace"
op_name (commands.Modify table handle changes rollback) = codes "modify"
op_name (commands.ModifyKey table index handle key rollback) = codes "modify_key"
op_name (commands.Erase table handle index) = codes "erase"
op_name (commands.EraseKey table index key) = codes "erase_key"
op_name (commands.Clear table) = codes "clear"
op_name (commands.Move table index handle place) = codes "move"
op_name (commands.Rearrange table index handles) = codes "rearrange"
op_name (commands.Reverse table index) = codes "reverse"
op_name (commands.Sort table index by) = codes "sort"
op_name (commands.AddIndex table index kind unique key) = codes "add_index"
op_name (commands.DropIndex table index) = codes "drop_index"
op_name (commands.Get table handle) = codes "get"
op_name (commands.Size table) = codes "size"
op_name (commands.Find table index key) = codes "find"
op_name (commands.Count table index key) = codes "count"
op_name (commands.Lower table index key) = codes "lower"
op_name (commands.Upper table index key) = codes "upper"
op_name (commands.Range table index low high) = codes "range"
op_name (commands.Nth table index place) = codes "nth"
op_name (commands.Rank table index position) = codes "rank"
op_name (commands.Place table index handle) = codes "place"
op_name (commands.FindRank table index key) = codes "find_rank"
op_name (commands.LowerRank table index key) = codes "lower_rank"
op_name (commands.UpperRank table index key) = codes "upper_rank"
op_name (commands.Next table index position) = codes "next"
op_name (commands.Prev table index position) = codes "prev"
op_name (commands.List table index) = codes "list"

-- the place before which a record goes
abbrev pub place_of : Command → Option Data
place_of (commands.Insert table row position) = option_map (λ p. count_data p.place) position
place_of (commands.Move table index handle place) = Some (count_data place)
place_of other = None

-- the row
abbrev pub row_of : Command → Option Data
row_of (commands.Insert table row position) = Some (fields_data row)
row_of (commands.Replace table handle row) = Some (fields_data row)
row_of other = None

-- true; nothing where it is false
abbrev pub if_true : Bool → Option Data
if_true true = Some (boolean true)
if_true false = None

-- whether a ban undoes the changes
abbrev pub rollback_of : Command → Option Data
rollback_of (commands.Modify table handle changes rollback) = if_true rollback
rollback_of (commands.ModifyKey table index handle key rollback) = if_true rollback
rollback_of other = None

-- whether a new index is unique
abbrev pub unique_of : Command → Option Data
unique_of (commands.AddIndex table index kind unique key) = if_true unique
unique_of other = None

-- what is set
abbrev pub changed : Changes → Option Data
changed (Set set) = Some (fields_data set)
changed (Add add) = None
changed (Both set add) = Some (fields_data set)

abbrev pub set_of : Command → Option Data
set_of (commands.Modify table handle changes rollback) = changed changes
set_of other = None

-- ---- the object

-- a member more, where there is one
abbrev pub and_member : List ℕ → Option Data → Members → Members
and_member key None ms = ms
and_member key (Some d) ms = member key d ms

-- the members that are there
abbrev pub members_of : List (List ℕ × Option Data) → Members
members_of [] = no_members
members_of (p ∷ ps) = and_member p.0 p.1 (members_of ps)

-- what a command has under each key, in ascending order of the keys
abbrev pub parts : Command → List (List ℕ × Option Data)
parts c =
    (codes "add", add_of c)
    ∷ (codes "by", by_of c)
    ∷ (codes "ge", low_included_of c)
    ∷ (codes "gt", low_excluded_of c)
    ∷ (codes "h", handle_of c)
    ∷ (codes "hs", handles_of c)
    ∷ (codes "i", index_of c)
    ∷ (codes "k", key_of c)
    ∷ (codes "key", columns_of c)
    ∷ (codes "kind", new_kind_of c)
    ∷ (codes "le", high_included_of c)
    ∷ (codes "lt", high_excluded_of c)
    ∷ (codes "n", nth_of c)
    ∷ (codes "op", Some (string (op_name c)))
    ∷ (codes "p", place_of c)
    ∷ (codes "r", row_of c)
    ∷ (codes "rollback", rollback_of c)
    ∷ (codes "set", set_of c)
    ∷ (codes "t", Some (string (table_in c)))
    ∷ (codes "unique", unique_of c)
    ∷ []

-- a command as a JSON value
abbrev pub command_data : Command → Data
command_data c = object (members_of (parts c))

-- the canonical text of a command, without a newline
abbrev pub command_text : Command → List ℕ
command_text c = compact_text (command_data c)
