-- The parts of a command in its JSON object.
use Rattle.std.specs.Prelude.{◌≡◌, ◌&&◌, ℕ, ℤ, List, [], ◌∷◌, Bool, true, false, Option, Some, None, option_map, option_and_then, Result, Ok, Err, codes, bytes_eq}
use Rattle.std.specs.List.{list_any}
use Rattle.serde_json.specs.Data.{Data, null, boolean, number, string, array, object, Items, no_items, item as element, Members, no_members, member}
use Rattle.serde_json.specs.Find.{get, as_bool, as_str, as_number, as_array, as_object, as_i64, as_u64}
use Rattle.key_extract.specs.declared.cell.Cell.TheVariants as cells
use Rattle.container_model.specs.declared.handle.Kind.{Kind}
use Rattle.table_schema.specs.KindText.{kind_of}
use Rattle.table_cmd.specs.declared.command.Value.{Value}
use Rattle.table_cmd.specs.declared.command.Value.TheVariants.{Cell, Other}
use Rattle.table_cmd.specs.declared.command.Field.{Field}
use Rattle.table_cmd.specs.declared.command.Position.{Position}
use Rattle.table_cmd.specs.declared.command.Changes.{Changes}
use Rattle.table_cmd.specs.declared.command.Changes.TheVariants.{Set, Add, Both}
use Rattle.table_cmd.specs.declared.command.KeyBound.{KeyBound}
use Rattle.table_cmd.specs.declared.command.KeyBound.TheVariants.{Included, Excluded, Unbounded}
use Rattle.table_cmd.specs.declared.command.HandleText.{HandleText}
use Rattle.command_lines.specs.declared.fault.CommandFault.{CommandFault}
use Rattle.command_lines.specs.declared.fault.CommandFault.TheVariants as faults
use Rattle.command_lines.specs.Spelling.{handle_said}

-- the rest of a reading, where there was something so far
infixl 10 ◌>>=◌
abbrev pub ◌>>=◌ : {A B : Type 0} → Option A → (A → Option B) → Option B
o >>= f = option_and_then f o

-- a number that is a whole number of 64 bits, with its sign; other numbers are no cell
abbrev pub int_or_other : Option ℤ → Value
int_or_other None = Other
int_or_other (Some n) = Cell (cells.Int n)

-- null, a number, a text or a truth value as a cell; anything else is no cell
abbrev pub value_of : Data → Value
value_of null = Cell cells.Null
value_of (boolean b) = Cell (cells.Bool b)
value_of (number n) = int_or_other (as_i64 n)
value_of (string s) = Cell (cells.Text s)
value_of (array ds) = Other
value_of (object ms) = Other

-- an array's values, in its order
abbrev pub values_of : Items → List Value
values_of no_items = []
values_of (element d ds) = value_of d ∷ values_of ds

-- an object's members as fields, in the order of their names
abbrev pub fields_of : Members → List Field
fields_of no_members = []
fields_of (member k d ms) = record { name = k; value = value_of d } ∷ fields_of ms

-- each member has one of these names
abbrev pub has_only : List (List ℕ) → Members → Bool
has_only names no_members = true
has_only names (member k d ms) = list_any (λ n. bytes_eq n k) names && has_only names ms

-- the text under a name
abbrev pub text_at : List ℕ → Data → Option (List ℕ)
text_at k d = option_and_then as_str (get k d)

-- a whole number from 0 to 2^64 - 1
abbrev pub as_count : Data → Option ℕ
as_count d = option_and_then as_u64 (as_number d)

-- the whole number under a name
abbrev pub count_at : List ℕ → Data → Option ℕ
count_at k d = option_and_then as_count (get k d)

-- a key: an array
abbrev pub as_key : Data → Option (List Value)
as_key d = option_map values_of (as_array d)

-- fields: an object
abbrev pub as_fields : Data → Option (List Field)
as_fields d = option_map fields_of (as_object d)

-- the key
abbrev pub key_at : Data → Option (List Value)
key_at d = option_and_then as_key (get (codes "k") d)

-- the row
abbrev pub row_at : Data → Option (List Field)
row_at d = option_and_then as_fields (get (codes "r") d)

-- the handle: a text
abbrev pub handle_at : Data → Option HandleText
handle_at d = option_map handle_said (text_at (codes "h") d)

-- a handle, or null for the end
abbrev pub handle_or_end : Data → Option (Option HandleText)
handle_or_end null = Some None
handle_or_end (boolean b) = None
handle_or_end (number n) = None
handle_or_end (string s) = Some (Some (handle_said s))
handle_or_end (array ds) = None
handle_or_end (object ms) = None

-- the position: a handle, or null for the end
abbrev pub end_at : Data → Option (Option HandleText)
end_at d = option_and_then handle_or_end (get (codes "h") d)

-- what is read of each of an array's values, where each is read
abbrev pub each_read : {X : Type 0} → (Data → Option X) → Items → Option (List X)
each_read f no_items = Some []
each_read f (element d ds) = do
  x ← f d
  xs ← each_read f ds
  Some (x ∷ xs)

-- a text as a handle
abbrev pub as_handle : Data → Option HandleText
as_handle d = option_map handle_said (as_str d)

-- the handles: an array of texts
abbrev pub handles_at : Data → Option (List HandleText)
handles_at d = option_and_then (each_read as_handle) (option_and_then as_array (get (codes "hs") d))

-- names: an array of texts
abbrev pub as_names : Data → Option (List (List ℕ))
as_names d = option_and_then (each_read as_str) (as_array d)

-- the names to sort by
abbrev pub names_at : Data → Option (List (List ℕ))
names_at d = option_and_then as_names (get (codes "by") d)

-- names that may be left out
abbrev pub names_if_given : Option Data → Option (Option (List (List ℕ)))
names_if_given None = Some None
names_if_given (Some d) = option_map (λ names. Some names) (as_names d)

-- the kind of an index: one of five texts
abbrev pub kind_at : Data → Option Kind
kind_at d = option_and_then kind_of (text_at (codes "kind") d)

-- a text that may be left out
abbrev pub text_if_given : Option Data → Option (Option (List ℕ))
text_if_given None = Some None
text_if_given (Some d) = option_map (λ s. Some s) (as_str d)

-- before a place of an index, where both are given; at no such place, where neither is
abbrev pub position_at : Option Data → Option Data → Option (Option Position)
position_at None None = Some None
position_at None (Some place) = None
position_at (Some index) None = None
position_at (Some index) (Some place) = do
  index ← as_str index
  place ← as_count place
  Some (Some (record { index = index; place = place }))

-- what is set and what is added, one of which is there
abbrev pub changes_at : Option Data → Option Data → Option Changes
changes_at None None = None
changes_at (Some set) None = option_map (λ fields. Set fields) (as_fields set)
changes_at None (Some add) = option_map (λ fields. Add fields) (as_fields add)
changes_at (Some set) (Some add) = do
  set ← as_fields set
  add ← as_fields add
  Some (Both set add)

-- a truth value that may be left out, and is then false
abbrev pub truth_if_given : Option Data → Option Bool
truth_if_given None = Some false
truth_if_given (Some d) = as_bool d

-- the truth value under a name
abbrev pub truth_at : List ℕ → Data → Option Bool
truth_at k d = truth_if_given (get k d)

-- a bound with its key or one without, of which one at most is there
abbrev pub bound_at : Option Data → Option Data → Option KeyBound
bound_at None None = Some Unbounded
bound_at (Some included) None = option_map (λ key. Included key) (as_key included)
bound_at None (Some excluded) = option_map (λ key. Excluded key) (as_key excluded)
bound_at (Some included) (Some excluded) = None

-- what is no command is a fault
abbrev pub or_fault : {X : Type 0} → Option X → Result X CommandFault
or_fault None = Err faults.Command
or_fault (Some x) = Ok x

-- a reading returned this, unless memory was refused
abbrev pub Gives : {X : Type 0} → Result X CommandFault → Result X CommandFault → Type 0
Gives (Ok x) answer = answer ≡ Ok x
Gives (Err faults.Json) answer = answer ≡ Err faults.Json
Gives (Err faults.Command) answer = answer ≡ Err faults.Command
Gives (Err faults.Memory) answer = Unit {0}
