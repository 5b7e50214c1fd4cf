-- The words of a command in a table.
use Rattle.std.specs.Prelude.{ℕ, ◌<◌, ◌==◌, if◌then◌else◌, List, [], ◌∷◌, length, position, false, IsTrue, Option, Some, None, option_map, option_and_then, Result, Ok, Err, slice_get, bytes_eq}
use Rattle.std.specs.Option.{option_map_or}
use Rattle.container_model.specs.declared.handle.Handle.{Handle}
use Rattle.container_model.specs.Find.{kind_at}
use Rattle.container_model.specs.State.{State, is_hashed_kind}
use Rattle.key_extract.specs.Keys.{parts_at, probe_fits, probe_is_whole}
use Rattle.table_cmd.specs.declared.command.HandleText.{HandleText}
use Rattle.table_cmd.specs.declared.command.HandleText.TheVariants as texts
use Rattle.table_cmd.specs.declared.command.Value.{Value}
use Rattle.table_reply.specs.declared.fault.Fault.{Fault}
use Rattle.table_reply.specs.declared.fault.Fault.TheVariants as faults
use Rattle.table_schema.specs.declared.column.IndexSpec.{IndexSpec}
use Rattle.table_schema.specs.Shape.{TableShape}
use Rattle.table_terms.specs.declared.kinds.Kinds.{Kinds}
use Rattle.table_terms.specs.declared.kinds.Kinds.TheVariants.{Keyed}
use Rattle.table_terms.specs.Kinds.{takes}
use Rattle.table_terms.specs.Step.{Step, then_step}
use Rattle.table_terms.specs.Table.{Cells, HasIndices, Keys, TableState, keys_of}
use Rattle.table_terms.specs.Values.{◌>>=◌, probe_from}

-- what was found, or a fault in its place
abbrev pub or_fault : {A : Type 0} → Fault → Option A → Result A Fault
or_fault why None = Err why
or_fault why (Some x) = Ok x

-- the number of the index of a name
abbrev pub index_at : List IndexSpec → List ℕ → Option ℕ
index_at indices name = position (λ i. bytes_eq i.name name) indices

-- a number whose index is of one of the kinds
abbrev pub of_kind : Kinds → List IndexSpec → ℕ → Result ℕ Fault
of_kind kinds indices index = if option_map_or (λ i. takes kinds i.kind) (slice_get indices index) false then Ok index else Err faults.Kind

-- the number of the index of a name, which is to be of one of the kinds
abbrev pub index_named : Kinds → List IndexSpec → List ℕ → Result ℕ Fault
index_named kinds indices name = option_map_or (of_kind kinds indices) (index_at indices name) (Err faults.Index)

-- a number with the search key that values are at its index
abbrev pub probe_at : TableShape → List Value → ℕ → Result (ℕ × Cells) Fault
probe_at shape values index =
    or_fault faults.Key (option_map (λ probe. (index, probe)) (option_and_then (λ i. probe_from shape.columns i values) (slice_get shape.indices index)))

abbrev pub key_of_index : TableShape → List Value → Result ℕ Fault → Result (ℕ × Cells) Fault
key_of_index shape values (Ok index) = probe_at shape values index
key_of_index shape values (Err why) = Err why

-- the number of the index of a name, and the search key that values are there
abbrev pub key_for : TableShape → Kinds → List ℕ → List Value → Result (ℕ × Cells) Fault
key_for shape kinds name values = key_of_index shape values (index_named kinds shape.indices name)

-- a search key that is all of the key of its index
abbrev pub if_whole : TableShape → ℕ × Cells → Result (ℕ × Cells) Fault
if_whole shape key = if length key.1 == length (parts_at (keys_of shape) key.0) then Ok key else Err faults.Key

abbrev pub whole_of : TableShape → Result (ℕ × Cells) Fault → Result (ℕ × Cells) Fault
whole_of shape (Ok key) = if_whole shape key
whole_of shape (Err why) = Err why

-- the number of the index of a name, and its whole key that values are there
abbrev pub whole_key_for : TableShape → List ℕ → List Value → Result (ℕ × Cells) Fault
whole_key_for shape name values = whole_of shape (key_for shape Keyed name values)

-- what is done by the search key that values are at the index of a name
abbrev pub at_key : TableState → Kinds → List ℕ → List Value → (ℕ → Cells → Step) → Step
at_key t kinds name values step = then_step t (key_for t.shape kinds name values) (λ key. step key.0 key.1)

-- the handle that a text spells
abbrev pub spelled_by : HandleText → Option Handle
spelled_by (texts.Handle h) = Some h
spelled_by texts.Bad = None

abbrev pub handle_for : HandleText → Result Handle Fault
handle_for text = or_fault faults.Handle (spelled_by text)

-- the handles that texts spell, where each spells one
abbrev pub spelled : List HandleText → Option (List Handle)
spelled [] = Some []
spelled (text ∷ texts) = do
  h ← spelled_by text
  hs ← spelled texts
  Some (h ∷ hs)

-- the position that is asked for: null is the end
abbrev pub end_or_handle : Option HandleText → Result (Option Handle) Fault
end_or_handle None = Ok None
end_or_handle (Some (texts.Handle h)) = Ok (Some h)
end_or_handle (Some texts.Bad) = Err faults.Handle

-- the two that were found, or the first fault
abbrev pub both : {A B : Type 0} → Result A Fault → Result B Fault → Result (A × B) Fault
both (Ok x) (Ok y) = Ok (x, y)
both (Ok x) (Err why) = Err why
both (Err why) other = Err why

-- the number of the index of a name, which is to be of one of the kinds, and the handle
abbrev pub record_for : Kinds → List IndexSpec → List ℕ → HandleText → Result (ℕ × Handle) Fault
record_for kinds indices name text = both (index_named kinds indices name) (handle_for text)

-- and the position
abbrev pub position_for : Kinds → List IndexSpec → List ℕ → Option HandleText → Result (ℕ × Option Handle) Fault
position_for kinds indices name text = both (index_named kinds indices name) (end_or_handle text)

-- a search key of the index of a number
pub record IsKeyAt (shape : TableShape) (index : ℕ) (probe : Cells) : Type 0 where
  pub within : index < length shape.indices
  pub fits : IsTrue (probe_fits (parts_at (keys_of shape) index) probe)
  -- a hashed index is searched by a whole key
  pub whole : (records : State Keys Cells) → HasIndices shape records → IsTrue (is_hashed_kind (kind_at records index)) → IsTrue (probe_is_whole (parts_at records.keys index) probe)
