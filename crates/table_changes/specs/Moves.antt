-- What the changes of a sequence's order do to a table.
use Rattle.std.specs.Prelude.{ℕ, ◌+◌, ◌&&◌, if◌then◌else◌, List, length, map, nat_le, Option, None}
use Rattle.container_model.specs.declared.handle.Handle.{Handle}
use Rattle.container_model.specs.Sequence.{rearrange_refusal, relocate_refusal, sequence_refusal, with_list, with_relocated, with_reversed, with_sorted}
use Rattle.key_extract.specs.declared.key.Part.{Part}
use Rattle.key_extract.specs.Keys.{key_cmp}
use Rattle.table_cmd.specs.declared.command.HandleText.{HandleText}
use Rattle.table_reply.specs.declared.fault.Fault.TheVariants as faults
use Rattle.table_reply.specs.Answer.{done}
use Rattle.table_schema.specs.declared.column.Column.{Column}
use Rattle.table_schema.specs.Draft.{all_of}
use Rattle.table_schema.specs.Resolved.{part_of}
use Rattle.table_terms.specs.declared.kinds.Kinds.TheVariants as kinds
use Rattle.table_terms.specs.Step.{Step, changed, then_step}
use Rattle.table_terms.specs.Table.{TableState}
use Rattle.table_terms.specs.Words.{index_named, or_fault, record_for, spelled}

-- a record moved before a place of a sequence
unfoldable pub move_record : TableState → ℕ → ℕ → Handle → Step
move_record t index place h = changed t (relocate_refusal t.records index place h) (done (t.records.writes + 1)) (with_relocated t.records index place h)

abbrev pub move_step : TableState → List ℕ → HandleText → ℕ → Step
move_step t name text place = then_step t (record_for kinds.Sequence t.shape.indices name text) (λ at. move_record t at.0 place at.1)

-- the records of a sequence put into the order of their handles
unfoldable pub rearrange_in : TableState → ℕ → List Handle → Step
rearrange_in t index handles = changed t (rearrange_refusal t.records index handles) (done (t.records.writes + 1)) (with_list t.records index handles)

abbrev pub rearrange_step : TableState → List ℕ → List HandleText → Step
rearrange_step t name texts =
    then_step t (index_named kinds.Sequence t.shape.indices name) (λ index. then_step t (or_fault faults.Handle (spelled texts)) (rearrange_in t index))

-- the parts of a key that one to four texts name
unfoldable pub parts_named : List Column → List (List ℕ) → Option (List Part)
parts_named columns names = if nat_le 1 (length names) && nat_le (length names) 4 then all_of (map (part_of columns) names) else None

-- the records of a sequence put into the order of a key
unfoldable pub sort_in : TableState → ℕ → List Part → Step
sort_in t index parts = changed t (sequence_refusal t.records index) (done (t.records.writes + 1)) (with_sorted (key_cmp parts) t.records index)

abbrev pub sort_named : TableState → ℕ → List (List ℕ) → Step
sort_named t index names = then_step t (or_fault faults.Key (parts_named t.shape.columns names)) (sort_in t index)

abbrev pub sort_step : TableState → List ℕ → List (List ℕ) → Step
sort_step t name names = then_step t (index_named kinds.Sequence t.shape.indices name) (λ index. sort_named t index names)

-- the records of a sequence the other way round
unfoldable pub reverse_in : TableState → ℕ → Step
reverse_in t index = changed t (sequence_refusal t.records index) (done (t.records.writes + 1)) (with_reversed t.records index)

abbrev pub reverse_step : TableState → List ℕ → Step
reverse_step t name = then_step t (index_named kinds.Sequence t.shape.indices name) (reverse_in t)
