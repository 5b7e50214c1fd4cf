-- What a change of a table's indices leaves.
use Rattle.std.specs.Prelude.{◌≡◌, ◌⊎◌, ⊤, ℕ, Option, Some, None, Result, MatchResult}
use Rattle.container_model.specs.declared.refusal.Why.{Why}
use Rattle.container_model.specs.declared.refusal.Why.TheVariants as whys
use Rattle.container_model.specs.Indices.{add_index_refusal, drop_index_refusal, with_index as with_container_index, without_index as without_container_index}
use Rattle.table_records.specs.declared.reindex.NotAdded.{NotAdded}
use Rattle.table_records.specs.declared.reindex.NotAdded.TheVariants as not_added
use Rattle.table_schema.specs.declared.column.IndexSpec.{IndexSpec}
use Rattle.table_schema.specs.Defined.{with_index, without_index}
use Rattle.table_terms.specs.Table.{TableState, keys_of, row_order, spec_of}

-- a table with one index more, the last, and why it may not have it
abbrev pub with_table_index : TableState → IndexSpec → TableState
with_table_index t index =
    record { shape = with_index t.shape index; records = with_container_index row_order t.records (spec_of index) (keys_of (with_index t.shape index)) }

abbrev pub add_refusal : TableState → IndexSpec → Option Why
add_refusal t index = add_index_refusal row_order t.records (spec_of index) (keys_of (with_index t.shape index))

-- a table without an index, and why it may not lose it
abbrev pub without_table_index : TableState → ℕ → TableState
without_table_index t index =
    record { shape = without_index t.shape index; records = without_container_index t.records index (keys_of (without_index t.shape index)) }

-- nothing refused the change, and it left this table; or it left the table as it was
abbrev pub Becomes : {T E : Type 0} → Result T E → TableState → TableState → Option Why → TableState → Type 0
Becomes r old new refusal changed = MatchResult r (λ _. (refusal ≡ None) × (new ≡ changed)) (λ _. new ≡ old)

-- why an index was not added: the container refused it, under the declaration with the index; or memory was refused
abbrev pub IsNotAdded : TableState → IndexSpec → NotAdded → Type 0
IsNotAdded t index (not_added.Refused why spec) =
    (spec ≡ with_index t.shape index) × ((Some why ≡ add_refusal t index) ⊎ (why ≡ whys.Memory))
IsNotAdded t index not_added.Memory = ⊤

-- why an index was not dropped: the container may not lose it, or it may, and memory was refused before
abbrev pub IsNotDropped : TableState → Why → Type 0
IsNotDropped t why = (Some why ≡ drop_index_refusal t.records) ⊎ ((why ≡ whys.Memory) × ¬ (drop_index_refusal t.records ≡ Some whys.Definition))
