-- What the changes of its indices do to a table.
use Rattle.std.specs.Prelude.{ℕ, ◌+◌, Bool, List, Option}
use Rattle.container_model.specs.Indices.{drop_index_refusal}
use Rattle.container_model.specs.declared.handle.Kind.{Kind}
use Rattle.table_records.specs.Reindexed.{add_refusal, with_table_index, without_table_index}
use Rattle.table_reply.specs.declared.fault.Fault.TheVariants as faults
use Rattle.table_reply.specs.Answer.{done}
use Rattle.table_schema.specs.declared.column.IndexSpec.{IndexSpec}
use Rattle.table_schema.specs.Defined.{defined, with_index}
use Rattle.table_schema.specs.Draft.{IndexDraft}
use Rattle.table_terms.specs.declared.kinds.Kinds.TheVariants as kinds
use Rattle.table_terms.specs.Step.{Step, reindexed, then_step}
use Rattle.table_terms.specs.Table.{TableState}
use Rattle.table_terms.specs.Words.{index_named, or_fault}

-- an index added, the last; a clash of two records there is told in its name
unfoldable pub add_defined : TableState → IndexSpec → Step
add_defined t index = reindexed t (with_index t.shape index) (add_refusal t index) (done (t.records.writes + 1)) (with_table_index t index)

abbrev pub add_draft : TableState → IndexDraft → Step
add_draft t draft = then_step t (or_fault faults.Definition (defined t.shape.columns t.shape.indices draft)) (add_defined t)

-- the one of this name, kind and key
abbrev pub add_index_step : TableState → List ℕ → Kind → Bool → Option (List (List ℕ)) → Step
add_index_step t name kind unique key = add_draft t (record { name = name; kind = kind; unique = unique; key = key })

-- the index of a number dropped
unfoldable pub drop_at : TableState → ℕ → Step
drop_at t index = reindexed t t.shape (drop_index_refusal t.records) (done (t.records.writes + 1)) (without_table_index t index)

-- the one of this name
abbrev pub drop_index_step : TableState → List ℕ → Step
drop_index_step t name = then_step t (index_named kinds.All t.shape.indices name) (drop_at t)
