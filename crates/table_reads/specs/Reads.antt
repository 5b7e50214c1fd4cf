-- What the reads tell of a table.
use Rattle.std.specs.Prelude.{ℕ, List, [], length, map, Option, unwrap_or, Result, Ok, Err}
use Rattle.std.specs.Option.{option_map_or}
use Rattle.container_model.specs.declared.handle.Handle.{Handle}
use Rattle.container_model.specs.declared.refusal.Why.{Why}
use Rattle.container_model.specs.State.{row_of, list_at}
use Rattle.table_reply.specs.Answer.{found, counted, listed, shown, Listed, named}
use Rattle.table_cmd.specs.declared.command.HandleText.{HandleText}
use Rattle.table_reply.specs.declared.fault.Fault.TheVariants as faults
use Rattle.table_terms.specs.declared.kinds.Kinds.TheVariants as kinds
use Rattle.table_records.specs.Headings.{headings_of}
use Rattle.table_terms.specs.Step.{Step, refused, refused_by, then_step, told}
use Rattle.table_terms.specs.Table.{Cells, TableState}
use Rattle.table_terms.specs.Words.{handle_for, index_named}

-- the record that the container answers, or why it refuses
abbrev pub found_by : TableState → Result (Option Handle) Why → Step
found_by t (Ok h) = told t (found t.records.writes h)
found_by t (Err why) = refused_by t why

-- and the number
abbrev pub counted_by : TableState → Result ℕ Why → Step
counted_by t (Ok n) = told t (counted t.records.writes n)
counted_by t (Err why) = refused_by t why

-- the number of all records
abbrev pub size_step : TableState → Step
size_step t = told t (counted t.records.writes (length t.records.entries))

-- a record as an answer shows it
abbrev pub listed_row : TableState → Handle → Cells → Listed
listed_row t h row = record { handle = h; row = named (headings_of t.shape.columns) row }

-- the record of a handle
unfoldable pub get_record : TableState → Handle → Step
get_record t h = option_map_or (λ row. told t (shown t.records.writes (listed_row t h row))) (row_of t.records.entries h) (refused t faults.Handle)

abbrev pub get_step : TableState → HandleText → Step
get_step t text = then_step t (handle_for text) (get_record t)

abbrev pub listed_handle : TableState → Handle → Listed
listed_handle t h = listed_row t h (unwrap_or (row_of t.records.entries h) [])

-- the records of these handles
unfoldable pub show_handles : TableState → List Handle → Step
show_handles t handles = told t (listed t.records.writes (map (listed_handle t) handles))

-- the records of an index, in its order
abbrev pub list_in : TableState → ℕ → Step
list_in t index = show_handles t (list_at t.records.lists index)

abbrev pub list_step : TableState → List ℕ → Step
list_step t name = then_step t (index_named kinds.All t.shape.indices name) (list_in t)
