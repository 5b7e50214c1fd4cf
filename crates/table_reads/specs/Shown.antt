-- The records that a listing shows.
use Rattle.std.specs.Prelude.{List, [], map, unwrap_or}
use Rattle.container_model.specs.declared.handle.Handle.{Handle}
use Rattle.container_model.specs.declared.handle.Entry.{Entry}
use Rattle.container_model.specs.State.{row_of}
use Rattle.table_reply.specs.declared.records.Record.{Record}
use Rattle.table_terms.specs.Table.{Cells}

-- the records of handles
abbrev pub entries_of : List (Entry Cells) → List Handle → List (Entry Cells)
entries_of entries handles = map (λ h. record { handle = h; row = unwrap_or (row_of entries h) [] }) handles

-- the records that an answer shows
abbrev pub shown_entries : List Record → List (Entry Cells)
shown_entries records = map (λ r. record { handle = r.handle; row = r.row.now }) records
