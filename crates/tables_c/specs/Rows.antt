-- What each call on one container does.
use Rattle.std.specs.Prelude.{◌≡◌, ◌⊎◌, ℕ, ◌&&◌, min, Bool, true, false, not, if◌then◌else◌, List, length, map, drop, ◌++◌, nat_le, nat_lt, slice_get, Option, None, Some, option_map, unwrap_or, Result, Ok, Err}
use Rattle.std.specs.Option.{option_map_or}
use Rattle.container_model.specs.Change.{cleared, erase_key_refusal, erase_refusal, erased_count, modify_refusal, replace_refusal, spent, with_erased, with_key_erased, with_modified, with_replaced}
use Rattle.container_model.specs.Find.{counted, found, found_lower, found_upper, nth, place, project_next, project_prev, rank}
use Rattle.container_model.specs.Insert.{ban, insert_refusal, new_handle, with_inserted}
use Rattle.container_model.specs.Sequence.{relocate_refusal, sequence_refusal, with_relocated, with_sorted}
use Rattle.container_model.specs.State.{State, has_key_kind, is_hashed_kind, is_sequence_kind, is_sorted_kind, list_at, row_of}
use Rattle.container_model.specs.declared.handle.Handle.{Handle}
use Rattle.container_model.specs.declared.handle.Kind.{Kind}
use Rattle.container_model.specs.declared.refusal.Why.{Why}
use Rattle.container_model.specs.declared.refusal.Why.TheVariants as whys
use Rattle.key_extract.specs.Keys.{key_cmp}
use Rattle.key_extract.specs.declared.key.Part.{Part}
use Rattle.linked_set.specs.Iteration.{with_rows}
use Rattle.table_schema.specs.Draft.{all_of}
use Rattle.table_schema.specs.Shape.{TableShape}
use Rattle.table_schema.specs.declared.column.Column.{Column}
use Rattle.table_schema.specs.declared.fault.SchemaFault.{SchemaFault}
use Rattle.table_terms.specs.Table.{Cells, Keys, TableState, new_table, probe_order, row_order}
use Rattle.tables_c.specs.Calls.{number_of}
use Rattle.tables_c.specs.Cells.{all_texts, cell_told, key_spelled, most, row_spelled}
use Rattle.tables_c.specs.declared.cells.RowCell.{RowCell}
use Rattle.tables_c.specs.declared.order.RowPart.{RowPart}
use Rattle.tables_c.specs.declared.rows.Rows.{Rows}
use Rattle.tables_c.specs.declared.search.Search.{Search}
use Rattle.tables_c.specs.declared.search.Search.TheVariants as searches
use Rattle.tables_c.specs.declared.told.RowHandle.{RowHandle}
use Rattle.tables_c.specs.declared.told.Told.{Told}
use Rattle.tables_c.specs.declared.walk.Walk.{Walk}
use Rattle.tables_c.specs.declared.walk.Walk.TheVariants as walks
use Rattle.tables_c.specs.declared.status.TheConstants.{BANNED, FULL, HANDLE, KIND, LOST, MEMORY, NONE, OK, PLACE, ROOM, ROW, SEARCH, SPENT, STALE, TABLE}

-- what a handle leads to: the records of a table, or nothing
abbrev pub led : Rows → Option TableState
led h = if h.is_open then Some h.value else None

-- a record's handle, as C has it and as the container has it
abbrev pub handle_told : Handle → RowHandle
handle_told h = record { stamp = h.stamp; slot = h.slot }

abbrev pub handle_of : RowHandle → Handle
handle_of h = record { slot = h.slot; stamp = h.stamp }

-- ---- what is told

-- the status of a refusal; the last three are of no call that is made here
abbrev pub refusal_number : Why → ℕ
refusal_number whys.Stale = STALE
refusal_number (whys.Banned index by) = BANNED
refusal_number whys.Full = FULL
refusal_number whys.Spent = SPENT
refusal_number whys.Memory = MEMORY
refusal_number whys.Kind = KIND
refusal_number whys.Definition = KIND
refusal_number whys.Place = PLACE
refusal_number whys.Order = KIND
refusal_number (whys.Clash first second) = KIND

-- a status alone, a record, a record or that there is none, and the record that is in the way at an index
abbrev pub status_told : ℕ → Told
status_told status = record { status = status; handle = None; index = None }

abbrev pub record_told : Handle → Told
record_told h = record { status = OK; handle = Some h; index = None }

abbrev pub position_told : Option Handle → Told
position_told None = status_told NONE
position_told (Some h) = record_told h

abbrev pub in_the_way : ℕ → ℕ → Handle → Told
in_the_way status index by = record { status = status; handle = Some by; index = Some index }

-- why the container refused
abbrev pub refusal_told : Why → Told
refusal_told (whys.Banned index by) = in_the_way BANNED index by
refusal_told whys.Stale = status_told STALE
refusal_told whys.Full = status_told FULL
refusal_told whys.Spent = status_told SPENT
refusal_told whys.Memory = status_told MEMORY
refusal_told whys.Kind = status_told KIND
refusal_told whys.Definition = status_told KIND
refusal_told whys.Place = status_told PLACE
refusal_told whys.Order = status_told KIND
refusal_told (whys.Clash first second) = status_told KIND

abbrev pub found_told : Result (Option Handle) Why → Told
found_told (Ok found) = position_told found
found_told (Err why) = refusal_told why

-- a status and a number
abbrev pub number_told : Result ℕ Why → ℕ × ℕ
number_told (Ok n) = (OK, n)
number_told (Err why) = (refusal_number why, 0)

-- ---- open

-- the records of the table of a number, or the status of why there are none
abbrev pub table_there : List TableShape → ℕ → Result TableState ℕ
table_there shapes table = option_map_or (λ shape. Ok (new_table shape)) (slice_get shapes table) (Err TABLE)

abbrev pub table_meant : Result (List TableShape) SchemaFault → ℕ → Result TableState ℕ
table_meant (Ok shapes) table = table_there shapes table
table_meant (Err fault) table = Err (number_of fault)

-- what a schema means, or a want of memory
abbrev pub OrMemory : Result TableState ℕ → Result TableState ℕ → Type 0
OrMemory made meant = (made ≡ meant) ⊎ (made ≡ Err MEMORY)

abbrev pub OpensRows : Option TableState → Result TableState ℕ → ℕ → Option TableState → Type 0
OpensRows (Some t) meant status after = (status ≡ HANDLE) × (after ≡ Some t)
OpensRows None meant status after =
    ((status ≡ OK) × (t : TableState) × (meant ≡ Ok t) × (after ≡ Some t))
    ⊎ ((after ≡ None) × ((status ≡ MEMORY) ⊎ (meant ≡ Err status)))

-- ---- changes

-- what a change tells, and the table that it leaves: nothing refuses it, or it leaves the table
abbrev pub change_step : TableState → Option Why → Told → State Keys Cells → Told × TableState
change_step t refusal told records = option_map_or (λ why. (refusal_told why, t)) refusal (told, record t { records = records })

-- a row is put in: its handle, or what its refusal tells
abbrev pub insert_row : TableState → Cells → Result Handle Told × TableState
insert_row t row =
    option_map_or
    (λ why. (Err (refusal_told why), t))
    (insert_refusal row_order t.records row) (Ok (new_handle t.records), record t { records = with_inserted row_order t.records None row })

-- a record is lost where another has its key
abbrev pub lost_told : Option (ℕ × Handle) → Told
lost_told None = status_told OK
lost_told (Some at) = in_the_way LOST at.0 at.1

abbrev pub replace_row : TableState → Handle → Cells → Told × TableState
replace_row t h row = change_step t (replace_refusal row_order t.records h row) (status_told OK) (with_replaced row_order t.records h row)

abbrev pub change_row : TableState → Handle → Cells → Told × TableState
change_row t h row =
    change_step t (modify_refusal t.records h) (lost_told (ban row_order t.records (Some h) row)) (with_modified row_order t.records h row)

abbrev pub modify_row : Bool → TableState → Handle → Cells → Told × TableState
modify_row true = replace_row
modify_row false = change_row

abbrev pub erase_step : TableState → Handle → Told × TableState
erase_step t h = change_step t (erase_refusal t.records h None) (status_told OK) (with_erased t.records h)

abbrev pub clear_step : TableState → Told × TableState
clear_step t = change_step t (spent t.records) (status_told OK) (cleared t.records)

-- what is done with the row that cells spell
abbrev pub with_spelled : TableState → List RowCell → List ℕ → (Cells → Told × TableState) → Told × TableState
with_spelled t cs texts step = option_map_or step (row_spelled t.shape.columns cs texts) (status_told ROW, t)

-- the row that cells spell is put in
abbrev pub insert_one : TableState → List RowCell → List ℕ → Result Handle Told × TableState
insert_one t cs texts = option_map_or (insert_row t) (row_spelled t.shape.columns cs texts) (Err (status_told ROW), t)

abbrev pub inserted_told : Result Handle Told → Told
inserted_told (Ok h) = record_told h
inserted_told (Err told) = told

abbrev pub insert_step : TableState → List RowCell → List ℕ → Told × TableState
insert_step t cs texts = (inserted_told (insert_one t cs texts).0, (insert_one t cs texts).1)

abbrev pub modify_step : TableState → Handle → List RowCell → List ℕ → Bool → Told × TableState
modify_step t h cs texts rollback = with_spelled t cs texts (modify_row rollback t h)

-- that was done, or memory was refused and nothing was done
abbrev pub Does : TableState → Told × TableState → Told → TableState → Type 0
Does t step told after = ((told ≡ step.0) × (after ≡ step.1)) ⊎ ((told ≡ status_told MEMORY) × (after ≡ t))

abbrev pub Inserts : TableState → Result Handle Told × TableState → Result Handle Told → TableState → Type 0
Inserts t step result after = ((result ≡ step.0) × (after ≡ step.1)) ⊎ ((result ≡ Err (status_told MEMORY)) × (after ≡ t))

-- what is told is put into its places, which stay where nothing is told of them
abbrev pub PutsHandle : Told → ℕ → RowHandle → RowHandle → Type 0
PutsHandle told status handle handle' = (status ≡ told.status) × (handle' ≡ option_map_or handle_told told.handle handle)

abbrev pub Puts : Told → ℕ → RowHandle → RowHandle → ℕ → ℕ → Type 0
Puts told status handle handle' index index' = PutsHandle told status handle handle' × (index' ≡ unwrap_or told.index index)

-- a closed handle tells nothing; an open one leads on to what the change left
abbrev pub Changes : Option TableState → (TableState → Told × TableState) → ℕ → RowHandle → RowHandle → ℕ → ℕ → Option TableState → Type 0
Changes None step status handle handle' index index' after = (status ≡ HANDLE) × (handle' ≡ handle) × (index' ≡ index) × (after ≡ None)
Changes (Some t) step status handle handle' index index' after =
    (told : Told) × (new : TableState) × (after ≡ Some new) × Does t (step t) told new × Puts told status handle handle' index index'

-- a change of which the status alone is told, and which takes no memory
abbrev pub Turns : Option TableState → (TableState → Told × TableState) → ℕ → Option TableState → Type 0
Turns None step status after = (status ≡ HANDLE) × (after ≡ None)
Turns (Some t) step status after = (status ≡ (step t).0.status) × (after ≡ Some (step t).1)

-- ---- searches by keys

abbrev pub search_takes : Search → Kind → Bool
search_takes searches.Find kind = has_key_kind kind
search_takes searches.Lower kind = is_sorted_kind kind
search_takes searches.Upper kind = is_sorted_kind kind

abbrev pub search_found : TableState → Search → ℕ → Cells → Result (Option Handle) Why
search_found t searches.Find index key = found probe_order t.records index key
search_found t searches.Lower index key = found_lower probe_order t.records index key
search_found t searches.Upper index key = found_upper probe_order t.records index key

-- the search key that cells spell at the index of a number, or the status of why there is none
abbrev pub key_there : TableState → Search → ℕ → List RowCell → List ℕ → Result Cells ℕ
key_there t search index cs texts =
    option_map_or
    (λ i. if search_takes search i.kind then option_map_or (λ key. Ok key) (key_spelled t.shape.columns i cs texts) (Err SEARCH) else Err KIND)
    (slice_get t.shape.indices index) (Err KIND)

abbrev pub search_at : TableState → Search → ℕ → Result Cells ℕ → Told
search_at t search index (Ok key) = found_told (search_found t search index key)
search_at t search index (Err status) = status_told status

abbrev pub search_step : TableState → Search → ℕ → List RowCell → List ℕ → Told
search_step t search index cs texts = search_at t search index (key_there t search index cs texts)

-- ---- all records of a key

-- how many have it
abbrev pub count_found : TableState → ℕ → Cells → ℕ × ℕ
count_found t index key = number_told (counted probe_order t.records index key)

abbrev pub count_there : TableState → ℕ → Result Cells ℕ → ℕ × ℕ
count_there t index (Ok key) = count_found t index key
count_there t index (Err status) = (status, 0)

abbrev pub count_step : TableState → ℕ → List RowCell → List ℕ → ℕ × ℕ
count_step t index cs texts = count_there t index (key_there t searches.Find index cs texts)

-- they are taken out, and told how many they were
abbrev pub erase_found : TableState → ℕ → Cells → (ℕ × ℕ) × TableState
erase_found t index key =
    option_map_or
    (λ why. ((refusal_number why, 0), t))
    (erase_key_refusal t.records index) ((OK, erased_count probe_order t.records index key), record t { records = with_key_erased probe_order t.records index key })

abbrev pub erase_key_there : TableState → ℕ → Result Cells ℕ → (ℕ × ℕ) × TableState
erase_key_there t index (Ok key) = erase_found t index key
erase_key_there t index (Err status) = ((status, 0), t)

abbrev pub erase_key_step : TableState → ℕ → List RowCell → List ℕ → (ℕ × ℕ) × TableState
erase_key_step t index cs texts = erase_key_there t index (key_there t searches.Find index cs texts)

-- that was done and its number told, or memory was refused and nothing was done
abbrev pub DoesCounted : TableState → (ℕ × ℕ) × TableState → ℕ × ℕ → TableState → Type 0
DoesCounted t step told after = ((told ≡ step.0) × (after ≡ step.1)) ⊎ ((told ≡ (MEMORY, 0)) × (after ≡ t))

abbrev pub Numbers : Option TableState → (TableState → (ℕ × ℕ) × TableState) → ℕ → ℕ → Option TableState → Type 0
Numbers None step status number after = (status ≡ HANDLE) × (number ≡ 0) × (after ≡ None)
Numbers (Some t) step status number after = (new : TableState) × (after ≡ Some new) × DoesCounted t (step t) (status, number) new

-- ---- the order of a sequence

-- whether there is an index of the number whose order may be changed
abbrev pub is_sequenced : TableState → ℕ → Bool
is_sequenced t index = option_map_or (λ i. is_sequence_kind i.kind) (slice_get t.shape.indices index) false

-- a record is moved before a place
abbrev pub moved_row : TableState → ℕ → ℕ → Handle → Told × TableState
moved_row t index place h = change_step t (relocate_refusal t.records index place h) (status_told OK) (with_relocated t.records index place h)

abbrev pub move_step : TableState → ℕ → ℕ → Handle → Told × TableState
move_step t index place h = if is_sequenced t index then moved_row t index place h else (status_told KIND, t)

-- the part of a key, where there is such a column
abbrev pub part_of : List Column → RowPart → Option Part
part_of columns p = if nat_lt p.column (length columns) then Some (record { column = p.column; falling = p.falls }) else None

-- the key of one to four parts, where there are such columns
abbrev pub key_of_parts : List Column → List RowPart → Option (List Part)
key_of_parts columns ps = if nat_le 1 (length ps) && nat_le (length ps) 4 then all_of (map (part_of columns) ps) else None

-- the records are put into the order of a key, and equal ones stay as they stand
abbrev pub sorted_rows : TableState → ℕ → List Part → Told × TableState
sorted_rows t index key = change_step t (sequence_refusal t.records index) (status_told OK) (with_sorted (key_cmp key) t.records index)

abbrev pub sort_step : TableState → ℕ → List RowPart → Told × TableState
sort_step t index ps =
    if is_sequenced t index then option_map_or (sorted_rows t index) (key_of_parts t.shape.columns ps) (status_told SEARCH, t) else (status_told KIND, t)

-- a change of which the status alone is told, and which takes memory
abbrev pub Sorts : Option TableState → (TableState → Told × TableState) → ℕ → Option TableState → Type 0
Sorts None step status after = (status ≡ HANDLE) × (after ≡ None)
Sorts (Some t) step status after = (told : Told) × (new : TableState) × (after ≡ Some new) × Does t (step t) told new × (status ≡ told.status)

-- ---- walks and places

-- whether there is an index of the number whose records have an order
abbrev pub is_walked : TableState → ℕ → Bool
is_walked t index = option_map_or (λ i. not (is_hashed_kind i.kind)) (slice_get t.shape.indices index) false

-- the first record of an index
abbrev pub first : State Keys Cells → ℕ → Option Handle
first s index = option_map (λ r. r.0) (slice_get (with_rows s (list_at s.lists index)) 0)

abbrev pub walked : State Keys Cells → ℕ → Walk → Result (Option Handle) Why
walked s index walks.First = Ok (first s index)
walked s index walks.Last = project_prev s index None
walked s index (walks.Next h) = project_next s index (Some h)
walked s index (walks.Previous h) = project_prev s index (Some h)

abbrev pub walk_step : TableState → ℕ → Walk → Told
walk_step t index walk = if is_walked t index then found_told (walked t.records index walk) else status_told KIND

abbrev pub nth_step : TableState → ℕ → ℕ → Told
nth_step t index n = found_told (nth t.records index n)

-- a read leaves the table: one that takes no memory, and one that takes some
abbrev pub Reads : Option TableState → (TableState → Told) → ℕ → RowHandle → RowHandle → Option TableState → Type 0
Reads None step status handle handle' after = (status ≡ HANDLE) × (handle' ≡ handle) × (after ≡ None)
Reads (Some t) step status handle handle' after = (after ≡ Some t) × PutsHandle (step t) status handle handle'

abbrev pub Searches : Option TableState → (TableState → Told) → ℕ → RowHandle → RowHandle → Option TableState → Type 0
Searches None step status handle handle' after = (status ≡ HANDLE) × (handle' ≡ handle) × (after ≡ None)
Searches (Some t) step status handle handle' after =
    (after ≡ Some t) × ((told : Told) × ((told ≡ step t) ⊎ (told ≡ status_told MEMORY)) × PutsHandle told status handle handle')

-- a number that is told, which is 0 where there is none
abbrev pub Counts : Option TableState → (TableState → ℕ × ℕ) → ℕ → ℕ → Option TableState → Type 0
Counts None step status number after = (status ≡ HANDLE) × (number ≡ 0) × (after ≡ None)
Counts (Some t) step status number after = ((status, number) ≡ step t) × (after ≡ Some t)

abbrev pub size_step : TableState → ℕ × ℕ
size_step t = (OK, length t.records.entries)

abbrev pub rank_step : ℕ → Handle → TableState → ℕ × ℕ
rank_step index h t = number_told (rank t.records index (Some h))

abbrev pub place_step : ℕ → Handle → TableState → ℕ × ℕ
place_step index h t = number_told (place t.records index h)

-- ---- a record's cells

-- what is told: a status, what two rooms hold, and how many cells and bytes there are
pub record Got : Type 0 where
  pub status : ℕ
  pub cells : List RowCell
  pub texts : List ℕ
  pub cell_count : ℕ
  pub text_length : ℕ

-- the rooms stay
abbrev pub stay : ℕ → List RowCell → List ℕ → (cell_count text_length : ℕ) → Got
stay status cells texts cell_count text_length =
    record { status = status; cells = cells; texts = texts; cell_count = cell_count; text_length = text_length }

-- cells and texts are moved to the fronts of the rooms, and what lies behind them stays
abbrev pub moved : Cells → List RowCell → List ℕ → Got
moved row cells texts =
    record {
      status = OK;
      cells = map cell_told row ++ drop (length row) cells;
      texts = all_texts row ++ drop (length (all_texts row)) texts;
      cell_count = length row;
      text_length = length (all_texts row);
    }

-- whether both fit; more bytes than have numbers fit nowhere
abbrev pub row_fits : Cells → List RowCell → List ℕ → Bool
row_fits row cells texts =
    nat_le (length (all_texts row)) most && (nat_le (length row) (length cells) && nat_le (length (all_texts row)) (length texts))

abbrev pub row_got : Cells → List RowCell → List ℕ → Got
row_got row cells texts =
    if row_fits row cells texts then moved row cells texts else stay ROOM cells texts (length row) (min (length (all_texts row)) most)

abbrev pub get_got : TableState → Handle → List RowCell → List ℕ → Got
get_got t h cells texts = option_map_or (λ row. row_got row cells texts) (row_of t.records.entries h) (stay STALE cells texts 0 0)

abbrev pub Gets : Option TableState → Handle → List RowCell → List ℕ → Got → Option TableState → Type 0
Gets None h cells texts got after = (got ≡ stay HANDLE cells texts 0 0) × (after ≡ None)
Gets (Some t) h cells texts got after = (got ≡ get_got t h cells texts) × (after ≡ Some t)
