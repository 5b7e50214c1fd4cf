-- What is read of the state of a table that can stand.
use Rattle.std.proofs.Common.{◌≡◌, ℕ, ◌<◌, ◌≤◌, ◌^◌, true, List, [], ◌∷◌, length, map, refl, ap, ◌∙◌, arith}
use Rattle.std.specs.Prelude.{bytes_eq, IsUtf8}
use Rattle.std.specs.List.{AllByRecursion, list_all}
use Rattle.std.proofs.lemmas.Bool.{and_parts}
use Rattle.std.proofs.lemmas.List.{length-map}
use Rattle.container_model.specs.declared.handle.Entry.{Entry}
use Rattle.container_model.specs.declared.handle.Handle.{Handle}
use Rattle.container_model.specs.State.{list_at}
use Rattle.list_model.proofs.Lists.{All-moved, All-of_map}
use Rattle.multi_index.specs.declared.restore.Saved.{Saved}
use Rattle.multi_index.specs.declared.restore.Unrestorable.{Unrestorable}
use Rattle.multi_index.specs.declared.restore.Unrestorable.TheVariants.{Memory}
use Rattle.multi_index.specs.Restored.{AreWithin, IsUnrestorable}
use Rattle.table_records.specs.Restored.{restored_table}
use Rattle.table_reply.specs.Spelling.{HandleFits}
use Rattle.table_schema.specs.declared.column.IndexSpec.{IndexSpec}
use Rattle.table_schema.specs.Shape.{TableShape}
use Rattle.table_schema.specs.Valid.{are_distinct, is_name}
use Rattle.table_schema.proofs.Facts.{within_high}
use Rattle.table_state.specs.Parts.{EntriesFit, EntryFits, OrdersFit}
use Rattle.table_state.specs.Standing.{CanStand, RowFits}
use Rattle.table_terms.specs.Table.{Cells, TableState, keys_of, row_order, spec_of, specs_of}
use Rattle.table_state.proofs.Again.{texts_fit, values_fit}
use Rattle.table_state.proofs.Restorable.{as_many, each_index, only_memory}
use Rattle.table_state.proofs.Spelled.{columns_utf8, name_fits, named_utf8}

both_hold : (writes : ℕ) (entries : List (Entry Cells)) → AllByRecursion (λ e. 1 ≤ e.handle.stamp) entries → AllByRecursion (λ e. e.handle.stamp ≤ writes) entries → AllByRecursion (λ e. (1 ≤ e.handle.stamp) × (e.handle.stamp ≤ writes)) entries
both_hold writes [] low high = tt
both_hold writes (e ∷ es) low high = ((low.0, high.0), both_hold writes es low.1 high.1)

handle_fits : (writes max : ℕ) (h : Handle) → max ≤ 4294967295 → writes < 2 ^ 64 → h.stamp ≤ writes → h.slot < max → HandleFits h
handle_fits writes max h most numbered stamp slot = (omega (arith, most, slot), omega (arith, numbered, stamp))

handles_fit : (writes max : ℕ) (entries : List (Entry Cells)) → max ≤ 4294967295 → writes < 2 ^ 64 → AllByRecursion (λ e. e.handle.stamp ≤ writes) entries → AreWithin entries max → AllByRecursion (λ e. HandleFits e.handle) entries
handles_fit writes max [] most numbered stamps slots = tt
handles_fit writes max (e ∷ es) most numbered stamps slots = (handle_fits writes max e.handle most numbered stamps.0 slots.0, handles_fit writes max es most numbered stamps.1 slots.1)

rows_fit : (shape : TableShape) (entries : List (Entry Cells)) → IsUtf8 shape.name → AllByRecursion (λ e. HandleFits e.handle) entries → AllByRecursion (λ e. RowFits shape.columns e.row) entries → AllByRecursion (EntryFits shape) entries
rows_fit shape [] name handles rows = tt
rows_fit shape (e ∷ es) name handles rows =
    (record { line = (name, columns_utf8, handles.0, values_fit e.row rows.0.cells); row = rows.0 }, rows_fit shape es name handles.1 rows.1)

module _ (t : TableState) (stands : CanStand t) where
  abbrev entries : List (Entry Cells)
  entries = t.records.entries

  most : t.shape.max ≤ 4294967295
  most = within_high 1 4294967295 t.shape.max stands.declared.max

  all_handles : AllByRecursion (λ e. HandleFits e.handle) entries
  all_handles = handles_fit t.records.writes t.shape.max entries most stands.writes stands.kept.stamps stands.slots

  pub entries_fit : EntriesFit t.shape (length entries) entries
  entries_fit = record { count = refl; each = rows_fit t.shape entries (name_fits t.shape stands.declared) all_handles stands.rows }

  specs_many : length t.records.specs ≡ length t.shape.indices
  specs_many = ap length stands.indices.specs ∙ length-map t.shape.indices spec_of

  list_fits : (number : ℕ) → number < length t.shape.indices → AllByRecursion HandleFits (list_at t.records.lists number)
  list_fits number lt =
      let index = each_index (row_order t.records.keys) entries number t.records.specs t.records.lists (omega (arith, lt, specs_many)) stands.kept.indices in
      All-moved HandleFits (map (λ e. e.handle) entries) (list_at t.records.lists number) index.members (All-of_map (λ (e : Entry Cells). e.handle) HandleFits entries all_handles)

  index_names : list_all is_name (map (λ i. i.name) t.shape.indices) ≡ true
  index_names = (and_parts (list_all is_name (map (λ i. i.name) t.shape.indices)) (are_distinct bytes_eq (map (λ i. i.name) t.shape.indices)) stands.declared.index_names).0

  pub orders_fit : OrdersFit t.shape t.records.lists
  orders_fit = record {
    count = as_many (row_order t.records.keys) entries 0 t.records.specs t.records.lists stands.kept.indices ∙ specs_many;
    each = λ number lt. (name_fits t.shape stands.declared, named_utf8 (λ (i : IndexSpec). i.name) t.shape.indices index_names number, texts_fit _ (list_fits number lt));
  }

-- a table that can stand is restored, if memory allows
pub restorable : (shape : TableShape) (saved : Saved Cells) → CanStand (restored_table shape saved) → (why : Unrestorable) → IsUnrestorable (row_order (keys_of shape)) (specs_of shape) shape.max saved why → why ≡ Memory
restorable shape saved stands why =
    only_memory (row_order (keys_of shape)) (specs_of shape) shape.max saved (length-map saved.orders.items (λ order. order.items)) stands.kept.within_max
    (record { of_writes = both_hold saved.writes saved.entries.items stands.stamps stands.kept.stamps; rising = stands.kept.rising })
    stands.kept.slots stands.slots stands.kept.indices why
