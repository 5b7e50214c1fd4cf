-- Lists that are made an item at a time, and what the steps of an alteration give.
use Rattle.std.proofs.Common.{◌≡◌, ℕ, ◌+◌, ◌<◌, List, [], ◌∷◌, ◌++◌, length, map, take, get_or, Some, sym, ap, subst, ◌∙◌}
use Rattle.std.proofs.lemmas.List.{get_or_default, map-append, take_more}
use Rattle.container_model.specs.declared.handle.Entry.{Entry}
use Rattle.container_model.specs.declared.handle.Handle.{Handle}
use Rattle.container_model.specs.State.{list_at}
use Rattle.linked_set.specs.Restored.{restored}
use Rattle.table_alter.specs.Altered.{IsUnheldRow, IsWhyNot, altered_table, entries_of, index_at, order_from, order_of}
use Rattle.table_alter.specs.Same.{place_before}
use Rattle.table_alter.specs.Sources.{sources_of}
use Rattle.table_alter.specs.declared.fault.Unalterable.{Unalterable}
use Rattle.table_alter.specs.declared.fault.Unalterable.TheVariants.{Memory, Full, Slot, Cell, Clash, Unfit}
use Rattle.table_alter.specs.declared.source.Fill.{Fill}
use Rattle.table_alter.specs.declared.source.Source.{Source}
use Rattle.table_schema.specs.declared.column.Column.{Column}
use Rattle.table_schema.specs.declared.column.IndexSpec.{IndexSpec}
use Rattle.table_schema.specs.Shape.{TableShape}
use Rattle.table_terms.specs.Table.{Cells, TableState, keys_of, specs_of}

-- what is made of one item more
pub map_more : {X Y : Type 0} (f : X → Y) (xs : List X) (k : ℕ) (d : X) → k < length xs → map f (take (k + 1) xs) ≡ map f (take k xs) ++ f (get_or xs k d) ∷ []
map_more f xs k d lt = ap (map f) (take_more xs k d lt) ∙ map-append f (take k xs) (get_or xs k d ∷ [])

-- an index that stood before has its order
pub kept_order : (t : TableState) (before after : TableShape) (entries : List (Entry Cells)) (place b : ℕ) (index : IndexSpec) → before ≡ t.shape → place < length after.indices
    → index ≡ get_or after.indices place index → place_before before after index ≡ Some b → list_at t.records.lists b ≡ order_of t after entries (index_at after place)
kept_order t before after entries place b index is_before lt is found =
    let same : index ≡ index_at after place = is ∙ get_or_default after.indices place index _ lt in
    let here : place_before t.shape after (index_at after place) ≡ Some b = sym (ap (λ s. place_before s after (index_at after place)) is_before) ∙ (sym (ap (place_before before after) same) ∙ found) in
    sym (ap (λ o. order_from t entries o (index_at after place)) here)

by_why : (t : TableState) (after : TableShape) (fills : List Fill) (why : Unalterable) → IsUnheldRow t.records.entries after.columns (sources_of t.shape.columns fills after.columns) why → IsWhyNot t after fills why
by_why t after fills Memory h = tt
by_why t after fills Full h = absurd h
by_why t after fills (Slot handle) h = absurd h
by_why t after fills (Cell column handle) h = h
by_why t after fills (Clash place first second) h = absurd h
by_why t after fills Unfit h = absurd h

-- a record whose cell a column can't hold
pub unheld_why : (t : TableState) (after : TableShape) (fills : List Fill) (columns : List Column) (sources : List Source) → columns ≡ after.columns
    → sources ≡ sources_of t.shape.columns fills after.columns → (why : Unalterable) → IsUnheldRow t.records.entries columns sources why → IsWhyNot t after fills why
unheld_why t after fills columns sources is_columns is_sources why h =
    by_why t after fills why (subst (λ ss. IsUnheldRow t.records.entries after.columns ss why) is_sources (subst (λ cs. IsUnheldRow t.records.entries cs sources why) is_columns h))

-- what is restored is the altered table
pub altered_is : (t : TableState) (after spec : TableShape) (fills : List Fill) (writes : ℕ) (entries : List (Entry Cells)) (lists : List (List Handle)) → spec ≡ after → writes ≡ t.records.writes
    → entries ≡ entries_of t after fills → lists ≡ map (order_of t after entries) after.indices
    → ◌≡◌ {A = TableState} (record { shape = spec; records = restored 8 spec.max writes (keys_of spec) (specs_of spec) entries lists }) (altered_table t after fills)
altered_is t after spec fills writes entries lists is_spec is_writes is_entries is_lists =
    ap (λ (s : TableShape). record { shape = s; records = restored 8 s.max writes (keys_of s) (specs_of s) entries lists }) is_spec
    ∙ (ap (λ w. record { shape = after; records = restored 8 after.max w (keys_of after) (specs_of after) entries lists }) is_writes
    ∙ (ap (λ ls. record { shape = after; records = restored 8 after.max t.records.writes (keys_of after) (specs_of after) entries ls }) is_lists
    ∙ ap (λ es. record { shape = after; records = restored 8 after.max t.records.writes (keys_of after) (specs_of after) es (map (order_of t after es) after.indices) }) is_entries))
