-- Cells that columns and keys can hold.
use Rattle.std.proofs.Common.{◌≡◌, ◌≢◌, ℕ, zero, suc, ◌+◌, ◌<◌, ◌≤◌, Bool, true, false, List, [], ◌∷◌, length, get_or, drop, Some, None, Result, Ok, Err, refl, ap, sym, ◌∙◌, subst, arith}
use Rattle.std.specs.Prelude.{slice_get, IsTrue, nat_le, ◌==◌, ◌&&◌, ◌||◌, not, if◌then◌else◌}
use Rattle.std.specs.Option.{option_map_or}
use Rattle.std.proofs.lemmas.Bool.{and_parts}
use Rattle.std.proofs.lemmas.Bool.Decides.{nat_tests}
use Rattle.container_model.specs.State.{is_hashed_kind}
use Rattle.key_extract.specs.declared.cell.Cell.{Cell}
use Rattle.key_extract.specs.declared.key.Part.{Part}
use Rattle.key_extract.specs.Keys.{parts_at, probe_fits, probe_is_whole}
use Rattle.table_schema.specs.declared.column.Column.{Column}
use Rattle.table_schema.specs.declared.column.IndexSpec.{IndexSpec}
use Rattle.table_schema.specs.Shape.{TableShape}
use Rattle.table_terms.specs.Table.{Cells, TableState}
use Rattle.table_terms.specs.Values.{are_enough, can_hold, parts_of}
use Rattle.table_terms.specs.Words.{IsKeyAt}
use Rattle.table_terms.proofs.Declared.{kind_at_index, parts_at_index}
use Rattle.tables_c.specs.declared.cells.RowCell.{RowCell}
use Rattle.tables_c.specs.declared.search.Search.{Search}
use Rattle.tables_c.specs.declared.status.TheConstants.{KIND, SEARCH}
use Rattle.tables_c.specs.Cells.{column_holds, hold_key, hold_row, is_key, key_spelled, part_holds}
use Rattle.tables_c.specs.Rows.{key_there, search_takes}

and_false : (x : Bool) → (x && false) ≡ false
and_false true = refl
and_false false = refl

-- ---- rows

-- as many cells as there are no columns
pub none_held : (columns : List Column) (cells : List Cell) → length columns ≢ length cells → hold_row columns cells ≡ false
none_held [] [] other = absurd (other refl)
none_held [] (cell ∷ cells) other = refl
none_held (column ∷ columns) [] other = refl
none_held (column ∷ columns) (cell ∷ cells) other =
    ap (λ b. can_hold column cell && b) (none_held columns cells (λ e. other (ap suc e))) ∙ and_false (can_hold column cell)

-- ---- keys

none_left : (columns : List Column) (cells : List Cell) (i : ℕ) → i < length cells → hold_key columns [] (drop i cells) ≡ false
none_left columns [] i within = absurd (omega arith)
none_left columns (cell ∷ cells) zero within = refl
none_left columns (cell ∷ cells) (suc i) within = none_left columns cells i (omega arith)

-- one cell, and those behind it
pub next_held : (columns : List Column) (parts : List Part) (cells : List Cell) (i : ℕ) (d : Cell) → i < length cells →
    hold_key columns (drop i parts) (drop i cells) ≡ part_holds columns parts i (get_or cells i d) && hold_key columns (drop (i + 1) parts) (drop (i + 1) cells)
next_held columns parts [] i d within = absurd (omega arith)
next_held columns [] (cell ∷ cells) zero d within = refl
next_held columns [] (cell ∷ cells) (suc i) d within = none_left columns cells i (omega arith)
next_held columns (part ∷ parts) (cell ∷ cells) zero d within = refl
next_held columns (part ∷ parts) (cell ∷ cells) (suc i) d within =
    let e : suc i + 1 ≡ suc (i + 1) = omega arith in
    subst (λ n. hold_key columns (drop i parts) (drop i cells) ≡ part_holds columns parts i (get_or cells i d) && hold_key columns (drop n (part ∷ parts)) (drop n (cell ∷ cells))) (sym e)
    (next_held columns parts cells i d (omega arith))

held_within : (columns : List Column) (parts : List Part) (cells : List Cell) → IsTrue (hold_key columns parts cells) → length cells ≤ length parts
held_within columns parts [] h = omega arith
held_within columns [] (cell ∷ cells) h = cc
held_within columns (part ∷ parts) (cell ∷ cells) h =
    let rest = held_within columns parts cells (and_parts (column_holds columns part cell) (hold_key columns parts cells) h).1 in
    omega (arith, rest)

-- cells that search a declared index
pub key_at_index : (shape : TableShape) (number : ℕ) (index : IndexSpec) (key : Cells) → number < length shape.indices → slice_get shape.indices number ≡ Some index → is_key shape.columns index key ≡ true → IsKeyAt shape number key
key_at_index shape number index key within there is =
    let both = and_parts (are_enough index (length key)) (hold_key shape.columns (parts_of index) key) is in
    let enough = and_parts (nat_le 1 (length key)) (not (is_hashed_kind index.kind) || (length key == length (parts_of index))) both.0 in
    let few = held_within shape.columns (parts_of index) key both.1 in
    let one = enough.0 in
    let all = enough.1 in
    record {
      within = within;
      fits = subst (λ parts. IsTrue (probe_fits parts key)) (sym (parts_at_index shape number index there)) (grind (arith, nat_tests));
      whole = λ records declared hashed.
          let kind = kind_at_index shape number index records there declared.specs in
          subst (λ parts. IsTrue (probe_is_whole parts key)) (sym (ap (λ keys. parts_at keys number) declared.keys ∙ parts_at_index shape number index there))
          (grind (arith, nat_tests));
    }

-- a declared index that is searched so, and cells that are no search key of it
pub no_key_there : (t : TableState) (search : Search) (number : ℕ) (index : IndexSpec) (cs : List RowCell) (texts : List ℕ) → slice_get t.shape.indices number ≡ Some index → search_takes search index.kind ≡ true →
    key_spelled t.shape.columns index cs texts ≡ None → key_there t search number cs texts ≡ Err SEARCH
no_key_there t search number index cs texts there takes none =
    let key : IndexSpec → Result Cells ℕ = λ i. option_map_or (λ key. Ok key) (key_spelled t.shape.columns i cs texts) (Err SEARCH) in
    ap (λ found. option_map_or (λ i. if search_takes search i.kind then key i else Err KIND) found (Err KIND)) there
    ∙ (ap (λ b. if b then key index else Err KIND) takes ∙ ap (λ found. option_map_or (λ key. Ok key) found (Err SEARCH)) none)
