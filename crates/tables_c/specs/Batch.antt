-- What a call with many records does.
use Rattle.std.specs.Prelude.{◌≡◌, ◌⊎◌, ℕ, zero, suc, ◌-◌, ◌==◌, ◌≤◌, min, Bool, true, false, List, [], ◌∷◌, length, take, drop, Option, Some, None, Result, Ok, Err}
use Rattle.container_model.specs.declared.handle.Handle.{Handle}
use Rattle.table_terms.specs.Table.{TableState}
use Rattle.tables_c.specs.Cells.{behind}
use Rattle.tables_c.specs.Rows.{Puts, handle_of, insert_one, status_told}
use Rattle.tables_c.specs.declared.cells.RowCell.{RowCell}
use Rattle.tables_c.specs.declared.told.RowHandle.{RowHandle}
use Rattle.tables_c.specs.declared.told.Told.{Told}
use Rattle.tables_c.specs.declared.status.TheConstants.{HANDLE, MEMORY, OK}

-- the cells of the next record, and those behind it; the last one has all that are left
abbrev pub cells_cut : Bool → ℕ → List RowCell → List RowCell × List RowCell
cells_cut true width cs = (cs, [])
cells_cut false width cs = (take (min width (length cs)) cs, drop (min width (length cs)) cs)

-- the bytes of its texts, and those behind them
abbrev pub texts_cut : Bool → List RowCell → List ℕ → List ℕ × List ℕ
texts_cut true row texts = (texts, [])
texts_cut false row texts = (take (length texts - length (behind row texts)) texts, behind row texts)

-- the next record is put in, where so many come after it
abbrev pub next_one : ℕ → ℕ → TableState → List RowCell → List ℕ → Result Handle Told × TableState
next_one width many t cs texts =
    let row = (cells_cut (many == 0) width cs).0 in
    insert_one t row (texts_cut (many == 0) row texts).0

-- Of so many records those with these handles are put in, one after another, each as a call for it alone does. The next one is refused, as
-- such a call tells, or there is none.
abbrev pub InsertsMany : ℕ → ℕ → TableState → List RowCell → List ℕ → List RowHandle → Told → TableState → Type 0
InsertsMany width zero t cs texts [] told after = (told ≡ status_told OK) × (after ≡ t)
InsertsMany width zero t cs texts (h ∷ hs) told after = ⊥
InsertsMany width (suc many) t cs texts [] told after = (next_one width many t cs texts ≡ (Err told, after)) ⊎ ((told ≡ status_told MEMORY) × (after ≡ t))
InsertsMany width (suc many) t cs texts (h ∷ hs) told after =
    let cells = cells_cut (many == 0) width cs in
    (next : TableState) × (next_one width many t cs texts ≡ (Ok (handle_of h), next))
    × InsertsMany width many next cells.1 (texts_cut (many == 0) cells.0 texts).1 hs told after

-- so many handles are told, and the places behind them stay
abbrev pub InsertsAll : TableState → List RowCell → List ℕ → List RowHandle → List RowHandle → Told → ℕ → TableState → Type 0
InsertsAll t cs texts handles handles' told count after =
    (count ≤ length handles) × (drop count handles' ≡ drop count handles) × InsertsMany (length t.shape.columns) (length handles) t cs texts (take count handles') told after

-- a closed handle tells nothing; an open one leads on to the table with those that are in
abbrev pub ChangesAll : Option TableState → List RowCell → List ℕ → List RowHandle → List RowHandle → ℕ → ℕ → RowHandle → RowHandle → ℕ → ℕ → Option TableState → Type 0
ChangesAll None cs texts handles handles' status count by by' index index' after =
    (status ≡ HANDLE) × (count ≡ 0) × (handles' ≡ handles) × (by' ≡ by) × (index' ≡ index) × (after ≡ None)
ChangesAll (Some t) cs texts handles handles' status count by by' index index' after =
    (told : Told) × (new : TableState) × (after ≡ Some new) × InsertsAll t cs texts handles handles' told count new × Puts told status by by' index index'
