-- Tables at their places.
use Rattle.std.proofs.Common.{◌≡◌, ℕ, zero, suc, ◌+◌, ◌<◌, Bool, true, List, [], ◌∷◌, length, map, get_or, Some, refl, sym, ap, subst, ◌∙◌, arith}
use Rattle.std.specs.Prelude.{Option, replicate, slice_get, bytes_eq}
use Rattle.std.specs.List.{range_with_len}
use Rattle.std.proofs.lemmas.Option.{same_Some, slice_get_read}
use Rattle.std.proofs.lemmas.List.Quantifiers.{position-Some}
use Rattle.std.proofs.lemmas.Slice.Eq.{bytes_eq-Decides}
use Rattle.table_schema.specs.Shape.{TableShape}
use Rattle.table_schema.specs.Valid.{IsValidSchema}
use Rattle.shared_tables.specs.Call.{CellData, is_known}
use Rattle.shared_tables.specs.Pass.{PassData}
use Rattle.shared_tables.specs.Hears.{SharedData, table_at}
use Rattle.shared_tables.specs.Requests.{IsEntered}

place_in : (at : ℕ) (ts : List TableShape) (k : ℕ) (shape : TableShape) → map (λ t. t.place) ts ≡ range_with_len at (length ts) → slice_get ts k ≡ Some shape → shape.place ≡ at + k
place_in at [] k shape e h = cc
place_in at (t ∷ ts) zero shape e h =
    let first : t.place ≡ at = cc in
    let same : t ≡ shape = same_Some t shape h in
    let here : shape.place ≡ at = ap (λ (v : TableShape). v.place) (sym same) ∙ first in
    omega arith
place_in at (t ∷ ts) (suc k) shape e h =
    let rest : map (λ (t : TableShape). t.place) ts ≡ range_with_len (at + 1) (length ts) = cc in
    let there = place_in (at + 1) ts k shape rest h in
    omega arith

tables_in : (n m : ℕ) (ts : List TableShape) (k : ℕ) (shape : TableShape) → length ts ≡ m → map (λ t. t.tables) ts ≡ replicate m n → slice_get ts k ≡ Some shape → shape.tables ≡ n
tables_in n m [] k shape l e h = cc
tables_in n zero (t ∷ ts) k shape l e h = cc
tables_in n (suc m) (t ∷ ts) zero shape l e h =
    let first : t.tables ≡ n = cc in
    ap (λ (v : TableShape). v.tables) (sym (same_Some t shape h)) ∙ first
tables_in n (suc m) (t ∷ ts) (suc k) shape l e h =
    let rest : map (λ (t : TableShape). t.tables) ts ≡ replicate m n = cc in
    tables_in n m ts k shape (omega arith) rest h

-- each table knows its place, and how many there are
place_of : (ts : List TableShape) (k : ℕ) (shape : TableShape) → IsValidSchema ts → slice_get ts k ≡ Some shape → shape.place ≡ k
place_of ts k shape valid h = let e = place_in 0 ts k shape valid.places h in omega arith

tables_of : (ts : List TableShape) (k : ℕ) (shape : TableShape) → IsValidSchema ts → slice_get ts k ≡ Some shape → shape.tables ≡ length ts
tables_of ts k shape valid h = tables_in (length ts) (length ts) ts k shape refl valid.tables h

-- a table of the schema that is found at its place
is_entered : (shared : SharedData) (k : ℕ) (shape : TableShape) (cell : CellData) → IsValidSchema shared.schema → k < length shared.schema
    → shape ≡ get_or shared.schema k shape → cell.shape ≡ shape → cell.workers ≡ shared.workers → IsEntered shared k cell
is_entered shared k shape cell valid within is same workers =
    let at : slice_get shared.schema k ≡ Some cell.shape = slice_get_read shared.schema (length shared.schema) k shape refl within is ∙ ap Some (sym same) in
    record { shape = at; placed = place_of shared.schema k cell.shape valid at; tables = tables_of shared.schema k cell.shape valid at; workers = workers }

-- ---- what is found by the tables that a lock's holder looks at

module _ (shared : SharedData) (inside tables : List TableShape) (workers : ℕ) (view : ◌≡◌ {A = SharedData} (record { schema = inside; workers = workers }) shared) (value : tables ≡ inside) where
  schema_is : shared.schema ≡ tables
  schema_is = ap (λ (d : SharedData). d.schema) (sym view) ∙ sym value

  workers_is : shared.workers ≡ workers
  workers_is = ap (λ (d : SharedData). d.workers) (sym view)

  pub known_by : (pass : PassData) (is answer : Bool) → answer ≡ is_known (length tables) workers pass → answer ≡ is → is_known (length shared.schema) shared.workers pass ≡ is
  known_by pass is answer e same = (λ i. is_known (length (schema_is i)) (workers_is i) pass) ∙ sym e ∙ same

  pub named_by : (name text : List ℕ) (found : Option ℕ) → name ≡ text → found ≡ table_at tables name → table_at shared.schema text ≡ found
  named_by name text found same e = (λ i. table_at (schema_is i) (sym same i)) ∙ sym e

  pub entered_by : (place : ℕ) (shape : TableShape) (cell seen : CellData) (name text : List ℕ) → IsValidSchema inside → name ≡ text → Some place ≡ table_at tables name
      → shape ≡ get_or tables place shape → cell ≡ seen → (seen.shape ≡ shape) × (seen.workers ≡ workers) → IsEntered shared place cell
  entered_by place shape cell seen name text valid same named is as_seen declared =
      let found : table_at shared.schema text ≡ Some place = named_by name text (Some place) same named in
      is_entered shared place shape cell (subst IsValidSchema (ap (λ (d : SharedData). d.schema) view) valid) (position-Some _ shared.schema place shape found).0
      (is ∙ ap (λ ts. get_or ts place shape) (sym schema_is))
      (ap (λ (d : CellData). d.shape) as_seen ∙ declared.0) (ap (λ (d : CellData). d.workers) as_seen ∙ declared.1 ∙ sym workers_is)

-- a further name is that of the table that was named
pub named_too : (ts : List TableShape) (k : ℕ) (shape : TableShape) (first next : List ℕ) → table_at ts first ≡ Some k → shape ≡ get_or ts k shape → next ≡ shape.name → table_at ts next ≡ Some k
named_too ts k shape first next named is same =
    let at = (position-Some (λ t. bytes_eq t.name first) ts k shape named).1 in
    let here : bytes_eq shape.name first ≡ true = ap (λ (t : TableShape). bytes_eq t.name first) is ∙ at in
    let one : shape.name ≡ first = (bytes_eq-Decides shape.name first).0 here in
    subst (λ name. table_at ts name ≡ Some k) (sym (same ∙ one)) named
