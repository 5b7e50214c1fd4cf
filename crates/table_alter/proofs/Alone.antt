-- An index that is added to records which stand under a sequence alone.
use Rattle.std.proofs.Common.{◌≡◌, ℕ, ◌<◌, true, false, List, length, map, get_or, not, sym, ap, subst, ◌∙◌, ◌||◌, arith}
use Rattle.std.specs.Prelude.{bytes_eq}
use Rattle.std.specs.List.{list_all}
use Rattle.std.proofs.lemmas.Bool.{and_from, and_parts}
use Rattle.container_model.specs.declared.handle.Entry.{Entry}
use Rattle.table_alter.specs.Scaffold.{StandsAlone}
use Rattle.table_schema.proofs.Facts.{all_at}
use Rattle.table_schema.proofs.Readings.{list_all_map}
use Rattle.table_schema.specs.declared.column.IndexSpec.{IndexSpec}
use Rattle.table_schema.specs.Defined.{IsNewIndex}
use Rattle.table_schema.specs.Shape.{TableShape}
use Rattle.table_schema.specs.Valid.{IsValidTable, has_good_key, is_name}
use Rattle.table_terms.specs.Table.{Cells, TableState}

-- the index of a place has a good name and a good key
pub good_at : (after : TableShape) (place : ℕ) (index : IndexSpec) → IsValidTable after → place < length after.indices → index ≡ get_or after.indices place index
    → (is_name index.name ≡ true) × (has_good_key (length after.columns) index ≡ true)
good_at after place index valid lt is =
    let names = (and_parts (list_all is_name (map (λ i. i.name) after.indices)) _ valid.index_names).0 in
    let named = all_at (λ i. is_name i.name) after.indices place index (sym (list_all_map is_name (λ i. i.name) after.indices) ∙ names) lt in
    let keyed = all_at (has_good_key (length after.columns)) after.indices place index valid.keys lt in
    (ap (λ (i : IndexSpec). is_name i.name) is ∙ named, ap (has_good_key (length after.columns)) is ∙ keyed)

-- so it may be added
pub fits : (after : TableShape) (index : IndexSpec) (entries : List (Entry Cells)) (t : TableState) → StandsAlone after index.name entries t → is_name index.name ≡ true → has_good_key (length after.columns) index ≡ true → IsNewIndex t.shape.columns t.shape.indices index
fits after index entries t alone good key =
    subst (λ (s : TableShape). IsNewIndex s.columns s.indices index) (sym alone.shape)
    (record {
      room = omega arith;
      name = and_from (is_name index.name) (not (bytes_eq index.name alone.index.name || false)) good (ap (λ b. not (b || false)) alone.scaffold.other);
      key = key;
    })
