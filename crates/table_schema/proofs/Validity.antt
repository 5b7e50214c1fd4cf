-- A schema file that passes its tests makes a valid schema.
use Rattle.std.proofs.Common.{◌≡◌, ℕ, ℤ, pos, negsuc, ◌+◌, ◌<◌, ◌≤◌, Bool, true, false, List, [], ◌∷◌, length, get_or, map, replicate, refl, ap, sym, ◌∙◌, subst, suc, Option, Some, None, arith}
use Rattle.std.specs.Prelude.{IsTrue, ◌&&◌, if◌then◌else◌, nat_le, int_le, unsigned_abs, option_map, option_and_then, bytes_eq}
use Rattle.std.specs.List.{AllByRecursion, list_all, range_with_len}
use Rattle.std.proofs.lemmas.Bool.{and_parts, false≢true, lt-ltb, le-leb, leb-true, and_from}
use Rattle.key_extract.specs.declared.key.Part.{Part}
use Rattle.table_schema.specs.declared.column.Column.{Column}
use Rattle.table_schema.specs.declared.column.IndexSpec.{IndexSpec}
use Rattle.table_schema.specs.Shape.{TableShape}
use Rattle.table_schema.specs.Draft.{all_of, IndexDraft, TableDraft}
use Rattle.table_schema.specs.Resolved.{with_key, parts_of, index_for, table_for, tables_from, tables_for}
use Rattle.table_schema.specs.Tests.{index_is_within_limits, max_is_within_limits, table_is_within_limits, is_within_limits, has_good_names, have_good_names}
use Rattle.table_schema.specs.Valid.{is_within, is_name, are_names, are_distinct, has_good_key, IsValidTable, IsValidSchema}
use Rattle.table_schema.proofs.Facts.{within_high, all_at}
use Rattle.table_schema.proofs.Readings.{list_all_map}

-- what a list of results holds
abbrev Split : {X : Type 0} → Option X → Option (List X) → List X → Type 0
Split {X} o rest xs = (x : X) × (ys : List X) × (o ≡ Some x) × (rest ≡ Some ys) × (x ∷ ys ≡ xs)

split : {X : Type 0} (o : Option X) (rest : Option (List X)) (xs : List X) → option_and_then (λ x. option_map (λ ys. x ∷ ys) rest) o ≡ Some xs → Split o rest xs
split None rest xs h = cc
split (Some x) None xs h = cc
split (Some x) (Some ys) xs h = (x, ys, refl, refl, cc)

-- the tests of a table
pub record Limits (t : TableDraft) : Type 0 where
  pub max : IsTrue (max_is_within_limits t.max)
  pub columns : IsTrue (is_within 1 16 (length t.columns))
  pub indices : IsTrue (is_within 1 8 (length t.indices))
  pub keys : IsTrue (list_all index_is_within_limits t.indices)

pub limits : (t : TableDraft) → IsTrue (table_is_within_limits t) → Limits t
unfolding table_is_within_limits
limits t h =
    let (max, others) = and_parts (max_is_within_limits t.max) (is_within 1 16 (length t.columns) && (is_within 1 8 (length t.indices) && list_all index_is_within_limits t.indices)) h in
    let (columns, more) = and_parts (is_within 1 16 (length t.columns)) (is_within 1 8 (length t.indices) && list_all index_is_within_limits t.indices) others in
    let (indices, keys) = and_parts (is_within 1 8 (length t.indices)) (list_all index_is_within_limits t.indices) more in
    record { max = max; columns = columns; indices = indices; keys = keys }

pub max_fits : (z : ℤ) → IsTrue (max_is_within_limits z) → (1 ≤ unsigned_abs z) × (unsigned_abs z ≤ 4294967295)
max_fits (pos n) h =
    let (low, high) = and_parts (int_le (pos 1) (pos n)) (int_le (pos n) (pos 4294967295)) h in
    (leb-true 1 n low, leb-true n 4294967295 high)
max_fits (negsuc n) h = absurd (false≢true h)

-- what an index is made of
made : (n : ℕ) (b : Bool) (y x : IndexSpec) → has_good_key n y ≡ b → (if b then Some y else None) ≡ Some x → (y ≡ x) × IsTrue (has_good_key n x)
made n true y x e h = let same : y ≡ x = cc in (same, subst (λ z. IsTrue (has_good_key n z)) same e)
made n false y x e h = cc

made_of : (n : ℕ) (draft : IndexDraft) (o : Option (Option (List Part))) (x : IndexSpec) → option_and_then (λ key. if has_good_key n (with_key draft key) then Some (with_key draft key) else None) o ≡ Some x → (x.name ≡ draft.name) × IsTrue (has_good_key n x)
made_of n draft None x h = cc
made_of n draft (Some key) x h =
    let m = made n (has_good_key n (with_key draft key)) (with_key draft key) x refl h in
    (sym (ap (λ (z : IndexSpec). z.name) m.0), m.1)

index_made : (columns : List Column) (draft : IndexDraft) (x : IndexSpec) → index_for columns draft ≡ Some x → (x.name ≡ draft.name) × IsTrue (has_good_key (length columns) x)
unfolding index_for
index_made columns draft x h = made_of (length columns) draft (parts_of columns draft.key) x h

record Made (columns : List Column) (ds : List IndexDraft) (xs : List IndexSpec) : Type 0 where
  names : map (λ (index : IndexSpec). index.name) xs ≡ map (λ (index : IndexDraft). index.name) ds
  count : length xs ≡ length ds
  keys : IsTrue (list_all (has_good_key (length columns)) xs)

indices_made : (columns : List Column) (ds : List IndexDraft) (xs : List IndexSpec) → all_of (map (index_for columns) ds) ≡ Some xs → Made columns ds xs
indices_made columns [] xs h = let e : [] ≡ xs = cc in subst (Made columns []) e (record { names = refl; count = refl; keys = refl })
indices_made columns (d ∷ ds) xs h =
    let (x, ys, here, others, same) = split (index_for columns d) (all_of (map (index_for columns) ds)) xs h in
    let one = index_made columns d x here in
    let more = indices_made columns ds ys others in
    subst (Made columns (d ∷ ds)) same (record {
      names = ap (λ n. n ∷ map (λ (index : IndexSpec). index.name) ys) one.0 ∙ ap (λ ns. d.name ∷ ns) more.names;
      count = ap suc more.count;
      keys = and_from (has_good_key (length columns) x) (list_all (has_good_key (length columns)) ys) one.1 more.keys;
    })

within : (low high n : ℕ) → low ≤ n → n ≤ high → IsTrue (is_within low high n)
within low high n l h = and_from (nat_le low n) (nat_le n high) (le-leb low n l) (le-leb n high h)

-- a table that passes its tests, and whose keys are resolved, is valid
pub valid_table : (tables place : ℕ) (draft : TableDraft) (indices : List IndexSpec) → all_of (map (index_for draft.columns) draft.indices) ≡ Some indices → IsTrue (table_is_within_limits draft) → IsTrue (has_good_names draft) → IsTrue (is_name draft.name) → place < tables → tables ≤ 16 → IsValidTable (record { name = draft.name; max = unsigned_abs draft.max; columns = draft.columns; indices = indices; place = place; tables = tables })
unfolding has_good_names
valid_table tables place draft indices h limit names name below few =
    let l = limits draft limit in
    let m = max_fits draft.max l.max in
    let made = indices_made draft.columns draft.indices indices h in
    let (columns, others) = and_parts (are_names (map (λ (column : Column). column.name) draft.columns)) (are_names (map (λ (index : IndexDraft). index.name) draft.indices)) names in
    record {
      name = name;
      max = within 1 4294967295 (unsigned_abs draft.max) m.0 m.1;
      columns = l.columns;
      indices = subst (λ n. IsTrue (is_within 1 8 n)) (sym made.count) l.indices;
      column_names = columns;
      index_names = subst (λ ns. IsTrue (are_names ns)) (sym made.names) others;
      keys = made.keys;
      place = lt-ltb place tables below;
      tables = within 1 16 tables (omega arith) few;
    }

record Shaped (n at : ℕ) (draft : TableDraft) (x : TableShape) : Type 0 where
  name : x.name ≡ draft.name
  place : x.place ≡ at
  tables : x.tables ≡ n
  valid : IsTrue (table_is_within_limits draft) → IsTrue (has_good_names draft) → IsTrue (is_name draft.name) → at < n → n ≤ 16 → IsValidTable x

shaped_of : (tables place : ℕ) (draft : TableDraft) (o : Option (List IndexSpec)) (x : TableShape) → all_of (map (index_for draft.columns) draft.indices) ≡ o → option_and_then (λ indices. Some (record { name = draft.name; max = unsigned_abs draft.max; columns = draft.columns; indices = indices; place = place; tables = tables })) o ≡ Some x → Shaped tables place draft x
shaped_of tables place draft None x e h = cc
shaped_of tables place draft (Some indices) x e h =
    let y : TableShape = record { name = draft.name; max = unsigned_abs draft.max; columns = draft.columns; indices = indices; place = place; tables = tables } in
    let same : y ≡ x = cc in
    subst (Shaped tables place draft) same (record { name = refl; place = refl; tables = refl; valid = λ a b c d f. valid_table tables place draft indices e a b c d f })

shaped : (tables place : ℕ) (draft : TableDraft) (x : TableShape) → table_for tables place draft ≡ Some x → Shaped tables place draft x
unfolding table_for
shaped tables place draft x h = shaped_of tables place draft (all_of (map (index_for draft.columns) draft.indices)) x refl h

record AreShaped (n at : ℕ) (ds : List TableDraft) (ts : List TableShape) : Type 0 where
  count : length ts ≡ length ds
  names : map (λ (t : TableShape). t.name) ts ≡ map (λ (d : TableDraft). d.name) ds
  places : map (λ (t : TableShape). t.place) ts ≡ range_with_len at (length ts)
  tables : map (λ (t : TableShape). t.tables) ts ≡ replicate (length ts) n
  valid : AllByRecursion IsValidTable ts

are_shaped : (tables place : ℕ) (ds : List TableDraft) (ts : List TableShape) → all_of (tables_from tables place ds) ≡ Some ts → IsTrue (list_all table_is_within_limits ds) → IsTrue (list_all has_good_names ds) → IsTrue (list_all is_name (map (λ (d : TableDraft). d.name) ds)) → place + length ds ≤ tables → tables ≤ 16 → AreShaped tables place ds ts
are_shaped tables place [] ts h a b c l few = let e : [] ≡ ts = cc in subst (AreShaped tables place []) e (record { count = refl; names = refl; places = refl; tables = refl; valid = tt })
are_shaped tables place (d ∷ ds) ts h a b c l few =
    let (x, ys, here, others, same) = split (table_for tables place d) (all_of (tables_from tables (place + 1) ds)) ts h in
    let one = shaped tables place d x here in
    let (limit, limit_more) = and_parts (table_is_within_limits d) (list_all table_is_within_limits ds) a in
    let (names, names_more) = and_parts (has_good_names d) (list_all has_good_names ds) b in
    let (name, name_more) = and_parts (is_name d.name) (list_all is_name (map (λ (t : TableDraft). t.name) ds)) c in
    let more = are_shaped tables (place + 1) ds ys others limit_more names_more name_more (omega arith) few in
    subst (AreShaped tables place (d ∷ ds)) same (record {
      count = ap suc more.count;
      names = ap (λ n. n ∷ map (λ (t : TableShape). t.name) ys) one.name ∙ ap (λ ns. d.name ∷ ns) more.names;
      places = ap (λ n. n ∷ map (λ (t : TableShape). t.place) ys) one.place ∙ ap (λ ns. place ∷ ns) more.places;
      tables = ap (λ n. n ∷ map (λ (t : TableShape). t.tables) ys) one.tables ∙ ap (λ ns. tables ∷ ns) more.tables;
      valid = (one.valid limit names name (omega arith) few, more.valid);
    })

-- the tables of a file that passes its tests are a valid schema
pub valid_schema : (ds : List TableDraft) (ts : List TableShape) → IsTrue (is_within_limits ds) → IsTrue (have_good_names ds) → tables_for ds ≡ Some ts → IsValidSchema ts
unfolding is_within_limits have_good_names
valid_schema ds ts a b h =
    let (count, limit) = and_parts (is_within 1 16 (length ds)) (list_all table_is_within_limits ds) a in
    let (names, good) = and_parts (are_names (map (λ (d : TableDraft). d.name) ds)) (list_all has_good_names ds) b in
    let name = (and_parts (list_all is_name (map (λ (d : TableDraft). d.name) ds)) (are_distinct bytes_eq (map (λ (d : TableDraft). d.name) ds)) names).0 in
    let s = are_shaped (length ds) 0 ds ts h limit good name (omega arith) (within_high 1 16 (length ds) count) in
    record {
      count = subst (λ n. IsTrue (is_within 1 16 n)) (sym s.count) count;
      names = subst (λ ns. IsTrue (are_names ns)) (sym s.names) names;
      valid = s.valid;
      places = s.places;
      tables = s.tables ∙ ap (λ n. replicate (length ts) n) (sym s.count);
    }

-- what the tests of a whole file say of the table at a place
module _ (ds : List TableDraft) (i : ℕ) (d : TableDraft) (below : i < length ds) (is : d ≡ get_or ds i d) where
  pub limits_at : IsTrue (is_within_limits ds) → IsTrue (table_is_within_limits d)
  unfolding is_within_limits
  limits_at h =
      let all = (and_parts (is_within 1 16 (length ds)) (list_all table_is_within_limits ds) h).1 in
      subst (λ x. IsTrue (table_is_within_limits x)) (sym is) (all_at table_is_within_limits ds i d all below)

  pub names_at : IsTrue (have_good_names ds) → IsTrue (has_good_names d)
  unfolding have_good_names
  names_at h =
      let all = (and_parts (are_names (map (λ (x : TableDraft). x.name) ds)) (list_all has_good_names ds) h).1 in
      subst (λ x. IsTrue (has_good_names x)) (sym is) (all_at has_good_names ds i d all below)

  pub name_at : IsTrue (have_good_names ds) → IsTrue (is_name d.name)
  unfolding have_good_names
  name_at h =
      let names = (and_parts (are_names (map (λ (x : TableDraft). x.name) ds)) (list_all has_good_names ds) h).0 in
      let good = (and_parts (list_all is_name (map (λ (x : TableDraft). x.name) ds)) (are_distinct bytes_eq (map (λ (x : TableDraft). x.name) ds)) names).0 in
      let all : IsTrue (list_all (λ (x : TableDraft). is_name x.name) ds) = sym (list_all_map is_name (λ (x : TableDraft). x.name) ds) ∙ good in
      subst (λ (x : TableDraft). IsTrue (is_name x.name)) (sym is) (all_at (λ (x : TableDraft). is_name x.name) ds i d all below)

pub few_tables : (ds : List TableDraft) → IsTrue (is_within_limits ds) → length ds ≤ 16
unfolding is_within_limits
few_tables ds h = within_high 1 16 (length ds) (and_parts (is_within 1 16 (length ds)) (list_all table_is_within_limits ds) h).0
