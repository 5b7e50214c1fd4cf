-- What the words of a command find in a table.
use Rattle.std.proofs.Common.{◌≡◌, ℕ, ◌<◌, ◌==◌, Bool, true, false, cond, List, length, Option, Some, None, Result, Ok, Err, refl, ap, ◌∙◌, subst}
use Rattle.std.specs.Prelude.{bytes_eq, if◌then◌else◌, nat_lt, option_and_then, option_map, position, slice_get}
use Rattle.std.specs.List.{position_or_len}
use Rattle.std.specs.Option.{option_map_or}
use Rattle.std.proofs.lemmas.Bool.{ltb-true}
use Rattle.std.proofs.lemmas.Option.{same_Some}
use Rattle.key_extract.specs.Keys.{parts_at}
use Rattle.table_cmd.specs.declared.command.Value.{Value}
use Rattle.table_reply.specs.declared.fault.Fault.{Fault}
use Rattle.table_reply.specs.declared.fault.Fault.TheVariants as faults
use Rattle.table_schema.specs.declared.column.Column.{Column}
use Rattle.table_schema.specs.declared.column.IndexSpec.{IndexSpec}
use Rattle.table_schema.specs.Shape.{TableShape}
use Rattle.table_terms.specs.declared.kinds.Kinds.{Kinds}
use Rattle.table_terms.specs.declared.kinds.Kinds.TheVariants.{Keyed}
use Rattle.table_terms.specs.Kinds.{takes}
use Rattle.table_terms.specs.Table.{Cells, keys_of}
use Rattle.table_terms.specs.Values.{are_enough, part_cells, parts_of, probe_from}
use Rattle.table_terms.specs.Words.{both, index_at, index_named, key_for, key_of_index, of_kind, or_fault, probe_at, whole_key_for, whole_of}
use Rattle.table_terms.proofs.Declared.{parts_at_index}

abbrev if_found : {X : Type 0} → Result X Fault → Option X
if_found (Ok x) = Some x
if_found (Err why) = None

same_Ok : {X : Type 0} (x y : X) → ◌≡◌ {A = Result X Fault} (Ok x) (Ok y) → x ≡ y
same_Ok x y e = same_Some x y (ap if_found e)

-- what is there is found
pub fault_free : {X : Type 0} (why : Fault) (o : Option X) (x : X) → or_fault why o ≡ Ok x → o ≡ Some x
fault_free why None x e = cc
fault_free why (Some y) x e = ap (λ z. Some z) (same_Ok y x e)

-- two are found where each is
pub both_found : {X Y : Type 0} (x : Result X Fault) (y : Result Y Fault) (p : X × Y) → both x y ≡ Ok p → (x ≡ Ok p.0) × (y ≡ Ok p.1)
both_found (Ok x) (Ok y) p e = let same = same_Ok (x, y) p e in (ap (λ q. Ok q.0) same, ap (λ q. Ok q.1) same)
both_found (Ok x) (Err why) p e = cc
both_found (Err why) other p e = cc

-- ---- numbers of indices

place_below : {X : Type 0} (test : X → Bool) (xs : List X) (n : ℕ) → position test xs ≡ Some n → n < length xs
place_below test xs n e = by (nat_lt (position_or_len test xs) (length xs)) refl e
  where
    by : (b : Bool) → nat_lt (position_or_len test xs) (length xs) ≡ b → cond b (Some (position_or_len test xs)) None ≡ Some n → n < length xs
    by true lt e = subst (λ k. k < length xs) (same_Some (position_or_len test xs) n e) (ltb-true (position_or_len test xs) (length xs) lt)
    by false lt e = cc

-- the number of an index is that of one
pub index_within : (kinds : Kinds) (indices : List IndexSpec) (name : List ℕ) (index : ℕ) → index_named kinds indices name ≡ Ok index → index < length indices
index_within kinds indices name index e = by (index_at indices name) (place_below (λ (i : IndexSpec). bytes_eq i.name name) indices) e
  where
    by_kind : (b : Bool) (n : ℕ) → (if b then Ok n else Err faults.Kind) ≡ Ok index → n ≡ index
    by_kind true n e = same_Ok n index e
    by_kind false n e = cc

    by : (o : Option ℕ) → ((n : ℕ) → o ≡ Some n → n < length indices) → option_map_or (of_kind kinds indices) o (Err faults.Index) ≡ Ok index → index < length indices
    by None below e = cc
    by (Some n) below e =
        subst (λ k. k < length indices) (by_kind (option_map_or (λ i. takes kinds i.kind) (slice_get indices n) false) n e) (below n refl)

-- ---- keys

-- the cells of a search key are those of the values
probe_cells : (columns : List Column) (index : IndexSpec) (values : List Value) (probe : Cells) → probe_from columns index values ≡ Some probe → part_cells columns (parts_of index) values ≡ Some probe
unfolding probe_from
probe_cells columns index values probe e = by (are_enough index (length values)) e
  where
    by : (b : Bool) → (if b then part_cells columns (parts_of index) values else None) ≡ Some probe → part_cells columns (parts_of index) values ≡ Some probe
    by true e = e
    by false e = cc

module _ (shape : TableShape) (values : List Value) (key : ℕ × Cells) where
  -- the key is the cells of the values, one for each of its first parts
  abbrev pub IsOfValues : Type 0
  IsOfValues = part_cells shape.columns (parts_at (keys_of shape) key.0) values ≡ Some key.1

  probe_found : (index : ℕ) → probe_at shape values index ≡ Ok key → IsOfValues
  probe_found index e = by_index (slice_get shape.indices index) refl e
    where
      by_probe : (i : IndexSpec) → slice_get shape.indices index ≡ Some i → (o : Option Cells) → probe_from shape.columns i values ≡ o → or_fault faults.Key (option_map (λ probe. (index, probe)) o) ≡ Ok key → IsOfValues
      by_probe i is None given e = cc
      by_probe i is (Some probe) given e =
          subst (λ (k : ℕ × Cells). part_cells shape.columns (parts_at (keys_of shape) k.0) values ≡ Some k.1) (same_Ok (index, probe) key e)
          (ap (λ parts. part_cells shape.columns parts values) (parts_at_index shape index i is) ∙ probe_cells shape.columns i values probe given)

      by_index : (o : Option IndexSpec) → slice_get shape.indices index ≡ o → or_fault faults.Key (option_map (λ probe. (index, probe)) (option_and_then (λ i. probe_from shape.columns i values) o)) ≡ Ok key → IsOfValues
      by_index None is e = cc
      by_index (Some i) is e = by_probe i is (probe_from shape.columns i values) refl e

  at_index : (r : Result ℕ Fault) → key_of_index shape values r ≡ Ok key → IsOfValues
  at_index (Ok index) e = probe_found index e
  at_index (Err why) e = cc

  whole_found : (r : Result (ℕ × Cells) Fault) → whole_of shape r ≡ Ok key → r ≡ Ok key
  whole_found (Ok k) e = by (length k.1 == length (parts_at (keys_of shape) k.0)) e
    where
      by : (b : Bool) → (if b then Ok k else Err faults.Key) ≡ Ok key → ◌≡◌ {A = Result (ℕ × Cells) Fault} (Ok k) (Ok key)
      by true e = e
      by false e = cc
  whole_found (Err why) e = cc

  pub key_found : (name : List ℕ) → whole_key_for shape name values ≡ Ok key → IsOfValues
  key_found name e = at_index (index_named Keyed shape.indices name) (whole_found (key_for shape Keyed name values) e)
