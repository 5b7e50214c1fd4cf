-- What a valid table promises, as the callers of its accessors need it.
use Rattle.std.proofs.Common.{◌≡◌, ℕ, ◌<◌, ◌≤◌, Bool, true, false, List, [], ◌∷◌, length, refl, zero, suc, Option, Some, None, arith}
use Rattle.std.specs.Prelude.{IsTrue, not, ◌&&◌, cond, is_some, is_none, slice_index_or, nat_le}
use Rattle.std.specs.List.{list_all}
use Rattle.std.specs.Option.{option_map_or}
use Rattle.std.proofs.lemmas.Bool.{and_parts, leb-true, false≢true}
use Rattle.container_model.specs.declared.handle.Kind.{Kind}
use Rattle.container_model.specs.declared.handle.Spec.{Spec}
use Rattle.container_model.specs.State.{has_key_kind, KeysMatch}
use Rattle.key_extract.specs.declared.key.Part.{Part}
use Rattle.key_extract.specs.Keys.{key_at}
use Rattle.table_schema.specs.declared.column.IndexSpec.{IndexSpec}
use Rattle.table_schema.specs.Shape.{TableShape, keys_of, specs_of}
use Rattle.table_schema.specs.Valid.{is_within, is_name, is_name_byte, is_key, has_good_key, IsValidTable}

pub within_low : (low high n : ℕ) → IsTrue (is_within low high n) → low ≤ n
within_low low high n h = leb-true low n (and_parts (nat_le low n) (nat_le n high) h).0

pub within_high : (low high n : ℕ) → IsTrue (is_within low high n) → n ≤ high
within_high low high n h = leb-true n high (and_parts (nat_le low n) (nat_le n high) h).1

pub name_is_short : (name : List ℕ) → IsTrue (is_name name) → length name ≤ 32
name_is_short name h = within_high 1 32 (length name) (and_parts (is_within 1 32 (length name)) (list_all is_name_byte name) h).0

-- what a test of all members says of each
pub all_at : {X : Type 0} (p : X → Bool) (xs : List X) (i : ℕ) (d : X) → IsTrue (list_all p xs) → i < length xs → IsTrue (p (slice_index_or xs i d))
all_at p [] i d h l = absurd (omega arith)
all_at p (x ∷ xs) zero d h l = (and_parts (p x) (list_all p xs) h).0
all_at p (x ∷ xs) (suc i) d h l = all_at p xs i d (and_parts (p x) (list_all p xs) h).1 (omega arith)

has_key : (columns : ℕ) (kind : Kind) (key : Option (List Part)) (keyed unique : Bool) → IsTrue (cond keyed (option_map_or (is_key columns kind) key false) (is_none key && not unique)) → is_some key ≡ keyed
has_key columns kind None true unique h = absurd (false≢true h)
has_key columns kind (Some parts) true unique h = refl
has_key columns kind None false unique h = refl
has_key columns kind (Some parts) false unique h = absurd (false≢true h)

no_key_is_not_unique : (columns : ℕ) (kind : Kind) (key : Option (List Part)) (keyed unique : Bool) → IsTrue (cond keyed (option_map_or (is_key columns kind) key false) (is_none key && not unique)) → IsTrue unique → IsTrue keyed
no_key_is_not_unique columns kind key true unique h u = refl
no_key_is_not_unique columns kind None false true h u = absurd (false≢true h)
no_key_is_not_unique columns kind None false false h u = u
no_key_is_not_unique columns kind (Some parts) false unique h u = absurd (false≢true h)

-- the indices that compare records, and they alone, have a key
pub has_key-is_keyed : (columns : ℕ) (index : IndexSpec) → IsTrue (has_good_key columns index) → is_some index.key ≡ has_key_kind index.kind
has_key-is_keyed columns index h = has_key columns index.kind index.key (has_key_kind index.kind) index.unique h

pub unique-is_keyed : (columns : ℕ) (index : IndexSpec) → IsTrue (has_good_key columns index) → IsTrue index.unique → IsTrue (has_key_kind index.kind)
unique-is_keyed columns index h = no_key_is_not_unique columns index.kind index.key (has_key_kind index.kind) index.unique h

keyed_at : (columns : ℕ) (xs : List IndexSpec) (i : ℕ) (d : Spec) → IsTrue (list_all (has_good_key columns) xs) → i < length (specs_of xs) → is_some (key_at (keys_of xs) i) ≡ has_key_kind (slice_index_or (specs_of xs) i d).kind
keyed_at columns [] i d h l = absurd (omega arith)
keyed_at columns (x ∷ xs) zero d h l = has_key-is_keyed columns x (and_parts (has_good_key columns x) (list_all (has_good_key columns) xs) h).0
keyed_at columns (x ∷ xs) (suc i) d h l = keyed_at columns xs i d (and_parts (has_good_key columns x) (list_all (has_good_key columns) xs) h).1 (omega arith)

unique_at : (columns : ℕ) (xs : List IndexSpec) (i : ℕ) (d : Spec) → IsTrue (list_all (has_good_key columns) xs) → i < length (specs_of xs) → IsTrue (slice_index_or (specs_of xs) i d).unique → IsTrue (has_key_kind (slice_index_or (specs_of xs) i d).kind)
unique_at columns [] i d h l u = absurd (omega arith)
unique_at columns (x ∷ xs) zero d h l u = unique-is_keyed columns x (and_parts (has_good_key columns x) (list_all (has_good_key columns) xs) h).0 u
unique_at columns (x ∷ xs) (suc i) d h l u = unique_at columns xs i d (and_parts (has_good_key columns x) (list_all (has_good_key columns) xs) h).1 (omega arith) u

-- a container may be made over the keys and the indices of a valid table
pub keys_match : (t : TableShape) → IsValidTable t → KeysMatch (λ i. is_some (key_at (keys_of t.indices) i)) (specs_of t.indices)
keys_match t valid = record {
  keyed = λ i d l. keyed_at (length t.columns) t.indices i d valid.keys l;
  unique = λ i d l u. unique_at (length t.columns) t.indices i d valid.keys l u;
}
