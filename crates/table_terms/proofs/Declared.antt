-- The indices of a table, as the schema declares them and as the container has them.
use Rattle.std.proofs.Common.{refl, ◌≡◌, ℕ, zero, suc, ◌≤◌, List, [], ◌∷◌, length, map, Some, ap, ◌∙◌, arith}
use Rattle.std.specs.Prelude.{slice_get, unwrap_or, option_map, IsTrue, bytes_eq}
use Rattle.std.specs.List.{list_all}
use Rattle.std.specs.Option.{option_map_or}
use Rattle.std.proofs.lemmas.Bool.{and_parts}
use Rattle.std.proofs.lemmas.Bool.Decides.{nat_tests}
use Rattle.std.proofs.lemmas.Option.{slice_get-map}
use Rattle.container_model.specs.declared.handle.Kind.TheVariants.{Sequenced}
use Rattle.container_model.specs.Find.{kind_at}
use Rattle.container_model.specs.State.{State}
use Rattle.key_extract.specs.Keys.{key_at, parts_at}
use Rattle.table_schema.specs.declared.column.IndexSpec.{IndexSpec}
use Rattle.table_schema.specs.Shape.{TableShape}
use Rattle.table_reply.specs.Plain.{is_plain}
use Rattle.table_schema.specs.Valid.{IsValidTable, is_within, is_name, is_name_byte, are_distinct}
use Rattle.table_schema.proofs.Facts.{name_is_short}
use Rattle.table_terms.specs.Table.{Cells, Keys, keys_of, spec_of, specs_of}
use Rattle.table_terms.specs.Values.{parts_of}

-- the key of a declared index
pub key_at_index : (indices : List IndexSpec) (number : ℕ) (index : IndexSpec) → slice_get indices number ≡ Some index → key_at (map (λ i. i.key) indices) number ≡ index.key
key_at_index [] number index e = cc
key_at_index (i ∷ is) zero index e = let same : i ≡ index = cc in ap (λ x. x.key) same
key_at_index (i ∷ is) (suc number) index e = key_at_index is number index e

pub parts_at_index : (shape : TableShape) (number : ℕ) (index : IndexSpec) → slice_get shape.indices number ≡ Some index → parts_at (keys_of shape) number ≡ parts_of index
parts_at_index shape number index e = ap (λ key. unwrap_or key []) (key_at_index shape.indices number index e)

-- and its kind
pub kind_at_index : (shape : TableShape) (number : ℕ) (index : IndexSpec) (records : State Keys Cells) → slice_get shape.indices number ≡ Some index → records.specs ≡ specs_of shape → kind_at records number ≡ index.kind
kind_at_index shape number index records e specs =
    let there : slice_get records.specs number ≡ Some (spec_of index) = ap (λ ss. slice_get ss number) specs ∙ (slice_get-map spec_of shape.indices number ∙ ap (option_map spec_of) e) in
    ap (λ s. option_map_or (λ spec. spec.kind) s Sequenced) there

-- the names of a valid table's indices are short
names_are_short : (indices : List IndexSpec) → IsTrue (list_all is_name (map (λ i. i.name) indices)) → (number : ℕ) → length (option_map_or (λ i. i.name) (slice_get indices number) []) ≤ 32
names_are_short [] h number = omega arith
names_are_short (x ∷ xs) h zero = name_is_short x.name (and_parts (is_name x.name) (list_all is_name (map (λ i. i.name) xs)) h).0
names_are_short (x ∷ xs) h (suc number) = names_are_short xs (and_parts (is_name x.name) (list_all is_name (map (λ i. i.name) xs)) h).1 number

pub index_name_is_short : (shape : TableShape) → IsValidTable shape → (number : ℕ) → length (option_map_or (λ i. i.name) (slice_get shape.indices number) []) ≤ 32
index_name_is_short shape valid number =
    let names = map (λ i. i.name) shape.indices in
    names_are_short shape.indices (and_parts (list_all is_name names) (are_distinct bytes_eq names) valid.index_names).0 number

-- and need no escape
name_is_plain : (name : List ℕ) → IsTrue (list_all is_name_byte name) → IsTrue (list_all is_plain name)
name_is_plain [] h = refl
name_is_plain (b ∷ bs) h =
    let parts = and_parts (is_name_byte b) (list_all is_name_byte bs) h in
    let here = parts.0 in
    let rest = name_is_plain bs parts.1 in
    grind (arith, nat_tests)

names_are_plain : (indices : List IndexSpec) → IsTrue (list_all is_name (map (λ i. i.name) indices)) → (number : ℕ) → IsTrue (list_all is_plain (option_map_or (λ i. i.name) (slice_get indices number) []))
names_are_plain [] h number = refl
names_are_plain (x ∷ xs) h zero = name_is_plain x.name (and_parts (is_within 1 32 (length x.name)) (list_all is_name_byte x.name) (and_parts (is_name x.name) (list_all is_name (map (λ i. i.name) xs)) h).0).1
names_are_plain (x ∷ xs) h (suc number) = names_are_plain xs (and_parts (is_name x.name) (list_all is_name (map (λ i. i.name) xs)) h).1 number

pub index_name_is_plain : (shape : TableShape) → IsValidTable shape → (number : ℕ) → IsTrue (list_all is_plain (option_map_or (λ i. i.name) (slice_get shape.indices number) []))
index_name_is_plain shape valid number =
    let names = map (λ i. i.name) shape.indices in
    names_are_plain shape.indices (and_parts (list_all is_name names) (are_distinct bytes_eq names) valid.index_names).0 number
