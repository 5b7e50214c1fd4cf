-- Declarations that a container can have: what it asks of their keys.
use Rattle.std.proofs.Common.{◌≡◌, ℕ, ◌<◌, List, [], ◌∷◌, true, length, map, get_or, sym, ◌∙◌, ap, subst, arith}
use Rattle.std.specs.Prelude.{IsTrue, nat_le, slice_index_or}
use Rattle.std.specs.List.{list_all}
use Rattle.std.proofs.lemmas.List.{get_or-map, length-map}
use Rattle.std.proofs.lemmas.List.Folds.{list_all_at}
use Rattle.container_model.specs.declared.handle.Spec.{Spec}
use Rattle.container_model.specs.State.{KeysMatch, has_key_kind}
use Rattle.field_keys.specs.declared.index.Index.{Index}
use Rattle.field_keys.specs.Fields.{part_of}
use Rattle.field_keys.specs.Indices.{declared_specs, declared_keys}
use Rattle.multi_index.specs.Asked.{IsDeclared}
use Rattle.indexed.specs.Kinds.{is_index, are_valid}
use Rattle.indexed.specs.Orders.{has_key}

module _ (x : Index) (is : is_index x ≡ true) where
  keyed_of : nat_le 1 (length (map part_of x.1.now)) ≡ has_key_kind x.0.kind
  keyed_of = grind (arith, length-map x.1.now part_of)

  unique_of : IsTrue x.0.unique → IsTrue (has_key_kind x.0.kind)
  unique_of h = grind arith

-- of each of the indices, given one to read a list of them with
module _ (x : Index) (indices : List Index) (all : list_all is_index indices ≡ true) (i : ℕ) (d : Spec) (within : i < length indices) where
  is_at : is_index (get_or indices i x) ≡ true
  is_at = grind (arith, list_all_at is_index indices i x within)

  spec_at : slice_index_or (declared_specs indices) i d ≡ (get_or indices i x).0
  spec_at = get_or-map (λ index. index.0) indices i x d within

  keyed_at : has_key (declared_keys indices) i ≡ has_key_kind (slice_index_or (declared_specs indices) i d).kind
  keyed_at =
      ap (λ key. nat_le 1 (length key)) (get_or-map (λ index. map part_of index.1.now) indices i x [] within)
      ∙ (keyed_of (get_or indices i x) is_at ∙ sym (ap (λ spec. has_key_kind spec.kind) spec_at))

  unique_at : IsTrue (slice_index_or (declared_specs indices) i d).unique → IsTrue (has_key_kind (slice_index_or (declared_specs indices) i d).kind)
  unique_at h = subst (λ spec. IsTrue (has_key_kind spec.kind)) (sym spec_at) (unique_of (get_or indices i x) is_at (subst (λ spec. IsTrue spec.unique) spec_at h))

-- the keys of valid indices match what the indices are
keys_match : (indices : List Index) → IsTrue (are_valid indices) → KeysMatch (has_key (declared_keys indices)) (declared_specs indices)
keys_match [] valid = cc
keys_match (x ∷ xs) valid =
    let all : list_all is_index (x ∷ xs) ≡ true = grind arith in
    let here = length-map (x ∷ xs) (λ index. index.0) in
    record { keyed = λ i d within. keyed_at x (x ∷ xs) all i d (omega arith); unique = λ i d within h. unique_at x (x ∷ xs) all i d (omega arith) h }

-- a container may have them
pub is_declared : (indices : List Index) → IsTrue (are_valid indices) → IsDeclared (length indices) (has_key (declared_keys indices)) (declared_specs indices)
is_declared indices valid =
    let count = length-map indices (λ index. index.0) in
    record { some = grind (arith, count); few = omega (arith, count); most = grind arith; keys = keys_match indices valid }
