-- The keys and kinds of a table's indices, with one index more or one less.
use Rattle.std.proofs.Common.{◌≡◌, ℕ, zero, suc, ◌+◌, ◌<◌, ◌≤◌, List, [], ◌∷◌, ◌++◌, length, map, Option, refl, ap, sym, subst, ◌∙◌, arith}
use Rattle.std.specs.Prelude.{is_some, remove}
use Rattle.std.proofs.lemmas.List.{length-map, map_push}
use Rattle.container_model.specs.declared.handle.Spec.{Spec}
use Rattle.container_model.specs.Indices.{KeepsEach, KeepsRest}
use Rattle.container_model.specs.State.{KeysMatch}
use Rattle.key_extract.specs.declared.key.Part.{Part}
use Rattle.key_extract.specs.Keys.{key_at}
use Rattle.table_schema.proofs.Facts.{keys_match}
use Rattle.table_schema.specs.declared.column.IndexSpec.{IndexSpec}
use Rattle.table_schema.specs.Defined.{with_index, without_index}
use Rattle.table_schema.specs.Shape.{TableShape}
use Rattle.table_schema.specs.Valid.{IsValidTable}
use Rattle.table_terms.specs.Table.{Keys, keys_of, spec_of, specs_of}

-- ---- the key of an index that stays

key_with : (indices : List IndexSpec) (index : IndexSpec) (k : ℕ) → k < length indices → key_at (map (λ i. i.key) (indices ++ index ∷ [])) k ≡ key_at (map (λ i. i.key) indices) k
key_with [] index k within = absurd (omega (arith, within))
key_with (i ∷ is) index zero within = refl
key_with (i ∷ is) index (suc k) within = key_with is index k (omega (arith, within))

key_before : (indices : List IndexSpec) (gone k : ℕ) → k < gone → gone < length indices → key_at (map (λ i. i.key) (remove indices gone)) k ≡ key_at (map (λ i. i.key) indices) k
key_before [] gone k below within = absurd (omega (arith, within))
key_before (i ∷ is) zero k below within = absurd (omega (arith, below))
key_before (i ∷ is) (suc gone) zero below within = refl
key_before (i ∷ is) (suc gone) (suc k) below within = key_before is gone k (omega (arith, below)) (omega (arith, within))

key_after : (indices : List IndexSpec) (gone k : ℕ) → gone ≤ k → gone < length indices → key_at (map (λ i. i.key) (remove indices gone)) k ≡ key_at (map (λ i. i.key) indices) (k + 1)
key_after [] gone k from within = absurd (omega (arith, within))
key_after (i ∷ is) zero k from within = ap (key_at (map (λ i. i.key) (i ∷ is))) (next k)
  where
    next : (n : ℕ) → suc n ≡ n + 1
    next n = omega arith
key_after (i ∷ is) (suc gone) zero from within = absurd (omega (arith, from))
key_after (i ∷ is) (suc gone) (suc k) from within =
    key_after is gone k (omega (arith, from)) (omega (arith, within)) ∙ ap (key_at (map (λ i. i.key) (i ∷ is))) (next k)
  where
    next : (n : ℕ) → suc (n + 1) ≡ suc n + 1
    next n = omega arith

map_removed : {X Y : Type 0} (f : X → Y) (xs : List X) (k : ℕ) → map f (remove xs k) ≡ remove (map f xs) k
map_removed f [] zero = refl
map_removed f [] (suc k) = refl
map_removed f (x ∷ xs) zero = refl
map_removed f (x ∷ xs) (suc k) = ap (λ l. f x ∷ l) (map_removed f xs k)

pub keys_without : (shape : TableShape) (gone : ℕ) (old : Keys) → old ≡ keys_of shape → remove old gone ≡ keys_of (without_index shape gone)
keys_without shape gone old is_old = ap (λ ks. remove ks gone) is_old ∙ sym (map_removed (λ i. i.key) shape.indices gone)

-- ---- what a container asks of the new keys

module _ (shape : TableShape) (specs : List Spec) (is_specs : specs ≡ specs_of shape) where
  as_many : length specs ≡ length shape.indices
  as_many = ap length is_specs ∙ length-map shape.indices spec_of

  module _ (index : IndexSpec) (new : Keys) (is_new : new ≡ keys_of (with_index shape index)) where
    pub specs_with : specs ++ spec_of index ∷ [] ≡ specs_of (with_index shape index)
    specs_with = ap (λ ss. ss ++ spec_of index ∷ []) is_specs ∙ sym (map_push spec_of shape.indices index)

    pub match_with : IsValidTable (with_index shape index) → KeysMatch (λ i. is_some (key_at new i)) (specs ++ spec_of index ∷ [])
    match_with valid =
        subst (λ ks. KeysMatch (λ i. is_some (key_at ks i)) (specs ++ spec_of index ∷ [])) (sym is_new)
        (subst (KeysMatch (λ i. is_some (key_at (keys_of (with_index shape index)) i))) (sym specs_with) (keys_match (with_index shape index) valid))

    -- whatever is read of a key alone stays at each index
    pub keeps_each : {A : Type 0} (f : Option (List Part) → A) (old : Keys) → old ≡ keys_of shape → KeepsEach (λ k. f (key_at old k)) (λ k. f (key_at new k)) specs
    keeps_each f old is_old k d within has =
        ap f (ap (λ ks. key_at ks k) is_new ∙ (key_with shape.indices index k (omega (arith, within, as_many)) ∙ sym (ap (λ ks. key_at ks k) is_old)))

  module _ (gone : ℕ) (new : Keys) (is_new : new ≡ keys_of (without_index shape gone)) where
    pub specs_without : remove specs gone ≡ specs_of (without_index shape gone)
    specs_without = ap (λ ss. remove ss gone) is_specs ∙ sym (map_removed spec_of shape.indices gone)

    pub match_without : IsValidTable (without_index shape gone) → KeysMatch (λ i. is_some (key_at new i)) (remove specs gone)
    match_without valid =
        subst (λ ks. KeysMatch (λ i. is_some (key_at ks i)) (remove specs gone)) (sym is_new)
        (subst (KeysMatch (λ i. is_some (key_at (keys_of (without_index shape gone)) i))) (sym specs_without) (keys_match (without_index shape gone) valid))

    -- and at each that moves up
    pub keeps_rest : {A : Type 0} (f : Option (List Part) → A) (old : Keys) → old ≡ keys_of shape → gone < length shape.indices → KeepsRest (λ k. f (key_at old k)) (λ k. f (key_at new k)) specs gone
    keeps_rest f old is_old within = record {
      before = λ k d lt has below. ap f (ap (λ ks. key_at ks k) is_new ∙ (key_before shape.indices gone k below within ∙ sym (ap (λ ks. key_at ks k) is_old)));
      after = λ k d from lt has. ap f (ap (λ ks. key_at ks k) is_new ∙ (key_after shape.indices gone k from within ∙ sym (ap (λ ks. key_at ks (k + 1)) is_old)));
    }
