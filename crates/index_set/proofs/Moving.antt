-- A change of one index alone, in place.
use Rattle.key_extract.specs.Digests.{Marks}
use Rattle.std.proofs.Common.{◌≡◌, ◌≢◌, ℕ, ◌<◌, List, length, get_or, set, [], sym, ap, ◌∙◌, subst, arith, ⊎_elim}
use Rattle.std.specs.Prelude.{Bool, IsTrue}
use Rattle.std.specs.Vec.{with_item}
use Rattle.std.specs.declared.cmp.Ordering.{Ordering}
use Rattle.std.proofs.lemmas.Bool.{cases_eq}
use Rattle.std.proofs.lemmas.List.{length-map, length-set, get_or-map, get_or-set_same, get_or-set_other}
use Rattle.node_store.specs.declared.Node.{Node}
use Rattle.node_store.specs.Column.{KeepsOthers}
use Rattle.node_store.specs.Store.{Store}
use Rattle.node_store.specs.ByNode.{column_of, columns_in}
use Rattle.container_model.specs.State.{is_sequence_kind}
use Rattle.any_index.specs.declared.index.AnyIndex.{AnyIndex}
use Rattle.any_index.specs.Spelled.{list_of, col_of}
use Rattle.any_index.specs.Keyed as any
use Rattle.index_set.specs.declared.parts.Parts.{Parts}
use Rattle.index_set.specs.Indices.{IsPlaced, ArePlaced, AreWithin, lists_in, AreKeyed}
use Rattle.index_set.specs.Set.{IsSound, lists_of, kind_at}
use Rattle.index_set.proofs.ByKind.{AreKeyed_sequence}
use Rattle.index_set.proofs.Each.{each_set, each_listed, same_lists}
use Rattle.index_set.proofs.Frame.{Steps, IsFar, are_far, placed_set, within_set, list_kept, keyed_kept}
use Rattle.index_set.proofs.Reading.{some_spec, kind_here}
use Rattle.index_set.proofs.Stores.{IsStore_kept, columns_kept}

-- the set with another index of a number, over another store
abbrev pub stepped : {R E : Type 0} → Parts R E → ℕ → AnyIndex → Store R → Parts R E
stepped s k new t = record s { store = t; indices = with_item s.indices k new }

module _ {R E : Type 0} {has_key : E → ℕ → Bool} (s : Parts R E) (sound : IsSound has_key s) (k : ℕ) (lt : k < length s.specs.items) (i new : AnyIndex) (e : i ≡ get_or s.indices.items k i)
    (t : Store R) (step : Steps s.store t i new) where
  keep : KeepsOthers (column_of s.store) (column_of t) (col_of (get_or s.indices.items k i))
  keep = subst (KeepsOthers (column_of s.store) (column_of t)) (ap col_of e) step.others

  placed_moved : ArePlaced (columns_in t) s.specs.items (set s.indices.items k new)
  placed_moved = placed_set s.store t s.specs.items s.indices.items k i new lt sound.placed (subst (λ (z : AnyIndex). Steps s.store t z new) e step)

  within_moved : AreWithin s.columns s.specs.items (set s.indices.items k new)
  within_moved = within_set s.columns s.specs.items s.indices.items k i new (step.col ∙ ap col_of e) lt sound.placed.one_each sound.within

  pub lists_moved : (xs : List Node) → list_of (columns_in t) new ≡ xs → lists_in (columns_in t) (set s.indices.items k new) ≡ set (lists_of s) k xs
  lists_moved xs is =
      same_lists (lists_in (columns_in t) (set s.indices.items k new)) (set (lists_of s) k xs)
      (length-map (set s.indices.items k new) (list_of (columns_in t)) ∙ (length-set s.indices.items k new ∙ sym (length-set (lists_of s) k xs ∙ length-map s.indices.items (list_of (columns_in s.store)))))
      (λ j below.
      let within : j < length s.indices.items = omega (arith, below, length-map (set s.indices.items k new) (list_of (columns_in t)), length-set s.indices.items k new) in
      let one = sound.placed.one_each in
      let seen : get_or (lists_in (columns_in t) (set s.indices.items k new)) j [] ≡ list_of (columns_in t) (get_or (set s.indices.items k new) j i) =
      get_or-map (list_of (columns_in t)) (set s.indices.items k new) j i [] (omega (arith, within, length-set s.indices.items k new)) in
      ⊎_elim
      (λ (same : j ≡ k).
      seen
      ∙ (ap (λ z. list_of (columns_in t) (get_or (set s.indices.items k new) z i)) same
      ∙ (ap (list_of (columns_in t)) (get_or-set_same s.indices.items k new i (omega (arith, lt, one)))
      ∙ (is ∙ sym (ap (λ z. get_or (set (lists_of s) k xs) z []) same ∙ get_or-set_same (lists_of s) k xs [] (omega (arith, lt, one, length-map s.indices.items (list_of (columns_in s.store)))))))))
      (λ (apart : j ≢ k).
      let there : j < length s.specs.items = omega (arith, within, one) in
      seen
      ∙ (ap (list_of (columns_in t)) (get_or-set_other s.indices.items k j new i apart)
      ∙ (list_kept s.store t _ j _ (get_or s.indices.items j i) (sound.placed.each j some_spec i there) keep (sound.placed.apart j k i i there lt apart) step.contents
      ∙ (each_listed (list_of (columns_in s.store)) s.specs.items s.indices.items one j some_spec i there ∙ sym (get_or-set_other (lists_of s) k j xs [] apart)))))
      (cases_eq j k))

  pub sound_moved : IsSound has_key (stepped s k new t)
  sound_moved = record {
    some = sound.some;
    few = sound.few;
    keys = sound.keys;
    placed = placed_moved;
    nodes = IsStore_kept s.store t step.contents sound.nodes;
    columns = sound.columns;
    most = sound.most;
    within = within_moved;
    wide = columns_kept s.store t step.contents sound.wide;
  }

  -- where it has its nodes where their keys put them, all have
  pub keyed_put : (order : ℕ → R → R → Ordering) (marks : ℕ → R → Marks) → any.IsKeyed order marks t new → AreKeyed order marks s.store s.specs.items s.indices.items → AreKeyed order marks t s.specs.items (set s.indices.items k new)
  keyed_put order marks here h = record {
    each =
        each_set (λ j spec x. (IsPlaced (columns_in s.store) j spec x × IsFar s.indices.items k i j x) × any.IsKeyed order marks s.store x) (λ _ _ x. any.IsKeyed order marks t x) s.specs.items s.indices.items k new sound.placed.one_each lt
        (λ j d x below. ((sound.placed.each j d x below, are_far s.specs.items s.indices.items k i lt sound.placed.apart j d x below), h.each j d x below))
        (λ d. here)
        (λ j spec x apart p. keyed_kept order marks s.store t _ j spec x _ _ p.0.0 keep step.contents (p.0.1 apart) (list_kept s.store t _ j spec x p.0.0 keep (p.0.1 apart) step.contents) p.1);
  }

  -- a sequence has no keys, and the others are as they were
  pub keyed_moved : IsTrue (is_sequence_kind (kind_at s k)) → (order : ℕ → R → R → Ordering) (marks : ℕ → R → Marks) → AreKeyed order marks s.store s.specs.items s.indices.items → AreKeyed order marks t s.specs.items (set s.indices.items k new)
  keyed_moved kind order marks h =
      keyed_put order marks (AreKeyed_sequence order marks t new _ (subst (λ z. IsTrue (is_sequence_kind z)) (sym (step.kind ∙ kind_here s sound k lt i e)) kind)) h
