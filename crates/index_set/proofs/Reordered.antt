-- What another order of a sequence leaves of a set.
use Rattle.std.proofs.Common.{◌≡◌, ℕ, zero, suc, ◌<◌, ◌≤◌, ◌∷◌, [], List, length, get_or, set, Option, None, refl, sym, ap, ◌∙◌, subst, arith, ⊎_elim}
use Rattle.std.specs.Prelude.{IsTrue, slice_get}
use Rattle.std.specs.Option.{option_map_or}
use Rattle.std.proofs.lemmas.Bool.{cases_lt}
use Rattle.key_extract.specs.declared.extract.Extract.{Ghosts}
use Rattle.node_store.specs.declared.Node.{Node}
use Rattle.node_store.specs.Nodes.{Holds}
use Rattle.node_store.specs.Store.{Store}
use Rattle.container_model.specs.declared.handle.Kind.TheVariants.{Sequenced, Random}
use Rattle.container_model.specs.declared.handle.Spec.{Spec}
use Rattle.container_model.specs.State.{has_key_kind}
use Rattle.any_index.specs.declared.index.AnyIndex.{AnyIndex}
use Rattle.any_index.specs.Keyed.{marks_of}
use Rattle.any_index.specs.Stored.{IsIn, KeepsRest, nodes_of}
use Rattle.index_set.specs.declared.parts.Parts.{Parts}
use Rattle.index_set.specs.Asked.{IsKept, IsSequence}
use Rattle.index_set.specs.Set.{specs_of, kind_at, list_of, lists_of}
use Rattle.index_set.proofs.Frame.{steps_of}
use Rattle.index_set.proofs.Holding.{held_at, held_changed, held_set}
use Rattle.index_set.proofs.Moving.{stepped, sound_moved, lists_moved, keyed_moved}
use Rattle.index_set.proofs.Reading.{list_here}
use Rattle.index_set.proofs.StaysUnique.{unique_after_move}

slice_get_past : {X : Type 0} (xs : List X) (i : ℕ) → length xs ≤ i → slice_get xs i ≡ None
slice_get_past [] i le = refl
slice_get_past (x ∷ xs) zero le = absurd (omega (arith, le))
slice_get_past (x ∷ xs) (suc i) le = slice_get_past xs i (omega (arith, le))

module _ {R E : Type 0} (s : Parts R E) (k : ℕ) where
  kind_past : length (specs_of s) ≤ k → kind_at s k ≡ Sequenced
  kind_past le = ap (λ (o : Option Spec). option_map_or (λ (d : Spec). d.kind) o Sequenced) (slice_get_past (specs_of s) k le)

  -- what is a row is an index, and so is what has a key
  pub row_within : kind_at s k ≡ Random → k < length (specs_of s)
  row_within kind = ⊎_elim (λ lt. lt) (λ le. let bad = sym kind ∙ kind_past le in absurd (cc)) (cases_lt k (length (specs_of s)))

  pub key_within : IsTrue (has_key_kind (kind_at s k)) → k < length (specs_of s)
  key_within key = ⊎_elim (λ lt. lt) (λ le. let bad = sym key ∙ ap has_key_kind (kind_past le) in absurd (cc)) (cases_lt k (length (specs_of s)))

-- a sequence stepped to another order of its nodes
module _ {R E P : Type 0} (X : Ghosts E R P) {s now : Parts R E} (kept : IsKept X s) (view : s ≡ now) (k : ℕ) (asked : IsSequence now k) (i new : AnyIndex) (e : i ≡ get_or s.indices.items k i) (t : Store R) (sound : IsIn new t) (rest : KeepsRest i new s.store t)
    (f : List Node → List Node) (told : nodes_of new t ≡ f (nodes_of i s.store)) where
  here : IsSequence s k
  here = subst (λ (p : Parts R E). IsSequence p k) (sym view) asked

  moved : lists_of (stepped s k new t) ≡ set (lists_of s) k (f (list_of s k))
  moved = lists_moved s kept.filed.sound k here.index i new e t (steps_of sound rest) (f (list_of s k)) (told ∙ ap f (list_here s kept.filed.sound k here.index i e))

  pub reordered_lists : lists_of (stepped s k new t) ≡ set (lists_of now) k (f (list_of now k))
  reordered_lists = moved ∙ ap (λ (p : Parts R E). set (lists_of p) k (f (list_of p k))) view

  -- so the set is kept
  pub reordered_kept : ((m : Node) → Holds (list_of now k) m → Holds (f (list_of now k)) m) → IsKept X (stepped s k new t)
  reordered_kept still =
      let was = kept.filed in
      let to = stepped s k new t in
      record {
        filed = record {
          sound = sound_moved s was.sound k here.index i new e t (steps_of sound rest);
          keyed = keyed_moved s was.sound k here.index i new e t (steps_of sound rest) here.kind (X.order_of s.keys) (marks_of X s.keys) was.keyed;
          unique = unique_after_move X.order_of s to was.sound (record { keys = refl; specs = refl; columns = refl }) k (f (list_of s k)) None here.index here.kind moved rest.contents was.unique;
        };
        held = held_changed s to kept.held (set (lists_of s) k (f (list_of s k))) moved rest.contents
            (λ m is h. held_set m (lists_of s) k (f (list_of s k)) (subst (λ (p : Parts R E). Holds (list_of p k) m → Holds (f (list_of p k)) m) (sym view) (still m) (held_at s was.sound kept.held m is k here.index)) h);
      }
