-- Indices go by other keys that order and hash their records as the old ones did.
use Rattle.key_extract.specs.Digests.{Marks}
use Rattle.std.proofs.Common.{◌≡◌, ℕ, ◌<◌, List, length, get_or, refl, sym, ap, ◌∙◌, subst}
use Rattle.std.specs.Prelude.{IsTrue}
use Rattle.std.specs.declared.cmp.Ordering.{Ordering}
use Rattle.node_store.specs.ByNode.{columns_in}
use Rattle.node_store.specs.declared.Node.{Node}
use Rattle.node_store.specs.Store.{Store}
use Rattle.container_model.specs.declared.handle.Spec.{Spec}
use Rattle.container_model.specs.State.{has_key_kind}
use Rattle.any_index.specs.declared.index.AnyIndex.{AnyIndex}
use Rattle.any_index.specs.declared.index.AnyIndex.TheVariants.{Sequenced, Random, Ordered, Ranked, Hashed}
use Rattle.any_index.specs.Spelled.{kind_of, index_of, list_of}
use Rattle.any_index.specs.Keyed as any
use Rattle.any_index.proofs.Renumbered.{ordered_by}
use Rattle.index_set.specs.Indices.{ArePlaced, AreKeyed}

module _ {R : Type 0} (order order' : ℕ → R → R → Ordering) (marks marks' : ℕ → R → Marks) (s : Store R) where
  one_rekeyed : (i : AnyIndex) (xs : List Node) → (IsTrue (has_key_kind (kind_of i)) → order' (index_of i) ≡ order (index_of i)) → (IsTrue (has_key_kind (kind_of i)) → marks' (index_of i) ≡ marks (index_of i)) →
      any.AreKeyed order marks s i xs → any.AreKeyed order' marks' s i xs
  one_rekeyed (Sequenced i) xs same marked h = tt
  one_rekeyed (Random i) xs same marked h = tt
  one_rekeyed (Ordered i) xs same marked h = ordered_by s (order (index_of (Ordered i))) (order' (index_of (Ordered i))) (marks (index_of (Ordered i))) (marks' (index_of (Ordered i))) _ _ xs xs (same refl) (marked refl) refl refl h
  one_rekeyed (Ranked i) xs same marked h = ordered_by s (order (index_of (Ranked i))) (order' (index_of (Ranked i))) (marks (index_of (Ranked i))) (marks' (index_of (Ranked i))) _ _ xs xs (same refl) (marked refl) refl refl h
  one_rekeyed (Hashed i) xs same marked h = subst (λ (f : R → Marks). any.AreKeyed order' (λ _. f) s (Hashed i) xs) (sym (marked refl)) h

  -- so do all
  pub rekeyed : (specs : List Spec) (is : List AnyIndex) → ArePlaced (columns_in s) specs is →
      ((k : ℕ) (d : Spec) → k < length specs → IsTrue (has_key_kind (get_or specs k d).kind) → order' k ≡ order k) →
      ((k : ℕ) (d : Spec) → k < length specs → IsTrue (has_key_kind (get_or specs k d).kind) → marks' k ≡ marks k) →
      AreKeyed order marks s specs is → AreKeyed order' marks' s specs is
  rekeyed specs is p same marked h = record {
    each = λ j d e lt.
        let here = p.each j d e lt in
        let i = get_or is j e in
        one_rekeyed i (list_of (columns_in s) i)
        (λ has. ap order' (here.number has) ∙ same j d lt (subst (λ z. IsTrue (has_key_kind z)) here.kind has) ∙ ap order (sym (here.number has)))
        (λ has. ap marks' (here.number has) ∙ marked j d lt (subst (λ z. IsTrue (has_key_kind z)) here.kind has) ∙ ap marks (sym (here.number has)))
        (h.each j d e lt);
  }
