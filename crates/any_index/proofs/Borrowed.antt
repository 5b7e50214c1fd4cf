-- What look-ups of a borrowed index ask for and answer, in the words of the index of its kind.
use Rattle.std.proofs.Common.{◌≡◌, ℕ, List, refl, sym, subst}
use Rattle.std.specs.declared.cmp.Ordering.{Ordering}
use Rattle.key_extract.specs.declared.extract.Extract.{Ghosts}
use Rattle.node_store.specs.declared.Node.{Node}
use Rattle.node_store.specs.ByNode.{record_of}
use Rattle.hash_index.specs.declared.HashIndex.{HashIndex}
use Rattle.hash_index.specs.Stored as buckets
use Rattle.any_index.specs.declared.index.AnyIndex.{AnyIndex}
use Rattle.any_index.specs.declared.index.AnyIndex.TheVariants.{Hashed}
use Rattle.any_index.specs.At.{At, list_in, side_in, IsKey}
use Rattle.any_index.specs.Side.{side_of}
use Rattle.any_index.specs.Spelled.{index_of}
use Rattle.any_index.specs.Stored.{IsFiled, nodes_of}
use Rattle.any_index.proofs.Buckets.{can_search}

module _ {R E : Type 0} {a b : At R E} (view : a ≡ b) where
  -- what holds of how nodes stand to a key in an index of some kind holds of the borrowed one
  pub told_at : {Q : Type 0} (i : AnyIndex) → a.index ≡ i → (says : (Node → Ordering) → List Node → Type 0) (order : E → ℕ → R → Q → Ordering) (probe : Q) →
      says (side_of (record_of a.store) (λ r. order a.keys (index_of i) r probe)) (nodes_of i a.store) → says (side_in order b probe) (list_in b)
  told_at i is says order probe h =
      subst (λ z. says (side_in order z probe) (list_in z)) view
      (subst (λ z. says (side_of (record_of a.store) (λ r. order a.keys (index_of z) r probe)) (nodes_of z a.store)) (sym is) h)

  -- the probe is one of the buckets
  pub search_at : {P : Type 0} (X : Ghosts E R P) (i : HashIndex) → a.index ≡ Hashed i → IsFiled X a.index a.store a.keys → (probe : P) → IsKey X b probe → buckets.CanSearch X i a.store a.keys probe
  search_at X i is there probe asked =
      let filed = subst (λ z. IsFiled X z a.store a.keys) is there in
      let key = subst (λ z. IsKey X (record a { index = z }) probe) is (subst (λ z. IsKey X z probe) (sym view) asked) in
      can_search X a.store a.keys i probe (record { sound = filed.sound; key = filed.key; fits = key.whole refl; keyed = filed.keyed })
