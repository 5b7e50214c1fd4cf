-- What a borrowed index of a set asks for and answers, in the words of its set.
use Rattle.std.proofs.Common.{◌≡◌, ℕ, Bool, List, get_or, refl, sym, subst, ◌<◌, length}
use Rattle.std.specs.Prelude.{IsTrue}
use Rattle.std.specs.declared.cmp.Ordering.{Ordering}
use Rattle.key_extract.specs.declared.extract.Extract.{Ghosts}
use Rattle.node_store.specs.declared.Node.{Node}
use Rattle.node_store.specs.Store.{Store}
use Rattle.node_store.specs.ByNode.{record_of}
use Rattle.container_model.specs.declared.handle.Kind.{Kind}
use Rattle.container_model.specs.State.{has_key_kind, is_hashed_kind, is_sorted_kind}
use Rattle.any_index.specs.declared.index.AnyIndex.{AnyIndex}
use Rattle.any_index.specs.At as any
use Rattle.any_index.specs.At.{At, list_in, kind_in, side_in}
use Rattle.any_index.specs.Side.{side_of}
use Rattle.any_index.specs.Keyed.{marks_of}
use Rattle.any_index.specs.Stored as stored
use Rattle.index_set.specs.declared.parts.Parts.{Parts}
use Rattle.index_set.specs.Asked.{IsFiled}
use Rattle.index_set.specs.At.{IsAt, IsKey}
use Rattle.index_set.specs.Set.{keys_of, specs_of, list_of, kind_at, probe_side}
use Rattle.index_set.proofs.Reading.{sound_here, its_key, keyed_here, list_here, kind_here, number_here}

-- an index of a set can be borrowed, and it is that of its number
module _ {R E P : Type 0} (X : Ghosts E R P) (s : Parts R E) (filed : IsFiled X s) (k : ℕ) (lt : k < length (specs_of s)) (i : AnyIndex) (e : i ≡ get_or s.indices.items k i) where
  pub filed_at : stored.IsFiled X i s.store s.keys
  filed_at = record {
    sound = sound_here s filed.sound k lt i e;
    key = its_key s filed.sound k lt i e;
    keyed = keyed_here s filed.sound k lt i e X.order_of (marks_of X) filed.keyed;
  }

  pub is_at : (a : At R E) → a ≡ record { index = i; store = s.store; keys = s.keys } → IsAt s k a
  is_at a is = subst (IsAt s k) (sym is) (record {
    list = list_here s filed.sound k lt i e;
    kind = kind_here s filed.sound k lt i e;
    number = number_here s filed.sound k lt i e;
    store = refl;
    keys = refl;
  })

module _ {R E : Type 0} (s : Parts R E) (k : ℕ) (a : At R E) (at : IsAt s k a) where
  kind_has : (p : Kind → Bool) → IsTrue (p (kind_at s k)) → IsTrue (p (kind_in a))
  kind_has p h = subst (λ z. IsTrue (p z)) (sym at.kind) h

  fits_in : (p : E → ℕ → Bool) → IsTrue (has_key_kind (kind_at s k)) → IsTrue (p (keys_of s) k) → IsTrue (p a.keys (any.number_in a))
  fits_in p key h = subst (λ z. IsTrue (p z (any.number_in a))) (sym at.keys) (subst (λ z. IsTrue (p (keys_of s) z)) (sym (at.number key)) h)

  module _ {P : Type 0} (X : Ghosts E R P) (probe : P) where
    pub key_at : IsKey s k X probe → any.IsKey X a probe
    key_at asked = record {
      kind = kind_has has_key_kind asked.kind;
      fits = λ h. fits_in (λ keys j. X.does_fit keys j probe) asked.kind (asked.fits (subst (λ z. IsTrue (is_sorted_kind z)) at.kind h));
      whole = λ h. fits_in (λ keys j. X.is_whole keys j probe) asked.kind (asked.whole (subst (λ z. IsTrue (is_hashed_kind z)) at.kind h));
    }

    pub lead_at : (has : Kind → Bool) → ((kind : Kind) → IsTrue (has kind) → IsTrue (has_key_kind kind)) → IsTrue (has (kind_at s k)) → IsTrue (X.does_fit (keys_of s) k probe) → any.IsLead X a has probe
    lead_at has key kind fits = record {
      kind = kind_has has kind;
      fits = fits_in (λ keys j. X.does_fit keys j probe) (key _ kind) fits;
    }

  -- what it says of how its nodes stand to a key
  pub told_at : {Q : Type 0} → IsTrue (has_key_kind (kind_at s k)) → (says : (Node → Ordering) → List Node → Type 0) (order : E → ℕ → R → Q → Ordering) (probe : Q) →
      says (side_in order a probe) (list_in a) → says (probe_side order s k probe) (list_of s k)
  told_at key says order probe h =
      subst (says (probe_side order s k probe)) at.list
      (subst (λ (z : Store R). says (side_of (record_of z) (λ r. order (keys_of s) k r probe)) (list_in a)) at.store
      (subst (λ z. says (side_of (record_of a.store) (λ r. order z k r probe)) (list_in a)) at.keys
      (subst (λ z. says (side_of (record_of a.store) (λ r. order a.keys z r probe)) (list_in a)) (at.number key) h)))

  -- and what it answers of them
  pub sought_at : {A Q : Type 0} → IsTrue (has_key_kind (kind_at s k)) → (f : (Node → Ordering) → List Node → A) (order : E → ℕ → R → Q → Ordering) (probe : Q) (answer : A) →
      answer ≡ f (side_in order a probe) (list_in a) → answer ≡ f (probe_side order s k probe) (list_of s k)
  sought_at key f order probe answer h = told_at key (λ side xs. answer ≡ f side xs) order probe h
