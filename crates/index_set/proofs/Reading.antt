-- What a call at one index of a set reads.
use Rattle.key_extract.specs.Digests.{Marks}
use Rattle.any_index.specs.Keyed.{marks_of}
use Rattle.std.proofs.Common.{◌≡◌, ℕ, ◌<◌, Bool, List, length, get_or, Option, sym, ap, ◌∙◌, subst, false, refl}
use Rattle.std.specs.Prelude.{IsTrue}
use Rattle.std.specs.Option.{option_map_or}
use Rattle.std.specs.declared.cmp.Ordering.{Ordering}
use Rattle.list_model.proofs.Lists.{slice_get_at}
use Rattle.node_store.specs.declared.Node.{Node}
use Rattle.node_store.specs.ByNode.{record_of, columns_in}
use Rattle.container_model.specs.declared.handle.Spec.{Spec}
use Rattle.container_model.specs.declared.handle.Kind.{Kind}
use Rattle.container_model.specs.declared.handle.Kind.TheVariants.{Sequenced, Random, Ordered, Ranked, Hashed}
use Rattle.container_model.specs.State.{has_key_kind, is_sorted_kind, is_hashed_kind, is_ranked_kind}
use Rattle.any_index.specs.declared.index.AnyIndex.{AnyIndex}
use Rattle.any_index.specs.Spelled as any
use Rattle.any_index.specs.Side.{side_of}
use Rattle.any_index.specs.Keyed as keyed
use Rattle.any_index.specs.Stored.{CanFind}
use Rattle.key_extract.specs.declared.extract.Extract.{Ghosts}
use Rattle.index_set.specs.declared.parts.Parts.{Parts}
use Rattle.index_set.specs.Set.{IsSound, IsKeyed, list_of, kind_at, probe_side}
use Rattle.index_set.proofs.Each.{each_listed}
use Rattle.index_set.proofs.Frame.{key_here}
use Rattle.index_set.proofs.ByKind.{Accepts_from}

-- an index in the order of a key has one
pub sorted_key : (kind : Kind) → IsTrue (is_sorted_kind kind) → IsTrue (has_key_kind kind)
sorted_key Sequenced h = h
sorted_key Random h = h
sorted_key Ordered h = refl
sorted_key Ranked h = refl
sorted_key Hashed h = refl

pub ranked_key : (kind : Kind) → IsTrue (is_ranked_kind kind) → IsTrue (has_key_kind kind)
ranked_key Sequenced h = h
ranked_key Random h = h
ranked_key Ordered h = refl
ranked_key Ranked h = refl
ranked_key Hashed h = refl

-- a spec, where there has to be one
abbrev pub some_spec : Spec
some_spec = record { kind = Sequenced; unique = false }

-- the number of an index of a kind that has a key has one among the keys
pub has_its_key : {R E : Type 0} {has_key : E → ℕ → Bool} (s : Parts R E) → IsSound has_key s → (k : ℕ) → k < length s.specs.items → IsTrue (has_key_kind (kind_at s k)) → IsTrue (has_key s.keys k)
has_its_key s sound k lt key =
    sound.keys.keyed k some_spec lt
    ∙ (ap (λ (o : Option Spec). has_key_kind (option_map_or (λ (d : Spec). d.kind) o Sequenced)) (sym (slice_get_at s.specs.items k some_spec lt)) ∙ key)

module _ {R E : Type 0} {has_key : E → ℕ → Bool} (s : Parts R E) (sound : IsSound has_key s) (k : ℕ) (lt : k < length s.specs.items) (i : AnyIndex) (e : i ≡ get_or s.indices.items k i) where
  pub sound_here : any.IsSound (columns_in s.store) i
  sound_here = subst (λ (z : AnyIndex). any.IsSound (columns_in s.store) z) (sym e) (sound.placed.each k some_spec i lt).sound

  pub kind_here : any.kind_of i ≡ kind_at s k
  kind_here =
      ap any.kind_of e ∙ ((sound.placed.each k some_spec i lt).kind
      ∙ ap (λ (o : Option Spec). option_map_or (λ (d : Spec). d.kind) o Sequenced) (sym (slice_get_at s.specs.items k some_spec lt)))

  pub number_here : IsTrue (has_key_kind (kind_at s k)) → any.index_of i ≡ k
  number_here has =
      ap any.index_of e
      ∙ (sound.placed.each k some_spec i lt).number (subst (λ z. IsTrue (has_key_kind z)) (sym kind_here ∙ ap any.kind_of e) has)

  pub list_here : any.list_of (columns_in s.store) i ≡ list_of s k
  list_here = ap (any.list_of (columns_in s.store)) e ∙ each_listed (any.list_of (columns_in s.store)) s.specs.items s.indices.items sound.placed.one_each k some_spec i lt

  pub is_kind : (p : _ → Bool) → IsTrue (p (kind_at s k)) → IsTrue (p (any.kind_of i))
  is_kind p h = subst (λ z. IsTrue (p z)) (sym kind_here) h

  pub its_key : keyed.HasItsKey (has_key s.keys) i
  its_key = subst (λ (z : AnyIndex). keyed.HasItsKey (has_key s.keys) z) (sym e) (key_here (has_key s.keys) (columns_in s.store) s.specs.items s.indices.items k some_spec i lt sound.keys sound.placed)

  pub keyed_here : (order : E → ℕ → R → R → Ordering) (marks : E → ℕ → R → Marks) → IsKeyed order marks s → keyed.IsKeyed (order s.keys) (marks s.keys) s.store i
  keyed_here order marks h = subst (λ (z : AnyIndex). keyed.IsKeyed (order s.keys) (marks s.keys) s.store z) (sym e) (h.each k some_spec i lt)

  pub fits_here : IsTrue (has_key_kind (kind_at s k)) → (p : ℕ → Bool) → IsTrue (p k) → IsTrue (p (any.index_of i))
  fits_here has p h = subst (λ z. IsTrue (p z)) (sym (number_here has)) h

  pub accepts_here : (does_fit is_whole : ℕ → Bool) → IsTrue (has_key_kind (kind_at s k)) → (IsTrue (is_sorted_kind (kind_at s k)) → IsTrue (does_fit k)) → (IsTrue (is_hashed_kind (kind_at s k)) → IsTrue (is_whole k)) → keyed.Accepts does_fit is_whole i
  accepts_here does_fit is_whole key fits whole =
      Accepts_from does_fit is_whole i (is_kind has_key_kind key)
      (λ h. fits_here key does_fit (fits (subst (λ z. IsTrue (is_sorted_kind z)) kind_here h)))
      (λ h. fits_here key is_whole (whole (subst (λ z. IsTrue (is_hashed_kind z)) kind_here h)))

  -- what the index answers of how its nodes stand to a key, in the words of the set
  pub sought_here : {A P : Type 0} → IsTrue (has_key_kind (kind_at s k)) → (f : (Node → Ordering) → List Node → A) (order : E → ℕ → R → P → Ordering) (probe : P) (answer : A) →
      answer ≡ f (side_of (record_of s.store) (λ a. order s.keys (any.index_of i) a probe)) (any.list_of (columns_in s.store) i) → answer ≡ f (probe_side order s k probe) (list_of s k)
  sought_here has f order probe answer h =
      h ∙ (λ z. f (side_of (record_of s.store) (λ a. order s.keys (number_here has z) a probe)) (list_here z))

module _ {R E P : Type 0} (X : Ghosts E R P) (s : Parts R E) (sound : IsSound X.has_key s) (k : ℕ) (lt : k < length s.specs.items) (i : AnyIndex) (e : i ≡ get_or s.indices.items k i) where
  -- so nodes can be looked for there by a probe of the index's key
  pub can_find : (probe : P) → IsTrue (has_key_kind (kind_at s k)) → (IsTrue (is_sorted_kind (kind_at s k)) → IsTrue (X.does_fit s.keys k probe)) → (IsTrue (is_hashed_kind (kind_at s k)) → IsTrue (X.is_whole s.keys k probe)) → IsKeyed X.order_of (marks_of X) s → CanFind X i s.store s.keys probe
  can_find probe kind fits whole keyed = record {
    sound = sound_here s sound k lt i e;
    key = its_key s sound k lt i e;
    fits = accepts_here s sound k lt i e (λ j. X.does_fit s.keys j probe) (λ j. X.is_whole s.keys j probe) kind fits whole;
    keyed = keyed_here s sound k lt i e X.order_of (marks_of X) keyed;
  }
