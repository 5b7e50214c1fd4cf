-- What a container asks for, as what its records ask for.
use Rattle.std.proofs.Common.{◌≡◌, ℕ, Bool, sym, subst}
use Rattle.std.specs.Prelude.{IsTrue}
use Rattle.std.specs.declared.ops.Bound.{Bound}
use Rattle.container_model.specs.declared.handle.Kind.{Kind}
use Rattle.container_model.specs.declared.handle.Spec.{Spec}
use Rattle.container_model.specs.State.{State, has_key_kind}
use Rattle.container_model.specs.Find.{kind_at}
use Rattle.linked_set.specs.Asked.{FitsAt, IsKeyOf, CanFindBy, AreBoundsOf, HasKeysWith, HasKeysWithout}
use Rattle.linked_set.specs.Records.{Records, alone, state_of}

module _ {E R : Type 0} (r : Records E R) (max writes : ℕ) {now : State E R} (view : state_of r max writes ≡ now) where
  module _ {P : Type 0} (does_fit : E → ℕ → P → Bool) (index : ℕ) where
    pub fits_alone : (kinds : Kind → Bool) (probe : P) → IsTrue (kinds (kind_at now index)) → IsTrue (does_fit now.keys index probe) → FitsAt kinds does_fit (alone r) index probe
    fits_alone kinds probe kind fits = record {
      kind = subst (λ s. IsTrue (kinds (kind_at s index))) (sym view) kind;
      fits = subst (λ s. IsTrue (does_fit s.keys index probe)) (sym view) fits;
    }

    pub key_alone : (is_whole : E → ℕ → P → Bool) (probe : P) → IsTrue (has_key_kind (kind_at now index)) → IsKeyOf does_fit is_whole now index probe → CanFindBy does_fit is_whole (alone r) index probe
    key_alone is_whole probe kind key =
        let here = subst (λ s. IsKeyOf does_fit is_whole s index probe) (sym view) key in
        record { kind = subst (λ s. IsTrue (has_key_kind (kind_at s index))) (sym view) kind; key = record { fits = here.fits; whole = here.whole } }

    pub bounds_alone : (low high : Bound P) → AreBoundsOf does_fit now index low high → AreBoundsOf does_fit (alone r) index low high
    bounds_alone low high bounds =
        let here = subst (λ s. AreBoundsOf does_fit s index low high) (sym view) bounds in
        record { kind = here.kind; low_fits = here.low_fits; high_fits = here.high_fits }

  module _ {O H : Type 0} (has_key : E → ℕ → Bool) (order : E → ℕ → O) (hash : E → ℕ → H) where
    pub with_alone : (spec : Spec) (new : E) → HasKeysWith has_key order hash now spec new → HasKeysWith has_key order hash (alone r) spec new
    with_alone spec new keys =
        let here = subst (λ s. HasKeysWith has_key order hash s spec new) (sym view) keys in
        record { keys = here.keys; orders = here.orders; hashes = here.hashes }

    pub without_alone : (gone : ℕ) (new : E) → HasKeysWithout has_key order hash now gone new → HasKeysWithout has_key order hash (alone r) gone new
    without_alone gone new keys =
        let here = subst (λ s. HasKeysWithout has_key order hash s gone new) (sym view) keys in
        record { index = here.index; keys = here.keys; orders = here.orders; hashes = here.hashes }
