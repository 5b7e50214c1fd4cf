-- At which indices the key of a record has changed, and what holds at the others.
use Rattle.key_extract.specs.Digests.{Marks}
use Rattle.std.specs.Prelude.{◌≡◌, ℕ, ◌<◌, Bool, true, false, not, ◌&&◌, List, length, slice_get, slice_index_or, Option, None, IsTrue}
use Rattle.std.specs.Option.{option_map_or}
use Rattle.std.specs.Ordering.{is_eq}
use Rattle.std.specs.declared.cmp.Ordering.{Ordering}
use Rattle.node_store.specs.declared.Node.{Node}
use Rattle.node_store.specs.Store.{Store}
use Rattle.container_model.specs.declared.handle.Spec.{Spec}
use Rattle.container_model.specs.State.{has_key_kind}
use Rattle.any_index.specs.declared.index.AnyIndex.{AnyIndex}
use Rattle.any_index.specs.Keyed.{IsKeyed}
use Rattle.any_index.specs.Side.{side_of, equal_but}
use Rattle.index_set.specs.declared.changed.Changed.{Changed}
use Rattle.index_set.specs.Each.{EachOf, list_at}

-- whether the key may have changed at an index
abbrev pub may_differ : Changed → ℕ → Bool
may_differ changed index = slice_index_or changed.at index true

-- whether an index has a key, and two records have not the same one
abbrev pub differs : {R : Type 0} → (ℕ → R → R → Ordering) → List Spec → R → R → ℕ → Bool
differs order specs a b index = option_map_or (λ (spec : Spec). has_key_kind spec.kind && not (is_eq (order index a b))) (slice_get specs index) true

module _ {R : Type 0} (order : ℕ → R → R → Ordering) where
  -- each index at which the key has not changed has its nodes where their records' keys put them
  pub record AreKeyedBeside (changed : Changed) (marks : ℕ → R → Marks) (s : Store R) (specs : List Spec) (indices : List AnyIndex) : Type 0 where
    pub each : EachOf (λ j _ i. may_differ changed j ≡ false → IsKeyed order marks s i) specs indices

  -- no unique index at which the key has not changed has another node with the record's key
  pub record AreFreeBeside (changed : Changed) (records : Node → Option R) (specs : List Spec) (lists : List (List Node)) (except : Option Node) (row : R) : Type 0 where
    pub each : (j : ℕ) (d : Spec) → j < length specs → may_differ changed j ≡ false → IsTrue (slice_index_or specs j d).unique → equal_but except (side_of records (λ a. order j a row)) (list_at lists j) ≡ None
