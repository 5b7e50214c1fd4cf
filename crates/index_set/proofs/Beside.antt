-- A walk that passes indices over at which the key of a record has not changed.
use Rattle.key_extract.specs.Digests.{Marks}
use Rattle.std.proofs.Common.{◌≡◌, ℕ, false, ◌+◌, ◌<◌, ◌≤◌, List, length, get_or, set, arith}
use Rattle.std.specs.declared.cmp.Ordering.{Ordering}
use Rattle.node_store.specs.Store.{Store}
use Rattle.node_store.specs.ByNode.{contents, columns_in}
use Rattle.container_model.specs.declared.handle.Spec.{Spec}
use Rattle.any_index.specs.declared.index.AnyIndex.{AnyIndex}
use Rattle.any_index.specs.Spelled.{list_of, col_of}
use Rattle.any_index.specs.Keyed.{AreKeyed}
use Rattle.index_set.specs.declared.changed.Changed.{Changed}
use Rattle.index_set.specs.Changed.{may_differ}
use Rattle.index_set.specs.Each.{EachOf}
use Rattle.index_set.specs.Indices.{IsPlaced, ArePlaced}
use Rattle.index_set.proofs.Each.{each_set}
use Rattle.index_set.proofs.Frame.{Steps, IsFar, are_far, list_kept, keyed_kept}

module _ {R : Type 0} (order : ℕ → R → R → Ordering) (marks : ℕ → R → Marks) (specs : List Spec) where
  module _ (changed : Changed) where
    -- those from the place k on are keyed where the key has not changed
    abbrev pub KeyedBeside : Store R → ℕ → ℕ → Spec → AnyIndex → Type 0
    KeyedBeside s k j spec i = k ≤ j → may_differ changed j ≡ false → AreKeyed order marks s i (list_of (columns_in s) i)

    pub beside_step : (k : ℕ) (s t : Store R) (is : List AnyIndex) (d new : AnyIndex) → k < length specs → ArePlaced (columns_in s) specs is → Steps s t (get_or is k d) new → contents t ≡ contents s →
        EachOf (KeyedBeside s k) specs is → EachOf (KeyedBeside t (k + 1)) specs (set is k new)
    beside_step k s t is d new lt placed step same h =
        each_set (λ j spec i. (IsPlaced (columns_in s) j spec i × IsFar is k d j i) × KeyedBeside s k j spec i) (KeyedBeside t (k + 1)) specs is k new placed.one_each lt
        (λ j e f below. ((placed.each j e f below, are_far specs is k d lt placed.apart j e f below), h j e f below))
        (λ e above. absurd (omega (arith, above)))
        (λ j spec i apart p above kept.
        let c = col_of (get_or is k d) in
        keyed_kept order marks s t c j spec i _ _ p.0.0 step.others same (p.0.1 apart) (list_kept s t c j spec i p.0.0 step.others (p.0.1 apart) same) (p.1 (omega (arith, above)) kept))
