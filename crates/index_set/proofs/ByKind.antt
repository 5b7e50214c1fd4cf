-- Indices kind by kind.
use Rattle.key_extract.specs.Digests.{Marks}
use Rattle.std.proofs.Common.{ℕ, Bool, List, [], refl}
use Rattle.std.specs.Prelude.{IsTrue}
use Rattle.std.specs.declared.cmp.Ordering.{Ordering}
use Rattle.node_store.specs.declared.Node.{Node}
use Rattle.node_store.specs.Store.{Store}
use Rattle.container_model.specs.State.{has_key_kind, is_sorted_kind, is_hashed_kind, is_sequence_kind}
use Rattle.any_index.specs.declared.index.AnyIndex.{AnyIndex}
use Rattle.any_index.specs.declared.index.AnyIndex.TheVariants.{Sequenced, Random, Ordered, Ranked, Hashed}
use Rattle.any_index.specs.Spelled.{kind_of, index_of}
use Rattle.any_index.specs.Keyed.{AreKeyed, Accepts}

-- no nodes are keyed
pub AreKeyed_none : {R : Type 0} (order : ℕ → R → R → Ordering) (marks : ℕ → R → Marks) (s : Store R) (i : AnyIndex) → AreKeyed order marks s i []
AreKeyed_none order marks s (Sequenced i) = tt
AreKeyed_none order marks s (Random i) = tt
AreKeyed_none order marks s (Ordered i) = record { in_order = tt; digested = tt }
AreKeyed_none order marks s (Ranked i) = record { in_order = tt; digested = tt }
AreKeyed_none order marks s (Hashed i) = tt

-- any nodes of a sequence are
pub AreKeyed_sequence : {R : Type 0} (order : ℕ → R → R → Ordering) (marks : ℕ → R → Marks) (s : Store R) (i : AnyIndex) (xs : List Node) → IsTrue (is_sequence_kind (kind_of i)) → AreKeyed order marks s i xs
AreKeyed_sequence order marks s (Sequenced i) xs kind = tt
AreKeyed_sequence order marks s (Random i) xs kind = tt
AreKeyed_sequence order marks s (Ordered i) xs kind = absurd (cc)
AreKeyed_sequence order marks s (Ranked i) xs kind = absurd (cc)
AreKeyed_sequence order marks s (Hashed i) xs kind = absurd (cc)

-- a probe that fits is accepted in an index in order, and a whole one in a hashed one
pub Accepts_from : (does_fit is_whole : ℕ → Bool) (i : AnyIndex) → IsTrue (has_key_kind (kind_of i)) → (IsTrue (is_sorted_kind (kind_of i)) → IsTrue (does_fit (index_of i))) → (IsTrue (is_hashed_kind (kind_of i)) → IsTrue (is_whole (index_of i))) → Accepts does_fit is_whole i
Accepts_from does_fit is_whole (Sequenced i) key fits whole = absurd (cc)
Accepts_from does_fit is_whole (Random i) key fits whole = absurd (cc)
Accepts_from does_fit is_whole (Ordered i) key fits whole = fits refl
Accepts_from does_fit is_whole (Ranked i) key fits whole = fits refl
Accepts_from does_fit is_whole (Hashed i) key fits whole = whole refl
