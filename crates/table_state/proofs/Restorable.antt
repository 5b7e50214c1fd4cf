-- What a container holds is not refused where it is restored.
use Rattle.std.proofs.Common.{◌≡◌, ℕ, zero, suc, ◌+◌, ◌<◌, ◌≤◌, List, [], ◌∷◌, length, refl, sym, ap, ◌∙◌, subst, arith}
use Rattle.std.specs.declared.cmp.Ordering.{Ordering}
use Rattle.container_model.specs.declared.handle.Handle.{Handle}
use Rattle.container_model.specs.declared.handle.Entry.{Entry}
use Rattle.container_model.specs.declared.handle.Spec.{Spec}
use Rattle.container_model.specs.State.{AreIndices, IsIndex, list_at}
use Rattle.linked_set.specs.Restored.{AreApart, spec_at}
use Rattle.multi_index.specs.declared.restore.Saved.{Saved}
use Rattle.multi_index.specs.declared.restore.Unrestorable.{Unrestorable}
use Rattle.multi_index.specs.declared.restore.Unrestorable.TheVariants.{Memory, Orders, Full, Stamps, Slots, Members, Clash, Order}
use Rattle.multi_index.specs.Restored.{AreStamped, AreWithin, IsUnrestorable, orders_of}

from_zero : (n : ℕ) → 0 + n ≡ n
from_zero n = omega arith

module _ {R : Type 0} (order : ℕ → R → R → Ordering) (entries : List (Entry R)) where
  -- each index keeps what an index keeps of its list
  index_at : (index k : ℕ) (specs : List Spec) (lists : List (List Handle)) → k < length specs → AreIndices order entries index specs lists →
      IsIndex (order (index + k)) entries (spec_at specs k) (list_at lists k)
  index_at index k [] lists lt kept = absurd (omega (arith, lt))
  index_at index k (spec ∷ specs) [] lt kept = absurd kept
  index_at index zero (spec ∷ specs) (list ∷ lists) lt kept = subst (λ n. IsIndex (order n) entries spec list) (omega arith) kept.0
  index_at index (suc k) (spec ∷ specs) (list ∷ lists) lt kept =
      let same : index + 1 + k ≡ index + suc k = omega arith in
      subst (λ n. IsIndex (order n) entries (spec_at specs k) (list_at lists k)) same (index_at (index + 1) k specs lists (omega (arith, lt)) kept.1)

  pub each_index : (k : ℕ) (specs : List Spec) (lists : List (List Handle)) → k < length specs → AreIndices order entries 0 specs lists →
      IsIndex (order k) entries (spec_at specs k) (list_at lists k)
  each_index k specs lists lt kept = subst (λ n. IsIndex (order n) entries (spec_at specs k) (list_at lists k)) (from_zero k) (index_at 0 k specs lists lt kept)

  -- and there is one list for each
  pub as_many : (index : ℕ) (specs : List Spec) (lists : List (List Handle)) → AreIndices order entries index specs lists → length lists ≡ length specs
  as_many index [] [] kept = refl
  as_many index [] (list ∷ lists) kept = absurd kept
  as_many index (spec ∷ specs) [] kept = absurd kept
  as_many index (spec ∷ specs) (list ∷ lists) kept = ap suc (as_many (index + 1) specs lists kept.1)

module _ {R : Type 0} (order : ℕ → R → R → Ordering) (specs : List Spec) (max : ℕ) (saved : Saved R) where
  abbrev all : List (Entry R)
  all = saved.entries.items

  -- the records and orders of a container are refused only for want of memory
  pub only_memory : length (orders_of saved) ≡ length saved.orders.items → length all ≤ max → AreStamped all saved.writes → AreApart all → AreWithin all max → AreIndices order all 0 specs (orders_of saved) →
      (why : Unrestorable) → IsUnrestorable order specs max saved why → why ≡ Memory
  only_memory n few stamped apart within kept Memory h = refl
  only_memory n few stamped apart within kept Orders h = absurd (h (sym n ∙ as_many order all 0 specs (orders_of saved) kept))
  only_memory n few stamped apart within kept Full h = absurd (omega (arith, h.1, few))
  only_memory n few stamped apart within kept Stamps h = absurd (h.1 stamped)
  only_memory n few stamped apart within kept Slots h = absurd (h.1 (apart, within))
  only_memory n few stamped apart within kept (Members i) h = absurd (h.fails.here (each_index order all i specs (orders_of saved) h.fails.within kept).members)
  only_memory n few stamped apart within kept (Clash i) h = absurd (h.fails.here.1 (each_index order all i specs (orders_of saved) h.fails.within kept).unique)
  only_memory n few stamped apart within kept (Order i) h =
      let index = each_index order all i specs (orders_of saved) h.fails.within kept in
      absurd (h.fails.here.2 (record { in_order = index.in_order; by_stamp = index.by_stamp }))
