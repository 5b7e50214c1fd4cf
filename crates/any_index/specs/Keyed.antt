-- Where an index has its nodes by the keys of their records.
use Rattle.std.specs.Prelude.{◌≡◌, ℕ, Bool, false, List, Option, IsTrue}
use Rattle.std.specs.Ordering.{is_eq}
use Rattle.std.specs.declared.cmp.Ordering.{Ordering}
use Rattle.container_model.specs.declared.handle.Kind.{Kind}
use Rattle.container_model.specs.State.{has_key_kind}
use Rattle.list_model.specs.Order.{EachPair, IsInOrder}
use Rattle.list_model.specs.Walk.{without}
use Rattle.node_store.specs.declared.Node.{Node}
use Rattle.node_store.specs.Store.{Store}
use Rattle.node_store.specs.ByNode.{columns_in, record_of, same_node}
use Rattle.key_extract.specs.declared.extract.Extract.{Ghosts}
use Rattle.key_extract.specs.Digests.{Marks, marks_by}
use Rattle.ord_tree.specs.Digests.{AreDigested}
use Rattle.any_index.specs.Side.{order_at}
use Rattle.any_index.specs.Side.{without_excepted}
use Rattle.hash_index.specs.Hashed.{IsHashed}
use Rattle.hash_index.specs.Spelled as hash
use Rattle.any_index.specs.declared.index.AnyIndex.{AnyIndex}
use Rattle.any_index.specs.declared.index.AnyIndex.TheVariants.{Sequenced, Random, Ordered, Ranked, Hashed}
use Rattle.any_index.specs.Spelled.{col_of, index_of, list_of}

-- the hash and the digest of a record's key at an index
abbrev pub marks_of : {E R P : Type 0} → Ghosts E R P → E → ℕ → R → Marks
marks_of X keys = marks_by X.hash_of X.digest_of keys

-- the one of them and the other
abbrev pub hash_by : {R : Type 0} → (R → Marks) → R → ℕ
hash_by marks a = (marks a).hash

abbrev pub digest_by : {R : Type 0} → (R → Marks) → R → ℕ
digest_by marks a = (marks a).digest

-- what an index of the kind orders or hashes records by is the same before and after, if it has a key
abbrev pub IsSameKey : {A : Type 0} → Kind → (before after : A) → Type 0
IsSameKey kind before after = IsTrue (has_key_kind kind) → after ≡ before

-- the container has a key for an index that needs one
abbrev pub HasItsKey : (ℕ → Bool) → AnyIndex → Type 0
HasItsKey has_key (Sequenced i) = Unit {0}
HasItsKey has_key (Random i) = Unit {0}
HasItsKey has_key (Ordered i) = IsTrue (has_key (index_of (Ordered i)))
HasItsKey has_key (Ranked i) = IsTrue (has_key (index_of (Ranked i)))
HasItsKey has_key (Hashed i) = IsTrue (has_key (index_of (Hashed i)))

-- a search key is one of the index: the hashed one needs a whole key, and a sequence has none
abbrev pub Accepts : (does_fit is_whole : ℕ → Bool) → AnyIndex → Type 0
Accepts does_fit is_whole (Sequenced i) = ⊥
Accepts does_fit is_whole (Random i) = ⊥
Accepts does_fit is_whole (Ordered i) = IsTrue (does_fit (index_of (Ordered i)))
Accepts does_fit is_whole (Ranked i) = IsTrue (does_fit (index_of (Ranked i)))
Accepts does_fit is_whole (Hashed i) = IsTrue (is_whole (index_of (Hashed i)))

-- nodes of a tree stand in order, and their links have their digests
pub record AreOrdered {R : Type 0} (order : R → R → Ordering) (marks : R → Marks) (s : Store R) (col : ℕ) (xs : List Node) : Type 0 where
  pub in_order : IsInOrder (order_at (record_of s) order) xs
  pub digested : AreDigested (digest_by marks) s col xs

module _ {R : Type 0} (order : ℕ → R → R → Ordering) (marks : ℕ → R → Marks) (s : Store R) where
  -- these nodes of the index are where their records' keys put them: in order with their digests, or under their hashes
  abbrev pub AreKeyed : AnyIndex → List Node → Type 0
  AreKeyed (Sequenced i) xs = Unit {0}
  AreKeyed (Random i) xs = Unit {0}
  AreKeyed (Ordered i) xs = AreOrdered (order (index_of (Ordered i))) (marks (index_of (Ordered i))) s (col_of (Ordered i)) xs
  AreKeyed (Ranked i) xs = AreOrdered (order (index_of (Ranked i))) (marks (index_of (Ranked i))) s (col_of (Ranked i)) xs
  AreKeyed (Hashed i) xs = IsHashed (hash_by (marks (hash.index_of i))) s (hash.col_of i) xs

  -- all of its nodes are
  abbrev pub IsKeyed : AnyIndex → Type 0
  IsKeyed i = AreKeyed i (list_of (columns_in s) i)

  -- all but one, whose record may have changed
  abbrev pub IsKeyedBut : AnyIndex → Node → Type 0
  IsKeyedBut i n = AreKeyed i (without (same_node n) (list_of (columns_in s) i))

  -- all but the excepted one
  abbrev pub IsKeyedExcept : AnyIndex → Option Node → Type 0
  IsKeyedExcept i except = AreKeyed i (without_excepted except (list_of (columns_in s) i))

module _ {R : Type 0} (order : ℕ → R → R → Ordering) (s : Store R) where
  -- no two nodes of a hashed index but the excepted one have one key
  abbrev pub HasOneOfEachKey : AnyIndex → Option Node → Type 0
  HasOneOfEachKey (Sequenced i) except = Unit {0}
  HasOneOfEachKey (Random i) except = Unit {0}
  HasOneOfEachKey (Ordered i) except = Unit {0}
  HasOneOfEachKey (Ranked i) except = Unit {0}
  HasOneOfEachKey (Hashed i) except =
      EachPair (λ m n. is_eq (order_at (record_of s) (order (hash.index_of i)) m n) ≡ false) (without_excepted except (list_of (columns_in s) (Hashed i)))
