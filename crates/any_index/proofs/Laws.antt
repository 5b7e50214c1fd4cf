-- The laws of an index's list, for the crates above.
use Rattle.std.proofs.Common.{◌≡◌, ◌≢◌, ℕ, suc, ◌+◌, ◌<◌, Bool, true, cond, List, [], ◌∷◌, length, Option, refl, ap, sym, ◌∙◌, subst, arith, false, Some}
use Rattle.std.specs.Prelude.{IsTrue, find}
use Rattle.std.specs.List.{AllByRecursion}
use Rattle.std.specs.Option.{option_map}
use Rattle.std.specs.Ordering.{is_le, nat_cmp}
use Rattle.std.specs.declared.cmp.Ordering.{Ordering}
use Rattle.std.proofs.lemmas.Bool.Decides.{nat_tests}
use Rattle.container_model.specs.declared.handle.Kind.TheVariants as kind
use Rattle.container_model.specs.State.{has_key_kind, is_hashed_kind}
use Rattle.list_model.specs.Order.{IsInOrder}
use Rattle.list_model.specs.Place.{not_above}
use Rattle.list_model.specs.Walk.{without}
use Rattle.list_model.proofs.Counts.{count_by-cons}
use Rattle.list_model.proofs.Kept.{EachPair-filter}
use Rattle.node_store.specs.declared.Node.{Node}
use Rattle.node_store.specs.declared.Link.{Link}
use Rattle.node_store.specs.Column.{Column}
use Rattle.node_store.specs.Nodes.{Lacks, Holds, IsDistinct}
use Rattle.node_store.specs.Store.{Store, IsStore, IsNodeOf, age_of}
use Rattle.node_store.specs.ByNode.{Columns, column_of, columns_in, record_of, same_node, AddsNode, RemovesNode}
use Rattle.node_store.proofs.Members.{IsDistinct_moved}
use Rattle.seq_index.proofs.Laws as seq
pub use Rattle.seq_index.proofs.Walks.{without_at}
use Rattle.row_index.proofs.Laws as row
use Rattle.key_extract.specs.Digests.{Marks}
use Rattle.node_store.specs.Digest.{digest_number}
use Rattle.ord_tree.specs.Digests.{AreDigested}
use Rattle.ord_tree.specs.Tree.{stored_digest}
use Rattle.ord_tree.specs.Side.{order_at}
use Rattle.ord_tree.proofs.Laws as ord
pub use Rattle.ord_tree.proofs.Laws.{Holds_at, Holds_last}
use Rattle.ord_tree.proofs.Digested.{digest_in, AreDigested_others, AreDigested_kept, AreDigested_without}
use Rattle.ord_tree.proofs.Ordered.{IsInOrder_others}
use Rattle.hash_index.specs.Chains.{tag_at}
use Rattle.hash_index.specs.Hashed.{IsHashed}
use Rattle.hash_index.specs.Spelled as buckets
use Rattle.hash_index.proofs.Laws as hash
pub use Rattle.hash_index.proofs.Laws.{Lacks_without}
use Rattle.any_index.specs.declared.index.AnyIndex.{AnyIndex}
use Rattle.any_index.specs.declared.index.AnyIndex.TheVariants.{Sequenced, Random, Ordered, Ranked, Hashed}
use Rattle.any_index.specs.Keyed.{hash_by, digest_by, HasItsKey, Accepts, AreOrdered, AreKeyed, IsKeyed, IsKeyedBut}
use Rattle.any_index.specs.Lists.{entry_place}
use Rattle.any_index.specs.Spelled.{IsSound, list_of, kind_of, col_of, index_of, by_age, age_cmp}
use Rattle.any_index.proofs.Alike.{HasOneKey, order_alike, hash_alike, digest_alike}
use Rattle.any_index.proofs.Hashed.{nodes_of}
use Rattle.any_index.proofs.ByAge.{by_age_kept, Lacks_moved, Holds_moved, moved_by_age, moved_back}

-- ---- an index stays as it is where its column stays

pub list_of_kept : (cs ds : Columns) (i : AnyIndex) → ds.links (col_of i) ≡ cs.links (col_of i) → ds.ages ≡ cs.ages → list_of ds i ≡ list_of cs i
list_of_kept cs ds (Sequenced i) e f = seq.spelled_kept cs.links ds.links i e
list_of_kept cs ds (Random i) e f = row.spelled_kept cs.links ds.links i e
list_of_kept cs ds (Ordered i) e f = ord.spelled_kept cs.links ds.links i e
list_of_kept cs ds (Ranked i) e f = ord.spelled_kept cs.links ds.links i e
list_of_kept cs ds (Hashed i) e f = λ k. by_age (f k) (hash.spelled_kept cs.links ds.links i e k)

pub IsSound_kept : (cs ds : Columns) (i : AnyIndex) → ds.links (col_of i) ≡ cs.links (col_of i) → ds.ages ≡ cs.ages → IsSound cs i → IsSound ds i
IsSound_kept cs ds (Sequenced i) e f h = seq.IsSound_kept cs.links ds.links i e h
IsSound_kept cs ds (Random i) e f h = row.IsSound_kept cs.links ds.links i e h
IsSound_kept cs ds (Ordered i) e f h = ord.IsSound_kept cs.links ds.links i e h
IsSound_kept cs ds (Ranked i) e f h = ord.IsSound_kept cs.links ds.links i e h
IsSound_kept cs ds (Hashed i) e f h = subst (λ ages. buckets.IsSound ages ds.links i) (sym f) (hash.IsSound_kept cs.links ds.links i e h)

-- its nodes are distinct
pub list_distinct : (cs : Columns) (i : AnyIndex) → IsSound cs i → IsDistinct (list_of cs i)
list_distinct cs (Sequenced i) h = seq.Spells_distinct cs.links i _ h
list_distinct cs (Random i) h = row.Spells_distinct cs.links i _ h
list_distinct cs (Ordered i) h = ord.Spells_distinct cs.links i _ h
list_distinct cs (Ranked i) h = ord.Spells_distinct cs.links i _ h
list_distinct cs (Hashed i) h = IsDistinct_moved (buckets.spelled cs.links i) (list_of cs (Hashed i)) (moved_by_age cs.ages _) (hash.Spells_distinct cs.links i _ h)

module _ {R : Type 0} where
  -- and nodes of the store
  pub node_held : (s : Store R) (i : AnyIndex) (n : Node) → IsSound (columns_in s) i → Holds (list_of (columns_in s) i) n → IsNodeOf s n
  node_held s (Sequenced i) n h k = seq.node_held s i n h k
  node_held s (Random i) n h k = row.node_held s i n h k
  node_held s (Ordered i) n h k = ord.node_held s i n h k
  node_held s (Ranked i) n h k = ord.node_held s i n h k
  node_held s (Hashed i) n h k = hash.node_held s i n h (Holds_moved _ _ n (moved_back (age_of s) _) k)

  -- ---- when nodes come and go in the store

  pub list_of_added : (old new : Store R) (n : Node) (value : R) (i : AnyIndex) → IsStore new → AddsNode old new n value → IsSound (columns_in old) i → list_of (columns_in new) i ≡ list_of (columns_in old) i
  list_of_added old new n value (Sequenced i) store a h = seq.spelled_added old new n value i a h
  list_of_added old new n value (Random i) store a h = row.spelled_added old new n value i a h
  list_of_added old new n value (Ordered i) store a h = ord.spelled_added old new n value i a h
  list_of_added old new n value (Ranked i) store a h = ord.spelled_added old new n value i a h
  list_of_added old new n value (Hashed i) store a h =
      let e = hash.spelled_added old new n value i a h in
      let sound = hash.IsSound_added old new n value i a h in
      ap (by_age (age_of new)) e
      ∙ by_age_kept new store (age_of old) (buckets.spelled (column_of old) i) (hash.Spells_distinct (column_of old) i _ h) (subst (AllByRecursion (IsNodeOf new)) e (nodes_of new i sound))
      (hash.aged_added old new n value (buckets.col_of i) _ a (hash.Spells_nodes (column_of old) i _ h))

  pub IsSound_added : (old new : Store R) (n : Node) (value : R) (i : AnyIndex) → AddsNode old new n value → IsSound (columns_in old) i → IsSound (columns_in new) i
  IsSound_added old new n value (Sequenced i) a h = seq.IsSound_added old new n value i a h
  IsSound_added old new n value (Random i) a h = row.IsSound_added old new n value i a h
  IsSound_added old new n value (Ordered i) a h = ord.IsSound_added old new n value i a h
  IsSound_added old new n value (Ranked i) a h = ord.IsSound_added old new n value i a h
  IsSound_added old new n value (Hashed i) a h = hash.IsSound_added old new n value i a h

  -- the new node is not in the list
  pub Lacks_added : (old new : Store R) (n : Node) (value : R) (i : AnyIndex) → AddsNode old new n value → IsSound (columns_in old) i → Lacks (list_of (columns_in new) i) n
  Lacks_added old new n value (Sequenced i) a h = seq.Lacks_spelled_added old new n value i a h
  Lacks_added old new n value (Random i) a h = row.Lacks_spelled_added old new n value i a h
  Lacks_added old new n value (Ordered i) a h = ord.Lacks_spelled_added old new n value i a h
  Lacks_added old new n value (Ranked i) a h = ord.Lacks_spelled_added old new n value i a h
  Lacks_added old new n value (Hashed i) a h = Lacks_moved _ _ n (moved_by_age (age_of new) _) (hash.Lacks_spelled_added old new n value i a h)

  pub list_of_removed : (old new : Store R) (n : Node) (i : AnyIndex) → IsStore new → RemovesNode old new n → Lacks (list_of (columns_in old) i) n → IsSound (columns_in old) i → list_of (columns_in new) i ≡ list_of (columns_in old) i
  list_of_removed old new n (Sequenced i) store r lacks h = seq.spelled_removed old new n i r lacks h
  list_of_removed old new n (Random i) store r lacks h = row.spelled_removed old new n i r lacks h
  list_of_removed old new n (Ordered i) store r lacks h = ord.spelled_removed old new n i r lacks h
  list_of_removed old new n (Ranked i) store r lacks h = ord.spelled_removed old new n i r lacks h
  list_of_removed old new n (Hashed i) store r lacks h =
      let away = Lacks_moved _ _ n (moved_back (age_of old) _) lacks in
      let spells = hash.Spells_removed old new n i _ r away h in
      let e = hash.spelled_is (column_of new) i _ spells in
      ap (by_age (age_of new)) e
      ∙ by_age_kept new store (age_of old) (buckets.spelled (column_of old) i) (hash.Spells_distinct (column_of old) i _ h) (subst (AllByRecursion (IsNodeOf new)) e (nodes_of new i (hash.IsSound_from (column_of new) i _ spells)))
      (hash.aged_removed old new n (buckets.col_of i) _ r away (hash.Spells_nodes (column_of old) i _ h))

  pub IsSound_removed : (old new : Store R) (n : Node) (i : AnyIndex) → RemovesNode old new n → Lacks (list_of (columns_in old) i) n → IsSound (columns_in old) i → IsSound (columns_in new) i
  IsSound_removed old new n (Sequenced i) r lacks h = seq.IsSound_removed old new n i r lacks h
  IsSound_removed old new n (Random i) r lacks h = row.IsSound_removed old new n i r lacks h
  IsSound_removed old new n (Ordered i) r lacks h = ord.IsSound_removed old new n i r lacks h
  IsSound_removed old new n (Ranked i) r lacks h = ord.IsSound_removed old new n i r lacks h
  IsSound_removed old new n (Hashed i) r lacks h =
      hash.IsSound_from (column_of new) i _ (hash.Spells_removed old new n i _ r (Lacks_moved _ _ n (moved_back (age_of old) _) lacks) h)

-- ---- keys

-- an index that has its key by its kind
pub HasItsKey_from : (has_key : ℕ → Bool) (i : AnyIndex) → has_key (index_of i) ≡ has_key_kind (kind_of i) → HasItsKey has_key i
HasItsKey_from has_key (Sequenced i) e = tt
HasItsKey_from has_key (Random i) e = tt
HasItsKey_from has_key (Ordered i) e = e
HasItsKey_from has_key (Ranked i) e = e
HasItsKey_from has_key (Hashed i) e = e

-- a search key that fits, and is whole where the index is hashed, is one of an index with a key
pub Accepts_from : (does_fit is_whole : ℕ → Bool) (i : AnyIndex) → IsTrue (has_key_kind (kind_of i)) → IsTrue (does_fit (index_of i)) → (IsTrue (is_hashed_kind (kind_of i)) → IsTrue (is_whole (index_of i))) → Accepts does_fit is_whole i
Accepts_from does_fit is_whole (Sequenced i) kind fits whole = cc
Accepts_from does_fit is_whole (Random i) kind fits whole = cc
Accepts_from does_fit is_whole (Ordered i) kind fits whole = fits
Accepts_from does_fit is_whole (Ranked i) kind fits whole = fits
Accepts_from does_fit is_whole (Hashed i) kind fits whole = whole refl

module _ {R : Type 0} (order : R → R → Ordering) (marks : R → Marks) (old new : Store R) (col : ℕ) where
  -- nodes of a tree stay in order, with their digests, where links and records of all others than one stay
  ordered_others : (n : Node) (xs : List Node) → ((m : Node) → m ≢ n → column_of new col m ≡ column_of old col m) → ((m : Node) → m ≢ n → record_of new m ≡ record_of old m) → Lacks xs n → AreOrdered order marks old col xs → AreOrdered order marks new col xs
  ordered_others n xs links records lacks h = record {
    in_order = IsInOrder_others (record_of old) order (record_of new) n xs records lacks h.in_order;
    digested = AreDigested_others (digest_by marks) old new col n xs (λ m ne. ap digest_in (links m ne)) records lacks h.digested;
  }

  -- or where all stay
  ordered_kept : (xs : List Node) → column_of new col ≡ column_of old col → record_of new ≡ record_of old → AreOrdered order marks old col xs → AreOrdered order marks new col xs
  ordered_kept xs links records h = record {
    in_order = subst (λ (f : Node → Option R). IsInOrder (order_at f order) xs) (sym records) h.in_order;
    digested = AreDigested_kept (digest_by marks) old new col xs (λ m. ap (λ (c : Column). stored_digest c m) links) (λ m. ap (λ (f : Node → Option R). f m) records) h.digested;
  }

  -- nor does it matter that the record of one node is another with the same key
  ordered_alike : (n : Node) (a b : R) (xs : List Node) → column_of new col ≡ column_of old col → record_of old n ≡ Some a → record_of new n ≡ Some b → ((m : Node) → m ≢ n → record_of new m ≡ record_of old m) → HasOneKey order marks a b → AreOrdered order marks old col xs → AreOrdered order marks new col xs
  ordered_alike n a b xs links had has records one h = record {
    in_order = subst (λ (f : Node → Node → Ordering). IsInOrder f xs) (sym (order_alike (record_of old) (record_of new) n a b had has records order one.total one.equal)) h.in_order;
    digested = each xs h.digested;
  }
    where
      each : (ys : List Node) → AreDigested (digest_by marks) old col ys → AreDigested (digest_by marks) new col ys
      each [] p = tt
      each (y ∷ ys) p =
          (ap (λ (c : Column). digest_number (stored_digest c y)) links ∙ (p.0 ∙ sym (digest_alike (record_of old) (record_of new) n a b had has records (digest_by marks) (ap (λ (m : Marks). m.digest) one.same_marks) y)), each ys p.1)

-- nodes stay under their hashes where their tags and the hashes of their records stay
hashed_same : {R : Type 0} (hash : R → ℕ) (old new : Store R) (col : ℕ) (xs : List Node) → ((m : Node) → tag_at (column_of new col) m ≡ tag_at (column_of old col) m) → ((m : Node) → option_map hash (record_of new m) ≡ option_map hash (record_of old m)) → IsHashed hash old col xs → IsHashed hash new col xs
hashed_same hash old new col [] tags hashes h = tt
hashed_same hash old new col (x ∷ xs) tags hashes h = (tags x ∙ (h.0 ∙ sym (hashes x)), hashed_same hash old new col xs tags hashes h.1)

module _ {R : Type 0} (order : ℕ → R → R → Ordering) (marks : ℕ → R → Marks) where
  -- nodes are keyed after a change where it leaves those of a tree in order, and those of buckets under their hashes
  by_kind : (old new : Store R) (i : AnyIndex) (xs ys : List Node) → (IsTrue (has_key_kind (kind_of i)) → AreOrdered (order (index_of i)) (marks (index_of i)) old (col_of i) xs → AreOrdered (order (index_of i)) (marks (index_of i)) new (col_of i) ys) →
      (IsTrue (has_key_kind (kind_of i)) → IsHashed (hash_by (marks (index_of i))) old (col_of i) xs → IsHashed (hash_by (marks (index_of i))) new (col_of i) ys) → AreKeyed order marks old i xs → AreKeyed order marks new i ys
  by_kind old new (Sequenced i) xs ys ordered hashed h = tt
  by_kind old new (Random i) xs ys ordered hashed h = tt
  by_kind old new (Ordered i) xs ys ordered hashed h = ordered refl h
  by_kind old new (Ranked i) xs ys ordered hashed h = ordered refl h
  by_kind old new (Hashed i) xs ys ordered hashed h = hashed refl h

  -- what the keys of some nodes say stays where the column and the records of all nodes but one stay
  pub AreKeyed_others : (old new : Store R) (i : AnyIndex) (n : Node) (xs : List Node) → ((m : Node) → m ≢ n → column_of new (col_of i) m ≡ column_of old (col_of i) m) → ((m : Node) → m ≢ n → record_of new m ≡ record_of old m) → Lacks xs n → AreKeyed order marks old i xs → AreKeyed order marks new i xs
  AreKeyed_others old new i n xs links records lacks h = by_kind old new i xs xs
      (λ _. ordered_others (order (index_of i)) (marks (index_of i)) old new (col_of i) n xs links records lacks)
      (λ _. hash.IsHashed_others (hash_by (marks (index_of i))) old new (col_of i) n xs (λ m ne. ap (option_map (λ (l : Link). l.tag)) (links m ne)) records lacks) h

  -- or where the column and all records stay
  pub AreKeyed_kept : (old new : Store R) (i : AnyIndex) (xs : List Node) → column_of new (col_of i) ≡ column_of old (col_of i) → record_of new ≡ record_of old → AreKeyed order marks old i xs → AreKeyed order marks new i xs
  AreKeyed_kept old new i xs links records h = by_kind old new i xs xs
      (λ _. ordered_kept (order (index_of i)) (marks (index_of i)) old new (col_of i) xs links records)
      (λ _. hashed_same (hash_by (marks (index_of i))) old new (col_of i) xs (λ m. ap (λ (c : Column). tag_at c m) links) (λ m. ap (λ (f : Node → Option R). option_map (hash_by (marks (index_of i))) (f m)) records)) h

  -- some of the nodes are keyed where all are
  pub AreKeyed_without : (s : Store R) (i : AnyIndex) (n : Node) (xs : List Node) → AreKeyed order marks s i xs → AreKeyed order marks s i (without (same_node n) xs)
  AreKeyed_without s i n xs h = by_kind s s i xs (without (same_node n) xs)
      (λ _ k. record { in_order = EachPair-filter _ _ xs k.in_order; digested = AreDigested_without s (digest_by (marks (index_of i))) (col_of i) n xs k.digested })
      (λ _. hash.IsHashed_without (hash_by (marks (index_of i))) s (col_of i) n xs) h

  pub IsKeyedBut_from : (s : Store R) (i : AnyIndex) (n : Node) → IsKeyed order marks s i → IsKeyedBut order marks s i n
  IsKeyedBut_from s i n h = AreKeyed_without s i n (list_of (columns_in s) i) h

  -- when a node comes that is in no index yet, or goes that is in none
  pub IsKeyed_added : (old new : Store R) (n : Node) (value : R) (i : AnyIndex) → IsStore new → AddsNode old new n value → IsSound (columns_in old) i → IsKeyed order marks old i → IsKeyed order marks new i
  IsKeyed_added old new n value i store a sound h =
      let e = list_of_added old new n value i store a sound in
      let lacks = subst (λ z. Lacks z n) e (Lacks_added old new n value i a sound) in
      subst (AreKeyed order marks new i) (sym e)
      (AreKeyed_others old new i n (list_of (columns_in old) i) (λ m ne. (a.columns (col_of i)).others m ne) a.records.others lacks h)

  pub IsKeyed_removed : (old new : Store R) (n : Node) (i : AnyIndex) → IsStore new → RemovesNode old new n → Lacks (list_of (columns_in old) i) n → IsSound (columns_in old) i → IsKeyed order marks old i → IsKeyed order marks new i
  IsKeyed_removed old new n i store r lacks sound h =
      subst (AreKeyed order marks new i) (sym (list_of_removed old new n i store r lacks sound))
      (AreKeyed_others old new i n (list_of (columns_in old) i) (λ m ne. (r.columns (col_of i)).others m ne) r.records.others lacks h)

  -- when the record of one node changes, the index is keyed but for that node
  pub IsKeyedBut_rewritten : (old new : Store R) (n : Node) (i : AnyIndex) → column_of new (col_of i) ≡ column_of old (col_of i) → ((m : Node) → m ≢ n → record_of new m ≡ record_of old m) → age_of new ≡ age_of old → IsKeyedBut order marks old i n → IsKeyedBut order marks new i n
  IsKeyedBut_rewritten old new n i links records ages h =
      let xs = list_of (columns_in old) i in
      subst (λ z. AreKeyed order marks new i (without (same_node n) z)) (sym (list_of_kept (columns_in old) (columns_in new) i links ages))
      (AreKeyed_others old new i n (without (same_node n) xs) (λ m ne. ap (λ (c : Column). c m) links) records (hash.Lacks_without xs n) h)

  -- and once all records are as they were, as keyed as it was
  pub IsKeyed_restored : (old new : Store R) (i : AnyIndex) → column_of new (col_of i) ≡ column_of old (col_of i) → record_of new ≡ record_of old → age_of new ≡ age_of old → IsKeyed order marks old i → IsKeyed order marks new i
  IsKeyed_restored old new i links records ages h =
      subst (AreKeyed order marks new i) (sym (list_of_kept (columns_in old) (columns_in new) i links ages))
      (AreKeyed_kept old new i (list_of (columns_in old) i) links records h)

  -- nor does it matter that the record of one node is another with the same keys
  AreKeyed_alike : (old new : Store R) (n : Node) (a b : R) (i : AnyIndex) (xs : List Node) → column_of new (col_of i) ≡ column_of old (col_of i) → record_of old n ≡ Some a → record_of new n ≡ Some b → ((m : Node) → m ≢ n → record_of new m ≡ record_of old m) →
      (IsTrue (has_key_kind (kind_of i)) → HasOneKey (order (index_of i)) (marks (index_of i)) a b) → AreKeyed order marks old i xs → AreKeyed order marks new i xs
  AreKeyed_alike old new n a b i xs links had has records one h = by_kind old new i xs xs
      (λ k. ordered_alike (order (index_of i)) (marks (index_of i)) old new (col_of i) n a b xs links had has records (one k))
      (λ k. hashed_same (hash_by (marks (index_of i))) old new (col_of i) xs (λ m. ap (λ (c : Column). tag_at c m) links) (hash_alike (record_of old) (record_of new) n a b had has records (hash_by (marks (index_of i))) (ap (λ (m : Marks). m.hash) (one k).same_marks))) h

  pub IsKeyed_alike : (old new : Store R) (n : Node) (a b : R) (i : AnyIndex) → column_of new (col_of i) ≡ column_of old (col_of i) → record_of old n ≡ Some a → record_of new n ≡ Some b → ((m : Node) → m ≢ n → record_of new m ≡ record_of old m) →
      (IsTrue (has_key_kind (kind_of i)) → HasOneKey (order (index_of i)) (marks (index_of i)) a b) → age_of new ≡ age_of old → IsKeyed order marks old i → IsKeyed order marks new i
  IsKeyed_alike old new n a b i links had has records one ages h =
      subst (AreKeyed order marks new i) (sym (list_of_kept (columns_in old) (columns_in new) i links ages))
      (AreKeyed_alike old new n a b i (list_of (columns_in old) i) links had has records one h)

-- ---- the nodes of the lists that changes leave

-- in a hashed index a node that was added after all others goes last
pub entered_last : (ages : Node → ℕ) (compare : Node → Node → Ordering) (at : Option ℕ) (n : Node) (xs : List Node) → AllByRecursion (λ m. ages m < ages n) xs → entry_place kind.Hashed ages compare at n xs ≡ length xs
entered_last ages compare at n [] h = refl
entered_last ages compare at n (x ∷ xs) h =
    let first : is_le (age_cmp ages x n) ≡ true = lower (ages x) (ages n) h.0 in
    let e : not_above (λ m. age_cmp ages m n) (x ∷ xs) ≡ suc (not_above (λ m. age_cmp ages m n) xs) =
    count_by-cons (λ m. is_le (age_cmp ages m n)) x xs ∙ (ap (λ b. cond b 1 0 + not_above (λ m. age_cmp ages m n) xs) first ∙ omega arith) in
    e ∙ ap (λ k. suc k) (entered_last ages compare at n xs h.1)
  where
    lower : (a b : ℕ) → a < b → is_le (nat_cmp a b) ≡ true
    lower a b lt = grind (arith, nat_tests)

-- ---- nodes that look-ups answer stand in the list

found_by : (b : Bool) (x n : Node) (xs : List Node) (rest : Option Node) → (rest ≡ Some n → Holds xs n) → cond b (Some x) rest ≡ Some n → Holds (x ∷ xs) n
found_by true x n xs rest f e = let k : x ≡ n = cc in record { before = []; after = xs; is = ap (λ (z : Node). z ∷ xs) k }
found_by false x n xs rest f e = let h = f e in record { before = x ∷ h.before; after = h.after; is = ap (λ (l : List Node). x ∷ l) h.is }

pub Holds_found : (p : Node → Bool) (xs : List Node) (n : Node) → find p xs ≡ Some n → Holds xs n
Holds_found p [] n e = cc
Holds_found p (x ∷ xs) n e = found_by (p x) x n xs (find p xs) (Holds_found p xs n) e
