-- What stays of a set whose record of one node was written.
use Rattle.key_extract.specs.Digests.{Marks}
use Rattle.std.proofs.Common.{◌≡◌, ◌≢◌, ℕ, ◌<◌, Bool, length, get_or, Option, Some, None, sym, ap, ◌∙◌, subst, arith, ⊎_elim, cond, option_and_then}
use Rattle.std.specs.Prelude.{IsTrue}
use Rattle.std.specs.Cmp.{IsTotalOrder}
use Rattle.std.specs.declared.cmp.Ordering.{Ordering}
use Rattle.std.specs.declared.cmp.Ordering.TheVariants.{Equal}
use Rattle.std.proofs.lemmas.Bool.{cases_eq}
use Rattle.std.proofs.lemmas.List.{get_or_default}
use Rattle.node_store.specs.declared.Node.{Node}
use Rattle.node_store.specs.Column.{Column}
use Rattle.node_store.specs.Store.{Store, IsNodeOf, nodes, records, number_of}
use Rattle.node_store.specs.Store as store
use Rattle.node_store.specs.ByNode.{column_of, record_of, of_node, same_node, columns_in, Columns}
use Rattle.node_store.proofs.ByNode.{node_cases, record_of-at, column_of_with_record, same_node-false}
use Rattle.node_store.proofs.StoreLemmas.{nodes_with_record, aged_with_record, ages_with_record, added_with_record, width_with_record, Rewrites-with_record}
use Rattle.container_model.specs.State.{has_key_kind}
use Rattle.any_index.specs.declared.index.AnyIndex.{AnyIndex}
use Rattle.any_index.specs.Side.{order_at}
use Rattle.any_index.specs.Spelled.{kind_of, col_of, index_of}
use Rattle.any_index.proofs.Alike.{HasOneKey, order_alike}
use Rattle.any_index.proofs.Laws.{IsKeyedBut_rewritten, IsKeyed_restored, IsKeyed_alike}
use Rattle.index_set.specs.declared.parts.Parts.{Parts}
use Rattle.index_set.specs.Indices.{ArePlaced, lists_in}
use Rattle.index_set.specs.Set.{IsSound, IsKeyed, IsKeyedBut, HasKeysOf, IsRestored, lists_of, kind_at, with_record}
use Rattle.index_set.proofs.Reading.{has_its_key, kind_here, number_here}
use Rattle.index_set.proofs.Stores.{IsStore_same}

module _ {R : Type 0} (s : Store R) (n : Node) (r : R) where
  -- the columns stay
  pub columns_written : column_of (store.with_record s n r) ≡ column_of s
  columns_written = λ i col. column_of_with_record s n r col i

  -- and the ages
  pub links_written : columns_in (store.with_record s n r) ≡ columns_in s
  links_written = λ i. record { links = columns_written i; ages = ages_with_record s n r i }

  module _ (is : IsNodeOf s n) where
    pub record_written : record_of (store.with_record s n r) n ≡ Some r
    record_written =
        let w = Rewrites-with_record s n r is in
        record_of-at (store.with_record s n r) n (ap (λ (f : ℕ → Option Node). f (number_of n)) w.nodes ∙ is) ∙ w.written.changed

    -- the node stays one
    pub node_written : IsNodeOf (store.with_record s n r) n
    node_written = ap (λ (f : ℕ → Option Node). f (number_of n)) (nodes_with_record s n r) ∙ is

    -- the record of any other node stays
    pub others_written : (m : Node) → m ≢ n → record_of (store.with_record s n r) m ≡ record_of s m
    unfolding record_of
    others_written m apart =
        let w = Rewrites-with_record s n r is in
        let same : nodes (store.with_record s n r) (number_of m) ≡ nodes s (number_of m) = ap (λ (f : ℕ → Option Node). f (number_of m)) w.nodes in
        ⊎_elim
        (λ (z : number_of m ≡ number_of n).
        let old : nodes s (number_of m) ≡ Some n = ap (nodes s) z ∙ is in
        none_at (nodes (store.with_record s n r)) (records (store.with_record s n r)) (same ∙ old) ∙ sym (none_at (nodes s) (records s) old))
        (λ z. λ i. option_and_then (λ x. cond (same_node x m) (w.written.others (number_of m) z i) None) (same i))
        (cases_eq (number_of m) (number_of n))
      where
        none_at : (ns : ℕ → Option Node) (xs : ℕ → Option R) → ns (number_of m) ≡ Some n → of_node ns xs m ≡ None
        none_at ns xs here =
            ap (λ o. option_and_then (λ x. cond (same_node x m) (xs (number_of m)) None) o) here
            ∙ ap (λ b. cond b (xs (number_of m)) None) (same_node-false n m (λ e. apart (sym e)))

module _ {R E : Type 0} (s : Parts R E) (n : Node) (r : R) where
  pub lists_written : lists_of (with_record s n r) ≡ lists_of s
  lists_written = ap (λ (cs : Columns). lists_in cs s.indices.items) (links_written s.store n r)

  pub sound_written : (has_key : E → ℕ → Bool) → IsSound has_key s → IsSound has_key (with_record s n r)
  sound_written has_key h = record {
    some = h.some;
    few = h.few;
    keys = h.keys;
    nodes = IsStore_same s.store (store.with_record s.store n r) (nodes_with_record s.store n r) (aged_with_record s.store n r) (ages_with_record s.store n r) (added_with_record s.store n r) h.nodes;
    columns = h.columns;
    most = h.most;
    within = h.within;
    wide = omega (arith, h.wide, width_with_record s.store n r);
    placed = subst (λ (cs : Columns). ArePlaced cs s.specs.items s.indices.items) (sym (links_written s.store n r)) h.placed;
  }

  module _ (is : IsNodeOf s.store n) (order : E → ℕ → R → R → Ordering) (marks : E → ℕ → R → Marks) where
    -- where a record was written, all but its node are where their keys put them
    pub keyed_but_written : IsKeyedBut order marks s n → IsKeyedBut order marks (with_record s n r) n
    keyed_but_written h = record {
      each = λ j d i lt.
          let x = get_or s.indices.items j i in
          IsKeyedBut_rewritten (order s.keys) (marks s.keys) s.store (store.with_record s.store n r) n x (ap (λ (cs : ℕ → Column). cs (col_of x)) (columns_written s.store n r)) (others_written s.store n r is) (ages_with_record s.store n r) (h.each j d i lt);
    }

module _ {R E : Type 0} (s : Parts R E) (n : Node) (r w : R) (had : record_of s.store n ≡ Some r) (is : IsNodeOf s.store n) where
  -- the record that a node had, written back, is as if none was written
  pub written_back : record_of (with_record (with_record s n w) n r).store ≡ record_of s.store
  written_back = λ i m. at m i
    where
      at : (m : Node) → record_of (store.with_record (store.with_record s.store n w) n r) m ≡ record_of s.store m
      at m =
          ⊎_elim
          (λ (e : m ≡ n). ap (record_of (store.with_record (store.with_record s.store n w) n r)) e ∙ (record_written (store.with_record s.store n w) n r (node_written s.store n w is) ∙ sym (ap (record_of s.store) e ∙ had)))
          (λ (ne : m ≢ n). others_written (store.with_record s.store n w) n r (node_written s.store n w is) m ne ∙ others_written s.store n w is m ne)
          (node_cases m n)

  -- so a set whose record was written and put back is as keyed as it was
  pub keyed_put_back : (order : E → ℕ → R → R → Ordering) (marks : E → ℕ → R → Marks) → IsKeyed order marks s → IsKeyed order marks (with_record (with_record s n w) n r)
  keyed_put_back order marks h = record {
    each = λ j d i lt.
        let x = get_or s.indices.items j i in
        IsKeyed_restored (order s.keys) (marks s.keys) s.store (store.with_record (store.with_record s.store n w) n r) x
        (ap (λ (cs : ℕ → Column). cs (col_of x)) (columns_written (store.with_record s.store n w) n r ∙ columns_written s.store n w)) written_back (ages_with_record (store.with_record s.store n w) n r ∙ ages_with_record s.store n w) (h.each j d i lt);
  }

  -- and one whose record has other contents with the same keys is restored
  pub restored : (order : E → ℕ → R → R → Ordering) (marks : E → ℕ → R → Marks) → ((index : ℕ) → index < length s.specs.items → IsTrue (has_key_kind (kind_at s index)) → order s.keys index w r ≡ Equal) →
      IsKeyed order marks s → IsRestored order marks (with_record s n w) n
  restored order marks same h = record {
    before = r;
    keyed = keyed_put_back order marks h;
    keys = record { row = w; is = record_written s.store n w is; equal = same };
  }

-- the record of a node has the keys that it had before it was written
module _ {R E : Type 0} {has_key : E → ℕ → Bool} (order : E → ℕ → R → R → Ordering) (total : (keys : E) (index : ℕ) → IsTrue (has_key keys index) → IsTotalOrder (order keys index))
    (s : Parts R E) (sound : IsSound has_key s) (n : Node) (before : R) (is : IsNodeOf s.store n) (keys : HasKeysOf order s n before) where
  -- at each index with a key all nodes stand to one another as they did
  pub order_restored : (j : ℕ) → j < length s.specs.items → IsTrue (has_key_kind (kind_at s j)) → order_at (record_of s.store) (order s.keys j) ≡ order_at (record_of (store.with_record s.store n before)) (order s.keys j)
  order_restored j lt key =
      order_alike (record_of (store.with_record s.store n before)) (record_of s.store) n before keys.row (record_written s.store n before is) keys.is (λ m ne. sym (others_written s.store n before is m ne))
      (order s.keys j) (total s.keys j (has_its_key s sound j lt key)) (keys.equal j lt key)

  module _ (marks : E → ℕ → R → Marks) (alike : (keys : E) (index : ℕ) (a b : R) → IsTrue (has_key keys index) → order keys index a b ≡ Equal → marks keys index a ≡ marks keys index b) where
    one_key : (j : ℕ) → j < length s.specs.items → IsTrue (has_key_kind (kind_at s j)) → HasOneKey (order s.keys j) (marks s.keys j) before keys.row
    one_key j lt key =
        let has = has_its_key s sound j lt key in
        record { total = total s.keys j has; equal = keys.equal j lt key; same_marks = alike s.keys j keys.row before has (keys.equal j lt key) }

    one_key_at : (j : ℕ) (lt : j < length s.specs.items) (i : AnyIndex) → i ≡ get_or s.indices.items j i → IsTrue (has_key_kind (kind_of i)) → HasOneKey (order s.keys (index_of i)) (marks s.keys (index_of i)) before keys.row
    one_key_at j lt i e key =
        subst (λ z. HasOneKey (order s.keys z) (marks s.keys z) before keys.row) (sym (number_here s sound j lt i e (subst (λ z. IsTrue (has_key_kind z)) (kind_here s sound j lt i e) key)))
        (one_key j lt (subst (λ z. IsTrue (has_key_kind z)) (kind_here s sound j lt i e) key))

    -- and the set is as keyed as it was
    pub keyed_restored : IsKeyed order marks (with_record s n before) → IsKeyed order marks s
    keyed_restored h = record {
      each = λ j d i lt.
          let x = get_or s.indices.items j i in
          IsKeyed_alike (order s.keys) (marks s.keys) (store.with_record s.store n before) s.store n before keys.row x
          (sym (ap (λ (cs : ℕ → Column). cs (col_of x)) (columns_written s.store n before))) (record_written s.store n before is) keys.is (λ m ne. sym (others_written s.store n before is m ne))
          (one_key_at j lt x (get_or_default s.indices.items j i x (omega (arith, lt, sound.placed.one_each)))) (sym (ages_with_record s.store n before)) (h.each j d i lt);
    }
