-- Where each key of a unique index stands once, it does so after each call, in the words of the calls' clauses.
use Rattle.std.proofs.Common.{◌≡◌, ◌≢◌, ℕ, ◌<◌, Bool, false, List, length, get_or, set, map, Option, Some, None, Result, Ok, Err, refl, sym, ap, ◌∙◌, subst}
use Rattle.std.specs.Prelude.{IsTrue, IfOk, OnErr}
use Rattle.std.specs.Option.{option_map_or}
use Rattle.std.specs.Cmp.{IsTotalOrder}
use Rattle.std.specs.Ordering.{is_eq}
use Rattle.std.specs.declared.cmp.Ordering.{Ordering}
use Rattle.std.proofs.lemmas.List.{get_or_default}
use Rattle.list_model.specs.Order.{EachPair}
use Rattle.list_model.specs.Walk.{without}
use Rattle.list_model.proofs.Lists.{slice_get_at}
use Rattle.node_store.specs.declared.Node.{Node}
use Rattle.node_store.specs.Nodes.{Holds}
use Rattle.node_store.specs.Store.{IsNodeOf, age_of}
use Rattle.node_store.specs.ByNode.{record_of, contents, same_node, AddsNode, RemovesNode}
use Rattle.node_store.proofs.ByNode.{records_kept}
use Rattle.container_model.specs.declared.handle.Spec.{Spec}
use Rattle.container_model.specs.declared.handle.Kind.{Kind}
use Rattle.container_model.specs.declared.handle.Kind.TheVariants as kind
use Rattle.container_model.specs.Insert.{At}
use Rattle.container_model.specs.State.{has_key_kind, is_sequence_kind}
use Rattle.index_set.specs.declared.parts.Parts.{Parts}
use Rattle.index_set.specs.Each.{changed_from, list_at}
use Rattle.index_set.specs.Indices.{LackIt, HoldIt}
use Rattle.index_set.specs.Lists.{entered_at, settled_at, ban_from, AreUniqueFrom}
use Rattle.index_set.specs.Set.{IsSound, IsUniqueExcept, IsOfSame, HasKeysOf, lists_of, kind_at, with_record}
use Rattle.index_set.proofs.Each.{all_listed}
use Rattle.index_set.proofs.Members.{one_list_each, distinct_at}
use Rattle.index_set.proofs.Reading.{some_spec}
use Rattle.index_set.proofs.Uniques.{OneOfEach, unique_at, unique_from}
use Rattle.index_set.proofs.UniqueSteps.{AreUnique, unique_loose, unique_written, unique_entered, unique_settled, unique_left, unique_but, unique_moved}
use Rattle.index_set.proofs.Written.{lists_written, others_written, sound_written, written_back, order_restored}

keyless : (k : Kind) → IsTrue (is_sequence_kind k) → IsTrue (has_key_kind k) → ⊥
keyless kind.Sequenced p q = cc
keyless kind.Random p q = cc
keyless kind.Ordered p q = cc
keyless kind.Ranked p q = cc
keyless kind.Hashed p q = cc

-- a unique index is no sequence
apart_from_sequence : {R E : Type 0} {has_key : E → ℕ → Bool} (s : Parts R E) → IsSound has_key s → (k : ℕ) → k < length s.specs.items → IsTrue (is_sequence_kind (kind_at s k)) →
    (j : ℕ) → j < length s.specs.items → IsTrue (get_or s.specs.items j some_spec).unique → j ≢ k
apart_from_sequence s sound k lt sequence j below unique e =
    let there : IsTrue (is_sequence_kind (get_or s.specs.items k some_spec).kind) =
    subst (λ (o : Option Spec). IsTrue (is_sequence_kind (option_map_or (λ (d : Spec). d.kind) o kind.Sequenced))) (slice_get_at s.specs.items k some_spec lt) sequence in
    keyless (get_or s.specs.items j some_spec).kind (subst (λ z. IsTrue (is_sequence_kind (get_or s.specs.items z some_spec).kind)) (sym e) there) (sound.keys.unique j some_spec below unique)

-- but has a key
key_at : {R E : Type 0} {has_key : E → ℕ → Bool} (s : Parts R E) → IsSound has_key s → (j : ℕ) → j < length s.specs.items → IsTrue (get_or s.specs.items j some_spec).unique → IsTrue (has_key_kind (kind_at s j))
key_at s sound j lt unique =
    ap (λ (o : Option Spec). has_key_kind (option_map_or (λ (d : Spec). d.kind) o kind.Sequenced)) (slice_get_at s.specs.items j some_spec lt) ∙ sound.keys.unique j some_spec lt unique

itself : {R E : Type 0} (s : Parts R E) → IsOfSame s s
itself s = record { keys = refl; specs = refl; columns = refl }

module _ {R E : Type 0} (order : E → ℕ → R → R → Ordering) where
  -- the same lists of the same records in another set
  from_lists : (s t : Parts R E) (records : Node → Option R) (lists : List (List Node)) (except : Option Node) → IsOfSame s t → record_of t.store ≡ records → lists_of t ≡ lists →
      AreUnique (order s.keys) records s.specs.items lists except → IsUniqueExcept order t except
  from_lists s t records lists except same has listed h =
      subst (λ (e : E). AreUniqueFrom (order e) (record_of t.store) except 0 t.specs.items (lists_of t)) (sym same.keys)
      (subst (λ (ds : List Spec). AreUniqueFrom (order s.keys) (record_of t.store) except 0 ds (lists_of t)) (sym same.specs)
      (subst (λ (f : Node → Option R). AreUniqueFrom (order s.keys) f except 0 s.specs.items (lists_of t)) (sym has)
      (subst (λ (ls : List (List Node)). AreUniqueFrom (order s.keys) records except 0 s.specs.items ls) (sym listed)
      (unique_from (order s.keys) records except s.specs.items lists
      (λ j d lt unique. h j lt (subst (λ (z : Spec). IsTrue z.unique) (get_or_default s.specs.items j d some_spec lt) unique))))))

module _ {R E : Type 0} {has_key : E → ℕ → Bool} (order : E → ℕ → R → R → Ordering) where
  to_lists : (s : Parts R E) (except : Option Node) → IsSound has_key s → IsUniqueExcept order s except → AreUnique (order s.keys) (record_of s.store) s.specs.items (lists_of s) except
  to_lists s except sound h j lt unique = unique_at (order s.keys) (record_of s.store) except s.specs.items (lists_of s) (one_list_each s sound) h j some_spec lt unique

  module _ (s t : Parts R E) (sound : IsSound has_key s) (same : IsOfSame s t) where
    -- a node was added that is in no index, or could not be
    pub unique_after_add : {X : Type 0} (value : R) (r : Result Node X) → lists_of t ≡ lists_of s → IfOk r (λ n. AddsNode s.store t.store n value) → IfOk r (λ n. LackIt (lists_of t) n) → OnErr r (t ≡ s) → IsUniqueExcept order s None → IsUniqueExcept order t None
    unique_after_add value (Ok n) listed adds lacks kept h =
        from_lists order s t (record_of t.store) (lists_of s) None same refl listed
        (unique_loose (order s.keys) s.specs.items (lists_of s) (one_list_each s sound) (record_of s.store) (record_of t.store) n adds.records.others (subst (λ ls. LackIt ls n) listed lacks) (to_lists s None sound h))
    unique_after_add value (Err e) listed adds lacks kept h = subst (λ (z : Parts R E). IsUniqueExcept order z None) (sym kept) h

    -- a node was removed that was in no index
    pub unique_after_remove : (n : Node) → lists_of t ≡ lists_of s → RemovesNode s.store t.store n → LackIt (lists_of s) n → IsUniqueExcept order s None → IsUniqueExcept order t None
    unique_after_remove n listed removes lacks h =
        from_lists order s t (record_of t.store) (lists_of s) None same refl listed
        (unique_loose (order s.keys) s.specs.items (lists_of s) (one_list_each s sound) (record_of s.store) (record_of t.store) n removes.records.others lacks (to_lists s None sound h))

    -- a node left all indices, whatever became of its record
    pub unique_after_leave : (n : Node) → lists_of t ≡ map (without (same_node n)) (lists_of s) → contents t.store ≡ contents s.store → IsUniqueExcept order s (Some n) → IsUniqueExcept order t None
    unique_after_leave n listed kept h =
        from_lists order s t (record_of s.store) (map (without (same_node n)) (lists_of s)) None same (records_kept s.store t.store kept) listed
        (unique_left (order s.keys) s.specs.items (lists_of s) (one_list_each s sound) (record_of s.store) n (to_lists s (Some n) sound h))

    -- a sequence was put into another order
    pub unique_after_move : (k : ℕ) (xs : List Node) (except : Option Node) → k < length s.specs.items → IsTrue (is_sequence_kind (kind_at s k)) → lists_of t ≡ set (lists_of s) k xs → contents t.store ≡ contents s.store →
        IsUniqueExcept order s except → IsUniqueExcept order t except
    unique_after_move k xs except lt sequence listed kept h =
        from_lists order s t (record_of s.store) (set (lists_of s) k xs) except same (records_kept s.store t.store kept) listed
        (unique_moved (order s.keys) s.specs.items (lists_of s) (one_list_each s sound) (record_of s.store) k xs except (apart_from_sequence s sound k lt sequence) (to_lists s except sound h))

  module _ (s : Parts R E) (sound : IsSound has_key s) (n : Node) where
    -- what is unique is so but for any node
    pub unique_except : IsUniqueExcept order s None → IsUniqueExcept order s (Some n)
    unique_except h = from_lists order s s (record_of s.store) (lists_of s) (Some n) (itself s) refl refl (unique_but (order s.keys) s.specs.items (lists_of s) (one_list_each s sound) (record_of s.store) n (to_lists s None sound h))

    -- a record was written
    pub unique_after_write : (r : R) → IsNodeOf s.store n → IsUniqueExcept order s None → IsUniqueExcept order (with_record s n r) (Some n)
    unique_after_write r is h =
        let t = with_record s n r in
        from_lists order s t (record_of t.store) (lists_of s) (Some n) (record { keys = refl; specs = refl; columns = refl }) refl (lists_written s n r)
        (unique_written (order s.keys) s.specs.items (lists_of s) (one_list_each s sound) (record_of s.store) (record_of t.store) n (others_written s.store n r is) (to_lists s None sound h))

    -- a record was written, and then as it was before
    pub unique_put_back : (r w : R) → record_of s.store n ≡ Some r → IsNodeOf s.store n → IsUniqueExcept order s None → IsUniqueExcept order (with_record (with_record s n w) n r) None
    unique_put_back r w had is h =
        let t = with_record s n w in
        from_lists order s (with_record t n r) (record_of s.store) (lists_of s) None (record { keys = refl; specs = refl; columns = refl })
        (written_back s n r w had is) (lists_written t n r ∙ lists_written s n w) (to_lists s None sound h)

  module _ (total : (keys : E) (index : ℕ) → IsTrue (has_key keys index) → IsTotalOrder (order keys index)) where
    total_at : (s : Parts R E) → IsSound has_key s → (j : ℕ) → j < length s.specs.items → IsTrue (get_or s.specs.items j some_spec).unique → IsTotalOrder (order s.keys j)
    total_at s sound j lt unique = total s.keys j (sound.keys.keyed j some_spec lt ∙ sound.keys.unique j some_spec lt unique)

    -- a record has the keys again that it had before it was written
    pub unique_restored : (s : Parts R E) → IsSound has_key s → (n : Node) (before : R) → IsNodeOf s.store n → HasKeysOf order s n before → IsUniqueExcept order (with_record s n before) None → IsUniqueExcept order s None
    unique_restored s sound n before is keys h =
        let t = with_record s n before in
        from_lists order s s (record_of s.store) (lists_of s) None (itself s) refl refl
        (λ j lt unique.
        subst (λ (f : Node → Node → Ordering). EachPair (λ m k. is_eq (f m k) ≡ false) (list_at (lists_of s) j)) (sym (order_restored order total s sound n before is keys j lt (key_at s sound j lt unique)))
        (subst (λ (ls : List (List Node)). OneOfEach (order s.keys) (record_of t.store) None j (list_at ls j)) (lists_written s n before) (to_lists t None (sound_written s n before has_key sound) h j lt unique)))

    -- a record that nothing bans was added and entered
    pub unique_after_enter : (s t u : Parts R E) → IsSound has_key s → IsOfSame s t → IsOfSame t u → (n : Node) (row : R) (at : At) →
        lists_of t ≡ lists_of s → AddsNode s.store t.store n row → LackIt (lists_of t) n →
        lists_of u ≡ changed_from (entered_at (order t.keys) (record_of t.store) (age_of t.store) at n) 0 t.specs.items (lists_of t) → contents u.store ≡ contents t.store →
        ban_from (order s.keys) (record_of s.store) (lists_of s) None row 0 s.specs.items ≡ None → IsUniqueExcept order s None → IsUniqueExcept order u None
    unique_after_enter s t u sound first second n row at listed adds lacks entered kept none h =
        from_lists order s u (record_of t.store) (changed_from (entered_at (order s.keys) (record_of t.store) (age_of t.store) at n) 0 s.specs.items (lists_of s)) None
        (record { keys = second.keys ∙ first.keys; specs = second.specs ∙ first.specs; columns = second.columns ∙ first.columns }) (records_kept t.store u.store kept)
        (entered ∙ (λ i. changed_from (entered_at (order (first.keys i)) (record_of t.store) (age_of t.store) at n) 0 (first.specs i) (listed i)))
        (unique_entered (order s.keys) s.specs.items (lists_of s) (one_list_each s sound) (record_of s.store) (record_of t.store) n adds.records.others (total_at s sound) row adds.records.changed (age_of t.store) at
        (subst (λ ls. LackIt ls n) listed lacks) none (to_lists s None sound h))

    -- a node whose record nothing else bans was settled
    pub unique_after_settle : (s t : Parts R E) → IsSound has_key s → IsOfSame s t → (n : Node) (row : R) → record_of s.store n ≡ Some row → HoldIt (lists_of s) n →
        lists_of t ≡ changed_from (settled_at (order s.keys) (record_of s.store) n) 0 s.specs.items (lists_of s) → contents t.store ≡ contents s.store →
        ban_from (order s.keys) (record_of s.store) (lists_of s) (Some n) row 0 s.specs.items ≡ None → IsUniqueExcept order s (Some n) → IsUniqueExcept order t None
    unique_after_settle s t sound same n row has held settled kept none h =
        from_lists order s t (record_of s.store) (changed_from (settled_at (order s.keys) (record_of s.store) n) 0 s.specs.items (lists_of s)) None same (records_kept s.store t.store kept) settled
        (unique_settled (order s.keys) s.specs.items (lists_of s) (one_list_each s sound) (record_of s.store) (record_of s.store) n (λ m apart. refl) (total_at s sound) row has
        (all_listed (λ xs. Holds xs n) s.specs.items (lists_of s) (one_list_each s sound) held) (distinct_at s sound) none (to_lists s (Some n) sound h))
