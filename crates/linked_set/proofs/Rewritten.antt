-- What becomes of a container's nodes, lists and slots when the row of one record is written and its node settles.
use Rattle.std.proofs.Common.{◌≡◌, ◌≢◌, ℕ, ◌+◌, ◌==◌, Bool, true, false, cond, List, [], ◌∷◌, map, Option, Some, None, refl, sym, ap, ◌∙◌, subst, ⊎_elim}
use Rattle.std.specs.Prelude.{option_map}
use Rattle.std.specs.List.{AllByRecursion, filter_map, cons_option}
use Rattle.std.specs.Option.{option_map_or}
use Rattle.std.specs.declared.cmp.Ordering.{Ordering}
use Rattle.std.proofs.lemmas.List.Elements.{recursion_from_All}
use Rattle.list_model.specs.Order.{EachPair}
use Rattle.list_model.specs.Walk.{settled}
use Rattle.list_model.proofs.InOrder.{All-map}
use Rattle.list_model.proofs.Kept.{All-split, EachPair-of_map}
use Rattle.list_model.proofs.Lists.{All-both}
use Rattle.list_model.proofs.Moved.{settled_same}
use Rattle.node_store.specs.declared.Node.{Node}
use Rattle.node_store.specs.Nodes.{Holds, IsDistinct}
use Rattle.node_store.specs.Store.{Store, IsStore, IsNodeOf, nodes, number_of, with_record, aged}
use Rattle.node_store.specs.ByNode.{contents, record_of, same_node}
use Rattle.node_store.specs.Age.{nodes_of, all_below}
use Rattle.node_store.proofs.Age.{all_nodes_of}
use Rattle.node_store.proofs.ByNode.{node_cases, same_node-refl, nodes_kept, records_kept, added_kept, aged_kept, same_node-false}
use Rattle.node_store.proofs.Members.{others_differ}
use Rattle.node_store.proofs.NodeLists.{IsDistinct-parts, AreApart-head}
use Rattle.node_store.proofs.StoreLemmas.{nodes_with_record, added_with_record, aged_with_record}
use Rattle.container_model.specs.declared.handle.Handle.{Handle}
use Rattle.container_model.specs.declared.handle.Entry.{Entry}
use Rattle.container_model.specs.declared.handle.Spec.{Spec}
use Rattle.container_model.specs.declared.handle.Kind.{Kind}
use Rattle.container_model.specs.State.{is_handle, is_sorted_kind, side_of}
use Rattle.container_model.specs.Change.{with_row, settled_from}
use Rattle.container_model.proofs.Replaced.{changed, handle-changed}
use Rattle.any_index.specs.Side.{order_at}
use Rattle.any_index.specs.Lists.{settled_in}
use Rattle.slot_table.specs.Slots.{item_at}
use Rattle.index_set.specs.Each.{changed_from}
use Rattle.index_set.specs.Indices.{HoldIt}
use Rattle.index_set.specs.Lists.{settled_at}
use Rattle.index_set.proofs.Written.{record_written, others_written}
use Rattle.linked_set.specs.LeadsTo.{LeadsTo}
use Rattle.linked_set.specs.Linked.{handle_of, entries_in, handles_in}
use Rattle.linked_set.proofs.Contents.{has_record, handle_of-is, known}
use Rattle.linked_set.proofs.Entered.{order_known}
use Rattle.linked_set.proofs.ByHandle.{same_by_handle}
use Rattle.linked_set.proofs.Settling.{settled_mapped}

-- ---- lists

cons_by : {X : Type 0} (f : X → X) (o : Option X) (xs : List X) → cons_option (option_map f o) (map f xs) ≡ map f (cons_option o xs)
cons_by f None xs = refl
cons_by f (Some x) xs = refl

map-filter_map : {X Y : Type 0} (f : Y → Y) (old new : X → Option Y) (xs : List X) → AllByRecursion (λ x. new x ≡ option_map f (old x)) xs → filter_map new xs ≡ map f (filter_map old xs)
map-filter_map f old new [] same = refl
map-filter_map f old new (x ∷ xs) same = (λ i. cons_option (same.0 i) (map-filter_map f old new xs same.1 i)) ∙ cons_by f (old x) (filter_map old xs)

cond_by : {X Y : Type 0} (f : X → Y) (b : Bool) (xs ys : List X) (zs : List Y) → map f xs ≡ zs → map f (cond b xs ys) ≡ cond b zs (map f ys)
cond_by f true xs ys zs e = e
cond_by f false xs ys zs e = refl

module _ {R : Type 0} (s u : Store (Entry R)) (n : Node) (h : Handle) (row : R) (slots : List (Option Node)) (store : IsStore s) (leads : LeadsTo s slots) (apart : EachPair (λ a b. (b.handle.slot == a.handle.slot) ≡ false) (entries_in (contents s)))
    (is : IsNodeOf s n) (own : handle_of (record_of s) n ≡ h) (after : contents u ≡ contents (with_record s n (record { handle = h; row = row }))) where
  abbrev entry : Entry R
  entry = record { handle = h; row = row }

  pub same_nodes : nodes u ≡ nodes s
  same_nodes = nodes_kept (with_record s n entry) u after ∙ nodes_with_record s n entry

  same_aged : aged u ≡ aged s
  same_aged = aged_kept (with_record s n entry) u after ∙ aged_with_record s n entry

  pub same_count : u.added ≡ s.added
  same_count = added_kept (with_record s n entry) u after ∙ added_with_record s n entry

  pub its_record : record_of u n ≡ Some entry
  its_record = ap (λ (f : Node → Option (Entry R)). f n) (records_kept (with_record s n entry) u after) ∙ record_written s n entry is

  pub other_records : (m : Node) → m ≢ n → record_of u m ≡ record_of s m
  other_records m ne = ap (λ (f : Node → Option (Entry R)). f m) (records_kept (with_record s n entry) u after) ∙ others_written s n entry is m ne

  -- each node keeps its handle
  pub handle_kept : (m : Node) → handle_of (record_of u) m ≡ handle_of (record_of s) m
  handle_kept m =
      ⊎_elim
      (λ (e : m ≡ n). ap (handle_of (record_of u)) e ∙ (handle_of-is (record_of u) n entry its_record ∙ (sym own ∙ ap (handle_of (record_of s)) (sym e))))
      (λ (ne : m ≢ n). ap (λ o. option_map_or (λ (x : Entry R). x.handle) o (record { slot = 0; stamp = 0 })) (other_records m ne))
      (node_cases m n)

  -- the node is known by its handle
  its_name : (m : Node) → IsNodeOf s m → same_node n m ≡ is_handle h (handle_of (record_of s) m)
  its_name m there = same_by_handle s slots leads n m is there ∙ ap (λ g. is_handle g (handle_of (record_of s) m)) own

  -- ---- the records

  changed_record : (m : Node) → IsNodeOf s m → record_of u m ≡ option_map (changed h row) (record_of s m)
  changed_record m there =
      let p = has_record s m there in
      let named : is_handle h p.0.handle ≡ same_node n m = ap (is_handle h) (sym (handle_of-is (record_of s) m p.0 p.1)) ∙ sym (its_name m there) in
      ⊎_elim
      (λ (e : m ≡ n).
      let yes : is_handle h p.0.handle ≡ true = named ∙ (ap (same_node n) e ∙ same_node-refl n) in
      let handle : p.0.handle ≡ h = sym (handle_of-is (record_of s) m p.0 p.1) ∙ (ap (handle_of (record_of s)) e ∙ own) in
      ap (record_of u) e ∙ its_record
      ∙ (λ i. Some (record { handle = sym handle i; row = row }))
      ∙ ap (λ b. Some (cond b (record p.0 { row = row }) p.0)) (sym yes)
      ∙ ap (option_map (changed h row)) (sym p.1))
      (λ (ne : m ≢ n).
      let no : is_handle h p.0.handle ≡ false = named ∙ same_node-false n m (λ e. ne (sym e)) in
      other_records m ne ∙ p.1
      ∙ ap (λ b. Some (cond b (record p.0 { row = row }) p.0)) (sym no)
      ∙ ap (option_map (changed h row)) (sym p.1))
      (node_cases m n)

  -- the records, with its row changed
  pub entries_rewritten : entries_in (contents u) ≡ with_row h row (entries_in (contents s))
  unfolding contents
  entries_rewritten =
      (λ i. filter_map (record_of u) (all_below (same_aged i) (same_count i)))
      ∙ map-filter_map (changed h row) (record_of s) (record_of u) (nodes_of s) (All-map (IsNodeOf s) _ changed_record (nodes_of s) (recursion_from_All _ (nodes_of s) (all_nodes_of s store)))

  -- no two lie in one slot
  pub apart_rewritten : EachPair (λ a b. (b.handle.slot == a.handle.slot) ≡ false) (entries_in (contents u))
  apart_rewritten = subst (EachPair _) (sym entries_rewritten) (EachPair-of_map (changed h row) _ (entries_in (contents s)) (kept (entries_in (contents s)) apart))
    where
      all_kept : (a : Entry R) (es : List (Entry R)) → AllByRecursion (λ b. (b.handle.slot == a.handle.slot) ≡ false) es → AllByRecursion (λ b. ((changed h row b).handle.slot == (changed h row a).handle.slot) ≡ false) es
      all_kept a es all = All-map _ _ (λ b p. (λ i. (handle-changed h row b i).slot == (handle-changed h row a i).slot) ∙ p) es all

      kept : (es : List (Entry R)) → EachPair (λ a b. (b.handle.slot == a.handle.slot) ≡ false) es → EachPair (λ a b. ((changed h row b).handle.slot == (changed h row a).handle.slot) ≡ false) es
      kept [] each = tt
      kept (a ∷ es) each = (all_kept a es each.0, kept es each.1)

  -- the slots lead to the same nodes
  pub leads_rewritten : LeadsTo u slots
  leads_rewritten = record {
    node_at = λ m there. ap (λ (g : Handle). item_at slots g.slot) (handle_kept m) ∙ leads.node_at m (ap (λ (f : ℕ → Option Node). f (number_of m)) (sym same_nodes) ∙ there);
    slot_of = λ k m at. let p = leads.slot_of k m at in (ap (λ (f : ℕ → Option Node). f (number_of m)) same_nodes ∙ p.0, ap (λ (g : Handle). g.slot) (handle_kept m) ∙ p.1);
  }

  -- ---- the lists

  pub handles_same : (lists : List (List Node)) → handles_in (record_of u) lists ≡ handles_in (record_of s) lists
  handles_same lists = ap (λ (f : Node → Handle). map (map f) lists) (λ i m. handle_kept m i)

  module _ (order : R → R → Ordering) where
    abbrev by_row : Entry R → Entry R → Ordering
    by_row a b = order a.row b.row

    abbrev side : Handle → Ordering
    side = side_of (λ a. order a row) (entries_in (contents s))

    -- another node stands to it as that node's handle stands to the row
    side_rewritten : (m : Node) → m ≢ n → IsNodeOf s m → order_at (record_of u) by_row m n ≡ side (handle_of (record_of u) m)
    side_rewritten m ne there =
        let k = known s m store apart there in
        order_known (record_of u) (entries_in (contents s)) n entry its_record order m (record { entry = k.entry; is = other_records m ne ∙ k.is; row = k.row })

    -- a node settles where its handle does
    list_settled : (xs : List Node) → Holds xs n → IsDistinct xs → AllByRecursion (IsNodeOf s) xs →
        map (handle_of (record_of u)) (settled (same_node n) (λ m. order_at (record_of u) by_row m n) n xs) ≡ settled (is_handle h) side h (map (handle_of (record_of u)) xs)
    list_settled xs held distinct are =
        let f : Node → Handle = handle_of (record_of u) in
        let parts = IsDistinct-parts held.before (n ∷ held.after) (subst IsDistinct held.is distinct) in
        let there = All-split (IsNodeOf s) held.before (n ∷ held.after) (subst (AllByRecursion (IsNodeOf s)) held.is are) in
        let alike : (ys : List Node) → AllByRecursion (λ m. same_node n m ≡ false) ys → AllByRecursion (IsNodeOf s) ys → AllByRecursion (λ m. order_at (record_of u) by_row m n ≡ side (f m)) ys =
        λ ys ne node. All-map _ _ (λ m p. side_rewritten m (λ e. let bad = sym p.0 ∙ (ap (same_node n) e ∙ same_node-refl n) in cc) p.1) ys (All-both _ _ ys ne node) in
        let before : AllByRecursion (λ m. same_node n m ≡ false) held.before = others_differ n held.before (AreApart-head held.before held.after n parts.apart) in
        let behind : AllByRecursion (λ m. same_node n m ≡ false) held.after = others_differ n held.after parts.back.0 in
        ap (map f)
        (subst (λ l. settled (same_node n) (λ m. order_at (record_of u) by_row m n) n l ≡ settled (same_node n) (λ m. side (f m)) n l) (sym held.is)
        (settled_same (same_node n) (λ m. order_at (record_of u) by_row m n) (λ m. side (f m)) held.before n held.after before (same_node-refl n) behind (alike held.before before there.0) (alike held.after behind there.1.1)))
        ∙ (settled_mapped f (same_node n) (is_handle h) side n xs (All-map _ _ (λ m node. its_name m node ∙ ap (is_handle h) (sym (handle_kept m))) xs are)
        ∙ ap (λ g. settled (is_handle h) side g (map f xs)) (handle_of-is (record_of u) n entry its_record))

    one_settled : (kind : Kind) (xs : List Node) → Holds xs n → IsDistinct xs → AllByRecursion (IsNodeOf s) xs →
        map (handle_of (record_of u)) (settled_in kind (order_at (record_of u) by_row) n xs) ≡ cond (is_sorted_kind kind) (settled (is_handle h) side h (map (handle_of (record_of u)) xs)) (map (handle_of (record_of u)) xs)
    one_settled kind xs held distinct are =
        cond_by (handle_of (record_of u)) (is_sorted_kind kind) _ xs _ (list_settled xs held distinct are)

  settled_each : (order : ℕ → R → R → Ordering) (index : ℕ) (specs : List Spec) (lists : List (List Node)) → HoldIt lists n → AllByRecursion IsDistinct lists → AllByRecursion (AllByRecursion (IsNodeOf s)) lists →
      handles_in (record_of u) (changed_from (settled_at (λ i a b. order i a.row b.row) (record_of u) n) index specs lists) ≡ settled_from order (entries_in (contents s)) h row index specs (handles_in (record_of u) lists)
  settled_each order index [] lists held distinct are = refl
  settled_each order index (spec ∷ specs) [] held distinct are = refl
  settled_each order index (spec ∷ specs) (list ∷ lists) held distinct are =
      λ i. one_settled (order index) spec.kind list held.0 distinct.0 are.0 i ∷ settled_each order (index + 1) specs lists held.1 distinct.1 are.1 i

  -- the record settles in the lists of handles
  pub lists_rewritten : (order : ℕ → R → R → Ordering) (specs : List Spec) (lists : List (List Node)) → HoldIt lists n → AllByRecursion IsDistinct lists → AllByRecursion (AllByRecursion (IsNodeOf s)) lists →
      handles_in (record_of u) (changed_from (settled_at (λ i a b. order i a.row b.row) (record_of u) n) 0 specs lists) ≡ settled_from order (entries_in (contents s)) h row 0 specs (handles_in (record_of s) lists)
  lists_rewritten order specs lists held distinct are =
      settled_each order 0 specs lists held distinct are ∙ ap (settled_from order (entries_in (contents s)) h row 0 specs) (handles_same lists)
