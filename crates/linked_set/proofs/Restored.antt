-- Lists that are filled in an order that is told.
use Rattle.std.proofs.Common.{◌≡◌, ◌≢◌, ⊎_elim, eq-eqb, ℕ, suc, ◌+◌, ◌≤◌, ◌<◌, ◌==◌, Bool, true, false, cond, List, [], ◌∷◌, ◌++◌, length, map, get_or, Option, Some, None, Result, Ok, Err, refl, sym, ap, ◌∙◌, subst, arith, append-nil, append_assoc}
use Rattle.std.specs.Prelude.{find, insert, count_by, is_some, nat_eq, slice_set, IfOk, OnOk, IsTrue, IsPermutation}
use Rattle.std.specs.List.{AllByRecursion, filter_map, cons_option, list_all}
use Rattle.std.specs.Option.{option_map_or, option_cmp}
use Rattle.std.specs.Ordering.{is_eq, is_gt, is_le}
use Rattle.std.specs.Cmp.{IsTotalOrder}
use Rattle.std.specs.Cmp.Lexicographic.{options_total}
use Rattle.std.specs.declared.cmp.Ordering.{Ordering}
use Rattle.std.specs.declared.cmp.Ordering.TheVariants.{Less, Equal, Greater}
use Rattle.std.proofs.lemmas.Cmp.{on_total, alike_right, tied_back, tied_itself}
use Rattle.std.proofs.lemmas.List.{length-map, length-set, length_push, map-set, get_or-set_same, get_or-set_other}
use Rattle.std.proofs.lemmas.Bool.{cases_eq}
use Rattle.std.proofs.lemmas.List.Edits.{insert_end}
use Rattle.std.proofs.lemmas.List.Sorted.{length_permutation, IsPermutation-map, IsPermutation-refl, IsPermutation-sym, IsPermutation-trans}
use Rattle.std.proofs.lemmas.Map.Keys.{IsDistinct-IsPermutation}
use Rattle.list_model.specs.Order.{EachPair, IsInOrder}
use Rattle.list_model.specs.Place.{not_above, insert_sorted, sorted_onto, stable_sorted}
use Rattle.list_model.proofs.Counts.{count_by-cons, count_by_none}
use Rattle.list_model.proofs.InOrder.{All-map}
use Rattle.list_model.proofs.Kept.{All-split}
use Rattle.list_model.proofs.Lists.{All-moved, All-of_map, EachPair-push, slice_get_at}
use Rattle.list_model.proofs.Moved.{IsInOrder-stable_sorted}
use Rattle.list_model.proofs.Orders.{not_gt_le}
use Rattle.list_model.proofs.Permuted.{count_by-permutation, none_passes}
use Rattle.node_store.specs.declared.Node.{Node}
use Rattle.node_store.specs.Nodes.{IsDistinct}
use Rattle.node_store.specs.Store.{Store, IsNodeOf, age_of}
use Rattle.node_store.specs.ByNode.{record_of, contents, AddsNode}
use Rattle.node_store.proofs.ByNode.{records_kept}
use Rattle.node_store.proofs.Members.{IsDistinct_moved}
use Rattle.container_model.specs.declared.handle.Handle.{Handle}
use Rattle.container_model.specs.declared.handle.Entry.{Entry}
use Rattle.container_model.specs.declared.handle.Kind.{Kind}
use Rattle.container_model.specs.declared.handle.Spec.{Spec}
use Rattle.container_model.specs.declared.handle.Kind.TheVariants.{Sequenced, Random, Ordered, Ranked, Hashed}
use Rattle.container_model.specs.Sequence.{has_each_once}
use Rattle.container_model.specs.State.{IsIndex, AreIndices, list_at, row_of, compare_of, is_sorted_kind, is_hashed_kind}
use Rattle.container_model.proofs.Keys.{sorted_has_key}
use Rattle.container_model.proofs.Found.{row_of_members, eqb_flip}
use Rattle.any_index.specs.Lists.{entered}
use Rattle.index_set.specs.Added.{entered_all, clash_from, clash, IsCause}
use Rattle.index_set.specs.declared.build.NoIndex.{NoIndex}
use Rattle.index_set.specs.declared.build.NoIndex.TheVariants as no
use Rattle.index_set.specs.declared.parts.Parts.{Parts}
use Rattle.index_set.specs.Set.{store_of, keys_of, specs_of, kind_at, list_of, lists_of, IsSound, IsKeyed, IsOfSame, IsUniqueExcept, contents as contents_of}
use Rattle.index_set.proofs.Uniques.{unique_at}
use Rattle.any_index.specs.Side.{order_at}
use Rattle.index_set.specs.declared.by_row.ByRow.{ByRow}
use Rattle.index_set.specs.ByRow.{has_by_row, order_by_row, marks_by_row}
use Rattle.index_set.proofs.Building.{members_all}
use Rattle.slot_table.specs.Slots.{item_at, with_item}
use Rattle.linked_set.specs.LeadsTo.{LeadsTo}
use Rattle.linked_set.specs.Linked.{handle_of, nodes_in, entries_in, handles_in, IsKnown}
use Rattle.linked_set.specs.Restored.{AreApart, FailsAt, HasMembers, IsListed, HasEachKeyOnce, IsUnfit, IsMisfit, unfit_of, misfit_of, spec_at, standing}
use Rattle.linked_set.specs.Seen.{IsLinked}
use Rattle.linked_set.specs.declared.fill.Unfit.{Unfit}
use Rattle.linked_set.specs.declared.fill.Unfit.TheVariants as unfit
use Rattle.linked_set.proofs.LeadsTo.{leads_put, none_is_free}
use Rattle.key_extract.specs.Digests.{Marks}
use Rattle.container_model.proofs.Handles.{free_is_apart}
use Rattle.index_set.proofs.Members.{one_list_each}
use Rattle.index_set.proofs.Each.{same_lists}
use Rattle.linked_set.proofs.ByAge.{AreByAge, nodes_rise, nodes_held, distinct_by_age}
use Rattle.linked_set.proofs.Contents.{known, has_record, member, handle_of-is, entries_added, handles_by_age, handles_kept}
use Rattle.linked_set.proofs.NewList.{by_rows, by_handles, ordered, ranked, last_in_buckets, in_turn as in_turn_by_age}
use Rattle.linked_set.proofs.StableSort.{map-stable_sorted}
use Rattle.linked_set.proofs.Rearranged.{all_pass, each_once, entries_apart, IsPermutation-unmap}

-- ---- lists

-- what holds of each pair holds of each member before one, and of that one
pub before_it : {X : Type 0} (P : X → X → Type 0) (front : List X) (x : X) (back : List X) → EachPair P (front ++ x ∷ back) → AllByRecursion (λ y. P y x) front
before_it P [] x back h = tt
before_it P (y ∷ ys) x back h = ((All-split (λ z. P y z) ys (x ∷ back) h.0).1.0, before_it P ys x back h.1)

nothing_found : {X : Type 0} (p : X → Bool) (xs : List X) → AllByRecursion (λ x. p x ≡ false) xs → find p xs ≡ None
nothing_found p [] h = refl
nothing_found p (x ∷ xs) h = ap (λ b. cond b (Some x) (find p xs)) h.0 ∙ nothing_found p xs h.1

-- ---- a list in order stays as it is

module _ {X : Type 0} (compare : X → X → Ordering) where
  insert_last : (x : X) (done : List X) → AllByRecursion (λ d. is_gt (compare d x) ≡ false) done → insert_sorted compare x done ≡ done ++ x ∷ []
  insert_last x [] h = refl
  insert_last x (d ∷ ds) h =
      let n : not_above (λ z. compare z x) (d ∷ ds) ≡ suc (not_above (λ z. compare z x) ds) =
      count_by-cons (λ z. is_le (compare z x)) d ds ∙ (ap (λ b. cond b 1 0 + not_above (λ z. compare z x) ds) (not_gt_le _ h.0) ∙ omega arith) in
      ap (λ k. insert (d ∷ ds) k x) n ∙ ap (λ l. d ∷ l) (insert_last x ds h.1)

  sorted_in_turn : (done xs : List X) → IsInOrder compare (done ++ xs) → sorted_onto compare done xs ≡ done ++ xs
  sorted_in_turn done [] h = sym (append-nil done)
  sorted_in_turn done (x ∷ xs) h =
      ap (λ l. sorted_onto compare l xs) (insert_last x done (before_it (λ y z. is_gt (compare y z) ≡ false) done x xs h))
      ∙ (sorted_in_turn (done ++ x ∷ []) xs (subst (IsInOrder compare) (sym (append_assoc done (x ∷ []) xs)) h) ∙ append_assoc done (x ∷ []) xs)

  pub sorted_as_it_is : (xs : List X) → IsInOrder compare xs → stable_sorted compare xs ≡ xs
  sorted_as_it_is xs h = sorted_in_turn [] xs h

-- ---- each key once, in any order

abbrev one_if : Bool → ℕ
one_if b = cond b 1 0

module _ {X : Type 0} (compare : X → X → Ordering) (total : IsTotalOrder compare) where
  abbrev differ : X → X → Type 0
  differ x y = is_eq (compare x y) ≡ false

  abbrev tie : X → X → Bool
  tie z y = is_eq (compare y z)

  is_tie : (o : Ordering) → is_eq o ≡ true → o ≡ Equal
  is_tie Less e = cc
  is_tie Equal e = refl
  is_tie Greater e = cc

  turned : (x y : X) → differ x y → differ y x
  turned x y h = by_test (is_eq (compare y x)) refl
    where
      by_test : (b : Bool) → is_eq (compare y x) ≡ b → b ≡ false
      by_test false e = refl
      by_test true e = sym (ap is_eq (tied_back total y x (is_tie _ e))) ∙ h

  few_by : (z x : X) (xs : List X) (b : Bool) → tie z x ≡ b → EachPair differ (x ∷ xs) → count_by (tie z) xs ≤ 1 → count_by (tie z) (x ∷ xs) ≤ 1
  few_by z x xs true e h rest =
      let none = count_by_none (tie z) xs (All-map (λ y. differ x y) (λ y. tie z y ≡ false) (λ y p. ap is_eq (sym (alike_right total x z y (is_tie _ e))) ∙ turned x y p) xs h.0) in
      let here = ap one_if e in
      omega (arith, count_by-cons (tie z) x xs, none, here)
  few_by z x xs false e h rest = let here = ap one_if e in omega (arith, count_by-cons (tie z) x xs, rest, here)

  few : (z : X) (xs : List X) → EachPair differ xs → count_by (tie z) xs ≤ 1
  few z [] h = omega arith
  few z (x ∷ xs) h = few_by z x xs (tie z x) refl h (few z xs h.1)

  from_few : (xs : List X) → ((z : X) → count_by (tie z) xs ≤ 1) → EachPair differ xs
  from_few [] h = tt
  from_few (x ∷ xs) h =
      let here = ap (λ o. one_if (is_eq o)) (tied_itself total x) in
      let none : count_by (tie x) xs ≡ 0 = omega (arith, h x, count_by-cons (tie x) x xs, here) in
      (All-map (λ y. tie x y ≡ false) (λ y. differ x y) (λ y p. turned y x p) xs (none_passes (tie x) xs none), from_few xs (λ z. omega (arith, h z, count_by-cons (tie z) x xs)))

  pub differ_moved : (xs ys : List X) → IsPermutation xs ys → EachPair differ xs → EachPair differ ys
  differ_moved xs ys moved h = from_few ys (λ z. omega (arith, count_by-permutation (tie z) xs ys moved, few z xs h))

-- ---- nodes

module _ (compare : Node → Node → Ordering) where
  clashless : (before after : List Node) → EachPair (λ m n. is_eq (compare m n) ≡ false) (before ++ after) → clash_from compare before after ≡ None
  clashless before [] h = refl
  clashless before (n ∷ ns) h =
      ap (λ o. option_map_or (λ m. Some (m, n)) o (clash_from compare (before ++ n ∷ []) ns)) (nothing_found (λ m. is_eq (compare m n)) before (before_it (λ m k. is_eq (compare m k) ≡ false) before n ns h))
      ∙ clashless (before ++ n ∷ []) ns (subst (EachPair _) (sym (append_assoc before (n ∷ []) ns)) h)

  pub none_clash : (ns : List Node) → EachPair (λ m n. is_eq (compare m n) ≡ false) ns → clash_from compare [] ns ≡ None
  none_clash ns h = clashless [] ns h

module _ (ages : Node → ℕ) (compare : Node → Node → Ordering) where
  in_turn : (kind : Kind) → ((n : Node) (xs : List Node) → entered kind ages compare None n xs ≡ xs ++ n ∷ []) → (done ns : List Node) → entered_all ages compare kind done ns ≡ done ++ ns
  in_turn kind last done [] = sym (append-nil done)
  in_turn kind last done (n ∷ ns) = ap (λ xs. entered_all ages compare kind xs ns) (last n done) ∙ (in_turn kind last (done ++ n ∷ []) ns ∙ append_assoc done (n ∷ []) ns)

  -- so do buckets, where they come by age
  pub hashed_in_turn : (ns : List Node) → AreByAge ages ns → entered_all ages compare Hashed [] ns ≡ ns
  hashed_in_turn ns by_age = in_turn_by_age ages compare Hashed (last_in_buckets ages compare) [] ns by_age

  -- a sequence has its nodes in the order in which they come
  pub sequenced_in_turn : (ns : List Node) → entered_all ages compare Sequenced [] ns ≡ ns
  sequenced_in_turn ns = in_turn Sequenced (λ n xs. insert_end xs n) [] ns

  pub random_in_turn : (ns : List Node) → entered_all ages compare Random [] ns ≡ ns
  random_in_turn ns = in_turn Random (λ n xs. insert_end xs n) [] ns

module _ {R : Type 0} (records : Node → Option (Entry R)) (entries : List (Entry R)) (order : R → R → Ordering) where
  abbrev differ_rows : Entry R → Entry R → Type 0
  differ_rows a b = is_eq (order a.row b.row) ≡ false

  abbrev differ_nodes : Node → Node → Type 0
  differ_nodes m n = is_eq (by_rows records entries order m n) ≡ false

  rows_after : (n : Node) (k : IsKnown records entries n) (ms : List Node) → AllByRecursion (IsKnown records entries) ms → AllByRecursion (λ m. differ_nodes n m) ms → AllByRecursion (λ b. differ_rows k.entry b) (filter_map records ms)
  rows_after n k [] known h = tt
  rows_after n k (m ∷ ms) known h =
      subst (λ o. AllByRecursion (λ b. differ_rows k.entry b) (cons_option o (filter_map records ms))) (sym known.0.is)
      ((λ i. is_eq (option_cmp (λ (a b : Entry R). order a.row b.row) (sym k.is i) (sym known.0.is i))) ∙ h.0, rows_after n k ms known.1 h.1)

  -- where no two nodes have one key, no two records have
  pub rows_differ : (ns : List Node) → AllByRecursion (IsKnown records entries) ns → EachPair differ_nodes ns → EachPair differ_rows (filter_map records ns)
  rows_differ [] known h = tt
  rows_differ (n ∷ ns) known h = subst (λ o. EachPair differ_rows (cons_option o (filter_map records ns))) (sym known.0.is) (rows_after n known.0 ns known.1 h.0, rows_differ ns known.1 h.1)

  nodes_after : (n : Node) (k : IsKnown records entries n) (ms : List Node) → AllByRecursion (IsKnown records entries) ms → AllByRecursion (λ b. differ_rows k.entry b) (filter_map records ms) → AllByRecursion (λ m. differ_nodes n m) ms
  nodes_after n k [] known h = tt
  nodes_after n k (m ∷ ms) known h =
      let both = subst (λ o. AllByRecursion (λ b. differ_rows k.entry b) (cons_option o (filter_map records ms))) known.0.is h in
      ((λ i. is_eq (option_cmp (λ (a b : Entry R). order a.row b.row) (k.is i) (known.0.is i))) ∙ both.0, nodes_after n k ms known.1 both.1)

  -- and the other way round
  pub nodes_differ : (ns : List Node) → AllByRecursion (IsKnown records entries) ns → EachPair differ_rows (filter_map records ns) → EachPair differ_nodes ns
  nodes_differ [] known h = tt
  nodes_differ (n ∷ ns) known h =
      let both = subst (λ o. EachPair differ_rows (cons_option o (filter_map records ns))) known.0.is h in
      (nodes_after n known.0 ns known.1 both.0, nodes_differ ns known.1 both.1)

-- ---- handles that are each record's once

module _ {R : Type 0} (entries : List (Entry R)) (list : List Handle) (slots : AreApart entries) (moved : HasMembers entries list) where
  live_members : AllByRecursion (λ h. is_some (row_of entries h) ≡ true) list
  live_members = All-moved _ (map (λ e. e.handle) entries) list moved (All-of_map (λ (e : Entry R). e.handle) _ entries (All-map _ _ (λ (e : Entry R) found. ap is_some found) entries (row_of_members entries slots)))

  pub members_live : list_all (λ h. is_some (row_of entries h)) list ≡ true
  members_live = all_pass (λ h. is_some (row_of entries h)) list live_members

  pub members_once : has_each_once entries list ≡ true
  members_once =
      each_once entries list slots live_members (omega (arith, length_permutation (map (λ e. e.handle) entries) list moved, length-map entries (λ e. e.handle)))
      (IsDistinct-IsPermutation nat_eq eqb_flip _ _ (IsPermutation-map (λ (h : Handle). h.slot) _ list moved) (entries_apart entries slots))

-- ---- the list of an index that is filled

-- nodes that an index is to be filled with: their handles are these, each record's once, but in a hashed index they are by age
pub record AreTold {E R : Type 0} (set : Parts (Entry R) (ByRow E)) (index : ℕ) (list : List Handle) (ns : List Node) : Type 0 where
  pub members : HasMembers (entries_in (contents_of set)) list
  pub nodes : AllByRecursion (IsNodeOf (store_of set)) ns
  pub handles : is_hashed_kind (spec_at (specs_of set) index).kind ≡ false → map (handle_of (record_of (store_of set))) ns ≡ list
  pub aged : IsTrue (is_hashed_kind (spec_at (specs_of set) index).kind) → ns ≡ nodes_in (contents_of set)

module _ {E R : Type 0} {has_key : E → ℕ → Bool} {order_of : E → ℕ → R → R → Ordering} {marks : E → ℕ → R → Marks} (set : Parts (Entry R) (ByRow E)) (slots : List (Option Node)) (linked : IsLinked has_key order_of marks set slots)
    (total : (index : ℕ) → IsTrue (has_key (keys_of set).keys index) → IsTotalOrder (order_of (keys_of set).keys index)) (index : ℕ) (within : index < length (specs_of set)) (list : List Handle) (ns : List Node) (t : AreTold set index list ns) where
  abbrev s : Store (Entry R)
  s = store_of set

  abbrev none : Spec
  none = record { kind = Sequenced; unique = false }

  abbrev spec : Spec
  spec = spec_at (specs_of set) index

  abbrev order : R → R → Ordering
  order = order_of (keys_of set).keys index

  abbrev entries : List (Entry R)
  entries = entries_in (contents s)

  abbrev compare : Node → Node → Ordering
  compare = by_rows (record_of s) entries order

  abbrev filled : List Node
  filled = entered_all (age_of s) compare spec.kind [] ns

  -- it has a key where it is in order, or unique
  sorted_total : IsTrue (is_sorted_kind spec.kind) → IsTotalOrder order
  sorted_total sorted = total index (subst IsTrue (sym (linked.sound.keys.keyed index none within)) (sorted_has_key spec.kind sorted))

  unique_total : IsTrue spec.unique → IsTotalOrder compare
  unique_total one = on_total (record_of s) (options_total (on_total (λ (e : Entry R). e.row) (total index (subst IsTrue (sym (linked.sound.keys.keyed index none within)) (linked.sound.keys.unique index none within one)))))

  known_nodes : (ms : List Node) → AllByRecursion (IsNodeOf s) ms → AllByRecursion (IsKnown (record_of s) entries) ms
  known_nodes ms are = All-map (IsNodeOf s) _ (λ n at. known s n linked.sound.nodes linked.apart at) ms are

  all_known : AllByRecursion (IsKnown (record_of s) entries) (nodes_in (contents s))
  all_known = known_nodes (nodes_in (contents s)) (nodes_held s linked.sound.nodes)

  abbrev own : List Handle
  own = map (λ e. e.handle) entries

  -- the nodes are all
  moved : IsPermutation ns (nodes_in (contents s))
  moved = by_age (is_hashed_kind spec.kind) refl
    where
      f : Node → Handle
      f = handle_of (record_of s)

      by_age : (b : Bool) → is_hashed_kind spec.kind ≡ b → IsPermutation ns (nodes_in (contents s))
      by_age true hashed = subst (IsPermutation ns) (t.aged hashed) (IsPermutation-refl ns)
      by_age false other =
          IsPermutation-unmap f (λ h. item_at slots h.slot) ns (nodes_in (contents s))
          (All-map (IsNodeOf s) _ (λ n at. linked.leads.node_at n at) ns t.nodes)
          (All-map (IsNodeOf s) _ (λ n at. linked.leads.node_at n at) (nodes_in (contents s)) (nodes_held s linked.sound.nodes))
          (subst (λ l. IsPermutation (map f ns) l) (handles_by_age s linked.sound.nodes) (subst (λ l. IsPermutation l own) (sym (t.handles other)) (IsPermutation-sym own list t.members)))

  pub nodes_distinct : IsDistinct ns
  nodes_distinct = IsDistinct_moved (nodes_in (contents s)) ns (IsPermutation-sym ns (nodes_in (contents s)) moved) (distinct_by_age (age_of s) (nodes_in (contents s)) (nodes_rise s linked.sound.nodes))

  abbrev sorted_list : List Handle
  sorted_list = stable_sorted (compare_of order entries) list

  abbrev settled : List Handle
  settled = standing spec.kind sorted_list own list

  by_key : map (handle_of (record_of s)) ns ≡ list → map (handle_of (record_of s)) (stable_sorted compare ns) ≡ sorted_list
  by_key named =
      map-stable_sorted (handle_of (record_of s)) (IsKnown (record_of s) entries) compare (compare_of order entries) (by_handles (record_of s) entries order) ns (known_nodes ns t.nodes)
      ∙ ap (stable_sorted (compare_of order entries)) named

  -- the handles of the nodes that are filled in
  filled_handles : map (handle_of (record_of s)) filled ≡ settled
  filled_handles = by_kind spec.kind t.handles t.aged
    where
      f : Node → Handle
      f = handle_of (record_of s)

      by_kind : (kind : Kind) → (is_hashed_kind kind ≡ false → map f ns ≡ list) → (IsTrue (is_hashed_kind kind) → ns ≡ nodes_in (contents s)) → map f (entered_all (age_of s) compare kind [] ns) ≡ standing kind sorted_list own list
      by_kind Sequenced named aged = ap (map f) (sequenced_in_turn (age_of s) compare ns) ∙ named refl
      by_kind Random named aged = ap (map f) (random_in_turn (age_of s) compare ns) ∙ named refl
      by_kind Ordered named aged = ap (map f) (ordered (age_of s) compare [] ns) ∙ by_key (named refl)
      by_kind Ranked named aged = ap (map f) (ranked (age_of s) compare [] ns) ∙ by_key (named refl)
      by_kind Hashed named aged =
          ap (map f) (hashed_in_turn (age_of s) compare ns (subst (AreByAge (age_of s)) (sym (aged refl)) (nodes_rise s linked.sound.nodes)) ∙ aged refl)
          ∙ sym (handles_by_age s linked.sound.nodes)

  -- no clash is seen where the records have one key each
  unclashed : HasEachKeyOnce entries order spec list → clash compare spec.unique ns ≡ None
  unfolding contents
  unclashed once = by_unique spec.unique once unique_total
    where
      by_unique : (b : Bool) → (IsTrue b → EachPair (λ a b. is_eq (order a.row b.row) ≡ false) entries) → (IsTrue b → IsTotalOrder compare) → clash compare b ns ≡ None
      by_unique true each total =
          none_clash compare ns (differ_moved compare (total refl) (nodes_in (contents s)) ns (IsPermutation-sym ns (nodes_in (contents s)) moved) (nodes_differ (record_of s) entries order (nodes_in (contents s)) all_known (each refl)))
      by_unique false each total = refl

  -- why nodes are refused
  pub refused : (why : NoIndex) → IsCause (Unit {0}) (clash compare spec.unique ns) why → IsUnfit entries order spec list (unfit_of why)
  refused no.Columns is = absurd (is tt)
  refused (no.Clash first second) is = (t.members, λ once. (let bad = sym (unclashed once) ∙ is.1 in cc))
  refused no.Memory is = tt

  -- a list that is in order where its index sorts, and by age where it hashes, is the one that is made of it
  as_settled : (kind : Kind) → (IsTrue (is_sorted_kind kind) → IsInOrder (compare_of order entries) list) → (IsTrue (is_hashed_kind kind) → list ≡ own) → list ≡ standing kind sorted_list own list
  as_settled Sequenced in_order by_age = refl
  as_settled Random in_order by_age = refl
  as_settled Ordered in_order by_age = sym (sorted_as_it_is (compare_of order entries) list (in_order refl))
  as_settled Ranked in_order by_age = sym (sorted_as_it_is (compare_of order entries) list (in_order refl))
  as_settled Hashed in_order by_age = by_age refl

  -- ---- the set in which it is filled

  module _ (made : Parts (Entry R) (ByRow E)) (same : IsOfSame set made) (kept : contents_of made ≡ contents_of set) (lists : lists_of made ≡ slice_set (lists_of set) index (entered_all (age_of s) compare (kind_at set index) [] ns)) where
    one : length (lists_of set) ≡ length (specs_of set)
    one = one_list_each set linked.sound

    filled_in : lists_of made ≡ slice_set (lists_of set) index filled
    filled_in = lists ∙ ap (λ (o : Option Spec). slice_set (lists_of set) index (entered_all (age_of s) compare (option_map_or (λ (d : Spec). d.kind) o Sequenced) [] ns)) (slice_get_at (specs_of set) index none within)

    list_is : get_or (lists_of made) index [] ≡ filled
    list_is = ap (λ ls. get_or ls index []) filled_in ∙ get_or-set_same (lists_of set) index filled [] (omega (arith, within, one))

    abbrev found : List Handle
    found = map (handle_of (record_of (store_of made))) (list_of made index)

    found_is : found ≡ settled
    found_is = (λ i. map (handle_of (records_kept s (store_of made) kept i)) (list_is i)) ∙ filled_handles

    -- what the index keeps of the list
    abbrev kept_list : List Handle
    kept_list = standing (spec_at (specs_of made) index).kind found (map (λ e. e.handle) (entries_in (contents_of made))) list

    kept_is : kept_list ≡ settled
    kept_is = (λ i. standing (spec_at (same.specs i) index).kind found (map (λ e. e.handle) (entries_in (kept i))) list) ∙ by_kind spec.kind found_is
      where
        by_kind : (kind : Kind) → found ≡ standing kind sorted_list own list → standing kind found own list ≡ standing kind sorted_list own list
        by_kind Sequenced e = refl
        by_kind Random e = refl
        by_kind Ordered e = e
        by_kind Ranked e = e
        by_kind Hashed e = refl

    -- a list that does not stand there was not in order
    pub out_of_order : ¬ (list ≡ kept_list) → ¬ IsListed entries order spec list
    out_of_order other fits = other (as_settled spec.kind fits.in_order fits.by_stamp ∙ sym kept_is)

    -- a unique index has each key once
    pub each_key_once : IsUniqueExcept (order_by_row order_of) made None → HasEachKeyOnce entries order spec list
    unfolding contents
    each_key_once unique once =
        let lists_one : length (lists_of made) ≡ length (specs_of made) = ap length filled_in ∙ (length-set (lists_of set) index filled ∙ (one ∙ ap length (sym same.specs))) in
        let here = unique_at (order_by_row order_of (keys_of made)) (record_of (store_of made)) None (specs_of made) (lists_of made) lists_one unique index none (omega (arith, within, ap length same.specs))
        (subst (λ ds. IsTrue (spec_at ds index).unique) (sym same.specs) once) in
        let apart = subst (λ (f : Node → Node → Ordering). EachPair (λ m n. is_eq (f m n) ≡ false) filled) (λ i. order_at (records_kept s (store_of made) kept i) (order_by_row order_of (same.keys i) index)) (subst (EachPair _) list_is here) in
        let all = IsPermutation-trans filled ns (nodes_in (contents s)) (IsPermutation-sym ns filled (members_all (age_of s) compare spec.kind ns)) moved in
        rows_differ (record_of s) entries order (nodes_in (contents s)) all_known (differ_moved compare (unique_total once) filled (nodes_in (contents s)) all apart)

    module _ (in_place : list ≡ kept_list) where
      stands : list ≡ settled
      stands = in_place ∙ kept_is

      in_order : (kind : Kind) → list ≡ standing kind sorted_list own list → (IsTrue (is_sorted_kind kind) → IsTotalOrder order) → IsTrue (is_sorted_kind kind) → IsInOrder (compare_of order entries) list
      in_order kind is total sorted =
          subst (IsInOrder (compare_of order entries)) (sym (is ∙ ap (λ b. cond b sorted_list (cond (is_hashed_kind kind) own list)) sorted))
          (IsInOrder-stable_sorted (compare_of order entries) (on_total (λ g. row_of entries g) (options_total (total sorted))) list)

      by_stamp : (kind : Kind) → list ≡ standing kind sorted_list own list → IsTrue (is_hashed_kind kind) → list ≡ own
      by_stamp Sequenced is hashed = cc
      by_stamp Random is hashed = cc
      by_stamp Ordered is hashed = cc
      by_stamp Ranked is hashed = cc
      by_stamp Hashed is hashed = is

      pub handles_filled : handles_in (record_of (store_of made)) (lists_of made) ≡ slice_set (handles_in (record_of s) (lists_of set)) index list
      handles_filled =
          handles_kept s (store_of made) (lists_of made) kept
          ∙ ap (handles_in (record_of s)) filled_in
          ∙ map-set (map (handle_of (record_of s))) (lists_of set) index filled
          ∙ ap (slice_set (handles_in (record_of s) (lists_of set)) index) (filled_handles ∙ sym stands)

      -- and one that does is that of an index
      pub fitting : IsUniqueExcept (order_by_row order_of) made None → IsIndex order entries spec list
      fitting unique = record { members = t.members; in_order = in_order spec.kind stands sorted_total; by_stamp = by_stamp spec.kind stands; unique = each_key_once unique }

-- ---- results

pub each_ok : {A B : Type 0} (P Q : A → Type 0) → ((x : A) → P x → Q x) → (r : Result A B) → IfOk r P → IfOk r Q
each_ok P Q f (Ok x) h = f x h
each_ok P Q f (Err e) h = tt

pub both_ok : {A B S : Type 0} (P Q : A → Type 0) → ((x : A) → P x → S → Q x) → (r : Result A B) → IfOk r P → OnOk r S → IfOk r Q
both_ok P Q f (Ok x) h s = f x h s
both_ok P Q f (Err e) h s = tt

-- ---- records are added that lie in slots

-- so far, where these come next
pub record AreAdded {E R : Type 0} (has_key : E → ℕ → Bool) (order : E → ℕ → R → R → Ordering) (marks : E → ℕ → R → Marks) (old new : Parts (Entry R) (ByRow E)) (all rest : List (Entry R)) (slots : List (Option Node)) : Type 0 where
  pub sound : IsSound (has_by_row has_key) new
  pub keyed : IsKeyed (order_by_row order) (marks_by_row marks) new
  pub same : IsOfSame old new
  pub lists : lists_of new ≡ lists_of old
  pub entries : entries_in (contents_of new) ++ rest ≡ all
  pub apart : AreApart (entries_in (contents_of new))
  pub leads : LeadsTo (store_of new) slots
  pub count : (store_of new).added ≡ length (entries_in (contents_of new))

module _ {E R : Type 0} {has_key : E → ℕ → Bool} {order : E → ℕ → R → R → Ordering} {marks : E → ℕ → R → Marks} (old set : Parts (Entry R) (ByRow E)) (all rest : List (Entry R)) (e : Entry R) (slots : List (Option Node)) (h : AreAdded has_key order marks old set all (e ∷ rest) slots) where
  abbrev so_far : List (Entry R)
  so_far = entries_in (contents_of set)

  pub added_one : (new : Parts (Entry R) (ByRow E)) (n : Node) → item_at slots e.handle.slot ≡ None → IsSound (has_by_row has_key) new → IsKeyed (order_by_row order) (marks_by_row marks) new → IsOfSame set new →
      lists_of new ≡ lists_of set → (store_of new).added ≡ (store_of set).added + 1 → AddsNode (store_of set) (store_of new) n e →
      AreAdded has_key order marks old new all rest (with_item slots e.handle.slot (Some n))
  added_one new n free sound keyed same lists count adds =
      let entries : entries_in (contents_of new) ≡ so_far ++ e ∷ [] = entries_added (store_of set) (store_of new) n e adds h.sound.nodes count in
      record {
        sound = sound;
        keyed = keyed;
        same = record { keys = same.keys ∙ h.same.keys; specs = same.specs ∙ h.same.specs; columns = same.columns ∙ h.same.columns };
        lists = lists ∙ h.lists;
        entries = ap (λ es. es ++ rest) entries ∙ (append_assoc so_far (e ∷ []) rest ∙ h.entries);
        apart = subst AreApart (sym entries) (EachPair-push _ so_far e (free_is_apart e.handle.slot so_far (none_is_free (store_of set) slots h.sound.nodes h.leads e.handle.slot free)) h.apart);
        leads = leads_put (store_of set) (store_of new) n e slots e.handle.slot free adds refl h.leads;
        count = omega (arith, count, h.count, ap length entries, length_push so_far e);
      }

  -- a slot that is taken is another record's
  pub slot_taken : (n : Node) → item_at slots e.handle.slot ≡ Some n → AreApart all → ⊥
  slot_taken n at apart =
      let here = h.leads.slot_of e.handle.slot n at in
      let p = has_record (store_of set) n here.0 in
      let other = member (λ x. (e.handle.slot == x.handle.slot) ≡ false) (store_of set) n p.0 h.sound.nodes here.0 p.1
      (before_it (λ a b. (b.handle.slot == a.handle.slot) ≡ false) so_far e rest (subst AreApart (sym h.entries) apart)) in
      let own : p.0.handle.slot ≡ e.handle.slot = ap (λ (k : Handle). k.slot) (sym (handle_of-is (record_of (store_of set)) n p.0 p.1)) ∙ here.1 in
      let bad = sym (eq-eqb e.handle.slot p.0.handle.slot (sym own)) ∙ other in cc

-- ---- all indices

each_index : {R : Type 0} (order : ℕ → R → R → Ordering) (entries : List (Entry R)) (b : ℕ) (specs : List Spec) (lists : List (List Handle)) → length lists ≡ length specs → ((j : ℕ) → j < length specs → IsIndex (order (b + j)) entries (spec_at specs j) (list_at lists j)) → AreIndices order entries b specs lists
each_index order entries b [] [] one each = tt
each_index order entries b [] (list ∷ lists) one each = absurd (omega (arith, one))
each_index order entries b (spec ∷ specs) [] one each = absurd (omega (arith, one))
each_index order entries b (spec ∷ specs) (list ∷ lists) one each = (
  subst (λ k. IsIndex (order k) entries spec list) (at_first b) (each 0 (omega arith)),
  each_index order entries (b + 1) specs lists (omega (arith, one)) (λ j lt. subst (λ k. IsIndex (order k) entries (spec_at specs j) (list_at lists j)) (at_next b j) (each (suc j) (omega (arith, lt)))),
)
  where
    at_first : (b : ℕ) → b + 0 ≡ b
    at_first b = omega arith

    at_next : (b j : ℕ) → b + suc j ≡ b + 1 + j
    at_next b j = omega arith

-- so many are filled
pub record AreFilled {E R : Type 0} (has_key : E → ℕ → Bool) (order : E → ℕ → R → R → Ordering) (marks : E → ℕ → R → Marks) (slots : List (Option Node)) (old new : Parts (Entry R) (ByRow E)) (lists : List (List Handle)) (index : ℕ) : Type 0 where
  pub linked : IsLinked has_key order marks new slots
  pub same : IsOfSame old new
  pub contents : contents_of new ≡ contents_of old
  pub listed : (j : ℕ) → j < index → list_at (handles_in (record_of (store_of new)) (lists_of new)) j ≡ list_at lists j
  pub fits : (j : ℕ) → j < index → IsIndex (order (keys_of old).keys j) (entries_in (contents_of old)) (spec_at (specs_of old) j) (list_at lists j)

module _ {E R : Type 0} {has_key : E → ℕ → Bool} {order : E → ℕ → R → R → Ordering} {marks : E → ℕ → R → Marks} (slots : List (Option Node)) (old set : Parts (Entry R) (ByRow E)) (lists : List (List Handle)) (index : ℕ) (h : AreFilled has_key order marks slots old set lists index) (one : length lists ≡ length (specs_of old)) where
  listed_count : length (handles_in (record_of (store_of set)) (lists_of set)) ≡ length (specs_of old)
  listed_count = length-map (lists_of set) (map (handle_of (record_of (store_of set)))) ∙ (one_list_each set h.linked.sound ∙ ap length h.same.specs)

  pub filled_one : (new : Parts (Entry R) (ByRow E)) (list : List Handle) → index < length lists → list ≡ list_at lists index → IsLinked has_key order marks new slots → IsOfSame set new → contents_of new ≡ contents_of set →
      handles_in (record_of (store_of new)) (lists_of new) ≡ slice_set (handles_in (record_of (store_of set)) (lists_of set)) index list →
      IsIndex (order (keys_of set).keys index) (entries_in (contents_of set)) (spec_at (specs_of set) index) list →
      AreFilled has_key order marks slots old new lists (index + 1)
  filled_one new list within is linked same kept set_one fits = record {
    linked = linked;
    same = record { keys = same.keys ∙ h.same.keys; specs = same.specs ∙ h.same.specs; columns = same.columns ∙ h.same.columns };
    contents = kept ∙ h.contents;
    listed = λ j lt.
        let before = handles_in (record_of (store_of set)) (lists_of set) in
        ap (λ ls. list_at ls j) set_one
        ∙ ⊎_elim
        (λ (e : j ≡ index). ap (λ k. list_at (slice_set before index list) k) e ∙ (get_or-set_same before index list [] (omega (arith, within, one, listed_count)) ∙ (is ∙ ap (list_at lists) (sym e))))
        (λ (apart : j ≢ index). get_or-set_other before index j list [] apart ∙ h.listed j (omega (arith, lt, apart)))
        (cases_eq j index);
    fits = λ j lt.
        ⊎_elim
        (λ (e : j ≡ index).
        subst (λ k. IsIndex (order (keys_of old).keys k) (entries_in (contents_of old)) (spec_at (specs_of old) k) (list_at lists k)) (sym e)
        (subst (IsIndex _ _ _) is (subst (λ es. IsIndex (order (keys_of old).keys index) (entries_in es) (spec_at (specs_of old) index) list) h.contents
        (subst (λ ds. IsIndex (order (keys_of old).keys index) (entries_in (contents_of set)) (spec_at ds index) list) h.same.specs
        (subst (λ (k : ByRow E). IsIndex (order k.keys index) (entries_in (contents_of set)) (spec_at (specs_of set) index) list) h.same.keys fits)))))
        (λ (apart : j ≢ index). h.fits j (omega (arith, lt, apart)))
        (cases_eq j index);
  }

  -- all are
  pub filled_lists : length lists ≤ index → handles_in (record_of (store_of set)) (lists_of set) ≡ lists
  filled_lists all = same_lists _ lists (listed_count ∙ sym one) (λ j lt. h.listed j (omega (arith, lt, all, listed_count, one)))

  pub filled_indices : length lists ≤ index → AreIndices (order (keys_of old).keys) (entries_in (contents_of old)) 0 (specs_of old) lists
  filled_indices all = each_index (order (keys_of old).keys) (entries_in (contents_of old)) 0 (specs_of old) lists one
      (λ j lt.
      let e : j ≡ 0 + j = omega arith in
      subst (λ k. IsIndex (order (keys_of old).keys k) (entries_in (contents_of old)) (spec_at (specs_of old) j) (list_at lists j)) e (h.fits j (omega (arith, lt, all, one))))

pub unfit_misfit : {R : Type 0} (es : List (Entry R)) (order : ℕ → R → R → Ordering) (specs : List Spec) (lists : List (List Handle)) (index : ℕ) (why : Unfit) → FailsAt es order specs lists index why → IsMisfit es order specs lists (misfit_of why index)
unfit_misfit es order specs lists index unfit.Memory h = tt
unfit_misfit es order specs lists index unfit.Members h = h
unfit_misfit es order specs lists index unfit.Clash h = h
unfit_misfit es order specs lists index unfit.Order h = h

module _ {E R : Type 0} {has_key : E → ℕ → Bool} {order : E → ℕ → R → R → Ordering} {marks : E → ℕ → R → Marks} (slots : List (Option Node)) (old set : Parts (Entry R) (ByRow E)) (lists : List (List Handle)) (index : ℕ) (h : AreFilled has_key order marks slots old set lists index) (one : length lists ≡ length (specs_of old)) where
  -- what does not fit the next index does not fit all
  pub misfit_next : (list : List Handle) (why : Unfit) → index < length lists → list ≡ list_at lists index → IsUnfit (entries_in (contents_of set)) (order (keys_of set).keys index) (spec_at (specs_of set) index) list why →
      IsMisfit (entries_in (contents_of old)) (order (keys_of old).keys) (specs_of old) lists (misfit_of why index)
  misfit_next list why within is unfit =
      unfit_misfit (entries_in (contents_of old)) (order (keys_of old).keys) (specs_of old) lists index why
      (record {
        apart = subst (λ es. AreApart (entries_in es)) h.contents h.linked.apart;
        within = omega (arith, within, one);
        before = h.fits;
        here = subst (λ l. IsUnfit (entries_in (contents_of old)) (order (keys_of old).keys index) (spec_at (specs_of old) index) l why) is
            (subst (λ es. IsUnfit (entries_in es) (order (keys_of old).keys index) (spec_at (specs_of old) index) list why) h.contents
            (subst (λ ds. IsUnfit (entries_in (contents_of set)) (order (keys_of old).keys index) (spec_at ds index) list why) h.same.specs
            (subst (λ (k : ByRow E). IsUnfit (entries_in (contents_of set)) (order k.keys index) (spec_at (specs_of set) index) list why) h.same.keys unfit)));
      })
