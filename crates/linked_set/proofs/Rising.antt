-- In an index in order the sides of its nodes rise, and what stands between two bounds is the same of nodes and of handles.
use Rattle.key_extract.specs.Digests.{Marks}
use Rattle.std.proofs.Common.{◌≡◌, ℕ, zero, suc, ◌+◌, ◌<◌, ◌≤◌, Bool, true, false, ◌&&◌, List, [], ◌∷◌, length, map, get_or, Option, Some, sym, ap, ◌∙◌, subst, arith, refl}
use Rattle.std.specs.Prelude.{IsTrue}
use Rattle.std.specs.List.{AllByRecursion}
use Rattle.std.specs.Option.{option_map_or, option_cmp}
use Rattle.std.specs.Ordering.{is_lt, is_le, is_gt, is_ge, ordering_index}
use Rattle.std.specs.declared.cmp.Ordering.{Ordering}
use Rattle.std.specs.declared.cmp.Ordering.TheVariants.{Less}
use Rattle.std.specs.declared.ops.Bound.{Bound}
use Rattle.std.specs.declared.ops.Bound.TheVariants.{Included, Excluded, Unbounded}
use Rattle.list_model.specs.Order.{EachPair, IsInOrder, CutsInThreeRuns}
use Rattle.list_model.specs.Place.{is_from, is_to, range}
use Rattle.list_model.proofs.InOrder.{All-map}
use Rattle.list_model.proofs.Kept.{EachPair-map}
use Rattle.list_model.proofs.Lists.{All-in_map}
use Rattle.container_model.specs.declared.handle.Entry.{Entry}
use Rattle.container_model.specs.declared.handle.Handle.{Handle}
use Rattle.container_model.specs.declared.handle.Spec.{Spec}
use Rattle.container_model.specs.State.{AreIndices, IsIndex, compare_of, is_sorted_kind, list_at, side_of}
use Rattle.container_model.proofs.Keys.{has_key-of_sorted, kind_at_is}
use Rattle.node_store.specs.declared.Node.{Node}
use Rattle.index_set.specs.declared.parts.Parts.{Parts}
use Rattle.index_set.specs.Set.{keys_of, specs_of, contents, record_of, list_of, lists_of, kind_at, probe_side}
use Rattle.index_set.proofs.Reading.{some_spec}
use Rattle.index_set.specs.ByRow.{probe_by_row}
use Rattle.index_set.specs.declared.by_row.ByRow.{ByRow}
use Rattle.linked_set.specs.Edges.{edge_of, node_edge, KeyFits, Rises}
use Rattle.linked_set.specs.Linked.{handle_of, entries_in, handles_in, IsKnown}
use Rattle.linked_set.specs.Seen.{seen, IsLinked}
use Rattle.linked_set.proofs.Mapped.{filter_mapped}
use Rattle.linked_set.proofs.Reading.{known_at, list_seen}
use Rattle.linked_set.proofs.Sides.{side_known, row_known}

EachPair-in_map : {X Y : Type 0} (f : X → Y) (P : Y → Y → Type 0) (xs : List X) → EachPair P (map f xs) → EachPair (λ x y. P (f x) (f y)) xs
EachPair-in_map f P [] each = tt
EachPair-in_map f P (x ∷ xs) each = (All-in_map f (P (f x)) xs each.0, EachPair-in_map f P xs each.1)

-- what the index of a number keeps, by that number's order
index_keeps : {R : Type 0} (order : ℕ → R → R → Ordering) (entries : List (Entry R)) (index j : ℕ) (specs : List Spec) (lists : List (List Handle)) (d : Spec) → AreIndices order entries index specs lists → j < length specs → IsIndex (order (index + j)) entries (get_or specs j d) (list_at lists j)
index_keeps order entries index j [] [] d are lt = absurd (omega arith)
index_keeps order entries index j [] (list ∷ lists) d are lt = absurd are
index_keeps order entries index j (spec ∷ specs) [] d are lt = absurd are
index_keeps order entries index zero (spec ∷ specs) (list ∷ lists) d are lt =
    let n : index ≡ index + 0 = omega arith in
    subst (λ i. IsIndex (order i) entries spec list) n are.0
index_keeps order entries index (suc j) (spec ∷ specs) (list ∷ lists) d are lt =
    let n : (index + 1) + j ≡ index + suc j = omega arith in
    subst (λ i. IsIndex (order i) entries (get_or specs j d) (list_at lists j)) n (index_keeps order entries (index + 1) j specs lists d are.1 (omega (arith, lt)))

-- bounds whose keys fit rise where the sides of each such key do
pub bound_rises : {P X : Type 0} (side : P → X → Ordering) (fits : P → Bool) (xs : List X) (bound : Bound P) → KeyFits fits bound →
    ((probe : P) → IsTrue (fits probe) → EachPair (λ x y. ordering_index (side probe x) ≤ ordering_index (side probe y)) xs) → Rises (edge_of side bound) xs
bound_rises side fits xs (Included probe) fit rise = rise probe fit
bound_rises side fits xs (Excluded probe) fit rise = rise probe fit
bound_rises side fits xs Unbounded fit rise = tt

module _ {E R : Type 0} {has_key : E → ℕ → Bool} {order : E → ℕ → R → R → Ordering} {marks : E → ℕ → R → Marks} (set : Parts (Entry R) (ByRow E)) (slots : List (Option Node)) (linked : IsLinked has_key order marks set slots)
    (index : ℕ) (within : index < length (specs_of set)) {P : Type 0} (probe_order : E → ℕ → R → P → Ordering) where
  abbrev handle : Node → Handle
  handle = handle_of (record_of set)

  abbrev entries : List (Entry R)
  entries = entries_in (contents set)

  abbrev list : List Node
  list = list_of set index

  abbrev handles : List Handle
  handles = list_at (handles_in (record_of set) (lists_of set)) index

  abbrev side : P → R → Ordering
  side probe a = probe_order (keys_of set).keys index a probe

  abbrev node_side : P → Node → Ordering
  node_side probe = probe_side (probe_by_row probe_order) set index probe

  known_here : AllByRecursion (IsKnown (record_of set) entries) list
  known_here = known_at set slots linked index

  -- ---- sides

  rises_by : (probe : P) → CutsInThreeRuns (order (keys_of set).keys index) (side probe) → (x y : Node) → IsKnown (record_of set) entries x → IsKnown (record_of set) entries y →
      is_gt (compare_of (order (keys_of set).keys index) entries (handle x) (handle y)) ≡ false → ordering_index (node_side probe x) ≤ ordering_index (node_side probe y)
  rises_by probe cuts x y k l in_order =
      let a = k.entry.row in
      let b = l.entry.row in
      let rows : is_gt (order (keys_of set).keys index a b) ≡ false =
      sym (λ i. is_gt (option_cmp (order (keys_of set).keys index) (row_known (record_of set) entries x k i) (row_known (record_of set) entries y l i))) ∙ in_order in
      let of : (n : Node) (e : Entry R) → record_of set n ≡ Some e → side probe e.row ≡ node_side probe n = λ n e is. sym (ap (λ o. option_map_or (λ (z : Entry R). side probe z.row) o Less) is) in
      subst (λ o. ordering_index o ≤ ordering_index (node_side probe y)) (of x k.entry k.is)
      (subst (λ o. ordering_index (side probe a) ≤ ordering_index o) (of y l.entry l.is) (cuts a b rows))

  module _ (indices : AreIndices (order (keys_of set).keys) entries 0 (specs_of set) (handles_in (record_of set) (lists_of set))) (sorted : is_sorted_kind (kind_at set index) ≡ true) where
    sorted_here : IsTrue (is_sorted_kind (get_or (specs_of set) index some_spec).kind)
    sorted_here = ap is_sorted_kind (sym (kind_at_is (seen set 0 0) index some_spec within)) ∙ sorted

    -- an index in order has a key
    pub has_key_here : IsTrue (has_key (keys_of set).keys index)
    has_key_here = has_key-of_sorted linked.sound.keys index some_spec within sorted_here

    in_order_here : IsInOrder (compare_of (order (keys_of set).keys index) entries) handles
    in_order_here =
        let n : 0 + index ≡ index = omega arith in
        subst (λ i. IsInOrder (compare_of (order (keys_of set).keys i) entries) handles) n
        ((index_keeps (order (keys_of set).keys) entries 0 index (specs_of set) (handles_in (record_of set) (lists_of set)) some_spec indices within).in_order sorted_here)

    -- its sides rise
    pub node_rises : (probe : P) → CutsInThreeRuns (order (keys_of set).keys index) (side probe) → EachPair (λ x y. ordering_index (node_side probe x) ≤ ordering_index (node_side probe y)) list
    node_rises probe cuts =
        EachPair-map (IsKnown (record_of set) entries) (λ x y. is_gt (compare_of (order (keys_of set).keys index) entries (handle x) (handle y)) ≡ false) _ (rises_by probe cuts) list known_here
        (EachPair-in_map handle _ list (subst (IsInOrder (compare_of (order (keys_of set).keys index) entries)) (sym (list_seen set slots linked index)) in_order_here))

  -- ---- bounds

  abbrev handle_side : P → Handle → Ordering
  handle_side probe = side_of (side probe) entries

  from_known : (bound : Bound P) (n : Node) → IsKnown (record_of set) entries n → is_from (node_edge probe_order set index bound) n ≡ is_from (edge_of handle_side bound) (handle n)
  from_known (Included probe) n k = ap is_ge (side_known (record_of set) entries (side probe) n k)
  from_known (Excluded probe) n k = ap is_gt (side_known (record_of set) entries (side probe) n k)
  from_known Unbounded n k = refl

  to_known : (bound : Bound P) (n : Node) → IsKnown (record_of set) entries n → is_to (node_edge probe_order set index bound) n ≡ is_to (edge_of handle_side bound) (handle n)
  to_known (Included probe) n k = ap is_le (side_known (record_of set) entries (side probe) n k)
  to_known (Excluded probe) n k = ap is_lt (side_known (record_of set) entries (side probe) n k)
  to_known Unbounded n k = refl

  -- the records between two bounds
  pub range_seen : (low high : Bound P) → map handle (range (node_edge probe_order set index low) (node_edge probe_order set index high) list) ≡ range (edge_of handle_side low) (edge_of handle_side high) handles
  range_seen low high =
      filter_mapped handle (λ n. is_from (node_edge probe_order set index low) n && is_to (node_edge probe_order set index high) n) (λ h. is_from (edge_of handle_side low) h && is_to (edge_of handle_side high) h) list
      (All-map (IsKnown (record_of set) entries) _ (λ n k i. from_known low n k i && to_known high n k i) list known_here)
      ∙ ap (range (edge_of handle_side low) (edge_of handle_side high)) (list_seen set slots linked index)
