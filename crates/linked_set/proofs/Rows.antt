-- The records of nodes with their handles: those of the handles, and what a walk has left of them.
use Rattle.key_extract.specs.Digests.{Marks}
use Rattle.std.proofs.Common.{◌≡◌, ◌≢◌, ◌⊎◌, inl, inr, ◌+◌, ◌<◌, ◌≤◌, ℕ, Bool, true, false, List, [], ◌∷◌, length, map, slice_get, Option, Some, None, refl, sym, ap, ◌∙◌, subst, arith}
use Rattle.std.specs.Prelude.{IsTrue, not, is_some, option_map}
use Rattle.std.specs.List.{AllByRecursion, filter_map, cons_option}
use Rattle.std.proofs.lemmas.Bool.{cases_lt}
use Rattle.list_model.specs.Walk.{next as node_after}
use Rattle.std.specs.declared.cmp.Ordering.{Ordering}
use Rattle.std.specs.declared.ops.Bound.{Bound}
use Rattle.list_model.specs.Place.{Edge, range}
use Rattle.list_model.proofs.InOrder.{All-map}
use Rattle.list_model.proofs.Kept.{All-filter}
use Rattle.list_model.proofs.Lists.{All-of_map, some_at}
use Rattle.container_model.specs.declared.handle.Entry.{Entry}
use Rattle.container_model.specs.declared.handle.Handle.{Handle}
use Rattle.container_model.specs.declared.handle.Kind.{Kind}
use Rattle.container_model.specs.declared.handle.Kind.TheVariants.{Sequenced, Random, Ordered, Ranked, Hashed}
use Rattle.container_model.specs.State.{row_of, list_at, is_hashed_kind, is_sorted_kind}
use Rattle.container_model.specs.Find.{probe_side}
use Rattle.node_store.specs.declared.Node.{Node}
use Rattle.node_store.specs.Nodes.{Holds, IsDistinct}
use Rattle.node_store.specs.Store.{IsNodeOf}
use Rattle.node_store.specs.ByNode.{same_node}
use Rattle.node_store.proofs.ByNode.{same_node-refl, same_node-false}
use Rattle.any_index.proofs.Runs.{next_is}
use Rattle.index_set.specs.declared.parts.Parts.{Parts}
use Rattle.index_set.specs.Set.{store_of, specs_of, contents, record_of, list_of, lists_of}
use Rattle.index_set.proofs.Members.{distinct_at, nodes_held_at, Holds_at}
use Rattle.index_set.specs.declared.by_row.ByRow.{ByRow}
use Rattle.linked_set.specs.Edges.{edge_of, node_edge}
use Rattle.linked_set.specs.Linked.{handle_of, entries_in, handles_in, IsKnown}
use Rattle.linked_set.specs.Records.{Records, alone, records_in}
use Rattle.linked_set.specs.Seen.{seen, IsLinked}
use Rattle.linked_set.proofs.Reading.{known_at, list_seen}
use Rattle.linked_set.proofs.Sides.{handle_known, row_known}
use Rattle.linked_set.specs.Iteration.{is_one, nodes_left, rows_of_nodes, with_rows, IsWalk}
use Rattle.linked_set.proofs.Rising.{range_seen}
use Rattle.linked_set.proofs.There.{there_at}
use Rattle.linked_set.proofs.WalksLeft.{none_left, one_left, past_end}

module _ {R : Type 0} (records : Node → Option (Entry R)) where
  -- one node more
  pub row_more : (n : Node) (ns : List Node) (e : Entry R) → records n ≡ Some e → rows_of_nodes records (n ∷ ns) ≡ (e.handle, e.row) ∷ rows_of_nodes records ns
  row_more n ns e is = ap (λ o. cons_option (option_map (λ (x : Entry R). (x.handle, x.row)) o) (rows_of_nodes records ns)) is

  module _ (entries : List (Entry R)) where
    abbrev of_entry : Entry R → Handle × R
    of_entry e = (e.handle, e.row)

    abbrev of_row : Handle → R → Handle × R
    of_row h r = (h, r)

    row_seen : (n : Node) → IsKnown records entries n → option_map of_entry (records n) ≡ option_map (of_row (handle_of records n)) (row_of entries (handle_of records n))
    row_seen n k =
        ap (option_map of_entry) k.is
        ∙ (ap (λ (h : Handle). Some (of_row h k.entry.row)) (sym (handle_known records entries n k.entry k.is))
        ∙ sym (ap (option_map (of_row (handle_of records n))) (row_known records entries n k)))

    -- nodes whose records their handles find
    pub rows_seen : (ns : List Node) → AllByRecursion (IsKnown records entries) ns → rows_of_nodes records ns ≡ filter_map (λ h. option_map (of_row h) (row_of entries h)) (map (handle_of records) ns)
    rows_seen [] known = refl
    rows_seen (n ∷ ns) known = λ i. cons_option (row_seen n known.0 i) (rows_seen ns known.1 i)

-- a node is another one than the one that there is, if any
other_one : (o : Option Node) (n : Node) → o ≢ Some n → is_one o n ≡ false
other_one None n apart = refl
other_one (Some m) n apart = same_node-false m n (λ e. apart (ap Some e))

-- what a test that says no does not hold
pub told_apart : {A : Type 0} {test : Bool} → (A → test ≡ true) → test ≡ false → ¬ A
told_apart says told a = let bad = sym (says a) ∙ told in cc

module _ {E R : Type 0} {has_key : E → ℕ → Bool} (set : Parts (Entry R) (ByRow E)) (index : ℕ) (next end : Option Node) (w : IsWalk has_key set index next end) where
  abbrev list : List Node
  list = list_of set index

  abbrev rows : Option Node → List (Handle × R)
  rows from = rows_of_nodes (record_of set) (nodes_left from end list)

  -- past the end nothing is left
  pub over : next ≡ None → rows next ≡ []
  over e = ap rows e ∙ ap (rows_of_nodes (record_of set)) (past_end end list)

  module _ (n : Node) (is : next ≡ Some n) where
    pub here : slice_get list w.run.from ≡ Some n
    here = sym w.run.begins ∙ is

    -- so the index is there
    pub within : index < length (specs_of set)
    within = there_at set w.sound index w.run.from n here

    pub distinct : IsDistinct list
    distinct = distinct_at set w.sound index within

    -- the next node is one of the index, and of the store
    pub held : Holds list n
    held = Holds_at list w.run.from n here

    pub place_there : (place : ℕ) (m : Node) → slice_get list place ≡ Some m → IsNodeOf (store_of set) m
    place_there place m = some_at (IsNodeOf (store_of set)) list place (nodes_held_at set w.sound index within) m

    pub there : IsNodeOf (store_of set) n
    there = place_there w.run.from n here

    -- the node that ends the walk, if there is one, is of the store too
    pub end_there : (m : Node) → end ≡ Some m → IsNodeOf (store_of set) m
    end_there m e = place_there w.run.to m (sym w.run.ends ∙ e)

    pub end_held : (m : Node) → end ≡ Some m → Holds list m
    end_held m e = Holds_at list w.run.to m (sym w.run.ends ∙ e)

    -- where it ends the walk, nothing is left
    pub ended : end ≡ Some n → rows next ≡ []
    ended e = ap rows is ∙ ap (rows_of_nodes (record_of set)) (none_left list distinct end w.run.from n here (ap (λ o. is_one o n) e ∙ same_node-refl n))

    -- where it does not, the walk ends past it, also from the node after it on
    pub below_end : end ≢ Some n → w.run.from < w.run.to
    below_end goes = by_place (cases_lt w.run.from w.run.to)
      where
        by_place : (w.run.from < w.run.to) ⊎ (w.run.to ≤ w.run.from) → w.run.from < w.run.to
        by_place (inl below) = below
        by_place (inr past) =
            let same : w.run.to ≡ w.run.from = omega (arith, past, w.run.upward n is) in
            absurd (goes (w.run.ends ∙ ap (slice_get list) same ∙ here))

    pub walks_on : (after : Option Node) → end ≢ Some n → after ≡ node_after (same_node n) list → IsWalk has_key set index after end
    walks_on after goes comes =
        let below = below_end goes in
        let at : after ≡ slice_get list (w.run.from + 1) = comes ∙ next_is list w.run.from n distinct here in
        record {
          sound = w.sound;
          kind = w.kind;
          run = record { from = w.run.from + 1; to = w.run.to; begins = at; ends = w.run.ends; upward = λ m e. omega (arith, below) };
        }

    -- it is then left, and what is left from the node after it on
    pub stepped : (e : Entry R) (after : Option Node) → end ≢ Some n → record_of set n ≡ Some e → after ≡ node_after (same_node n) list → rows next ≡ (e.handle, e.row) ∷ rows after
    stepped e after goes has comes =
        let at : slice_get list (w.run.from + 1) ≡ after = sym (comes ∙ next_is list w.run.from n distinct here) in
        ap rows is
        ∙ (ap (rows_of_nodes (record_of set)) (one_left list distinct end w.run.from n here (other_one end n goes))
        ∙ (row_more (record_of set) n (nodes_left (slice_get list (w.run.from + 1)) end list) e has ∙ ap (λ o. (e.handle, e.row) ∷ rows o) at))

-- ---- the records of an index

module _ {E R : Type 0} {has_key : E → ℕ → Bool} {order : E → ℕ → R → R → Ordering} {marks : E → ℕ → R → Marks} (set : Parts (Entry R) (ByRow E)) (slots : List (Option Node)) (linked : IsLinked has_key order marks set slots)
    (index : ℕ) (within : index < length (specs_of set)) (max writes : ℕ) where
  abbrev named : List Handle → List (Handle × R)
  named = with_rows (seen set max writes)

  abbrev known : AllByRecursion (IsKnown (record_of set) (entries_in (contents set))) (list_of set index)
  known = known_at set slots linked index

  -- those between two bounds
  pub between_seen : {P : Type 0} (probe_order : E → ℕ → R → P → Ordering) (low high : Bound P) →
      rows_of_nodes (record_of set) (range (node_edge probe_order set index low) (node_edge probe_order set index high) (list_of set index))
      ≡ named (range (edge_of (probe_side probe_order (seen set max writes) index) low) (edge_of (probe_side probe_order (seen set max writes) index) high) (list_at (handles_in (record_of set) (lists_of set)) index))
  between_seen probe_order low high =
      rows_seen (record_of set) (entries_in (contents set)) (range (node_edge probe_order set index low) (node_edge probe_order set index high) (list_of set index)) (All-filter (IsKnown (record_of set) (entries_in (contents set))) _ (list_of set index) known)
      ∙ ap named (range_seen set slots linked index within probe_order low high)

-- ---- their handles

firsts : {R : Type 0} (entries : List (Entry R)) (hs : List Handle) → AllByRecursion (λ h. is_some (row_of entries h) ≡ true) hs → map (λ (row : Handle × R). row.0) (filter_map (λ h. option_map (λ r. (h, r)) (row_of entries h)) hs) ≡ hs
firsts entries [] live = refl
firsts {R} entries (h ∷ hs) live = by_row (row_of entries h) live.0 ∙ ap (λ l. h ∷ l) (firsts entries hs live.1)
  where
    by_row : (o : Option R) → is_some o ≡ true → map (λ (row : Handle × R). row.0) (cons_option (option_map (λ r. (h, r)) o) (filter_map (λ k. option_map (λ r. (k, r)) (row_of entries k)) hs)) ≡ h ∷ map (λ (row : Handle × R). row.0) (filter_map (λ k. option_map (λ r. (k, r)) (row_of entries k)) hs)
    by_row None e = cc
    by_row (Some r) e = refl

module _ {E R : Type 0} {has_key : E → ℕ → Bool} {order : E → ℕ → R → R → Ordering} {marks : E → ℕ → R → Marks} (set : Parts (Entry R) (ByRow E)) (slots : List (Option Node)) (linked : IsLinked has_key order marks set slots)
    {r : Records E R} (view : records_in set ≡ r) (index : ℕ) where
  live_here : AllByRecursion (λ h. is_some (row_of r.entries h) ≡ true) (list_at r.lists index)
  live_here =
      let entries = entries_in (contents set) in
      subst (λ s. AllByRecursion (λ h. is_some (row_of s.entries h) ≡ true) (list_at s.lists index)) view
      (subst (AllByRecursion (λ h. is_some (row_of entries h) ≡ true)) (list_seen set slots linked index)
      (All-of_map (handle_of (record_of set)) _ (list_of set index) (All-map (IsKnown (record_of set) entries) _ (λ n k. ap is_some (row_known (record_of set) entries n k)) (list_of set index) (known_at set slots linked index))))

  pub handles_between : (low high : Edge Handle) → map (λ (row : Handle × R). row.0) (with_rows (alone r) (range low high (list_at r.lists index))) ≡ range low high (list_at r.lists index)
  handles_between low high = firsts r.entries (range low high (list_at r.lists index)) (All-filter (λ h. is_some (row_of r.entries h) ≡ true) _ (list_at r.lists index) live_here)

-- an index in order is not hashed
pub sorted_walks : (kind : Kind) → is_sorted_kind kind ≡ true → IsTrue (not (is_hashed_kind kind))
sorted_walks Ordered e = refl
sorted_walks Ranked e = refl
sorted_walks Sequenced e = cc
sorted_walks Random e = cc
sorted_walks Hashed e = cc
