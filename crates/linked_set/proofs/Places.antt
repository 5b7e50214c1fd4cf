-- What the list of an index of a container answers of its nodes is what the index answers of their handles.
use Rattle.key_extract.specs.Digests.{Marks}
use Rattle.std.proofs.Common.{◌≡◌, ℕ, Bool, cond, List, [], ◌∷◌, length, map, slice_get, Option, Some, sym, ap, ◌∙◌}
use Rattle.std.specs.Prelude.{option_map}
use Rattle.std.specs.List.{AllByRecursion, list_any}
use Rattle.std.specs.Ordering.{is_eq}
use Rattle.std.specs.declared.cmp.Ordering.{Ordering}
use Rattle.std.proofs.lemmas.List.{length-map}
use Rattle.std.proofs.lemmas.Option.{slice_get-map}
use Rattle.list_model.specs.Place.{below, not_above, count_equal, lower, upper, find_equal, find_rank}
use Rattle.list_model.specs.Walk.{last}
use Rattle.list_model.proofs.InOrder.{All-map}
use Rattle.list_model.proofs.Lists.{some_at}
use Rattle.container_model.specs.declared.handle.Entry.{Entry}
use Rattle.container_model.specs.declared.handle.Handle.{Handle}
use Rattle.container_model.specs.State.{side_of, list_at}
use Rattle.node_store.specs.declared.Node.{Node}
use Rattle.index_set.specs.declared.parts.Parts.{Parts}
use Rattle.index_set.specs.Set.{keys_of, contents, record_of, list_of, lists_of, probe_side}
use Rattle.index_set.specs.ByRow.{probe_by_row}
use Rattle.index_set.specs.declared.by_row.ByRow.{ByRow}
use Rattle.linked_set.specs.Linked.{handle_of, entries_in, handles_in, IsKnown}
use Rattle.linked_set.specs.Seen.{IsLinked}
use Rattle.linked_set.proofs.Mapped.{any_mapped, last_mapped}
use Rattle.linked_set.proofs.Reading.{known_at, list_seen}
use Rattle.linked_set.proofs.Sides.{side_known, below_known, not_above_known, found_known, counted_known}

-- what holds of each member holds of the last
pub some_last : {X : Type 0} (P : X → Type 0) (xs : List X) → AllByRecursion P xs → (x : X) → last xs ≡ Some x → P x
some_last P [] all x e = cc
some_last P (y ∷ ys) all x e = some_at P (y ∷ ys) (length ys) all x e

module _ {E R : Type 0} {has_key : E → ℕ → Bool} {order : E → ℕ → R → R → Ordering} {marks : E → ℕ → R → Marks} (set : Parts (Entry R) (ByRow E)) (slots : List (Option Node)) (linked : IsLinked has_key order marks set slots)
    (index : ℕ) where
  abbrev handle : Node → Handle
  handle = handle_of (record_of set)

  abbrev list : List Node
  list = list_of set index

  abbrev handles : List Handle
  handles = list_at (handles_in (record_of set) (lists_of set)) index

  seen_here : map handle list ≡ handles
  seen_here = list_seen set slots linked index

  -- the record at a place
  pub nth_seen : (n : ℕ) → option_map handle (slice_get list n) ≡ slice_get handles n
  nth_seen n = sym (slice_get-map handle list n) ∙ ap (λ hs. slice_get hs n) seen_here

  -- the record that stands last
  pub last_seen : option_map handle (last list) ≡ last handles
  last_seen = last_mapped handle list ∙ ap last seen_here

  -- ---- where a key stands

  module _ {P : Type 0} (probe_order : E → ℕ → R → P → Ordering) (probe : P) where
    abbrev side : R → Ordering
    side a = probe_order (keys_of set).keys index a probe

    abbrev node_side : Node → Ordering
    node_side = probe_side (probe_by_row probe_order) set index probe

    abbrev handle_side : Handle → Ordering
    handle_side = side_of side (entries_in (contents set))

    -- how many records come before the key
    pub below_seen : below node_side list ≡ below handle_side handles
    below_seen = below_known (record_of set) (entries_in (contents set)) side list (known_at set slots linked index) ∙ ap (below handle_side) seen_here

    -- how many do not come after it
    pub not_above_seen : not_above node_side list ≡ not_above handle_side handles
    not_above_seen = not_above_known (record_of set) (entries_in (contents set)) side list (known_at set slots linked index) ∙ ap (not_above handle_side) seen_here

    -- the first that does not come before the key
    pub lower_seen : option_map handle (lower node_side list) ≡ lower handle_side handles
    lower_seen = nth_seen (below node_side list) ∙ ap (slice_get handles) below_seen

    -- the first that comes after it
    pub upper_seen : option_map handle (upper node_side list) ≡ upper handle_side handles
    upper_seen = nth_seen (not_above node_side list) ∙ ap (slice_get handles) not_above_seen

    any_seen : list_any (λ n. is_eq (node_side n)) list ≡ list_any (λ h. is_eq (handle_side h)) handles
    any_seen =
        any_mapped handle (λ n. is_eq (node_side n)) (λ h. is_eq (handle_side h)) list
        (All-map (IsKnown (record_of set) (entries_in (contents set))) _ (λ n k. ap is_eq (side_known (record_of set) (entries_in (contents set)) side n k)) list (known_at set slots linked index))
        ∙ ap (list_any (λ h. is_eq (handle_side h))) seen_here

    -- the rank of the first that has the key
    pub find_rank_seen : find_rank node_side list ≡ find_rank handle_side handles
    find_rank_seen = λ i. cond (any_seen i) (below_seen i) ((sym (length-map list handle) ∙ ap length seen_here) i)

    -- the first that has it
    pub find_seen : option_map handle (find_equal node_side list) ≡ find_equal handle_side handles
    find_seen = sym (found_known (record_of set) (entries_in (contents set)) side list (known_at set slots linked index)) ∙ ap (find_equal handle_side) seen_here

    -- how many have it
    pub count_seen : count_equal node_side list ≡ count_equal handle_side handles
    count_seen = counted_known (record_of set) (entries_in (contents set)) side list (known_at set slots linked index) ∙ ap (count_equal handle_side) seen_here
