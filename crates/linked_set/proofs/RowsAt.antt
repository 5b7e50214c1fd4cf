-- Walks along an index from a position on, or up to one.
use Rattle.key_extract.specs.Digests.{Marks}
use Rattle.std.proofs.Common.{◌≡◌, ℕ, ◌+◌, Bool, true, false, cond, List, [], ◌∷◌, ◌++◌, length, map, take, drop, slice_get, Option, Some, None, Result, Ok, Err, refl, sym, ap, ◌∙◌, arith}
use Rattle.std.specs.Prelude.{IsTrue}
use Rattle.std.specs.List.{AllByRecursion}
use Rattle.std.specs.declared.cmp.Ordering.{Ordering}
use Rattle.std.proofs.ByRecursion.{All-take, All-drop}
use Rattle.std.proofs.lemmas.List.{drop-map, length-map, take-map}
use Rattle.std.proofs.lemmas.Option.{slice_get_past, slice_get_within}
use Rattle.list_model.specs.Walk.{place_of}
use Rattle.container_model.specs.declared.handle.Entry.{Entry}
use Rattle.container_model.specs.declared.handle.Handle.{Handle}
use Rattle.container_model.specs.State.{State, is_handle, list_at}
use Rattle.container_model.specs.Find.{is_position, place_or_end}
use Rattle.container_model.specs.declared.refusal.Why.{Why}
use Rattle.container_model.specs.declared.refusal.Why.TheVariants.{Stale}
use Rattle.node_store.specs.declared.Node.{Node}
use Rattle.node_store.specs.Nodes.{Holds, IsDistinct}
use Rattle.node_store.specs.ByNode.{same_node}
use Rattle.slot_table.specs.Slots.{item_at}
use Rattle.any_index.proofs.Runs.{place_is}
use Rattle.index_set.specs.declared.parts.Parts.{Parts}
use Rattle.index_set.specs.declared.by_row.ByRow.{ByRow}
use Rattle.index_set.specs.Set.{contents, record_of, list_of, lists_of}
use Rattle.index_set.proofs.Members.{distinct}
use Rattle.linked_set.specs.Linked.{handle_of, entries_in, handles_in, IsKnown}
use Rattle.linked_set.specs.Seen.{seen, IsLinked}
use Rattle.linked_set.specs.Iteration.{is_one, nodes_left, rows_of_nodes, with_rows, IsRun}
use Rattle.linked_set.proofs.Named.{place_seen}
use Rattle.linked_set.proofs.Reading.{known_at, list_seen}
use Rattle.linked_set.proofs.Rows.{rows_seen}
use Rattle.linked_set.proofs.There.{all_at}
use Rattle.linked_set.proofs.WalksLeft.{at_length, left_from, take_all}
use Rattle.linked_set.proofs.WalksBack.{run_left}

-- a member stands at its place
member_after : {X : Type 0} (front : List X) (x : X) (back : List X) → slice_get (front ++ x ∷ back) (length front) ≡ Some x
member_after [] x back = refl
member_after (y ∷ front) x back = member_after front x back

held_place : (xs : List Node) (n : Node) → IsDistinct xs → Holds xs n → Some n ≡ slice_get xs (place_of (same_node n) xs)
held_place xs n distinct held =
    let at : slice_get xs (length held.before) ≡ Some n = ap (λ ys. slice_get ys (length held.before)) held.is ∙ member_after held.before n held.after in
    sym (ap (slice_get xs) (place_is xs (length held.before) n distinct at) ∙ at)

-- a walk from a place on, and one up to a place
pub from_runs : (xs : List Node) (place : ℕ) (next : Option Node) → next ≡ slice_get xs place → IsRun xs next None
from_runs xs place next is = record {
  from = place;
  to = length xs;
  begins = is;
  ends = sym (at_length xs);
  upward = λ n e. omega (arith, slice_get_within xs place n (sym is ∙ e));
}

pub to_runs : (xs : List Node) (place : ℕ) (next end : Option Node) → next ≡ slice_get xs 0 → end ≡ slice_get xs place → IsRun xs next end
to_runs xs place next end first is = record { from = 0; to = place; begins = first; ends = is; upward = λ n e. omega arith }

-- ---- of an index of any number

module _ {E R : Type 0} {has_key : E → ℕ → Bool} {order : E → ℕ → R → R → Ordering} {marks : E → ℕ → R → Marks} (set : Parts (Entry R) (ByRow E)) (slots : List (Option Node)) (linked : IsLinked has_key order marks set slots)
    (index : ℕ) where
  abbrev list : List Node
  list = list_of set index

  abbrev handles : List Handle
  handles = list_at (handles_in (record_of set) (lists_of set)) index

  distinct_here : IsDistinct list
  distinct_here = all_at IsDistinct tt (lists_of set) index (distinct set linked.sound)

  known : AllByRecursion (IsKnown (record_of set) (entries_in (contents set))) list
  known = known_at set slots linked index

  seen_here : map (handle_of (record_of set)) list ≡ handles
  seen_here = list_seen set slots linked index

  -- past its last record stands the end
  pub end_place : None ≡ slice_get list (length handles)
  end_place =
      let many : length handles ≡ length list = ap length (sym seen_here) ∙ length-map list (handle_of (record_of set)) in
      sym (slice_get_past list (length handles) (omega (arith, many)))

  -- the node of a handle stands at the handle's place
  pub node_place : (h : Handle) (n : Node) → (item_at slots h.slot ≡ Some n) × IsTrue (is_handle h (handle_of (record_of set) n)) → Holds list n → Some n ≡ slice_get list (place_of (is_handle h) handles)
  node_place h n found held = held_place list n distinct_here held ∙ ap (slice_get list) (place_seen set slots linked h n found.0 found.1 index)

  module _ (max writes : ℕ) where
    abbrev rows : List Node → List (Handle × R)
    rows = rows_of_nodes (record_of set)

    abbrev named : List Handle → List (Handle × R)
    named = with_rows (seen set max writes)

    -- what is left from a place on
    pub from_left : (place : ℕ) → rows (nodes_left (slice_get list place) None list) ≡ named (drop place handles)
    from_left place =
        ap rows (ap (λ ys. take (place_of (is_one None) ys) ys) (left_from list distinct_here place) ∙ take_all (drop place list))
        ∙ (rows_seen (record_of set) (entries_in (contents set)) (drop place list) (All-drop (IsKnown (record_of set) (entries_in (contents set))) place list known)
        ∙ ap named (sym (drop-map (handle_of (record_of set)) place list) ∙ ap (drop place) seen_here))

    -- and up to one
    pub to_left : (place : ℕ) → rows (nodes_left (slice_get list 0) (slice_get list place) list) ≡ named (take place handles)
    to_left place =
        let n : place ≡ 0 + place = omega arith in
        ap (λ k. rows (nodes_left (slice_get list 0) (slice_get list k) list)) n
        ∙ (ap rows (run_left list distinct_here 0 place)
        ∙ (rows_seen (record_of set) (entries_in (contents set)) (take place list) (All-take (IsKnown (record_of set) (entries_in (contents set))) place list known)
        ∙ ap named (sym (take-map (handle_of (record_of set)) place list) ∙ ap (take place) seen_here)))

-- ---- what a call answers

-- of the node at a position
module _ {E R : Type 0} (s : State E R) (index : ℕ) (nodes : List Node) where
  abbrev answer : Option Handle → Result (Option Node) Why
  answer position = cond (is_position s position) (Ok (slice_get nodes (place_or_end s index position))) (Err Stale)

  pub answered_at : (r : Result (Option Node) Why) {position other : Option Handle} → r ≡ answer other → position ≡ other → r ≡ answer position
  answered_at r told same = told ∙ ap answer (sym same)

-- of what is made of it
pub told : {A W : Type 0} (there : Bool) (why : W) (x node : A) {r : Result A W} → r ≡ Ok node → r ≡ cond there (Ok x) (Err why) → node ≡ x
told true why x node was is = cc
told false why x node was is = cc

pub answered_by : {A B W : Type 0} (there : Bool) (why : W) (x : A) (f : A → B) (z : B) (node : A) {r : Result A W} → r ≡ Ok node → r ≡ cond there (Ok x) (Err why) → f x ≡ z → Ok (f node) ≡ cond there (Ok z) (Err why)
answered_by true why x f z node was is same = ap Ok (ap f (told true why x node was is) ∙ same)
answered_by false why x f z node was is same = cc
