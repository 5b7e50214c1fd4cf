-- The node that a handle names, in the list of an index of a container: the list answers of it what the index answers of the handle.
use Rattle.key_extract.specs.Digests.{Marks}
use Rattle.std.proofs.Common.{◌≡◌, ℕ, ◌<◌, ◌≤◌, Bool, true, false, cond, List, [], ◌∷◌, ◌++◌, length, map, Option, Some, None, Ok, Err, sym, ap, ◌∙◌, arith, subst}
use Rattle.std.specs.Prelude.{IsTrue, not, is_some, option_map, count_by}
use Rattle.std.specs.List.{AllByRecursion}
use Rattle.std.specs.declared.cmp.Ordering.{Ordering}
use Rattle.list_model.specs.Walk.{place_of, next, prev}
use Rattle.list_model.proofs.InOrder.{All-map}
use Rattle.list_model.proofs.Permuted.{split_at, count_by-permutation}
use Rattle.container_model.specs.declared.handle.Entry.{Entry}
use Rattle.container_model.specs.declared.handle.Handle.{Handle}
use Rattle.container_model.specs.declared.refusal.Why.{Why}
use Rattle.container_model.specs.declared.refusal.Why.TheVariants.{Stale}
use Rattle.container_model.specs.State.{AreIndices, is_handle, list_at, row_of}
use Rattle.container_model.specs.Find.{is_live}
use Rattle.container_model.proofs.Found.{is_handle_same, count_live}
use Rattle.node_store.specs.declared.Node.{Node}
use Rattle.node_store.specs.Nodes.{Holds}
use Rattle.node_store.specs.Store.{Store, IsNodeOf}
use Rattle.node_store.specs.ByNode as store
use Rattle.node_store.specs.ByNode.{same_node}
use Rattle.node_store.proofs.ByNode.{same_node-true}
use Rattle.slot_table.specs.Slots.{item_at}
use Rattle.index_set.specs.declared.parts.Parts.{Parts}
use Rattle.index_set.specs.Set.{store_of, keys_of, specs_of, contents, record_of, list_of, lists_of}
use Rattle.index_set.proofs.Reading.{some_spec}
use Rattle.index_set.specs.declared.by_row.ByRow.{ByRow}
use Rattle.linked_set.specs.Linked.{handle_of, entries_in, handles_in}
use Rattle.linked_set.specs.Records.{Records, IsWhole, alone, kept_out, records_in, row_kept_out}
use Rattle.linked_set.specs.Seen.{IsLinked}
use Rattle.linked_set.proofs.Indices.{index_here}
use Rattle.linked_set.proofs.ByHandle.{same_by_handle}
use Rattle.linked_set.proofs.Contents.{has_record}
use Rattle.linked_set.proofs.LeadsTo.{row_of_live}
use Rattle.linked_set.proofs.Live.{live_seen, stale_seen}
use Rattle.linked_set.proofs.Mapped.{place_mapped, next_mapped, prev_mapped}
use Rattle.linked_set.proofs.Reading.{list_seen}
use Rattle.linked_set.proofs.Sides.{count_mapped}
use Rattle.linked_set.proofs.There.{list_past, nodes_here}
use Rattle.any_index.specs.At.{At, list_in}
use Rattle.index_set.specs.At.{IsAt}

-- ---- what a call answers of a handle

answered_live : {E R A : Type 0} (h : Handle) (answer : Records E R → A) {s t : Records E R} (a : A) → s ≡ t → is_live (alone s) h ≡ true → a ≡ answer s → Ok a ≡ cond (is_live (alone t) h) (Ok (answer t)) (Err Stale)
answered_live h answer {s} {t} a same live is = ap Ok (is ∙ ap answer same) ∙ ap (λ b. cond b (Ok (answer t)) (Err Stale)) (sym live ∙ ap (λ u. is_live (alone u) h) same)

answered_stale : {E R A : Type 0} (h : Handle) (answer : A) {s t : Records E R} → s ≡ t → is_live (alone s) h ≡ false → Err Stale ≡ cond (is_live (alone t) h) (Ok answer) (Err Stale)
answered_stale h answer {s} {t} same stale = ap (λ b. cond b (Ok answer) (Err Stale)) (sym stale ∙ ap (λ u. is_live (alone u) h) same)

module _ {E R : Type 0} {has_key : E → ℕ → Bool} {order : E → ℕ → R → R → Ordering} {marks : E → ℕ → R → Marks} (set : Parts (Entry R) (ByRow E)) (slots : List (Option Node)) (linked : IsLinked has_key order marks set slots) (h : Handle) where
  abbrev handle : Node → Handle
  handle = handle_of (record_of set)

  abbrev entries : List (Entry R)
  entries = entries_in (contents set)

  module _ (n : Node) (at : item_at slots h.slot ≡ Some n) (named : is_handle h (handle n) ≡ true) where
    node_here : IsNodeOf (store_of set) n
    node_here = (linked.leads.slot_of h.slot n at).0

    -- no other node has the handle
    one_named : (m : Node) → IsNodeOf (store_of set) m → same_node n m ≡ is_handle h (handle m)
    one_named m is =
        same_by_handle (store_of set) slots linked.leads n m node_here is ∙ ap (λ g. is_handle g (handle m)) (sym (is_handle_same h (handle n) named))

    module _ (index : ℕ) where
      abbrev list : List Node
      list = list_of set index

      abbrev handles : List Handle
      handles = list_at (handles_in (record_of set) (lists_of set)) index

      seen_here : map handle list ≡ handles
      seen_here = list_seen set slots linked index

      named_all : AllByRecursion (λ m. same_node n m ≡ is_handle h (handle m)) list
      named_all = All-map (IsNodeOf (store_of set)) _ one_named list (nodes_here set linked.sound index)

      -- its place
      pub place_seen : place_of (same_node n) list ≡ place_of (is_handle h) handles
      place_seen = place_mapped handle (same_node n) (is_handle h) list named_all ∙ ap (place_of (is_handle h)) seen_here

      -- the record after it
      pub next_seen : option_map handle (next (same_node n) list) ≡ next (is_handle h) handles
      next_seen = next_mapped handle (same_node n) (is_handle h) list named_all ∙ ap (next (is_handle h)) seen_here

      -- the record before it
      pub prev_seen : option_map handle (prev (same_node n) list) ≡ prev (is_handle h) handles
      prev_seen = prev_mapped handle (same_node n) (is_handle h) list named_all ∙ ap (prev (is_handle h)) seen_here

      -- each index has the node
      pub held_here : index < length (specs_of set) → AreIndices (order (keys_of set).keys) entries 0 (specs_of set) (handles_in (record_of set) (lists_of set)) → Holds list n
      held_here within indices =
          let members = (index_here (order (keys_of set).keys) entries 0 index (specs_of set) (handles_in (record_of set) (lists_of set)) some_spec indices within).1.members in
          let once : count_by (same_node n) list ≡ 1 =
          count_mapped handle (same_node n) (is_handle h) list named_all
          ∙ (ap (count_by (is_handle h)) seen_here
          ∙ (count_by-permutation (is_handle h) (map (λ e. e.handle) entries) handles members ∙ count_live entries h linked.apart (live_seen set slots linked h n at named))) in
          let s = split_at (same_node n) list (omega (arith, once)) in
          let one : n ≡ s.member = same_node-true n s.member s.here in
          record { before = s.front; after = s.back; is = s.whole ∙ ap (λ m. s.front ++ m ∷ s.back) (sym one) }

-- ---- what an index answers of the node, told of the handle

module _ {E R : Type 0} {has_key : E → ℕ → Bool} {order : E → ℕ → R → R → Ordering} {marks : E → ℕ → R → Marks} (set : Parts (Entry R) (ByRow E)) (slots : List (Option Node)) (whole : IsWhole has_key order marks set slots)
    {r : Records E R} (view : records_in set ≡ r) (h : Handle) (index : ℕ) where
  pub told_stale : {A : Type 0} (g : (Handle → Bool) → List Handle → A) → ((n : Node) → item_at slots h.slot ≡ Some n → IsTrue (not (is_handle h (handle_of (record_of set) n)))) →
      Err Stale ≡ cond (is_live (alone r) h) (Ok (g (is_handle h) (list_at r.lists index))) (Err Stale)
  told_stale g none = answered_stale h (g (is_handle h) (list_at r.lists index)) view (stale_seen set slots whole.linked h none)

  module _ (n : Node) (found : (item_at slots h.slot ≡ Some n) × IsTrue (is_handle h (handle_of (record_of set) n))) where
    pub told_live : {A : Type 0} (g : (Handle → Bool) → List Handle → A) (a : A) → a ≡ g (is_handle h) (list_at (records_in set).lists index) → Ok a ≡ cond (is_live (alone r) h) (Ok (g (is_handle h) (list_at r.lists index))) (Err Stale)
    told_live g a is = answered_live h (λ s. g (is_handle h) (list_at s.lists index)) a view (live_seen set slots whole.linked h n found.0 found.1) is

    -- where no index has the number, of no list
    pub told_past : {A : Type 0} (g : (Handle → Bool) → List Handle → A) (a : A) → a ≡ g (is_handle h) [] → length (specs_of set) ≤ index → Ok a ≡ cond (is_live (alone r) h) (Ok (g (is_handle h) (list_at r.lists index))) (Err Stale)
    told_past g a is past = told_live g a (is ∙ ap (g (is_handle h)) (sym (list_past (order (keys_of set).keys) (entries_in (contents set)) 0 (specs_of set) (records_in set).lists index whole.listed past)))

    module _ {a : At (Entry R) (ByRow E)} (own : IsAt set index a) where
      pub told_held : index < length (specs_of set) → Holds (list_in a) n
      told_held within = subst (λ l. Holds l n) (sym own.list) (held_here set slots whole.linked h n found.0 found.1 index within whole.listed)

      pub told_named : {A B : Type 0} (by : A → B) (f : (Node → Bool) → List Node → A) (g : (Handle → Bool) → List Handle → B) → by (f (same_node n) (list_of set index)) ≡ g (is_handle h) (list_at (records_in set).lists index) →
          {answer : A} → answer ≡ f (same_node n) (list_in a) → {result : B} → result ≡ by answer → Ok result ≡ cond (is_live (alone r) h) (Ok (g (is_handle h) (list_at r.lists index))) (Err Stale)
      told_named by f g seen told {result} is = told_live g result (is ∙ ap by (told ∙ ap (f (same_node n)) own.list) ∙ seen)

-- ---- the node of a handle

-- it has the handle, and its record is what the handle finds
pub record IsNamed {R : Type 0} (s : Store (Entry R)) (h : Handle) (n : Node) : Type 0 where
  pub node : IsNodeOf s n
  pub own : handle_of (store.record_of s) n ≡ h
  pub entry : Entry R
  pub has : store.record_of s n ≡ Some entry
  pub row : row_of (entries_in (store.contents s)) h ≡ Some entry.row

module _ {E R : Type 0} {has_key : E → ℕ → Bool} {order : E → ℕ → R → R → Ordering} {marks : E → ℕ → R → Marks} (set : Parts (Entry R) (ByRow E)) (slots : List (Option Node)) (linked : IsLinked has_key order marks set slots) (h : Handle) where
  pub named_at : (n : Node) → (item_at slots h.slot ≡ Some n) × IsTrue (is_handle h (handle_of (record_of set) n)) → IsNamed (store_of set) h n
  named_at n found =
      let s = store_of set in
      let is = (linked.leads.slot_of h.slot n found.0).0 in
      let p = has_record s n is in
      record { node = is; own = sym (is_handle_same h _ found.1); entry = p.0; has = p.1; row = row_of_live s slots linked.sound.nodes linked.leads linked.apart h n p.0 found.0 found.1 p.1 }

-- ---- why its record may not get this row

module _ {E R : Type 0} (order : E → ℕ → R → R → Ordering) (r : Records E R) (h : Handle) (row : R) (limit : Option Why) where
  pub kept_out_stale : row_of r.entries h ≡ None → row_kept_out order r h row limit ≡ Some Stale
  kept_out_stale none = ap (λ o. cond (is_some o) (kept_out order r (Some h) row limit) (Some Stale)) none

  pub kept_out_live : (old : R) → row_of r.entries h ≡ Some old → row_kept_out order r h row limit ≡ kept_out order r (Some h) row limit
  kept_out_live old live = ap (λ o. cond (is_some o) (kept_out order r (Some h) row limit) (Some Stale)) live
