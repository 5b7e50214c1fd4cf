-- What the calls at one index of a container read; where no index has the number, of an empty list.
use Rattle.key_extract.specs.Digests.{Marks}
use Rattle.std.proofs.Common.{◌≡◌, ℕ, Bool, List, map, Option}
use Rattle.std.specs.List.{AllByRecursion}
use Rattle.std.specs.declared.cmp.Ordering.{Ordering}
use Rattle.list_model.proofs.InOrder.{All-map}
use Rattle.container_model.specs.declared.handle.Entry.{Entry}
use Rattle.container_model.specs.State.{list_at}
use Rattle.node_store.specs.declared.Node.{Node}
use Rattle.index_set.specs.declared.parts.Parts.{Parts}
use Rattle.index_set.specs.Set.{store_of, contents, record_of, list_of, lists_of}
use Rattle.index_set.proofs.Members.{nodes_held}
use Rattle.index_set.specs.declared.by_row.ByRow.{ByRow}
use Rattle.linked_set.specs.Linked.{handle_of, entries_in, handles_in, IsKnown}
use Rattle.linked_set.specs.Seen.{IsLinked}
use Rattle.linked_set.proofs.Contents.{known}
use Rattle.linked_set.proofs.There.{all_at, map_at}

module _ {E R : Type 0} {has_key : E → ℕ → Bool} {order : E → ℕ → R → R → Ordering} {marks : E → ℕ → R → Marks} (set : Parts (Entry R) (ByRow E)) (slots : List (Option Node)) (linked : IsLinked has_key order marks set slots) where
  -- the record of each node of each index is found by its handle
  pub known_all : AllByRecursion (AllByRecursion (IsKnown (record_of set) (entries_in (contents set)))) (lists_of set)
  known_all = All-map _ _ (λ xs are. All-map _ _ (λ n is. known (store_of set) n linked.sound.nodes linked.apart is) xs are) (lists_of set) (nodes_held set linked.sound)

  module _ (index : ℕ) where
    pub known_at : AllByRecursion (IsKnown (record_of set) (entries_in (contents set))) (list_of set index)
    known_at = all_at (AllByRecursion (IsKnown (record_of set) (entries_in (contents set)))) tt (lists_of set) index known_all

    -- the list of its handles
    pub list_seen : map (handle_of (record_of set)) (list_of set index) ≡ list_at (handles_in (record_of set) (lists_of set)) index
    list_seen = map_at (handle_of (record_of set)) (lists_of set) index
