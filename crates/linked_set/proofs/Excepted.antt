-- A set but for the record of one node, if one is excepted.
use Rattle.std.proofs.Common.{not, List, Option, Some, None, refl, ap, ◌∙◌}
use Rattle.std.specs.List.{AllByRecursion}
use Rattle.list_model.proofs.InOrder.{All-map}
use Rattle.node_store.specs.declared.Node.{Node}
use Rattle.node_store.specs.Store.{Store, IsNodeOf}
use Rattle.node_store.specs.ByNode.{record_of}
use Rattle.any_index.specs.Side.{AreNodesOf}
use Rattle.container_model.specs.declared.handle.Entry.{Entry}
use Rattle.container_model.proofs.Found.{is_handle_flip}
use Rattle.linked_set.specs.LeadsTo.{LeadsTo}
use Rattle.linked_set.specs.Linked.{handle_of}
use Rattle.linked_set.proofs.Bans.{IsTold, told_none}
use Rattle.linked_set.proofs.ByHandle.{same_by_handle}

module _ {R : Type 0} (s : Store (Entry R)) (slots : List (Option Node)) (leads : LeadsTo s slots) where
  -- the excepted node's handle tells it from the others
  pub told_some : (n : Node) → IsNodeOf s n → (lists : List (List Node)) → AllByRecursion (AllByRecursion (IsNodeOf s)) lists → AllByRecursion (AllByRecursion (IsTold (record_of s) (Some n))) lists
  told_some n there lists are =
      All-map _ _ (λ xs all. All-map _ _ (λ m is. ap not (same_by_handle s slots leads n m there is ∙ is_handle_flip (handle_of (record_of s) n) (handle_of (record_of s) m))) xs all) lists are

  pub told_of : (except : Option Node) → AreNodesOf s except → (lists : List (List Node)) → AllByRecursion (AllByRecursion (IsNodeOf s)) lists → AllByRecursion (AllByRecursion (IsTold (record_of s) except)) lists
  told_of None there lists are = told_none (record_of s) lists
  told_of (Some n) there lists are = told_some n (there n refl) lists are
