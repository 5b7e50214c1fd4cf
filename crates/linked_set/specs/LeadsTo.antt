-- How the slots lead to the nodes whose records' handles name them.
use Rattle.std.specs.Prelude.{◌≡◌, ℕ, List, Option, Some}
use Rattle.node_store.specs.declared.Node.{Node}
use Rattle.node_store.specs.Store.{Store, IsNodeOf}
use Rattle.node_store.specs.ByNode.{record_of}
use Rattle.container_model.specs.declared.handle.Entry.{Entry}
use Rattle.slot_table.specs.Slots.{item_at}
use Rattle.linked_set.specs.Linked.{handle_of}

-- each node lies in the slot of its handle, and each slot that is taken has such a node
pub record LeadsTo {R : Type 0} (s : Store (Entry R)) (slots : List (Option Node)) : Type 0 where
  pub node_at : (n : Node) → IsNodeOf s n → item_at slots (handle_of (record_of s) n).slot ≡ Some n
  pub slot_of : (k : ℕ) (n : Node) → item_at slots k ≡ Some n → IsNodeOf s n × ((handle_of (record_of s) n).slot ≡ k)
