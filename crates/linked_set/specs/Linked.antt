-- How a container lies in a set of nodes: what it holds, seen through the contents of the set and the lists of its indices.
use Rattle.std.specs.Prelude.{◌≡◌, List, map, Option, Some}
use Rattle.std.specs.List.{filter_map}
use Rattle.std.specs.Option.{option_map_or}
use Rattle.node_store.specs.declared.Node.{Node}
use Rattle.node_store.specs.ByNode.{Contents}
use Rattle.node_store.specs.Age.{all_below}
use Rattle.container_model.specs.declared.handle.Handle.{Handle}
use Rattle.container_model.specs.declared.handle.Entry.{Entry}
use Rattle.container_model.specs.State.{row_of}

module _ {R : Type 0} where
  -- the handle of a node's record
  abbrev pub handle_of : (Node → Option (Entry R)) → Node → Handle
  handle_of records n = option_map_or (λ e. e.handle) (records n) (record { slot = 0; stamp = 0 })

  -- the nodes, in the order of their adds
  abbrev pub nodes_in : Contents (Entry R) → List Node
  nodes_in c = all_below c.aged c.added

  -- their records
  abbrev pub entries_in : Contents (Entry R) → List (Entry R)
  entries_in c = filter_map c.records (nodes_in c)

  -- the handles of the nodes of each list
  abbrev pub handles_in : (Node → Option (Entry R)) → List (List Node) → List (List Handle)
  handles_in records lists = map (map (handle_of records)) lists

  -- the node has a record, which its handle finds among the entries
  pub record IsKnown (records : Node → Option (Entry R)) (entries : List (Entry R)) (n : Node) : Type 0 where
    pub entry : Entry R
    pub is : records n ≡ Some entry
    pub row : row_of entries entry.handle ≡ Some entry.row
