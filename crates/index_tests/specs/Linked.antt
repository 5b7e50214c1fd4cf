-- Links to nodes of a store.
use Rattle.std.specs.Prelude.{◌≡◌, Some}
use Rattle.node_store.specs.declared.Node.{Node}
use Rattle.node_store.specs.declared.Link.{Link}
use Rattle.node_store.specs.Store.{Store, IsNodeOf}

-- what the links name is of the store
pub record LinksNodes {R : Type 0} (s : Store R) (link : Link) : Type 0 where
  pub a : (m : Node) → link.a ≡ Some m → IsNodeOf s m
  pub b : (m : Node) → link.b ≡ Some m → IsNodeOf s m
  pub up : (m : Node) → link.up ≡ Some m → IsNodeOf s m
