-- The neighbours of a node in a list of distinct nodes.
use Rattle.std.proofs.Common.{◌≡◌, List, ◌∷◌, ◌++◌, None, ap, subst, ◌∙◌}
use Rattle.node_store.specs.declared.Node.{Node}
use Rattle.node_store.specs.Nodes.{IsDistinct, first_or, last_or}
use Rattle.node_store.specs.ByNode.{same_node}
use Rattle.list_model.specs.Walk.{next, prev}
use Rattle.ord_tree.proofs.NodeWalks.{next_at, prev_at}

module _ (list xs : List Node) (n : Node) (ys : List Node) (dist : IsDistinct list) (is : list ≡ xs ++ n ∷ ys) where
  pub next_is : next (same_node n) list ≡ first_or ys None
  next_is = ap (next (same_node n)) is ∙ next_at xs n ys (subst IsDistinct is dist)

  pub prev_is : prev (same_node n) list ≡ last_or xs None
  prev_is = ap (prev (same_node n)) is ∙ prev_at xs n ys (subst IsDistinct is dist)
