use Rattle.std.proofs.Common.{List, Option, None, sym, ap, subst, ◌∙◌}
use Rattle.node_store.specs.declared.Node.{Node}
use Rattle.node_store.specs.Nodes.{first_or}
use Rattle.node_store.specs.ByNode.{column_of}
use Rattle.node_store.proofs.NodeLists.{first_reversed}
use Rattle.ord_tree.specs.Tree.{nodes, IsAt}
use Rattle.ord_tree.specs.Mirror.{mirror}
use Rattle.ord_tree.proofs.Mirror.{IsAt-mirror, nodes-mirror}
use Rattle.ord_tree.proofs.walk.last_of.Goals as goal

pub last_below-requires : goal.last_below-requires
last_below-requires g c =
    let b = c.requires in
    let column = column_of c.args.store.now c.args.col in
    record { tree = mirror b.tree; is = IsAt-mirror g.T.Tally.of column _ b.tree (subst (λ (o : Option Node). IsAt g.T.Tally.of column o b.tree) c.in-Some.is b.is) }

pub returns-in-Some-clause-last : goal.returns-in-Some-clause-last
returns-in-Some-clause-last g c = λ t h.
    let column = column_of c.args.store.now c.args.col in
    let m = IsAt-mirror g.T.Tally.of column _ t (subst (λ (o : Option Node). IsAt g.T.Tally.of column o t) c.in-Some.is h) in
    sym (c.last_below.ensures.first (mirror t) m) ∙ (ap (λ (z : List Node). first_or z None) (nodes-mirror t) ∙ first_reversed (nodes t))
