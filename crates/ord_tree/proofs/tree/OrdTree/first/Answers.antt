use Rattle.std.proofs.Common.{None, sym, ◌∙◌}
use Rattle.ord_tree.proofs.Laws.{the_tree}
use Rattle.ord_tree.proofs.NodeWalks.{first_at}
use Rattle.ord_tree.proofs.tree.OrdTree.first.Goals as goal

pub returns-in-Some : goal.returns-in-Some
returns-in-Some g c =
    let s = the_tree _ _ c.requires in
    sym (first_at _ ∙ c.first_below.ensures.first _ (record { parent = None; hangs = s.hangs; root = sym c.in-Some.is ∙ s.root_is }))
