use Rattle.std.proofs.Common.{None, sym, ap, ◌∙◌, List}
use Rattle.node_store.specs.declared.Node.{Node}
use Rattle.node_store.specs.ByNode.{same_node}
use Rattle.list_model.specs.Walk.{next}
use Rattle.seq_index.proofs.Walks.{next_at}
use Rattle.seq_index.proofs.ChainLists.{at_node}
use Rattle.seq_index.proofs.Runs.{Runs-node}
use Rattle.seq_index.proofs.SeqIndex.next.Goals as goal

pub link-requires : goal.link-requires
link-requires g c =
    let h = rw c.requires.held.is at c.requires.chain.runs in
    Runs-node _ None c.requires.held.before c.args.n c.requires.held.after None h

pub returns : goal.returns
returns g c =
    let h = rw c.requires.held.is at c.requires.chain in
    let at = at_node _ _ c.requires.held.before c.args.n c.requires.held.after c.link.result h c.link.ensures in
    at.b ∙ sym (ap (λ (z : List Node). next (same_node c.args.n) z) c.requires.held.is ∙ next_at c.requires.held.before c.args.n c.requires.held.after h.distinct)
