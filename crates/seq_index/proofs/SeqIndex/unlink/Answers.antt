use Rattle.std.proofs.Common.{arith, ◌≡◌, ℕ, ◌-◌, List, ◌++◌, None, sym, ap, ◌∙◌, rules}
use Rattle.node_store.specs.declared.Node.{Node}
use Rattle.node_store.specs.ByNode.{column_of, same_node}
use Rattle.list_model.specs.Walk.{without}
use Rattle.seq_index.specs.Spelled.{spelled}
use Rattle.seq_index.proofs.Walks.{without_at}
use Rattle.seq_index.proofs.Runs.{Runs-remove, Runs-node, Distinct-remove}
use Rattle.seq_index.proofs.ChainLists.{first-remove, last-remove, length-remove, at_node}
use Rattle.seq_index.proofs.SeqIndex.unlink.Goals as goal

pub link-before-requires : goal.link-before-requires
link-before-requires g c =
    let h = rw c.requires.held.is at c.requires.chain.runs in
    Runs-node _ None c.requires.held.before c.args.n c.requires.held.after None h

pub set_next-requires : goal.set_next-requires
set_next-requires g c =
    let h = rw c.requires.held.is at c.requires.chain in
    let at = at_node _ _ c.requires.held.before c.args.n c.requires.held.after c.link-before.result h c.link-before.ensures in
    λ m e. at.before m (sym at.a ∙ e)

pub set_prev-requires : goal.set_prev-requires
set_prev-requires g c =
    let h = rw c.requires.held.is at c.requires.chain in
    let at = at_node _ _ c.requires.held.before c.args.n c.requires.held.after c.link-before.result h c.link-before.ensures in
    λ m e. c.set_next.ensures.ends.nodes m (at.after m (sym at.b ∙ e))

pub set_link-requires : goal.set_link-requires
set_link-requires g c =
    let h = rw c.requires.held.is at c.requires.chain.runs in
    c.set_prev.ensures.ends.nodes _ (c.set_next.ensures.ends.nodes _ (Runs-node _ None c.requires.held.before c.args.n c.requires.held.after None h))

pub returns-clause-chain : goal.returns-clause-chain
returns-clause-chain g c =
    let h = rw c.requires.held.is at c.requires.chain in
    let at = at_node _ _ c.requires.held.before c.args.n c.requires.held.after c.link-before.result h c.link-before.ensures in
    let next = rw (at.a, at.b) at c.set_next.ensures.ends in
    let prev = rw (at.a, at.b) at c.set_prev.ensures.ends in
    let whole : without (same_node c.args.n) (spelled (column_of c.args.store.now) c.args.self.now) ≡ c.requires.held.before ++ c.requires.held.after =
    ap (λ (z : List Node). without (same_node c.args.n) z) c.requires.held.is ∙ without_at c.requires.held.before c.args.n c.requires.held.after h.distinct in
    record {
      list = rw whole (record {
        runs = Runs-remove _ _ _ _ c.requires.held.before c.args.n c.requires.held.after _ h.distinct next prev c.set_link.ensures.put h.runs;
        first = rw (c.end_beside-self.ensures, at.a, at.b, h.first) (first-remove c.requires.held.before c.args.n c.requires.held.after);
        last = rw (c.end_beside-self-2.ensures, at.a, at.b, h.last) (last-remove c.requires.held.before c.args.n c.requires.held.after);
        distinct = Distinct-remove c.requires.held.before c.args.n c.requires.held.after h.distinct;
        len = ap (λ (k : ℕ). k - 1) h.len ∙ length-remove c.requires.held.before c.args.n c.requires.held.after;
        fits = omega (arith, h.fits);
      });
      col = search rules;
      others = search rules;
      contents = search rules;
    }
