use Rattle.std.proofs.Common.{ℕ, ◌+◌, ap, ◌∙◌}
use Rattle.node_store.proofs.ByNode.{node_in_column, column_of_node}
use Rattle.node_store.proofs.NodeLists.{IsDistinct-insert}
use Rattle.seq_index.specs.Spelled.{col_of}
use Rattle.seq_index.proofs.Runs.{Runs-insert}
use Rattle.seq_index.proofs.ChainLists.{first-insert, last-insert, length-insert}
use Rattle.seq_index.proofs.SeqIndex.insert_between.Goals as goal

pub set_next-requires : goal.set_next-requires
set_next-requires g c = λ m e. c.set_link.ensures.put.nodes m (node_in_column c.args.store.now (col_of c.args.self.now) m (column_of_node _ _ _ c.requires.node) (c.requires.before m e))

pub set_prev-requires : goal.set_prev-requires
set_prev-requires g c = λ m e. c.set_next.ensures.ends.nodes m (c.set_link.ensures.put.nodes m (node_in_column c.args.store.now (col_of c.args.self.now) m (column_of_node _ _ _ c.requires.node) (c.requires.after m e)))

pub returns-clause-list : goal.returns-clause-list
returns-clause-list g c = λ xs ys h new before after.
    let put = rw (c.chain_link.ensures, before, after) at c.set_link.ensures.put in
    let next = rw before at c.set_next.ensures.ends in
    let prev = rw after at c.set_prev.ensures.ends in
    record {
      runs = Runs-insert _ _ _ _ xs c.args.n ys h.distinct new put next prev h.runs;
      first = rw (c.end_beside-self.ensures, before, h.first) (first-insert xs c.args.n ys);
      last = rw (c.end_beside-self-2.ensures, after, h.last) (last-insert xs c.args.n ys);
      distinct = IsDistinct-insert xs c.args.n ys h.distinct new;
      len = ap (λ (k : ℕ). k + 1) h.len ∙ length-insert xs c.args.n ys;
      fits = c.requires.room;
    }
