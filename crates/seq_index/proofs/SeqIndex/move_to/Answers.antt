use Rattle.std.proofs.Common.{rules, ◌≢◌, List, Some, subst, arith}
use Rattle.node_store.specs.declared.Node.{Node}
use Rattle.node_store.specs.Nodes.{Lacks}
use Rattle.node_store.specs.ByNode.{column_of, same_node}
use Rattle.list_model.specs.Walk.{relocated}
use Rattle.node_store.proofs.ByNode.{IsNode_kept}
use Rattle.seq_index.specs.Spelled.{Spells, spelled}
use Rattle.seq_index.proofs.Laws.{node_held, node_linked}
use Rattle.seq_index.proofs.ChainLists.{AreNodesOf_kept}
use Rattle.seq_index.proofs.Moves.{beside, lands_in, Spells_stays_before, Spells_stays_after, without_lacks, length_without}
use Rattle.seq_index.proofs.SeqIndex.move_to.Goals as goal
use Rattle.seq_index.proofs.SeqIndex.move_to.Goals.{then-is_node-via-then-is_node, then-is_node-via-else-is_node+then-is_node-2}

pub is_node-requires-clause-node : goal.is_node-requires-clause-node
is_node-requires-clause-node g c = node_held c.args.store.now c.args.self.now c.args.n c.requires.node.chain c.requires.node.held

pub is_node-requires-else-is_node-clause-node : goal.is_node-requires-else-is_node-clause-node
is_node-requires-else-is_node-clause-node g c = node_held c.args.store.now c.args.self.now c.args.n c.requires.node.chain c.requires.node.held

pub returns-then-is_node : goal.returns-then-is_node
returns-then-is_node g c =
    let s = beside (spelled (column_of c.args.store.now) c.args.self.now) c.args.n c.args.place c.ends_at-before.result.0 c.ends_at-before.result.1 c.requires.node.held c.requires.node.chain.distinct c.requires.place c.ends_at-before.ensures.ends.before c.ends_at-before.ensures.ends.after in
    let stays : Spells (column_of c.args.store.now) c.args.self.now (relocated (same_node c.args.n) c.args.n c.args.place (spelled (column_of c.args.store.now) c.args.self.now)) =
    elim c.then-is_node.branch [
      | then-is_node-via-then-is_node w ↦ Spells_stays_before _ _ _ c.args.n c.args.place _ _ c.requires.node.held c.requires.node.chain s (c.is_node.ensures.0 w.if-is_node.true)
      | then-is_node-via-else-is_node+then-is_node-2 w ↦ Spells_stays_after _ _ _ c.args.n c.args.place _ _ c.requires.node.held c.requires.node.chain s (w.is_node-else-is_node.ensures.0 w.if-is_node-2.true)
    ] in
    record {
      chain = record { list = stays; col = search rules; others = search rules; contents = search rules };
      room = search rules;
    }

pub insert_between-requires-clause-node : goal.insert_between-requires-clause-node
insert_between-requires-clause-node g c =
    IsNode_kept c.args.store.now c.unlink.new.store _ _ c.args.n c.unlink.ensures.chain.contents c.unlink.ensures.chain.col (node_linked c.args.store.now c.args.self.now c.args.n c.requires.node.chain c.requires.node.held)

pub insert_between-requires-clause-before : goal.insert_between-requires-clause-before
insert_between-requires-clause-before g c = AreNodesOf_kept c.args.store.now c.unlink.new.store c.ends_at-before.result.0 c.unlink.ensures.chain.contents c.ends_at-before.ensures.before_held

pub insert_between-requires-clause-after : goal.insert_between-requires-clause-after
insert_between-requires-clause-after g c = AreNodesOf_kept c.args.store.now c.unlink.new.store c.ends_at-before.result.1 c.unlink.ensures.chain.contents c.ends_at-before.ensures.after_held

pub returns : goal.returns
returns g c =
    let s = beside (spelled (column_of c.args.store.now) c.args.self.now) c.args.n c.args.place c.ends_at-before.result.0 c.ends_at-before.result.1 c.requires.node.held c.requires.node.chain.distinct c.requires.place c.ends_at-before.ensures.ends.before c.ends_at-before.ensures.ends.after in
    let not_before : c.ends_at-before.result.0 ≢ Some c.args.n = λ e. search (rules, c.is_node.ensures.1 e, c.if-is_node.false) in
    let not_after : c.ends_at-before.result.1 ≢ Some c.args.n = λ e. search (rules, c.is_node-else-is_node.ensures.1 e, c.if-is_node-2.false) in
    let land = lands_in (spelled (column_of c.args.store.now) c.args.self.now) c.args.n c.args.place c.ends_at-before.result.0 c.ends_at-before.result.1 c.requires.node.held s not_before not_after in
    let rest = subst (λ (z : List Node). Spells (column_of c.unlink.new.store) c.unlink.new.self z) land.rest c.unlink.ensures.chain.list in
    let lacks = subst (λ (z : List Node). Lacks z c.args.n) land.rest (without_lacks (spelled (column_of c.args.store.now) c.args.self.now) c.args.n c.requires.node.held c.requires.node.chain.distinct) in
    let less = length_without (spelled (column_of c.args.store.now) c.args.self.now) c.args.n c.requires.node.held c.requires.node.chain.distinct in
    record {
      chain = record {
        list = rw (← land.moved) (c.insert_between.ensures.list land.front land.back rest lacks land.before_is land.after_is);
        col = search rules;
        others = search rules;
        contents = search rules;
      };
      room = λ room. omega (arith, room, less, c.insert_between.ensures.len, c.unlink.ensures.chain.list.len, c.requires.node.chain.len);
    }
