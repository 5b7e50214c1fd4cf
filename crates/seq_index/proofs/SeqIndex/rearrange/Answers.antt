use Rattle.std.proofs.Common.{List, [], ◌∷◌, ◌++◌, refl, sym, ◌∙◌, subst, arith, rules}
use Rattle.std.proofs.lemmas.List.{take_all}
use Rattle.std.proofs.lemmas.List.Sorted.{length_permutation}
use Rattle.node_store.specs.declared.Node.{Node}
use Rattle.node_store.specs.ByNode.{column_of}
use Rattle.node_store.proofs.Members.{IsDistinct_moved, AllNodes_moved}
use Rattle.node_store.proofs.ByNode.{IsNode_kept}
use Rattle.node_store.specs.Column.{IsNode}
use Rattle.node_store.specs.Nodes.{Lacks}
use Rattle.seq_index.specs.Spelled.{Spells, col_of, spelled}
use Rattle.seq_index.proofs.Laws.{IsSound_from, Spells_nodes}
use Rattle.seq_index.proofs.Rearranging.{all_at, coming, lacks_coming, spelled_coming, len_taken}
use Rattle.seq_index.proofs.SeqIndex.rearrange.Goals as goal

pub loop-n-init : goal.loop-n-init
loop-n-init g c = record { list = c.new.ensures.empty _; col = c.new.ensures.col; others = λ j ne. refl; contents = refl }

pub push-requires-clause-chain : goal.push-requires-clause-chain
push-requires-clause-chain g c = IsSound_from _ _ _ c.loop-n.invariant.list

pub push-requires-clause-node : goal.push-requires-clause-node
push-requires-clause-node g c =
    subst (IsNode (column_of c.loop-n.store (col_of c.loop-n.self))) (sym c.n-item.is)
    (IsNode_kept c.args.store.now c.loop-n.store (col_of c.args.self.now) _ _ c.loop-n.invariant.contents c.loop-n.invariant.col
    (all_at _ c.args.order.now c.loop-n.n-index c.n-item.result c.loop-n-test.true (AllNodes_moved _ _ _ c.requires.same (Spells_nodes _ _ _ c.requires.chain))))

pub push-requires-clause-new : goal.push-requires-clause-new
push-requires-clause-new g c =
    subst (Lacks (spelled (column_of c.loop-n.store) c.loop-n.self)) (sym c.n-item.is)
    (lacks_coming _ _ c.args.order.now c.loop-n.n-index _ c.loop-n.invariant.list (coming c.args.order.now c.loop-n.n-index c.n-item.result c.loop-n-test.true (IsDistinct_moved _ _ c.requires.same c.requires.chain.distinct)))

pub push-requires-clause-room : goal.push-requires-clause-room
push-requires-clause-room g c =
    let e = len_taken _ _ c.args.order.now c.loop-n.n-index (omega arith) c.loop-n.invariant.list in
    omega (arith, e)

pub returns : goal.returns
returns g c =
    let e = len_taken _ _ c.args.order.now c.loop-n.n-index (omega arith) c.loop-n.invariant.list in
    let same = length_permutation _ _ c.requires.same in
    let whole = take_all c.loop-n.n-index c.args.order.now (omega arith) in
    record {
      chain = record { list = subst (λ (z : List Node). Spells (column_of c.loop-n.store) c.loop-n.self z) whole c.loop-n.invariant.list; col = search rules; others = search rules; contents = search rules };
      room = λ room. omega (arith, room, e, same, c.requires.chain.len);
    }

pub loop-n-preserved : goal.loop-n-preserved
loop-n-preserved g c = record {
  list =
      spelled_coming _ _ _ _ c.args.order.now c.loop-n.n-index _ c.loop-n.invariant.list
      (coming c.args.order.now c.loop-n.n-index c.n-item.result c.loop-n-test.true (IsDistinct_moved _ _ c.requires.same c.requires.chain.distinct))
      (subst (λ n. Spells (column_of c.push.new.store) c.push.new.self (spelled (column_of c.loop-n.store) c.loop-n.self ++ n ∷ [])) c.n-item.is c.push.ensures.list);
  col = c.push.ensures.col ∙ c.loop-n.invariant.col;
  others = λ j ne. c.push.ensures.others j (λ e. ne (e ∙ c.loop-n.invariant.col)) ∙ c.loop-n.invariant.others j ne;
  contents = c.push.ensures.contents ∙ c.loop-n.invariant.contents;
}
