use Rattle.std.proofs.Common.{◌≡◌, ◌+◌, ◌-◌, ◌*◌, ◌≤◌, subst, sym, refl, ◌∙◌, arith}
use Rattle.node_store.specs.declared.Node.{Node}
use Rattle.node_store.specs.Column.{IsNode}
use Rattle.node_store.specs.ByNode.{column_of}
use Rattle.hash_index.specs.Chains.{KeepsOtherNodes}
use Rattle.hash_index.proofs.Untagged.{tagged_node, untagged_node}
use Rattle.hash_index.proofs.Spelling.{held_node, has_neighbours, some_chain, some_node}
use Rattle.hash_index.proofs.Changes.{new_first, out_done}
use Rattle.hash_index.proofs.Aged.{Spells_contents}
use Rattle.hash_index.proofs.HashIndex.unlink.Goals as goal

pub link-before-requires : goal.link-before-requires
link-before-requires g c = held_node _ _ _ c.args.n c.requires.chain c.requires.held

pub chain-chain-requires : goal.chain-chain-requires
chain-chain-requires g c = some_chain _ _ _ c.args.n c.requires.chain c.requires.held

pub set_next-requires : goal.set_next-requires
set_next-requires g c = (has_neighbours (column_of c.args.store.now) c.args.self.now _ c.args.n c.link-before.result c.requires.chain c.requires.held c.link-before.ensures).before

pub set_prev-requires : goal.set_prev-requires
set_prev-requires g c = λ m e.
    tagged_node _ m (c.set_next.ensures.ends.nodes m (untagged_node _ m ((has_neighbours (column_of c.args.store.now) c.args.self.now _ c.args.n c.link-before.result c.requires.chain c.requires.held c.link-before.ensures).after m e)))

pub head_beside-head-requires-clause-after : goal.head_beside-head-requires-clause-after
head_beside-head-requires-clause-after g c = λ m e.
    tagged_node _ m (c.set_prev.ensures.ends.nodes m (c.set_next.ensures.ends.nodes m (untagged_node _ m ((has_neighbours (column_of c.args.store.now) c.args.self.now _ c.args.n c.link-before.result c.requires.chain c.requires.held c.link-before.ensures).after m e))))

pub set_top-requires : goal.set_top-requires
set_top-requires g c =
    let i = c.args.self.now in
    let cs = column_of c.args.store.now in
    let near = has_neighbours cs i _ c.args.n c.link-before.result c.requires.chain c.requires.held c.link-before.ensures in
    let nodes : (m : Node) → IsNode (cs i.col) m → IsNode (column_of c.set_prev.new.store i.col) m = λ m h. tagged_node _ m (c.set_prev.ensures.ends.nodes m (c.set_next.ensures.ends.nodes m (untagged_node _ m h))) in
    λ m e. nodes m (new_first cs i c.chain-chain.result c.link-before.result m c.chain-chain.ensures.within c.requires.chain near (sym c.head_beside-head.ensures.first ∙ (sym c.node.ensures ∙ e)))

pub returns-clause-list : goal.returns-clause-list
returns-clause-list g c =
    let i = c.args.self.now in
    let some = some_node _ i _ c.args.n c.requires.chain c.requires.held in
    let len : (i.len - 1) + 1 ≡ i.len = omega arith in
    let load : (i.len - 1) * 4 ≤ c.set.new.self.len = omega (arith, c.requires.chain.load, c.set.ensures.len) in
    Spells_contents c.args.store.now c.set_top.new.store _ _ _ (c.set_top.ensures.contents ∙ (c.set_prev.ensures.contents ∙ c.set_next.ensures.contents))
    (out_done (column_of c.args.store.now) (column_of c.set_top.new.store) _ i _ c.args.n c.chain-chain.result c.requires.chain c.chain-chain.ensures.within
    (column_of c.set_prev.new.store i.col) c.link-before.result c.head_beside-head.result (record { col = refl; level = refl; count = c.set.ensures.len; heads = c.set.ensures.heads }) c.head_beside-head.ensures.first c.head_beside-head.ensures.kept c.head_beside-head.ensures.right c.head_beside-head.ensures.plain len load c.requires.held c.chain-chain.ensures.is c.link-before.ensures
    c.set_next.ensures.ends c.set_next.ensures.same c.set_prev.ensures.ends c.set_prev.ensures.same (λ m. c.set_prev.ensures.tags m ∙ c.set_next.ensures.tags m) (λ m. c.set_prev.ensures.ups m ∙ c.set_next.ensures.ups m)
    c.set_top.ensures.links c.set_top.ensures.tags (subst (KeepsOtherNodes (column_of c.set_prev.new.store i.col) (column_of c.set_top.new.store i.col)) c.node.ensures c.set_top.ensures.same) (λ m e. c.set_top.ensures.up m (c.node.ensures ∙ e)))
