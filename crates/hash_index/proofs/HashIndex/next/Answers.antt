use Rattle.std.proofs.Common.{List, sym, ap, ◌∙◌, subst}
use Rattle.node_store.specs.declared.Node.{Node}
use Rattle.node_store.specs.Nodes.{IsDistinct}
use Rattle.node_store.specs.ByNode.{column_of, same_node}
use Rattle.list_model.specs.Walk.{next}
use Rattle.seq_index.proofs.Walks.{next_at}
use Rattle.hash_index.specs.Spelled.{Spells}
use Rattle.hash_index.proofs.Spelling.{held_node, some_chain}
use Rattle.node_store.specs.Store.{age_of}
use Rattle.hash_index.proofs.HashIndex.next.Goals as goal

pub link-requires : goal.link-requires
link-requires g c = held_node _ _ _ c.args.n c.requires.chain c.requires.held

pub after-requires : goal.after-requires
after-requires g c = some_chain _ _ _ c.args.n c.requires.chain c.requires.held

pub returns : goal.returns
returns g c =
    let held = c.requires.held in
    let cs = column_of c.args.store.now in
    c.after.ensures (age_of c.args.store.now) cs held.before c.args.n held.after (subst (λ z. Spells (age_of c.args.store.now) (column_of c.args.store.now) c.args.self.now z) held.is c.requires.chain) c.link.ensures
    ∙ sym (ap (λ (z : List Node). next (same_node c.args.n) z) held.is ∙ next_at held.before c.args.n held.after (subst IsDistinct held.is c.requires.chain.distinct))
