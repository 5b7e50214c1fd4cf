use Rattle.std.proofs.Common.{Some, sym, ap, subst, ◌∙◌, arith}
use Rattle.std.proofs.lemmas.Option.{same_Some}
use Rattle.node_store.specs.declared.Link.{Link}
use Rattle.node_store.specs.Store.{IsNodeOf}
use Rattle.node_store.proofs.ByNode.{node_in_column, IsNodeOf_kept, width_kept}
use Rattle.index_tests.proofs.store.keeps_links.Goals as goal

pub link-link-requires : goal.link-link-requires
link-link-requires c = node_in_column c.args.store.now 1 c.args.a (omega (arith, c.requires.columns)) c.requires.node

pub link-beside-requires : goal.link-beside-requires
link-beside-requires c =
    node_in_column c.set_link.new.self 2 c.args.a (omega (arith, c.requires.columns, width_kept c.args.store.now c.set_link.new.self c.set_link.ensures.contents)) (IsNodeOf_kept c.args.store.now c.set_link.new.self c.args.a c.set_link.ensures.contents c.requires.node)

pub is_node-requires-clause-node : goal.is_node-requires-clause-node
is_node-requires-clause-node c = IsNodeOf_kept c.args.store.now c.set_link.new.self c.args.b c.set_link.ensures.contents c.requires.other

pub is_node-requires-clause-other : goal.is_node-requires-clause-other
is_node-requires-clause-other c m e =
    let read = same_Some _ _ (sym c.link-written.ensures ∙ c.set_link.ensures.put.at) in
    let is_b = same_Some _ _ (sym (ap (λ (l : Link). l.b) read) ∙ e) in
    subst (IsNodeOf c.set_link.new.self) is_b (is_node-requires-clause-node c)
