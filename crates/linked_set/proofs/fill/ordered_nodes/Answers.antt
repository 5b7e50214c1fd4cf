use Rattle.std.proofs.Common.{sym, subst, ◌∙◌}
use Rattle.std.proofs.lemmas.List.{map-id}
use Rattle.std.specs.List.{AllByRecursion}
use Rattle.node_store.specs.Store.{IsNodeOf}
use Rattle.index_set.specs.Set.{contents, store_of}
use Rattle.linked_set.specs.Linked.{entries_in, nodes_in}
use Rattle.linked_set.proofs.ByAge.{nodes_held}
use Rattle.linked_set.proofs.Restored.{each_ok, members_live}
use Rattle.linked_set.proofs.fill.ordered_nodes.Goals as goal

pub nodes_of-requires : goal.nodes_of-requires
nodes_of-requires g c = record {
  linked = c.requires.linked;
  live = members_live (entries_in (contents c.args.set.now)) c.args.order.now c.requires.linked.apart c.requires.members;
}

pub returns-in-Hashed-clause-nodes : goal.returns-in-Hashed-clause-nodes
returns-in-Hashed-clause-nodes g c =
    let s = store_of c.args.set.now in
    each_ok _ _ (λ nodes is. subst (AllByRecursion (IsNodeOf s)) (sym (is ∙ map-id (nodes_in (contents c.args.set.now)))) (nodes_held s c.requires.linked.sound.nodes)) c.by_age.result c.by_age.ensures

pub returns-in-Hashed-clause-aged : goal.returns-in-Hashed-clause-aged
returns-in-Hashed-clause-aged g c = each_ok _ _ (λ nodes is hashed. is ∙ map-id (nodes_in (contents c.args.set.now))) c.by_age.result c.by_age.ensures
