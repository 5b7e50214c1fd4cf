use Rattle.std.proofs.Common.{sym, ◌∙◌}
use Rattle.node_store.proofs.Age.{last_node}
use Rattle.index_set.proofs.Emptied.{none_left}
use Rattle.index_set.proofs.Stores.{IsStore_removed}
use Rattle.index_set.proofs.clear.remove_all.Goals as goal

pub remove-requires : goal.remove-requires
remove-requires g c = (last_node c.loop-n.store c.loop-n.store.added c.in-Some.n c.loop-n.invariant.sound (sym c.newest.ensures ∙ c.in-Some.is)).node

pub loop-n-preserved : goal.loop-n-preserved
loop-n-preserved g c = record {
  sound =
      IsStore_removed c.loop-n.store c.remove.new.self c.in-Some.n
      (last_node c.loop-n.store c.loop-n.store.added c.in-Some.n c.loop-n.invariant.sound (sym c.newest.ensures ∙ c.in-Some.is)).node
      c.remove.ensures.removed c.remove.ensures.count c.loop-n.invariant.sound;
  count = c.remove.ensures.count ∙ c.loop-n.invariant.count;
  width = c.remove.ensures.removed.width ∙ c.loop-n.invariant.width;
}

pub returns-clause-nodes : goal.returns-clause-nodes
returns-clause-nodes g c = none_left c.loop-n.store c.loop-n.invariant.sound (sym c.newest.ensures ∙ c.in_default.is)
