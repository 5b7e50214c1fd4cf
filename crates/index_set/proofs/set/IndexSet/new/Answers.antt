use Rattle.std.proofs.Common.{None, [], length, map, sym, ap, ◌∙◌, subst, arith}
use Rattle.node_store.specs.ByNode.{columns_in, record_of}
use Rattle.node_store.specs.Store.{IsStore, width_of}
use Rattle.any_index.specs.Keyed.{marks_of}
use Rattle.index_set.specs.Indices.{ArePlaced, AreWithin}
use Rattle.index_set.specs.Lists.{AreUniqueFrom}
use Rattle.index_set.proofs.Coming.{keyed_empty}
use Rattle.index_set.proofs.Holding.{held_none}
use Rattle.index_set.proofs.Keys.{unique_empty}
use Rattle.index_set.proofs.Stores.{IsStore_empty, no_node_of_empty}
use Rattle.index_set.proofs.set.IndexSet.new.Goals as goal

pub returns-clause-lists : goal.returns-clause-lists
returns-clause-lists g c = c.in_ok-indices.ensures.empty (columns_in c.new.result) ∙ ap (map (λ _. [])) c.deref.ensures.value

pub invariant_of-result : goal.invariant_of-result
invariant_of-result g c =
    let made = c.in_ok-indices.ensures in
    let specs = c.args.specs.items in
    let indices = c.in_ok-indices.indices.items in
    let store = c.new.result in
    let order = g.E.Extract.order_of c.args.keys in
    let placed = subst (λ ds. ArePlaced (columns_in store) ds indices) c.deref.ensures.value (made.placed (columns_in store)) in
    let within = subst (λ ds. AreWithin (length ds) ds indices) c.deref.ensures.value made.within in
    let empty = made.empty (columns_in store) ∙ ap (map (λ _. [])) c.deref.ensures.value in
    record {
      filed = record {
        sound = record {
          some = c.requires.some;
          few = omega (arith, c.requires.few, c.requires.most);
          keys = c.requires.keys;
          placed = placed;
          nodes = subst IsStore (sym c.new.ensures.empty) (IsStore_empty (width_of store));
          columns = c.requires.few;
          most = c.requires.most;
          within = record { each = λ j d e lt. let below = within.each j d e lt in omega (arith, below, c.requires.few) };
          wide = c.new.ensures.enough;
        };
        keyed = keyed_empty order (marks_of g.E.Extract c.args.keys) store specs indices placed.one_each empty;
        unique = subst (λ lists. AreUniqueFrom order (record_of store) None 0 specs lists) (sym empty) (unique_empty order (record_of store) 0 specs);
      };
      held = held_none _ (no_node_of_empty store c.new.ensures.empty);
    }

pub returns-clause-kept : goal.returns-clause-kept
returns-clause-kept g c = invariant_of-result g c
