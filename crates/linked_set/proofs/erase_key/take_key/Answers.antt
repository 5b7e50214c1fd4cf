use Rattle.std.proofs.Common.{ap, ◌∙◌, map}
use Rattle.std.specs.Prelude.{filter}
use Rattle.node_store.proofs.ByNode.{added_kept, len_kept}
use Rattle.index_set.specs.Set.{store_of, record_of, lists_of}
use Rattle.linked_set.specs.Linked.{entries_in, handles_in}
use Rattle.linked_set.proofs.Sinking.{same_test}
use Rattle.linked_set.proofs.erase_key.take_key.Goals as goal

pub returns-clause-entries : goal.returns-clause-entries
returns-clause-entries g c = elim c.if-count-gt-FEW.branch [
  | goal.then-count-gt-FEW w ↦
      let sunk = w.sink_key.ensures in
      let test = same_test g.E.Extract.probe_order_of c.args.index c.args.probe.now c.args.set.now w.sink_key.new.set sunk.same sunk.contents in
      let taken = rw w.set-is at c.take_each.ensures.entries in
      taken ∙ (λ i. filter (λ e. test i e.handle) (entries_in (sunk.contents i)))
  | goal.else-count-gt-FEW w ↦ rw w.set-is at c.take_each.ensures.entries
]

pub returns-clause-lists : goal.returns-clause-lists
returns-clause-lists g c = elim c.if-count-gt-FEW.branch [
  | goal.then-count-gt-FEW w ↦
      let sunk = w.sink_key.ensures in
      let mid = w.sink_key.new.set in
      let taken = rw w.set-is at c.take_each.ensures.lists in
      taken
      ∙ (ap (λ test. map (λ list. filter test list) (handles_in (record_of mid) (lists_of mid))) (same_test g.E.Extract.probe_order_of c.args.index c.args.probe.now c.args.set.now mid sunk.same sunk.contents)
      ∙ sunk.lists)
  | goal.else-count-gt-FEW w ↦ rw w.set-is at c.take_each.ensures.lists
]

pub returns-clause-added : goal.returns-clause-added
returns-clause-added g c = elim c.if-count-gt-FEW.branch [
  | goal.then-count-gt-FEW w ↦
      let taken = rw w.set-is at c.take_each.ensures.added in
      taken ∙ added_kept (store_of c.args.set.now) (store_of w.sink_key.new.set) w.sink_key.ensures.contents
  | goal.else-count-gt-FEW w ↦ rw w.set-is at c.take_each.ensures.added
]

pub returns-clause-count : goal.returns-clause-count
returns-clause-count g c = elim c.if-count-gt-FEW.branch [
  | goal.then-count-gt-FEW w ↦
      let taken = rw w.set-is at c.take_each.ensures.count in
      taken ∙ len_kept (store_of c.args.set.now) (store_of w.sink_key.new.set) w.sink_key.ensures.contents
  | goal.else-count-gt-FEW w ↦ rw w.set-is at c.take_each.ensures.count
]
