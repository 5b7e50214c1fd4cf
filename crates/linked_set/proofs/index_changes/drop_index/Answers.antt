use Rattle.std.proofs.Common.{ap}
use Rattle.node_store.proofs.ByNode.{added_kept}
use Rattle.index_set.specs.Set.{store_of}
use Rattle.linked_set.proofs.Reindexed.{IsLinked_reindexed, seen_unindexed}
use Rattle.linked_set.proofs.index_changes.drop_index.Goals as goal

pub returns-clause-linked : goal.returns-clause-linked
returns-clause-linked g c =
    let e = c.drop_index.ensures in
    IsLinked_reindexed c.args.set.now c.args.slots.now.items c.requires.linked c.drop_index.new.self e.contents e.kept.filed.sound e.kept.filed.keyed e.kept.filed.unique

pub returns-clause-count : goal.returns-clause-count
returns-clause-count g c = added_kept (store_of c.args.set.now) (store_of c.drop_index.new.self) c.drop_index.ensures.contents

pub returns-clause-ok : goal.returns-clause-ok
returns-clause-ok g c max writes =
    let e = c.drop_index.ensures in
    seen_unindexed c.args.set.now c.args.slots.now.items c.requires.linked c.drop_index.new.self c.args.index c.args.keys max writes (ap (λ by. by.keys) e.keys) e.specs e.columns e.contents e.lists
