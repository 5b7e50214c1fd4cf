use Rattle.std.proofs.Common.{ap, sym, subst, ◌∙◌}
use Rattle.std.proofs.lemmas.List.{map-id}
use Rattle.std.specs.List.{AllByRecursion}
use Rattle.node_store.specs.Nodes.{Holds, IsDistinct}
use Rattle.node_store.specs.Store.{IsNodeOf, age_of}
use Rattle.node_store.proofs.ByNode.{added_kept}
use Rattle.index_set.specs.Set.{store_of, contents}
use Rattle.linked_set.specs.Linked.{nodes_in}
use Rattle.linked_set.specs.Refusal.{IsRefusal}
use Rattle.linked_set.proofs.ByAge.{nodes_rise, nodes_held, holds_each, distinct_by_age}
use Rattle.linked_set.proofs.Reindexed.{IsLinked_reindexed, no_clash_seen, refusal_seen, refusal_nodes, seen_kept, seen_indexed}
use Rattle.linked_set.proofs.index_changes.add_index.Goals as goal

pub add_index-requires : goal.add_index-requires
add_index-requires g c =
    let set = c.args.set.now in
    let linked = c.requires.linked in
    let by_age = c.deref.ensures.value ∙ c.in-Ok.ensures ∙ map-id (nodes_in (contents set)) in
    record {
      keys = c.requires.keys;
      orders = λ k d lt has. ap (λ order a b. order a.row b.row) (c.requires.orders k d lt has);
      hashes = λ k d lt has. ap (λ marks a. marks a.row) (c.requires.hashes k d lt has);
      nodes = subst (AllByRecursion (IsNodeOf (store_of set))) (sym by_age) (nodes_held (store_of set) linked.sound.nodes);
      distinct = subst IsDistinct (sym by_age) (distinct_by_age (age_of (store_of set)) (nodes_in (contents set)) (nodes_rise (store_of set) linked.sound.nodes));
      all = λ n is. subst (λ ns. Holds ns n) (sym by_age) (holds_each (store_of set) linked.sound.nodes n is);
    }

pub returns-in-Ok-add_index-clause-linked : goal.returns-in-Ok-add_index-clause-linked
returns-in-Ok-add_index-clause-linked g c =
    let e = c.add_index.ensures in
    IsLinked_reindexed c.args.set.now c.args.slots.now.items c.requires.linked c.add_index.new.self e.contents e.kept.filed.sound e.kept.filed.keyed e.kept.filed.unique

pub returns-in-Ok-add_index-clause-count : goal.returns-in-Ok-add_index-clause-count
returns-in-Ok-add_index-clause-count g c = added_kept (store_of c.args.set.now) (store_of c.add_index.new.self) c.add_index.ensures.contents

pub returns-in-Ok-add_index-clause-no_clash : goal.returns-in-Ok-add_index-clause-no_clash
returns-in-Ok-add_index-clause-no_clash g c =
    no_clash_seen c.args.set.now c.args.slots.now.items c.requires.linked c.args.spec c.args.keys c.deref.result.now (c.deref.ensures.value ∙ c.in-Ok.ensures ∙ map-id (nodes_in (contents c.args.set.now))) c.in-Ok-add_index.ensures.no_clash

pub told-requires : goal.told-requires
told-requires g c =
    refusal_nodes c.args.set.now c.args.slots.now.items c.requires.linked c.args.spec c.args.keys c.deref.result.now (c.deref.ensures.value ∙ c.in-Ok.ensures ∙ map-id (nodes_in (contents c.args.set.now))) c.add_index.new.self c.add_index.ensures.contents c.requires.room c.in-Err.refused.why c.in-Err.ensures.cause

pub returns-clause-linked : goal.returns-clause-linked
returns-clause-linked g c =
    let e = c.add_index.ensures in
    IsLinked_reindexed c.args.set.now c.args.slots.now.items c.requires.linked c.add_index.new.self e.contents e.kept.filed.sound e.kept.filed.keyed e.kept.filed.unique

pub returns-clause-count : goal.returns-clause-count
returns-clause-count g c = added_kept (store_of c.args.set.now) (store_of c.add_index.new.self) c.add_index.ensures.contents

pub returns-clause-why : goal.returns-clause-why
returns-clause-why g c =
    subst (IsRefusal _) (sym c.told.ensures)
    (refusal_seen c.args.set.now c.args.slots.now.items c.requires.linked c.args.spec c.args.keys c.deref.result.now (c.deref.ensures.value ∙ c.in-Ok.ensures ∙ map-id (nodes_in (contents c.args.set.now))) c.add_index.new.self c.add_index.ensures.contents c.requires.room c.in-Err.refused.why c.in-Err.ensures.cause)

pub returns-clause-same : goal.returns-clause-same
returns-clause-same g c max writes =
    let e = c.in-Err.ensures in
    seen_kept c.args.set.now c.args.slots.now.items c.requires.linked c.add_index.new.self max writes e.unchanged.same c.add_index.ensures.contents e.unchanged.lists

pub returns-in-Ok-add_index-clause-ok : goal.returns-in-Ok-add_index-clause-ok
returns-in-Ok-add_index-clause-ok g c max writes =
    let e = c.in-Ok-add_index.ensures in
    seen_indexed c.args.set.now c.args.slots.now.items c.requires.linked c.args.spec c.args.keys c.add_index.new.self max writes (ap (λ by. by.keys) e.keys) e.specs e.columns e.contents
    c.deref.result.now (c.deref.ensures.value ∙ c.in-Ok.ensures ∙ map-id (nodes_in (contents c.args.set.now))) e.lists
