use Rattle.hash_index.specs.Spelled as buckets
use Rattle.ord_tree.proofs.Laws as ord
use Rattle.hash_index.proofs.Laws.{IsHashed_moved}
use Rattle.any_index.specs.Keyed.{marks_of}
use Rattle.any_index.proofs.Buckets.{in_buckets}
use Rattle.any_index.proofs.InTrees.{settled_in}
use Rattle.any_index.proofs.ByAge.{moved_by_age, moved_back, without_moved}
use Rattle.any_index.proofs.Hashed.{list_stays, hashed_at}
use Rattle.node_store.specs.Store.{age_of}
use Rattle.any_index.proofs.index.AnyIndex.settle.Goals as goal

pub settle-requires-in-Hashed-clause-node : goal.settle-requires-in-Hashed-clause-node
settle-requires-in-Hashed-clause-node g c =
    let node = rw c.in-Hashed.is at c.requires.node in
    in_buckets c.args.store.now c.in-Hashed.buckets c.args.n node

pub returns-in-Ordered-clause-sound : goal.returns-in-Ordered-clause-sound
returns-in-Ordered-clause-sound g c = ord.IsSound_from _ _ _ c.settle.ensures.tree.list

pub returns-in-Ordered-clause-list : goal.returns-in-Ordered-clause-list
returns-in-Ordered-clause-list g c = rw c.in-Ordered.is (ord.spelled_is _ _ _ c.settle.ensures.tree.list)

pub returns-in-Ordered-clause-keyed : goal.returns-in-Ordered-clause-keyed
returns-in-Ordered-clause-keyed g c =
    let others = rw c.in-Ordered.is at c.requires in
    let node = rw c.in-Ordered.is at c.requires.node in
    let keys = c.args.keys.now in
    settled_in (g.E.Extract.order_of keys) (marks_of g.E.Extract keys) c.args.store.now c.settle.new.store c.in-Ordered.tree c.settle.new.self c.args.n (g.met.E.Extract.order_total keys _ others.key) (record { tree = node.sound; held = node.held }) others.keyed c.settle.ensures.tree c.settle.ensures.digested

pub returns-in-Ranked-clause-sound : goal.returns-in-Ranked-clause-sound
returns-in-Ranked-clause-sound g c = ord.IsSound_from _ _ _ c.settle-in-Ranked.ensures.tree.list

pub returns-in-Ranked-clause-list : goal.returns-in-Ranked-clause-list
returns-in-Ranked-clause-list g c = rw c.in-Ranked.is (ord.spelled_is _ _ _ c.settle-in-Ranked.ensures.tree.list)

pub returns-in-Ranked-clause-keyed : goal.returns-in-Ranked-clause-keyed
returns-in-Ranked-clause-keyed g c =
    let others = rw c.in-Ranked.is at c.requires in
    let node = rw c.in-Ranked.is at c.requires.node in
    let keys = c.args.keys.now in
    settled_in (g.E.Extract.order_of keys) (marks_of g.E.Extract keys) c.args.store.now c.settle-in-Ranked.new.store c.in-Ranked.tree c.settle-in-Ranked.new.self c.args.n (g.met.E.Extract.order_total keys _ others.key) (record { tree = node.sound; held = node.held }) others.keyed c.settle-in-Ranked.ensures.tree c.settle-in-Ranked.ensures.digested

pub returns-in-Hashed-clause-list : goal.returns-in-Hashed-clause-list
returns-in-Hashed-clause-list g c =
    let sound = rw c.in-Hashed.is at c.requires.node.sound in
    rw c.in-Hashed.is (list_stays c.args.store.now c.settle-in-Hashed.new.store c.sound.ensures c.in-Hashed.buckets _ c.settle-in-Hashed.ensures.rest.contents sound c.settle-in-Hashed.ensures.list)

pub returns-in-Hashed-clause-keyed : goal.returns-in-Hashed-clause-keyed
returns-in-Hashed-clause-keyed g c =
    let keyed = rw c.in-Hashed.is at c.requires.keyed in
    let hash = g.E.Extract.hash_of c.args.keys.now in
    let index = buckets.index_of c.in-Hashed.buckets in
    let col = buckets.col_of c.in-Hashed.buckets in
    hashed_at hash c.settle-in-Hashed.new.store _ index _ col _ _ c.settle-in-Hashed.ensures.rest.index c.settle-in-Hashed.ensures.rest.col (moved_by_age (age_of c.settle-in-Hashed.new.store) _)
    (c.settle-in-Hashed.ensures.hashed (IsHashed_moved (hash index) c.args.store.now col _ _ (without_moved _ _ c.args.n (moved_back (age_of c.args.store.now) _)) keyed))
