use Rattle.seq_index.proofs.Laws as seq
use Rattle.row_index.proofs.Laws as row
use Rattle.ord_tree.proofs.Laws as ord
use Rattle.hash_index.proofs.Laws as hash
use Rattle.any_index.specs.Keyed.{hash_by}
use Rattle.any_index.proofs.InTrees.{unlinked}
use Rattle.any_index.proofs.Buckets.{in_buckets}
use Rattle.any_index.proofs.Hashed.{list_leaves, keeps_hashed_list}
use Rattle.any_index.proofs.index.AnyIndex.leave.Goals as goal

pub unlink-requires-in-Hashed : goal.unlink-requires-in-Hashed
unlink-requires-in-Hashed g c =
    let node = rw c.in-Hashed.is at c.requires in
    in_buckets c.args.store.now c.in-Hashed.buckets c.args.n node

pub returns-in-Sequenced-clause-sound : goal.returns-in-Sequenced-clause-sound
returns-in-Sequenced-clause-sound g c = seq.IsSound_from _ _ _ c.unlink.ensures.chain.list

pub returns-in-Sequenced-clause-list : goal.returns-in-Sequenced-clause-list
returns-in-Sequenced-clause-list g c = rw c.in-Sequenced.is (seq.spelled_is _ _ _ c.unlink.ensures.chain.list)

pub returns-in-Random-clause-sound : goal.returns-in-Random-clause-sound
returns-in-Random-clause-sound g c = row.IsSound_from _ _ _ c.unlink-in-Random.ensures.row.list

pub returns-in-Random-clause-list : goal.returns-in-Random-clause-list
returns-in-Random-clause-list g c = rw c.in-Random.is (row.spelled_is _ _ _ c.unlink-in-Random.ensures.row.list)

pub returns-in-Ordered-clause-sound : goal.returns-in-Ordered-clause-sound
returns-in-Ordered-clause-sound g c = ord.IsSound_from _ _ _ c.unlink-in-Ordered.ensures.tree.list

pub returns-in-Ordered-clause-list : goal.returns-in-Ordered-clause-list
returns-in-Ordered-clause-list g c = rw c.in-Ordered.is (ord.spelled_is _ _ _ c.unlink-in-Ordered.ensures.tree.list)

pub returns-in-Ordered-clause-keyed : goal.returns-in-Ordered-clause-keyed
returns-in-Ordered-clause-keyed g c = λ order marks h.
    let keyed = rw c.in-Ordered.is at h in
    unlinked order marks c.args.store.now c.unlink-in-Ordered.new.store c.in-Ordered.tree c.unlink-in-Ordered.new.self c.args.n c.unlink-in-Ordered.ensures.tree c.unlink-in-Ordered.ensures.digests keyed

pub returns-in-Ranked-clause-sound : goal.returns-in-Ranked-clause-sound
returns-in-Ranked-clause-sound g c = ord.IsSound_from _ _ _ c.unlink-in-Ranked.ensures.tree.list

pub returns-in-Ranked-clause-list : goal.returns-in-Ranked-clause-list
returns-in-Ranked-clause-list g c = rw c.in-Ranked.is (ord.spelled_is _ _ _ c.unlink-in-Ranked.ensures.tree.list)

pub returns-in-Ranked-clause-keyed : goal.returns-in-Ranked-clause-keyed
returns-in-Ranked-clause-keyed g c = λ order marks h.
    let keyed = rw c.in-Ranked.is at h in
    unlinked order marks c.args.store.now c.unlink-in-Ranked.new.store c.in-Ranked.tree c.unlink-in-Ranked.new.self c.args.n c.unlink-in-Ranked.ensures.tree c.unlink-in-Ranked.ensures.digests keyed

pub returns-in-Hashed-clause-list : goal.returns-in-Hashed-clause-list
returns-in-Hashed-clause-list g c =
    let sound = rw c.in-Hashed.is at c.requires.sound in
    rw c.in-Hashed.is (list_leaves c.args.store.now c.unlink-in-Hashed.new.store c.sound.ensures c.in-Hashed.buckets c.args.n _ c.unlink-in-Hashed.ensures.rest.contents sound (hash.spelled_is _ _ _ c.unlink-in-Hashed.ensures.list))

pub returns-in-Hashed-clause-keyed : goal.returns-in-Hashed-clause-keyed
returns-in-Hashed-clause-keyed g c = λ order marks h.
    let sound = rw c.in-Hashed.is at c.requires.sound in
    let keyed = rw c.in-Hashed.is at h in
    keeps_hashed_list (λ k. hash_by (marks k)) c.args.store.now c.unlink-in-Hashed.new.store c.in-Hashed.buckets c.unlink-in-Hashed.new.self _ _ c.unlink-in-Hashed.ensures.rest.index c.unlink-in-Hashed.ensures.rest.col c.unlink-in-Hashed.ensures.tags c.unlink-in-Hashed.ensures.rest.contents
    (list_leaves c.args.store.now c.unlink-in-Hashed.new.store c.sound.ensures c.in-Hashed.buckets c.args.n _ c.unlink-in-Hashed.ensures.rest.contents sound (hash.spelled_is _ _ _ c.unlink-in-Hashed.ensures.list)) keyed
