use Rattle.std.proofs.Common.{refl, ◌∙◌}
use Rattle.hash_index.specs.Spelled as buckets
use Rattle.seq_index.proofs.Laws as seq
use Rattle.row_index.proofs.Laws as row
use Rattle.ord_tree.proofs.Laws as ord
use Rattle.any_index.specs.Keyed.{marks_of}
use Rattle.any_index.proofs.InTrees.{linked}
use Rattle.any_index.proofs.ByAge.{Lacks_moved, moved_by_age, moved_back}
use Rattle.any_index.proofs.Hashed.{list_entered_late, hashed_at}
use Rattle.hash_index.proofs.Laws.{IsHashed_moved}
use Rattle.any_index.proofs.Places.{insert_last}
use Rattle.node_store.specs.Store.{age_of}
use Rattle.any_index.proofs.index.AnyIndex.enter.Goals as goal

pub link-requires-in-Hashed-clause-new : goal.link-requires-in-Hashed-clause-new
link-requires-in-Hashed-clause-new g c =
    let new = rw c.in-Hashed.is at c.requires.node.new in
    Lacks_moved _ _ c.args.n (moved_back (age_of c.args.store.now) _) new

pub returns-in-Some-clause-sound : goal.returns-in-Some-clause-sound
returns-in-Some-clause-sound g c = seq.IsSound_from _ _ _ c.insert_at.ensures.list

pub returns-in-Some-clause-list : goal.returns-in-Some-clause-list
returns-in-Some-clause-list g c = rw (c.in-Sequenced.is, c.in-Some.is) (seq.spelled_is _ _ _ c.insert_at.ensures.list)

pub returns-in-None-clause-sound : goal.returns-in-None-clause-sound
returns-in-None-clause-sound g c = seq.IsSound_from _ _ _ c.push.ensures.list

pub returns-in-None-clause-list : goal.returns-in-None-clause-list
returns-in-None-clause-list g c = rw (c.in-Sequenced.is, c.in-None.is) (seq.spelled_is _ _ _ c.push.ensures.list ∙ insert_last _ c.args.n)

pub returns-in-Some-at-clause-sound : goal.returns-in-Some-at-clause-sound
returns-in-Some-at-clause-sound g c = row.IsSound_from _ _ _ c.insert_at-in-Some-at.ensures.list

pub returns-in-Some-at-clause-list : goal.returns-in-Some-at-clause-list
returns-in-Some-at-clause-list g c = rw (c.in-Random.is, c.in-Some-at.is) (row.spelled_is _ _ _ c.insert_at-in-Some-at.ensures.list)

pub returns-in-None-at-clause-sound : goal.returns-in-None-at-clause-sound
returns-in-None-at-clause-sound g c = row.IsSound_from _ _ _ c.push-in-None-at.ensures.list

pub returns-in-None-at-clause-list : goal.returns-in-None-at-clause-list
returns-in-None-at-clause-list g c = rw (c.in-Random.is, c.in-None-at.is) (row.spelled_is _ _ _ c.push-in-None-at.ensures.list ∙ insert_last _ c.args.n)

pub returns-in-Ordered-clause-sound : goal.returns-in-Ordered-clause-sound
returns-in-Ordered-clause-sound g c = ord.IsSound_from _ _ _ c.link.ensures.tree.list

pub returns-in-Ordered-clause-list : goal.returns-in-Ordered-clause-list
returns-in-Ordered-clause-list g c = rw c.in-Ordered.is (ord.spelled_is _ _ _ c.link.ensures.tree.list)

pub returns-in-Ordered-clause-keyed : goal.returns-in-Ordered-clause-keyed
returns-in-Ordered-clause-keyed g c =
    let filed = rw c.in-Ordered.is at c.requires.node.filed in
    let keys = c.args.keys.now in
    linked (g.E.Extract.order_of keys) (marks_of g.E.Extract keys) c.args.store.now c.link.new.store c.in-Ordered.tree c.link.new.self c.args.n (g.met.E.Extract.order_total keys _ filed.key) filed.keyed c.link.ensures.tree c.link.ensures.digested

pub returns-in-Ranked-clause-sound : goal.returns-in-Ranked-clause-sound
returns-in-Ranked-clause-sound g c = ord.IsSound_from _ _ _ c.link-in-Ranked.ensures.tree.list

pub returns-in-Ranked-clause-list : goal.returns-in-Ranked-clause-list
returns-in-Ranked-clause-list g c = rw c.in-Ranked.is (ord.spelled_is _ _ _ c.link-in-Ranked.ensures.tree.list)

pub returns-in-Ranked-clause-keyed : goal.returns-in-Ranked-clause-keyed
returns-in-Ranked-clause-keyed g c =
    let filed = rw c.in-Ranked.is at c.requires.node.filed in
    let keys = c.args.keys.now in
    linked (g.E.Extract.order_of keys) (marks_of g.E.Extract keys) c.args.store.now c.link-in-Ranked.new.store c.in-Ranked.tree c.link-in-Ranked.new.self c.args.n (g.met.E.Extract.order_total keys _ filed.key) filed.keyed c.link-in-Ranked.ensures.tree c.link-in-Ranked.ensures.digested

pub returns-in-Hashed-clause-list : goal.returns-in-Hashed-clause-list
returns-in-Hashed-clause-list g c = rw c.in-Hashed.is (list_entered_late c.args.store.now c.link-in-Hashed.new.store c.sound.ensures c.link-in-Hashed.new.self c.args.n _ c.link-in-Hashed.ensures.rest.contents c.link-in-Hashed.ensures.chain c.link-in-Hashed.ensures.list)

pub returns-in-Hashed-clause-keyed : goal.returns-in-Hashed-clause-keyed
returns-in-Hashed-clause-keyed g c =
    let keyed = rw c.in-Hashed.is at c.requires.node.filed.keyed in
    let hash = g.E.Extract.hash_of c.args.keys.now in
    let index = buckets.index_of c.in-Hashed.buckets in
    let col = buckets.col_of c.in-Hashed.buckets in
    hashed_at hash c.link-in-Hashed.new.store _ index _ col _ _ c.link-in-Hashed.ensures.rest.index c.link-in-Hashed.ensures.rest.col (moved_by_age (age_of c.link-in-Hashed.new.store) _)
    (c.link-in-Hashed.ensures.hashed (IsHashed_moved (hash index) c.args.store.now col _ _ (moved_back (age_of c.args.store.now) _) keyed))

pub link-requires-clause-last : goal.link-requires-clause-last
link-requires-clause-last g c = let last = rw c.in-Ordered.is at c.requires.goes.last in λ m e. last m e refl

pub link-requires-in-Ranked-clause-last : goal.link-requires-in-Ranked-clause-last
link-requires-in-Ranked-clause-last g c = let last = rw c.in-Ranked.is at c.requires.goes.last in λ m e. last m e refl
