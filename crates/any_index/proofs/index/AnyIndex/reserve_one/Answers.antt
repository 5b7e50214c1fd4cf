use Rattle.any_index.specs.Keyed.{hash_by}
use Rattle.any_index.proofs.Hashed.{list_stays, keeps_hashed}
use Rattle.any_index.proofs.index.AnyIndex.reserve_one.Goals as goal

pub returns-in-Hashed-clause-list : goal.returns-in-Hashed-clause-list
returns-in-Hashed-clause-list g c =
    let sound = rw c.in-Hashed.is at c.requires in
    rw c.in-Hashed.is (list_stays c.args.store.now c.reserve_one-in-Hashed.new.store c.sound.ensures c.in-Hashed.buckets _ c.reserve_one-in-Hashed.ensures.rest.contents sound c.reserve_one-in-Hashed.ensures.list)

pub returns-in-Hashed-clause-keyed : goal.returns-in-Hashed-clause-keyed
returns-in-Hashed-clause-keyed g c = λ order marks h.
    let keyed = rw c.in-Hashed.is at h in
    keeps_hashed (λ k. hash_by (marks k)) c.args.store.now c.reserve_one-in-Hashed.new.store c.in-Hashed.buckets c.reserve_one-in-Hashed.new.self c.reserve_one-in-Hashed.ensures.rest.index c.reserve_one-in-Hashed.ensures.rest.col c.reserve_one-in-Hashed.ensures.tags c.reserve_one-in-Hashed.ensures.rest.contents c.reserve_one-in-Hashed.ensures.list keyed

pub returns-in-Ordered-clause-full : goal.returns-in-Ordered-clause-full
returns-in-Ordered-clause-full g c = rw c.in-Ordered.is c.reserve_one-in-Ordered.ensures.full

pub returns-in-Ranked-clause-full : goal.returns-in-Ranked-clause-full
returns-in-Ranked-clause-full g c = rw c.in-Ranked.is c.reserve_one-in-Ranked.ensures.full
