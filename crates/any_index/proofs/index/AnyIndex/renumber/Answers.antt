use Rattle.std.proofs.Common.{ap, ◌∙◌, refl}
use Rattle.node_store.specs.ByNode.{column_of}
use Rattle.node_store.specs.Store.{age_of}
use Rattle.hash_index.specs.Spelled as buckets
use Rattle.hash_index.proofs.Laws as hash
use Rattle.key_extract.specs.Digests.{Marks}
use Rattle.any_index.specs.Keyed.{hash_by}
use Rattle.any_index.specs.Spelled.{by_age}
use Rattle.any_index.proofs.Renumbered.{tree_by, hashed_by}
use Rattle.any_index.proofs.index.AnyIndex.renumber.Goals as goal

pub returns-in-Ordered-clause-keyed : goal.returns-in-Ordered-clause-keyed
returns-in-Ordered-clause-keyed g c = λ order after marks marks_after same same_marks h.
    let key = (rw c.in-Ordered.is at same) refl in
    let marked = (rw c.in-Ordered.is at same_marks) refl in
    let keyed = rw c.in-Ordered.is at h in
    tree_by c.args.store.now order after marks marks_after c.in-Ordered.tree c.renumber.new.self c.args.index c.renumber.ensures.index c.renumber.ensures.col (c.renumber.ensures.spelled (column_of c.args.store.now)) key marked keyed

pub returns-in-Ranked-clause-keyed : goal.returns-in-Ranked-clause-keyed
returns-in-Ranked-clause-keyed g c = λ order after marks marks_after same same_marks h.
    let key = (rw c.in-Ranked.is at same) refl in
    let marked = (rw c.in-Ranked.is at same_marks) refl in
    let keyed = rw c.in-Ranked.is at h in
    tree_by c.args.store.now order after marks marks_after c.in-Ranked.tree c.renumber-in-Ranked.new.self c.args.index c.renumber-in-Ranked.ensures.index c.renumber-in-Ranked.ensures.col (c.renumber-in-Ranked.ensures.spelled (column_of c.args.store.now)) key marked keyed

pub returns-in-Hashed-clause-keyed : goal.returns-in-Hashed-clause-keyed
returns-in-Hashed-clause-keyed g c = λ order after marks marks_after same same_marks h.
    let keyed = rw c.in-Hashed.is at h in
    let key = (rw c.in-Hashed.is at same_marks) refl in
    hashed_by c.args.store.now (hash_by (marks (buckets.index_of c.in-Hashed.buckets))) (hash_by (marks_after (buckets.index_of c.renumber-in-Hashed.new.self))) (buckets.col_of c.in-Hashed.buckets) _ (by_age (age_of c.args.store.now) (buckets.spelled (column_of c.args.store.now) c.in-Hashed.buckets)) _
    (ap (λ (f : _ → Marks). hash_by f) (ap marks_after c.renumber-in-Hashed.ensures.index ∙ key)) c.renumber-in-Hashed.ensures.col (ap (by_age (age_of c.args.store.now)) (c.renumber-in-Hashed.ensures.spelled (column_of c.args.store.now))) keyed

pub returns-in-Hashed-clause-sound : goal.returns-in-Hashed-clause-sound
returns-in-Hashed-clause-sound g c = λ h.
    let sound = rw c.in-Hashed.is at h in
    hash.IsSound_from (column_of c.args.store.now) c.renumber-in-Hashed.new.self _ (c.renumber-in-Hashed.ensures.list (age_of c.args.store.now) (column_of c.args.store.now) _ sound)
