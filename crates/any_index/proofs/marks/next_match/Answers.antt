use Rattle.any_index.proofs.Buckets.{can_search}
use Rattle.any_index.proofs.marks.next_match.Goals as goal

pub next_of-requires-clause-search : goal.next_of-requires-clause-search
next_of-requires-clause-search g c =
    let find = rw c.in-Hashed.is at c.requires.find in
    can_search g.E.Extract c.args.store.now c.args.keys.now c.in-Hashed.buckets c.args.probe.now find
