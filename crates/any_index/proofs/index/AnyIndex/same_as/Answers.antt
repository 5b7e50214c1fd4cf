use Rattle.std.proofs.Common.{◌∙◌}
use Rattle.any_index.proofs.Buckets.{hashed_but, same_in}
use Rattle.any_index.proofs.index.AnyIndex.same_as.Goals as goal

pub same_as-requires-in-Hashed-clause-others : goal.same_as-requires-in-Hashed-clause-others
same_as-requires-in-Hashed-clause-others g c =
    let others = rw c.in-Hashed.is at c.requires in
    hashed_but g.E.Extract c.args.store.now c.args.keys.now c.in-Hashed.buckets c.args.except others

pub returns-in-Ordered : goal.returns-in-Ordered
returns-in-Ordered g c = rw c.in-Ordered.is c.same_as.ensures

pub returns-in-Ranked : goal.returns-in-Ranked
returns-in-Ranked g c = rw c.in-Ranked.is c.same_as-in-Ranked.ensures

pub returns-in-Hashed : goal.returns-in-Hashed
returns-in-Hashed g c =
    let others = rw c.in-Hashed.is at c.requires in
    rw c.in-Hashed.is (c.same_as-in-Hashed.ensures ∙ same_in g.E.Extract c.args.store.now c.args.keys.now c.in-Hashed.buckets (g.met.E.Extract.order_total c.args.keys.now _) c.args.except c.args.r.now others)
