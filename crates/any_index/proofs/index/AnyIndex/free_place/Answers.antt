use Rattle.std.proofs.Common.{None, sym, ◌∙◌}
use Rattle.any_index.proofs.Buckets.{hashed_but, same_in}
use Rattle.any_index.proofs.index.AnyIndex.free_place.Goals as goal

pub returns-in-Ordered-clause-place : goal.returns-in-Ordered-clause-place
returns-in-Ordered-clause-place g c = rw c.in-Ordered.is c.free_place.ensures.place

pub returns-in-Ordered-clause-taken : goal.returns-in-Ordered-clause-taken
returns-in-Ordered-clause-taken g c = rw c.in-Ordered.is c.free_place.ensures.taken

pub returns-in-Ranked-clause-place : goal.returns-in-Ranked-clause-place
returns-in-Ranked-clause-place g c = rw c.in-Ranked.is c.free_place-in-Ranked.ensures.place

pub returns-in-Ranked-clause-taken : goal.returns-in-Ranked-clause-taken
returns-in-Ranked-clause-taken g c = rw c.in-Ranked.is c.free_place-in-Ranked.ensures.taken

pub same_as-requires-clause-others : goal.same_as-requires-clause-others
same_as-requires-clause-others g c =
    let filed = rw c.in-Hashed.is at c.requires in
    hashed_but g.E.Extract c.args.store.now c.args.keys.now c.in-Hashed.buckets None filed

pub returns-in-Some-clause-taken : goal.returns-in-Some-clause-taken
returns-in-Some-clause-taken g c =
    let filed = rw c.in-Hashed.is at c.requires in
    rw c.in-Hashed.is (sym (c.same_as.ensures ∙ same_in g.E.Extract c.args.store.now c.args.keys.now c.in-Hashed.buckets (g.met.E.Extract.order_total c.args.keys.now _) None c.args.r.now filed) ∙ c.in-Some.is)

pub returns-in-None-clause-free : goal.returns-in-None-clause-free
returns-in-None-clause-free g c =
    let filed = rw c.in-Hashed.is at c.requires in
    rw c.in-Hashed.is (sym (c.same_as.ensures ∙ same_in g.E.Extract c.args.store.now c.args.keys.now c.in-Hashed.buckets (g.met.E.Extract.order_total c.args.keys.now _) None c.args.r.now filed) ∙ c.in-None.is)

pub returns-in-Ordered-clause-free : goal.returns-in-Ordered-clause-free
returns-in-Ordered-clause-free g c = rw c.in-Ordered.is c.free_place.ensures.free

pub returns-in-Ranked-clause-free : goal.returns-in-Ranked-clause-free
returns-in-Ranked-clause-free g c = rw c.in-Ranked.is c.free_place-in-Ranked.ensures.free
