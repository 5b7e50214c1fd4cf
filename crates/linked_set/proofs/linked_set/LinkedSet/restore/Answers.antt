use Rattle.linked_set.proofs.Written.{listed_by}
use Rattle.linked_set.proofs.linked_set.LinkedSet.restore.Goals as goal

pub invariant_of-result : goal.invariant_of-result
invariant_of-result g c =
    let e = c.in-Ok.ensures in
    record { linked = e.linked; listed = listed_by g.E.Extract.order_of c.in-Ok.set 0 0 _ (e.seen 0 0) e.fits }
