use Rattle.ord_tree.proofs.Digested.{put_digests}
use Rattle.std.proofs.Common.{refl}
use Rattle.ord_tree.proofs.TreeLinks.{SetsUp-some}
use Rattle.ord_tree.proofs.steps.set_up.Goals as goal

pub returns-in-Some-clause-up : goal.returns-in-Some-clause-up
returns-in-Some-clause-up g c = rw c.in-Some.is (SetsUp-some g.T.Tally.of _ _ _ _ _ c.link-link.ensures c.set_link.ensures.put)

pub returns-in-Some-clause-digests : goal.returns-in-Some-clause-digests
returns-in-Some-clause-digests g c = put_digests _ _ c.in-Some.n c.link-link.result _ c.link-link.ensures c.set_link.ensures.put refl
