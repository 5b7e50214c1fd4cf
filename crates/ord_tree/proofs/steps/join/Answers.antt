use Rattle.std.proofs.Common.{refl, ◌∙◌}
use Rattle.ord_tree.proofs.Digested.{put_digests}
use Rattle.ord_tree.proofs.TreeLinks.{Joins-from}
use Rattle.ord_tree.proofs.steps.join.Goals as goal

pub returns-clause-joined : goal.returns-clause-joined
returns-clause-joined g c = Joins-from g.T.Tally.of _ _ _ _ c.args.left c.args.n c.args.right _ c.link.result.digest (rw (c.max-height.ensures, c.height_of.ensures, c.height_of-2.ensures, c.of.ensures, c.tally_of.ensures, c.tally_of-2.ensures) refl) c.set_link.ensures.put c.set_up.ensures.up c.set_up-2.ensures.up

pub returns-clause-digests : goal.returns-clause-digests
returns-clause-digests g c = λ m. c.set_up-2.ensures.digests m ∙ (c.set_up.ensures.digests m ∙ put_digests _ _ c.args.n c.link.result _ c.link.ensures c.set_link.ensures.put refl m)
