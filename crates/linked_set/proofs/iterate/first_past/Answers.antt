use Rattle.std.proofs.Common.{ap}
use Rattle.std.specs.Range.Bound.{bound_map}
use Rattle.index_set.specs.Set.{list_of}
use Rattle.linked_set.proofs.WalksLeft.{past_unbounded}
use Rattle.linked_set.proofs.iterate.first_past.Goals as goal

pub returns-in-Unbounded : goal.returns-in-Unbounded
returns-in-Unbounded g c = past_unbounded _ _ (list_of c.args.set.now c.args.index) (ap (bound_map (λ p. p.now)) c.in-Unbounded.is)
