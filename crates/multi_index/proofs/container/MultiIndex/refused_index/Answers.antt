use Rattle.std.proofs.Common.{◌∙◌, ap}
use Rattle.linked_set.specs.Records.{state_of}
use Rattle.multi_index.proofs.Steps.{IsContainer-same}
use Rattle.linked_set.proofs.Asked.{with_alone}
use Rattle.multi_index.proofs.container.MultiIndex.refused_index.Goals as goal

pub check_index-checked-requires-clause-keys : goal.check_index-checked-requires-clause-keys
check_index-checked-requires-clause-keys g c = with_alone c.self.inside.set c.self.inside.max c.self.inside.writes c.self.view_is g.E.Extract.has_key g.E.Extract.order_of g.E.Extract.hash_of c.args.spec c.args.keys c.requires.keys

pub invariant_of-self : goal.invariant_of-self
invariant_of-self g c = IsContainer-same c.check_index-checked.ensures.unchanged c.self.invariant

pub returns-clause-unchanged : goal.returns-clause-unchanged
returns-clause-unchanged g c = ap (λ r. state_of r c.self.inside.max c.self.inside.writes) c.check_index-checked.ensures.unchanged ∙ c.self.view_is
