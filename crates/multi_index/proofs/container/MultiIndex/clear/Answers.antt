use Rattle.std.proofs.Common.{◌∙◌, ap, sym}
use Rattle.container_model.specs.Change.{cleared, spent}
use Rattle.container_model.proofs.Erased.{IsState-cleared}
use Rattle.linked_set.specs.Records.{state_of}
use Rattle.multi_index.proofs.Steps.{none_added, IsContainer-next}
use Rattle.multi_index.proofs.Allowed.{write_allowed}
use Rattle.multi_index.proofs.container.MultiIndex.clear.Goals as goal

pub invariant_of-self : goal.invariant_of-self
invariant_of-self g c =
    let has_key = g.E.Extract.has_key in
    let order = g.E.Extract.order_of in
    let inside = c.self.inside in
    let s = state_of inside.set inside.max inside.writes in
    IsContainer-next inside.set c.clear.new.self inside.max inside.writes c.self.invariant (none_added c.clear.ensures.added) (write_allowed s (ap spent c.self.view_is ∙ (sym c.spent.ensures ∙ c.in_default.is))) (c.clear.ensures.left inside.max inside.writes) (IsState-cleared has_key order s c.self.invariant.state)

pub returns-clause-ok : goal.returns-clause-ok
returns-clause-ok g c = c.clear.ensures.left c.self.inside.max c.self.inside.writes ∙ ap cleared c.self.view_is
