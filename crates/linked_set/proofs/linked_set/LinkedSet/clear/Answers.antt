use Rattle.any_index.specs.Keyed.{marks_of}
use Rattle.std.proofs.Common.{◌∙◌, ap, sym, subst}
use Rattle.container_model.specs.Change.{cleared}
use Rattle.linked_set.specs.Records.{IsWhole, state_of}
use Rattle.linked_set.proofs.Cleared.{IsWhole-cleared, seen_cleared}
use Rattle.linked_set.proofs.linked_set.LinkedSet.clear.Goals as goal

pub invariant_of-self : goal.invariant_of-self
invariant_of-self g c =
    let made = c.clear.ensures in
    subst (λ slots. IsWhole g.E.Extract.has_key g.E.Extract.order_of (marks_of g.E.Extract) c.clear.new.self slots) (sym c.clear-2.ensures.items)
    (IsWhole-cleared c.self.inside.set c.clear.new.self made.same made.lists made.none
    g.E.Extract.has_key g.E.Extract.order_of (marks_of g.E.Extract) made.kept.filed.sound made.kept.filed.keyed made.kept.filed.unique made.nodes)

pub returns-clause-left : goal.returns-clause-left
returns-clause-left g c max writes =
    let made = c.clear.ensures in
    seen_cleared c.self.inside.set c.clear.new.self made.same made.lists made.none max writes ∙ ap (λ r. cleared (state_of r max writes)) c.self.view_is
