use Rattle.std.proofs.Common.{◌∙◌, ap, sym}
use Rattle.container_model.specs.State.{row_of}
use Rattle.index_set.specs.Set.{store_of}
use Rattle.linked_set.proofs.LeadsTo.{row_of_live}
use Rattle.linked_set.proofs.Live.{none_seen}
use Rattle.linked_set.proofs.linked_set.LinkedSet.get.Goals as goal

pub returns-in-Some-clause-row : goal.returns-in-Some-clause-row
returns-in-Some-clause-row g c =
    let linked = c.self.invariant.linked in
    let found = c.node_at.ensures.found c.in-Some.node c.in-Some.is in
    ap (λ s. row_of s.entries c.args.handle) (sym c.self.view_is)
    ∙ row_of_live (store_of c.self.inside.set) c.self.inside.slots.items linked.sound.nodes linked.leads linked.apart c.args.handle c.in-Some.node c.get.result.now found.0 found.1 (rw c.store.ensures at c.get.ensures)

pub returns-in-None-clause-none : goal.returns-in-None-clause-none
returns-in-None-clause-none g c none =
    ap (λ s. row_of s.entries c.args.handle) (sym c.self.view_is)
    ∙ none_seen c.self.inside.set c.self.inside.slots.items c.self.invariant.linked c.args.handle (λ n at. c.node_at.ensures.none n c.in-None.is at)
