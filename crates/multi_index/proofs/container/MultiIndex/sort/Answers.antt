use Rattle.std.proofs.Common.{◌∙◌, ap, sym}
use Rattle.container_model.specs.Sequence.{sequence_refusal, with_sorted}
use Rattle.container_model.proofs.Moved.{IsState-sorted}
use Rattle.linked_set.specs.Records.{state_of}
use Rattle.linked_set.proofs.Ordered.{may_order}
use Rattle.multi_index.proofs.Steps.{none_added, IsContainer-next, IsContainer-same}
use Rattle.multi_index.proofs.container.MultiIndex.sort.Goals as goal

pub sort-requires : goal.sort-requires
sort-requires g c =
    let s = state_of c.self.inside.set c.self.inside.max c.self.inside.writes in
    let may = may_order s c.args.index (ap (λ t. sequence_refusal t c.args.index) c.self.view_is ∙ (sym c.sequence_refusal.ensures ∙ c.in_default.is)) in
    may.0

pub invariant_of-self : goal.invariant_of-self
invariant_of-self g c = IsContainer-same c.in_default-sort.ensures.unchanged c.self.invariant

pub invariant_of-self-2 : goal.invariant_of-self-2
invariant_of-self-2 g c =
    let has_key = g.E.Extract.has_key in
    let order = g.E.Extract.order_of in
    let inside = c.self.inside in
    let s = state_of inside.set inside.max inside.writes in
    let may = may_order s c.args.index (ap (λ t. sequence_refusal t c.args.index) c.self.view_is ∙ (sym c.sequence_refusal.ensures ∙ c.in_default.is)) in
    IsContainer-next inside.set c.sort.new.self inside.max inside.writes c.self.invariant (none_added c.sort.ensures.added) may.1 (c.in-Ok.ensures.left inside.max inside.writes) (IsState-sorted has_key order s c.args.index may.0 c.self.invariant.state (g.O.RowOrder.comparison c.args.order.now))

pub returns-clause-ok : goal.returns-clause-ok
returns-clause-ok g c = c.in-Ok.ensures.left c.self.inside.max c.self.inside.writes ∙ ap (λ s. with_sorted (g.O.RowOrder.comparison c.args.order.now) s c.args.index) c.self.view_is
