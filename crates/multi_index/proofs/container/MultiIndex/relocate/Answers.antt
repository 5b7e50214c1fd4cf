use Rattle.std.proofs.Common.{◌∙◌, ap, sym, arith}
use Rattle.container_model.specs.Sequence.{relocate_refusal, with_relocated}
use Rattle.linked_set.specs.Records.{state_of}
use Rattle.linked_set.proofs.Ordered.{may_relocate}
use Rattle.multi_index.proofs.Steps.{next_number, none_added, IsContainer-next, IsContainer-same}
use Rattle.multi_index.proofs.Moved.{IsState-relocated}
use Rattle.multi_index.proofs.container.MultiIndex.relocate.Goals as goal

pub overflow_add-self : goal.overflow_add-self
overflow_add-self g c =
    let inside = c.self.inside in
    let s = state_of inside.set inside.max inside.writes in
    let may = may_relocate s c.args.index c.args.place c.args.handle c.in-Ok.ensures.allowed in
    let next = next_number inside.writes c.self.invariant.numbered may.more in
    omega (arith, next)

pub invariant_of-self : goal.invariant_of-self
invariant_of-self g c =
    let has_key = g.E.Extract.has_key in
    let order = g.E.Extract.order_of in
    let inside = c.self.inside in
    let s = state_of inside.set inside.max inside.writes in
    let may = may_relocate s c.args.index c.args.place c.args.handle c.in-Ok.ensures.allowed in
    IsContainer-next inside.set c.relocate.new.self inside.max inside.writes c.self.invariant (none_added c.in-Ok.ensures.added) may.more (c.in-Ok.ensures.ok inside.max) (IsState-relocated has_key order s c.args.index may.sequence c.self.invariant.state c.args.handle c.args.place may.live)

pub returns-in-Ok-clause-allowed : goal.returns-in-Ok-clause-allowed
returns-in-Ok-clause-allowed g c = ap (λ s. relocate_refusal s c.args.index c.args.place c.args.handle) (sym c.self.view_is) ∙ c.in-Ok.ensures.allowed

pub returns-in-Ok-clause-ok : goal.returns-in-Ok-clause-ok
returns-in-Ok-clause-ok g c = c.in-Ok.ensures.ok c.self.inside.max ∙ ap (λ s. with_relocated s c.args.index c.args.place c.args.handle) c.self.view_is

pub returns-in-Err-clause-why : goal.returns-in-Err-clause-why
returns-in-Err-clause-why g c = c.in-Err.ensures.why ∙ ap (λ s. relocate_refusal s c.args.index c.args.place c.args.handle) c.self.view_is

pub invariant_of-self-in-Err : goal.invariant_of-self-in-Err
invariant_of-self-in-Err g c = IsContainer-same c.in-Err.ensures.unchanged c.self.invariant

pub returns-in-Err-clause-unchanged : goal.returns-in-Err-clause-unchanged
returns-in-Err-clause-unchanged g c = ap (λ r. state_of r c.self.inside.max c.self.inside.writes) c.in-Err.ensures.unchanged ∙ c.self.view_is
