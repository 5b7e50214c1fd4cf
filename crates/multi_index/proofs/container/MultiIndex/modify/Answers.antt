use Rattle.std.proofs.Common.{◌∙◌, Some, cond, ap, sym, arith}
use Rattle.container_model.specs.State.{row_of}
use Rattle.container_model.specs.Find.{is_live}
use Rattle.container_model.specs.Insert.{ban}
use Rattle.container_model.specs.Change.{modify_refusal, spent, with_modified}
use Rattle.container_model.specs.declared.refusal.Why.TheVariants.{Stale}
use Rattle.container_model.proofs.Replaced.{IsState-modified}
use Rattle.linked_set.specs.Modified.{told}
use Rattle.linked_set.specs.Records.{state_of}
use Rattle.multi_index.proofs.Steps.{next_number, none_added, IsContainer-next, IsContainer-same}
use Rattle.multi_index.proofs.Allowed.{change_allowed, has_row, write_allowed}
use Rattle.multi_index.proofs.container.MultiIndex.modify.Goals as goal

pub overflow_add-self : goal.overflow_add-self
overflow_add-self g c =
    let inside = c.self.inside in
    let s = state_of inside.set inside.max inside.writes in
    let may = change_allowed (is_live s c.args.handle) c.spent-limit.result c.in-Ok.ensures.allowed in
    let more = write_allowed s (ap spent c.self.view_is ∙ (sym c.spent-limit.ensures ∙ may.1)) in
    let next = next_number inside.writes c.self.invariant.numbered more in
    omega (arith, next)

pub invariant_of-self : goal.invariant_of-self
invariant_of-self g c =
    let has_key = g.E.Extract.has_key in
    let order = g.E.Extract.order_of in
    let inside = c.self.inside in
    let s = state_of inside.set inside.max inside.writes in
    let may = change_allowed (is_live s c.args.handle) c.spent-limit.result c.in-Ok.ensures.allowed in
    let more = write_allowed s (ap spent c.self.view_is ∙ (sym c.spent-limit.ensures ∙ may.1)) in
    let had = has_row (row_of s.entries c.args.handle) may.0 in
    IsContainer-next inside.set c.change.new.self inside.max inside.writes c.self.invariant (none_added c.in-Ok.ensures.added) more (c.in-Ok.ensures.ok had.row inside.max inside.writes had.is) (IsState-modified has_key order g.met.E.Extract.order_total s c.args.handle (g.T.Edit.applied c.args.edit.now had.row) c.self.invariant.state may.0)

pub returns-in-Ok-clause-allowed : goal.returns-in-Ok-clause-allowed
returns-in-Ok-clause-allowed g c =
    ap (λ s. modify_refusal s c.args.handle) (sym c.self.view_is)
    ∙ (ap (λ why. cond (is_live (state_of c.self.inside.set c.self.inside.max c.self.inside.writes) c.args.handle) why (Some Stale)) (ap spent c.self.view_is ∙ sym c.spent-limit.ensures) ∙ c.in-Ok.ensures.allowed)

pub returns-in-Ok-clause-ok : goal.returns-in-Ok-clause-ok
returns-in-Ok-clause-ok g c r live =
    c.in-Ok.ensures.ok r c.self.inside.max c.self.inside.writes (ap (λ s. row_of s.entries c.args.handle) c.self.view_is ∙ live)
    ∙ ap (λ s. with_modified g.E.Extract.order_of s c.args.handle (g.T.Edit.applied c.args.edit.now r)) c.self.view_is

pub returns-in-Ok-clause-answer : goal.returns-in-Ok-clause-answer
returns-in-Ok-clause-answer g c r live =
    c.in-Ok.ensures.answer r (ap (λ s. row_of s.entries c.args.handle) c.self.view_is ∙ live)
    ∙ ap (λ s. told (ban g.E.Extract.order_of s (Some c.args.handle) (g.T.Edit.applied c.args.edit.now r)) (g.T.Edit.applied c.args.edit.now r)) c.self.view_is

pub returns-in-Ok-clause-edit : goal.returns-in-Ok-clause-edit
returns-in-Ok-clause-edit g c r live = c.in-Ok.ensures.edit r (ap (λ s. row_of s.entries c.args.handle) c.self.view_is ∙ live)

pub returns-in-Err-clause-why : goal.returns-in-Err-clause-why
returns-in-Err-clause-why g c =
    c.in-Err.ensures.why
    ∙ (ap (λ why. cond (is_live (state_of c.self.inside.set c.self.inside.max c.self.inside.writes) c.args.handle) why (Some Stale)) (c.spent-limit.ensures ∙ ap spent (sym c.self.view_is)) ∙ ap (λ s. modify_refusal s c.args.handle) c.self.view_is)

pub invariant_of-self-in-Err : goal.invariant_of-self-in-Err
invariant_of-self-in-Err g c = IsContainer-same c.in-Err.ensures.unchanged c.self.invariant

pub returns-in-Err-clause-unchanged : goal.returns-in-Err-clause-unchanged
returns-in-Err-clause-unchanged g c = ap (λ r. state_of r c.self.inside.max c.self.inside.writes) c.in-Err.ensures.unchanged ∙ c.self.view_is
