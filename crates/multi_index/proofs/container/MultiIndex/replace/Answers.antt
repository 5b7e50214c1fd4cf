use Rattle.std.proofs.Common.{◌∙◌, Some, ap, sym, arith}
use Rattle.container_model.specs.State.{row_of}
use Rattle.container_model.specs.Find.{is_live}
use Rattle.container_model.specs.Insert.{ban}
use Rattle.container_model.specs.Change.{replace_refusal, spent, with_replaced}
use Rattle.container_model.proofs.Replaced.{IsState-replaced}
use Rattle.linked_set.specs.Records.{row_kept_out, state_of}
use Rattle.multi_index.proofs.Steps.{next_number, none_added, IsContainer-next, IsContainer-same}
use Rattle.multi_index.proofs.Allowed.{change_allowed, not_banned, write_allowed}
use Rattle.multi_index.proofs.container.MultiIndex.replace.Goals as goal

pub overflow_add-self : goal.overflow_add-self
overflow_add-self g c =
    let inside = c.self.inside in
    let s = state_of inside.set inside.max inside.writes in
    let may = change_allowed (is_live s c.args.handle) _ c.in-Ok.ensures.allowed in
    let free = not_banned (ban g.E.Extract.order_of s (Some c.args.handle) c.args.row) c.spent-limit.result may.1 in
    let more = write_allowed s (ap spent c.self.view_is ∙ (sym c.spent-limit.ensures ∙ free.1)) in
    let next = next_number inside.writes c.self.invariant.numbered more in
    omega (arith, next)

pub invariant_of-self : goal.invariant_of-self
invariant_of-self g c =
    let has_key = g.E.Extract.has_key in
    let order = g.E.Extract.order_of in
    let inside = c.self.inside in
    let s = state_of inside.set inside.max inside.writes in
    let may = change_allowed (is_live s c.args.handle) _ c.in-Ok.ensures.allowed in
    let free = not_banned (ban g.E.Extract.order_of s (Some c.args.handle) c.args.row) c.spent-limit.result may.1 in
    let more = write_allowed s (ap spent c.self.view_is ∙ (sym c.spent-limit.ensures ∙ free.1)) in
    IsContainer-next inside.set c.rewrite.new.self inside.max inside.writes c.self.invariant (none_added c.in-Ok.ensures.added) more (c.in-Ok.ensures.ok inside.max inside.writes) (IsState-replaced has_key order g.met.E.Extract.order_total s c.args.handle c.args.row c.self.invariant.state may.0 free.0)

pub returns-in-Ok-clause-old : goal.returns-in-Ok-clause-old
returns-in-Ok-clause-old g c = ap (λ s. row_of s.entries c.args.handle) (sym c.self.view_is) ∙ c.in-Ok.ensures.old

pub returns-in-Ok-clause-allowed : goal.returns-in-Ok-clause-allowed
returns-in-Ok-clause-allowed g c =
    ap (λ s. replace_refusal g.E.Extract.order_of s c.args.handle c.args.row) (sym c.self.view_is)
    ∙ (ap (λ why. row_kept_out g.E.Extract.order_of c.self.inside.set c.args.handle c.args.row why) (ap spent c.self.view_is ∙ sym c.spent-limit.ensures) ∙ c.in-Ok.ensures.allowed)

pub returns-in-Ok-clause-ok : goal.returns-in-Ok-clause-ok
returns-in-Ok-clause-ok g c = c.in-Ok.ensures.ok c.self.inside.max c.self.inside.writes ∙ ap (λ s. with_replaced g.E.Extract.order_of s c.args.handle c.args.row) c.self.view_is

pub returns-in-Err-clause-why : goal.returns-in-Err-clause-why
returns-in-Err-clause-why g c =
    c.in-Err.ensures.why
    ∙ (ap (λ why. row_kept_out g.E.Extract.order_of c.self.inside.set c.args.handle c.args.row why) (c.spent-limit.ensures ∙ ap spent (sym c.self.view_is)) ∙ ap (λ s. replace_refusal g.E.Extract.order_of s c.args.handle c.args.row) c.self.view_is)

pub invariant_of-self-in-Err : goal.invariant_of-self-in-Err
invariant_of-self-in-Err g c = IsContainer-same c.in-Err.ensures.unchanged c.self.invariant

pub returns-in-Err-clause-unchanged : goal.returns-in-Err-clause-unchanged
returns-in-Err-clause-unchanged g c = ap (λ r. state_of r c.self.inside.max c.self.inside.writes) c.in-Err.ensures.unchanged ∙ c.self.view_is
