use Rattle.std.proofs.Common.{◌-◌, ◌∙◌, false, cond, Some, ap, sym, subst, arith}
use Rattle.std.specs.Prelude.{IfSome, IsTrue, not, option_and_then}
use Rattle.container_model.specs.declared.refusal.Why.TheVariants.{Kind, Stale}
use Rattle.container_model.specs.State.{is_hashed_kind, row_of}
use Rattle.container_model.specs.Find.{is_live, kind_at}
use Rattle.container_model.specs.Change.{next_in, spent, with_erased}
use Rattle.container_model.proofs.Erased.{IsState-erased}
use Rattle.linked_set.specs.Records.{state_of}
use Rattle.multi_index.proofs.Steps.{next_number, none_added, IsContainer-next, IsContainer-same}
use Rattle.multi_index.proofs.Allowed.{change_allowed, not_hashed, write_allowed}
use Rattle.multi_index.proofs.container.MultiIndex.erase.Goals as goal

pub returns-then-names_hashed-clause-why : goal.returns-then-names_hashed-clause-why
returns-then-names_hashed-clause-why g c =
    let s = c.args.self.now in
    sym (ap (λ b. cond b (Some Kind) (cond (is_live s c.args.handle) (spent s) (Some Stale))) (sym c.names_hashed.ensures ∙ c.if-names_hashed.true))

pub take_out-requires : goal.take_out-requires
take_out-requires g c =
    subst (λ s. IfSome c.args.index (λ i. IsTrue (not (is_hashed_kind (kind_at s i))))) (sym c.self.view_is)
    (not_hashed c.args.self.now c.args.index (sym c.names_hashed.ensures ∙ c.if-names_hashed.false))

pub overflow_add-self : goal.overflow_add-self
overflow_add-self g c =
    let inside = c.self.inside in
    let s = state_of inside.set inside.max inside.writes in
    let may = change_allowed (is_live s c.args.handle) c.spent-limit.result c.in-Ok.ensures.allowed in
    let more = write_allowed s (ap spent c.self.view_is ∙ (sym c.spent-limit.ensures ∙ may.1)) in
    let next = next_number inside.writes c.self.invariant.numbered more in
    omega (arith, next)

pub invariant_of-self : goal.invariant_of-self
invariant_of-self g c =
    let has_key = g.E.Extract.has_key in
    let order = g.E.Extract.order_of in
    let inside = c.self.inside in
    let s = state_of inside.set inside.max inside.writes in
    let may = change_allowed (is_live s c.args.handle) c.spent-limit.result c.in-Ok.ensures.allowed in
    let more = write_allowed s (ap spent c.self.view_is ∙ (sym c.spent-limit.ensures ∙ may.1)) in
    IsContainer-next inside.set c.take_out.new.self inside.max inside.writes c.self.invariant (none_added c.in-Ok.ensures.added) more (c.in-Ok.ensures.left inside.max inside.writes) (IsState-erased has_key order s c.self.invariant.state c.args.handle)

pub returns-in-Ok-clause-row : goal.returns-in-Ok-clause-row
returns-in-Ok-clause-row g c = ap (λ s. row_of s.entries c.args.handle) (sym c.self.view_is) ∙ c.in-Ok.ensures.row

pub returns-in-Ok-clause-next : goal.returns-in-Ok-clause-next
returns-in-Ok-clause-next g c = c.in-Ok.ensures.next ∙ ap (λ s. option_and_then (λ i. next_in s i c.args.handle) c.args.index) c.self.view_is

pub returns-in-Ok-clause-allowed : goal.returns-in-Ok-clause-allowed
returns-in-Ok-clause-allowed g c =
    let inside = c.self.inside in
    let s = state_of inside.set inside.max inside.writes in
    let none = ap (λ b. cond b (Some Kind) (cond (is_live c.args.self.now c.args.handle) (spent c.args.self.now) (Some Stale))) (sym c.names_hashed.ensures ∙ c.if-names_hashed.false) in
    none ∙ (ap (λ t. cond (is_live t c.args.handle) (spent t) (Some Stale)) (sym c.self.view_is)
    ∙ (ap (λ why. cond (is_live s c.args.handle) why (Some Stale)) (ap spent c.self.view_is ∙ sym c.spent-limit.ensures) ∙ c.in-Ok.ensures.allowed))

pub returns-in-Ok-clause-ok : goal.returns-in-Ok-clause-ok
returns-in-Ok-clause-ok g c = c.in-Ok.ensures.left c.self.inside.max c.self.inside.writes ∙ ap (λ s. with_erased s c.args.handle) c.self.view_is

pub returns-in-Err-clause-why : goal.returns-in-Err-clause-why
returns-in-Err-clause-why g c =
    let inside = c.self.inside in
    let s = state_of inside.set inside.max inside.writes in
    let none = ap (λ b. cond b (Some Kind) (cond (is_live c.args.self.now c.args.handle) (spent c.args.self.now) (Some Stale))) (sym c.names_hashed.ensures ∙ c.if-names_hashed.false) in
    c.in-Err.ensures.why
    ∙ (ap (λ why. cond (is_live s c.args.handle) why (Some Stale)) (c.spent-limit.ensures ∙ ap spent (sym c.self.view_is))
    ∙ (ap (λ t. cond (is_live t c.args.handle) (spent t) (Some Stale)) c.self.view_is ∙ sym none))

pub invariant_of-self-in-Err : goal.invariant_of-self-in-Err
invariant_of-self-in-Err g c = IsContainer-same c.in-Err.ensures.unchanged c.self.invariant

pub returns-in-Err-clause-unchanged : goal.returns-in-Err-clause-unchanged
returns-in-Err-clause-unchanged g c = ap (λ r. state_of r c.self.inside.max c.self.inside.writes) c.in-Err.ensures.unchanged ∙ c.self.view_is
