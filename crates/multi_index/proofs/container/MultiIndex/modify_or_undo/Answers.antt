use Rattle.std.proofs.Common.{◌∙◌, Some, None, ap, sym, subst, arith}
use Rattle.std.specs.Option.{option_map_or}
use Rattle.container_model.specs.State.{row_of}
use Rattle.container_model.specs.Undone.{KeepsKeys, modify_or_undo_refusal, with_modified_or_undone}
use Rattle.linked_set.specs.Records.{state_of}
use Rattle.multi_index.proofs.Steps.{next_number}
use Rattle.multi_index.proofs.Allowed.{undo_allowed}
use Rattle.multi_index.proofs.Undone.{left_by, IsContainer-undone, IsContainer-changed}
use Rattle.multi_index.proofs.container.MultiIndex.modify_or_undo.Goals as goal

pub change_or_undo-requires : goal.change_or_undo-requires
change_or_undo-requires g c =
    let undo = λ (r : g.row.R.Denot). g.T.Edit.undone (g.T.Edit.after_apply c.args.edit.now r) (g.T.Edit.applied c.args.edit.now r) in
    record { undone = subst (λ t. KeepsKeys g.E.Extract.order_of t c.args.handle undo) (sym c.self.view_is) c.requires.undone }

pub invariant_of-self : goal.invariant_of-self
invariant_of-self g c =
    let inside = c.self.inside in
    let call = c.change_or_undo in
    let undo = λ (r : g.row.R.Denot). g.T.Edit.undone (g.T.Edit.after_apply c.args.edit.now r) (g.T.Edit.applied c.args.edit.now r) in
    IsContainer-undone g.E.Extract.order_of inside.set call.new.self inside.max inside.writes c.args.handle (g.T.Edit.applied c.args.edit.now) undo call.result (call.ensures.left inside.max) g.met.E.Extract.order_total call.ensures.why c.self.invariant call.ensures.added
    (subst (λ t. KeepsKeys g.E.Extract.order_of t c.args.handle undo) (sym c.self.view_is) c.requires.undone) c.in-Some.why c.in-Some.is

pub returns-in-Some-clause-why : goal.returns-in-Some-clause-why
returns-in-Some-clause-why g c = sym c.in-Some.is ∙ (c.change_or_undo.ensures.why ∙ ap (λ s. modify_or_undo_refusal g.E.Extract.order_of s c.args.handle (g.T.Edit.applied c.args.edit.now)) c.self.view_is)

pub returns-in-Some-clause-left : goal.returns-in-Some-clause-left
returns-in-Some-clause-left g c =
    let inside = c.self.inside in
    let call = c.change_or_undo in
    let change = g.T.Edit.applied c.args.edit.now in
    let undo = λ (r : g.row.R.Denot). g.T.Edit.undone (g.T.Edit.after_apply c.args.edit.now r) (g.T.Edit.applied c.args.edit.now r) in
    left_by g.E.Extract.order_of inside.set call.new.self inside.max inside.writes c.args.handle change undo call.result (call.ensures.left inside.max) (Some c.in-Some.why) c.in-Some.is
    ∙ ap (λ s. with_modified_or_undone g.E.Extract.order_of s c.args.handle change undo) c.self.view_is

pub returns-in-Some-clause-undone_edit : goal.returns-in-Some-clause-undone_edit
returns-in-Some-clause-undone_edit g c r live =
    c.change_or_undo.ensures.edit r (ap (λ s. row_of s.entries c.args.handle) c.self.view_is ∙ live)
    ∙ ap (λ o. option_map_or (λ why. g.T.Edit.after_undo (g.T.Edit.after_apply c.args.edit.now r) (g.T.Edit.applied c.args.edit.now r)) o (g.T.Edit.after_apply c.args.edit.now r)) c.in-Some.is

pub returns-in-Some-clause-not_applied : goal.returns-in-Some-clause-not_applied
returns-in-Some-clause-not_applied g c none = c.change_or_undo.ensures.not_applied (ap (λ s. row_of s.entries c.args.handle) c.self.view_is ∙ none)

pub overflow_add-self : goal.overflow_add-self
overflow_add-self g c =
    let inside = c.self.inside in
    let next = next_number inside.writes c.self.invariant.numbered (undo_allowed g.E.Extract.order_of (state_of inside.set inside.max inside.writes) c.args.handle (g.T.Edit.applied c.args.edit.now) (sym c.change_or_undo.ensures.why ∙ c.in_default.is)) in
    omega (arith, next)

pub invariant_of-self-2 : goal.invariant_of-self-2
invariant_of-self-2 g c =
    let inside = c.self.inside in
    let call = c.change_or_undo in
    let undo = λ (r : g.row.R.Denot). g.T.Edit.undone (g.T.Edit.after_apply c.args.edit.now r) (g.T.Edit.applied c.args.edit.now r) in
    IsContainer-changed g.E.Extract.order_of inside.set call.new.self inside.max inside.writes c.args.handle (g.T.Edit.applied c.args.edit.now) undo call.result (call.ensures.left inside.max) g.met.E.Extract.order_total call.ensures.why c.self.invariant call.ensures.added
    (subst (λ t. KeepsKeys g.E.Extract.order_of t c.args.handle undo) (sym c.self.view_is) c.requires.undone) c.in_default.is

pub returns-clause-allowed : goal.returns-clause-allowed
returns-clause-allowed g c = ap (λ s. modify_or_undo_refusal g.E.Extract.order_of s c.args.handle (g.T.Edit.applied c.args.edit.now)) (sym c.self.view_is) ∙ (sym c.change_or_undo.ensures.why ∙ c.in_default.is)

pub returns-clause-left : goal.returns-clause-left
returns-clause-left g c =
    let inside = c.self.inside in
    let call = c.change_or_undo in
    let change = g.T.Edit.applied c.args.edit.now in
    let undo = λ (r : g.row.R.Denot). g.T.Edit.undone (g.T.Edit.after_apply c.args.edit.now r) (g.T.Edit.applied c.args.edit.now r) in
    left_by g.E.Extract.order_of inside.set call.new.self inside.max inside.writes c.args.handle change undo call.result (call.ensures.left inside.max) None c.in_default.is
    ∙ ap (λ s. with_modified_or_undone g.E.Extract.order_of s c.args.handle change undo) c.self.view_is

pub returns-clause-kept_edit : goal.returns-clause-kept_edit
returns-clause-kept_edit g c r live =
    c.change_or_undo.ensures.edit r (ap (λ s. row_of s.entries c.args.handle) c.self.view_is ∙ live)
    ∙ ap (λ o. option_map_or (λ why. g.T.Edit.after_undo (g.T.Edit.after_apply c.args.edit.now r) (g.T.Edit.applied c.args.edit.now r)) o (g.T.Edit.after_apply c.args.edit.now r)) c.in_default.is

pub returns-clause-not_applied : goal.returns-clause-not_applied
returns-clause-not_applied g c none = c.change_or_undo.ensures.not_applied (ap (λ s. row_of s.entries c.args.handle) c.self.view_is ∙ none)
