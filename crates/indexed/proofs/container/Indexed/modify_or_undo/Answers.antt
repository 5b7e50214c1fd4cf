use Rattle.std.proofs.Common.{◌≡◌, None, Some, OnOk, IfErr, subst, sym}
use Rattle.container_model.specs.Undone.{KeepsKeys, modify_or_undo_refusal, with_modified_or_undone}
use Rattle.indexed.specs.Orders.{by_key}
use Rattle.indexed.proofs.container.Indexed.modify_or_undo.Goals as goal
use Rattle.indexed.proofs.container.Indexed.modify_or_undo.Goals.{in-Ok, in-Err+in-Some-1, in-Err+in-None-1}

pub modify_or_undo-requires : goal.modify_or_undo-requires
modify_or_undo-requires g c = record {
  undone =
      subst (λ s. KeepsKeys (by_key g.R.Fields.row_of) s c.args.handle (λ r. g.T.Edit.undone (g.T.Edit.after_apply c.args.edit.now r) (g.T.Edit.applied c.args.edit.now r))) (sym c.self.view_is) c.requires.undone;
}

pub returns-clause-allowed : goal.returns-clause-allowed
returns-clause-allowed g c =
    let order = by_key g.R.Fields.row_of in
    let applied = g.T.Edit.applied c.args.edit.now in
    let there = subst (λ s. OnOk c.modify_or_undo.result (modify_or_undo_refusal order s c.args.handle applied ≡ None)) c.self.view_is c.modify_or_undo.ensures.allowed in
    elim c.match-modify_or_undo.branch [
      | in-Ok w ↦ rw w.result-is (subst (λ r. OnOk r (modify_or_undo_refusal order c.args.self.now c.args.handle applied ≡ None)) w.in-Ok.is there)
      | in-Err+in-Some-1 w ↦ rw w.result-is tt
      | in-Err+in-None-1 w ↦ rw w.result-is tt
    ]

pub returns-clause-why : goal.returns-clause-why
returns-clause-why g c =
    let order = by_key g.R.Fields.row_of in
    let applied = g.T.Edit.applied c.args.edit.now in
    let there = subst (λ s. IfErr c.modify_or_undo.result (λ refused. Some refused.why ≡ modify_or_undo_refusal order s c.args.handle applied)) c.self.view_is c.modify_or_undo.ensures.why in
    elim c.match-modify_or_undo.branch [
      | in-Ok w ↦ rw w.result-is tt
      | in-Err+in-Some-1 w ↦ rw w.result-is (subst (λ r. IfErr r (λ refused. Some refused.why ≡ modify_or_undo_refusal order c.args.self.now c.args.handle applied)) w.in-Err.is there)
      | in-Err+in-None-1 w ↦ rw w.result-is (subst (λ r. IfErr r (λ refused. Some refused.why ≡ modify_or_undo_refusal order c.args.self.now c.args.handle applied)) w.in-Err.is there)
    ]

pub returns-clause-left : goal.returns-clause-left
returns-clause-left g c =
    subst (λ s. c.modify_or_undo.new.self ≡ with_modified_or_undone (by_key g.R.Fields.row_of) s c.args.handle (g.T.Edit.applied c.args.edit.now) (λ r. g.T.Edit.undone (g.T.Edit.after_apply c.args.edit.now r) (g.T.Edit.applied c.args.edit.now r))) c.self.view_is c.modify_or_undo.ensures.left
