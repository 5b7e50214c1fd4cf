use Rattle.std.proofs.Common.{◌≡◌, Some, OnOk, IfOk, subst}
use Rattle.container_model.specs.State.{row_of}
use Rattle.container_model.specs.Change.{with_modified}
use Rattle.container_model.specs.Insert.{ban}
use Rattle.linked_set.specs.Modified.{told}
use Rattle.indexed.specs.Orders.{by_key}
use Rattle.indexed.proofs.container.Indexed.modify.Goals as goal
use Rattle.indexed.proofs.container.Indexed.modify.Goals.{in-Ok, in-Err+in-Some-1, in-Err+in-None-1}

pub returns-clause-ok : goal.returns-clause-ok
returns-clause-ok g c row live =
    let order = by_key g.R.Fields.row_of in
    let new = g.T.Edit.applied c.args.edit.now row in
    let there = subst (λ s. row_of s.entries c.args.handle ≡ Some row → OnOk c.modify.result (c.modify.new.self ≡ with_modified order s c.args.handle new)) c.self.view_is (c.modify.ensures.ok row) live in
    elim c.match-modify.branch [
      | in-Ok w ↦ rw w.result-is (subst (λ r. OnOk r (c.modify.new.self ≡ with_modified order c.args.self.now c.args.handle new)) w.in-Ok.is there)
      | in-Err+in-Some-1 w ↦ rw w.result-is tt
      | in-Err+in-None-1 w ↦ rw w.result-is tt
    ]

pub returns-clause-answer : goal.returns-clause-answer
returns-clause-answer g c row live =
    let order = by_key g.R.Fields.row_of in
    let new = g.T.Edit.applied c.args.edit.now row in
    let there = subst (λ s. row_of s.entries c.args.handle ≡ Some row → IfOk c.modify.result (λ answer. answer ≡ told (ban order s (Some c.args.handle) new) new)) c.self.view_is (c.modify.ensures.answer row) live in
    elim c.match-modify.branch [
      | in-Ok w ↦ rw w.result-is (subst (λ r. IfOk r (λ answer. answer ≡ told (ban order c.args.self.now (Some c.args.handle) new) new)) w.in-Ok.is there)
      | in-Err+in-Some-1 w ↦ rw w.result-is tt
      | in-Err+in-None-1 w ↦ rw w.result-is tt
    ]
