use Rattle.std.proofs.Common.{◌≡◌, ◌∙◌, Ok, Some, OnOk, ap, sym, subst}
use Rattle.std.specs.Fn.{FnOnceReturnsAtMut}
use Rattle.container_model.specs.State.{row_of}
use Rattle.container_model.specs.Change.{with_modified}
use Rattle.container_model.specs.Insert.{ban}
use Rattle.linked_set.specs.Modified.{told}
use Rattle.indexed.specs.Orders.{by_key}
use Rattle.indexed.proofs.container.Indexed.modify_with.Goals as goal
use Rattle.indexed.proofs.container.Indexed.modify_with.Goals.{in-Ok, in-Err}

pub returns-clause-ok : goal.returns-clause-ok
returns-clause-ok g c old live =
    let order = by_key g.R.Fields.row_of in
    let there = subst (λ s. row_of s.entries c.args.handle ≡ Some old → OnOk c.modify_with.result ((x : g.row.R.Denot) × FnOnceReturnsAtMut g.F.FnOnce c.args.change old tt x × (c.modify_with.result ≡ Ok (told (ban order s (Some c.args.handle) x) x)) × (c.modify_with.new.self ≡ with_modified order s c.args.handle x))) c.self.view_is (c.modify_with.ensures.ok old) live in
    elim c.match-modify_with.branch [
      | in-Ok w ↦ rw w.result-is
          (let made = subst (λ r. OnOk r ((x : g.row.R.Denot) × FnOnceReturnsAtMut g.F.FnOnce c.args.change old tt x × (c.modify_with.result ≡ Ok (told (ban order c.args.self.now (Some c.args.handle) x) x)) × (c.modify_with.new.self ≡ with_modified order c.args.self.now c.args.handle x))) w.in-Ok.is there in
          let is = sym w.in-Ok.is ∙ made.2 in
          let same : w.in-Ok.modified ≡ told (ban order c.args.self.now (Some c.args.handle) made.0) made.0 = cc in
          (made.0, made.1, ap Ok same, made.3))
      | in-Err w ↦ rw w.result-is tt
    ]
