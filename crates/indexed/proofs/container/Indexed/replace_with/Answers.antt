use Rattle.std.proofs.Common.{◌≡◌, None, Some, subst}
use Rattle.std.specs.Fn.{FnOnceReturnsAtMut}
use Rattle.std.specs.Result.{MatchResult}
use Rattle.container_model.specs.State.{row_of}
use Rattle.container_model.specs.Change.{replace_refusal, with_replaced}
use Rattle.indexed.specs.Orders.{by_key}
use Rattle.indexed.proofs.container.Indexed.replace_with.Goals as goal
use Rattle.indexed.proofs.container.Indexed.replace_with.Goals.{in-Ok, in-Err}

pub returns-clause-live : goal.returns-clause-live
returns-clause-live g c old live =
    let order = by_key g.R.Fields.row_of in
    let there = subst (λ s. row_of s.entries c.args.handle ≡ Some old → (x : g.row.R.Denot) × FnOnceReturnsAtMut g.F.FnOnce c.args.change old tt x × MatchResult c.replace_with.result (λ _. (replace_refusal order s c.args.handle x ≡ None) × (c.replace_with.new.self ≡ with_replaced order s c.args.handle x)) (λ refused. Some refused.why ≡ replace_refusal order s c.args.handle x)) c.self.view_is (c.replace_with.ensures.live old) live in
    let row = there.0 in
    elim c.match-replace_with.branch [
      | in-Ok w ↦ rw w.result-is (row, there.1, subst (λ r. MatchResult r (λ _. (replace_refusal order c.args.self.now c.args.handle row ≡ None) × (c.replace_with.new.self ≡ with_replaced order c.args.self.now c.args.handle row)) (λ refused. Some refused.why ≡ replace_refusal order c.args.self.now c.args.handle row)) w.in-Ok.is there.2)
      | in-Err w ↦ rw w.result-is (row, there.1, subst (λ r. MatchResult r (λ _. (replace_refusal order c.args.self.now c.args.handle row ≡ None) × (c.replace_with.new.self ≡ with_replaced order c.args.self.now c.args.handle row)) (λ refused. Some refused.why ≡ replace_refusal order c.args.self.now c.args.handle row)) w.in-Err.is there.2)
    ]
