use Rattle.std.proofs.Common.{sym, ◌∙◌}
use Rattle.checked_log.proofs.Walked.{behind_entry, by_following, line_is, not_whole, unsaid_entry, unwhole_entry, whole_entry_is}
use Rattle.checked_log.proofs.walk.Walk.take.Goals as goal
use Rattle.checked_log.proofs.walk.Walk.take.Goals.{else-self-via-then-self+else-follows, else-self-via-else-self}

pub returns-then-follows : goal.returns-then-follows
returns-then-follows c =
    let said = sym c.in-Some.ensures.entry in
    let follows = sym c.if-follows.ensures in
    record {
      walk =
          c.take_whole.ensures
          ∙ sym (line_is c.args.mark c.args.self.now c.args.line.now _ said ∙ by_following c.args.mark c.args.self.now _ _ _ c.if-self.true follows);
      whole = sym (whole_entry_is c.args.self.now c.args.line.now _ c.if-self.true said follows);
    }

pub returns-else-self : goal.returns-else-self
returns-else-self c =
    let said = sym c.in-Some.ensures.entry in
    let is = line_is c.args.mark c.args.self.now c.args.line.now _ said in
    elim c.else-self.branch [
      | else-self-via-then-self+else-follows w ↦
          let follows = sym w.if-follows.ensures in
          record {
            walk = c.take_behind.ensures ∙ sym (is ∙ by_following c.args.mark c.args.self.now _ _ _ w.if-self.true follows);
            whole = sym (behind_entry c.args.self.now c.args.line.now _ said follows);
          }
      | else-self-via-else-self w ↦
          record {
            walk = c.take_behind.ensures ∙ sym (is ∙ not_whole c.args.mark c.args.self.now _ _ w.if-self.false);
            whole = sym (unwhole_entry c.args.self.now c.args.line.now w.if-self.false);
          }
    ]

pub returns-in_default : goal.returns-in_default
returns-in_default c =
    let said = sym c.in_default.ensures.entry in
    record { walk = sym (line_is c.args.mark c.args.self.now c.args.line.now _ said); whole = sym (unsaid_entry c.args.self.now c.args.line.now said) }
