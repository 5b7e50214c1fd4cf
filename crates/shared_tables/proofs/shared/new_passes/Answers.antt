use Rattle.std.proofs.Common.{◌++◌, ◌∷◌, [], sym, ◌∙◌}
use Rattle.shared_tables.proofs.Fresh.{fresh_more}
use Rattle.shared_tables.proofs.shared.new_passes.Goals as goal

pub loop-session-preserved : goal.loop-session-preserved
loop-session-preserved c =
    c.in_ok-push.ensures.items ∙ (λ i. c.loop-session.invariant i ++ c.in_ok-new.ensures i ∷ []) ∙ sym (fresh_more c.args.tables c.loop-session.session)
