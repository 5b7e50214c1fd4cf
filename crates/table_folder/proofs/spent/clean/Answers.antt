use Rattle.std.proofs.Common.{inr, ⊎_elim}
use Rattle.table_folder.specs.Compacting.{CleanBound}
use Rattle.table_folder.specs.Settled.{MayLeave}
use Rattle.table_folder.proofs.Running.{draft_cleaned, log_draft_cleaned, may_leave_within, run_from, run_on, run_then, within_more}
use Rattle.table_folder.proofs.spent.clean.Goals as goal

pub returns : goal.returns
returns g c =
    let F = g.F.Folder in
    let spent = c.args.spent.now in
    let bound = CleanBound (MayLeave (F.was c.args.folder.now) (F.has c.args.folder.now)) spent in
    let at_start = run_from F.was F.has F.moment F.left_since c.args.folder.now bound (g.met.F.Folder.only_now c.args.folder.now) (within_more _ _ _) in
    let first = run_on F.was F.has F.moment F.left_since c.args.folder.now c.args.folder.now c.remove.new.folder bound _ _ at_start c.remove.ensures.crash c.remove.ensures.time (draft_cleaned _ spent) in
    let second = run_on F.was F.has F.moment F.left_since c.args.folder.now c.remove.new.folder c.remove-2.new.folder bound _ _ first c.remove-2.ensures.crash c.remove-2.ensures.time (log_draft_cleaned _ spent) in
    run_then F.was F.has F.moment F.left_since c.args.folder.now c.remove-2.new.folder c.remove_logs.new.folder bound _ second c.remove_logs.ensures
    (λ n x. ⊎_elim (may_leave_within (F.was c.remove-2.new.folder) (F.has c.remove-2.new.folder) bound second.within n x) inr)

pub returns-in_err-remove-2 : goal.returns-in_err-remove-2
returns-in_err-remove-2 g c =
    let F = g.F.Folder in
    let spent = c.args.spent.now in
    let bound = CleanBound (MayLeave (F.was c.args.folder.now) (F.has c.args.folder.now)) spent in
    let at_start = run_from F.was F.has F.moment F.left_since c.args.folder.now bound (g.met.F.Folder.only_now c.args.folder.now) (within_more _ _ _) in
    let first = run_on F.was F.has F.moment F.left_since c.args.folder.now c.args.folder.now c.remove.new.folder bound _ _ at_start c.remove.ensures.crash c.remove.ensures.time (draft_cleaned _ spent) in
    run_on F.was F.has F.moment F.left_since c.args.folder.now c.remove.new.folder c.remove-2.new.folder bound _ _ first c.remove-2.ensures.crash c.remove-2.ensures.time (log_draft_cleaned _ spent)
