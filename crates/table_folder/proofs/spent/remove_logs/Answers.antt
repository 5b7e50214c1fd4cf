use Rattle.std.proofs.Common.{inl, inr, refl, subst, sym}
use Rattle.table_folder.specs.Compacting.{CleanBound}
use Rattle.table_folder.specs.Disk.{IsIn}
use Rattle.table_folder.specs.Settled.{MayLeave}
use Rattle.table_folder.proofs.Running.{log_cleaned, run_on}
use Rattle.table_folder.proofs.spent.remove_logs.Goals as goal

pub returns-in_err-remove : goal.returns-in_err-remove
returns-in_err-remove g c =
    let F = g.F.Folder in
    let bound = CleanBound (MayLeave (F.was c.args.folder.now) (F.has c.args.folder.now)) c.args.spent.now in
    let is = c.loop-begin.invariant.left c.in-Some.begin (subst (IsIn c.in-Some.begin) (sym c.in-Some.ensures) (inl refl)) in
    run_on F.was F.has F.moment F.left_since c.args.folder.now c.loop-begin.folder c.remove.new.folder bound _ _ c.loop-begin.invariant.runs c.remove.ensures.crash c.remove.ensures.time
    (log_cleaned _ c.args.spent.now c.in-Some.begin is)

pub loop-begin-preserved : goal.loop-begin-preserved
loop-begin-preserved g c =
    let F = g.F.Folder in
    let bound = CleanBound (MayLeave (F.was c.args.folder.now) (F.has c.args.folder.now)) c.args.spent.now in
    let is = c.loop-begin.invariant.left c.in-Some.begin (subst (IsIn c.in-Some.begin) (sym c.in-Some.ensures) (inl refl)) in
    record {
      left = λ b is. c.loop-begin.invariant.left b (subst (IsIn b) (sym c.in-Some.ensures) (inr is));
      runs = run_on F.was F.has F.moment F.left_since c.args.folder.now c.loop-begin.folder c.remove.new.folder bound _ _ c.loop-begin.invariant.runs c.remove.ensures.crash c.remove.ensures.time
          (log_cleaned _ c.args.spent.now c.in-Some.begin is);
    }
