use Rattle.std.proofs.Common.{inr}
use Rattle.table_folder.specs.Compacting.{MakeBound}
use Rattle.table_folder.specs.Settled.{MayLeave}
use Rattle.table_folder.proofs.Running.{nothing_fits, run_from, run_on, within_more}
use Rattle.table_folder.proofs.logs.make_log.Goals as goal

pub returns-in-Ok-settle_names-clause-runs : goal.returns-in-Ok-settle_names-clause-runs
returns-in-Ok-settle_names-clause-runs g c =
    let F = g.F.Folder in
    let bound = MakeBound (MayLeave (F.was c.args.folder.now) (F.has c.args.folder.now)) c.args.last in
    let at_start = run_from F.was F.has F.moment F.left_since c.args.folder.now bound (g.met.F.Folder.only_now c.args.folder.now) (within_more _ _ _) in
    let made = run_on F.was F.has F.moment F.left_since c.args.folder.now c.args.folder.now c.make.new.self bound _ _ at_start c.make.ensures.crash c.make.ensures.time (λ n c there. inr there) in
    run_on F.was F.has F.moment F.left_since c.args.folder.now c.make.new.self c.settle_names.new.self bound _ _ made c.settle_names.ensures.crash c.settle_names.ensures.time (nothing_fits bound)

pub returns-in-Err-settle_names-clause-runs : goal.returns-in-Err-settle_names-clause-runs
returns-in-Err-settle_names-clause-runs g c =
    let F = g.F.Folder in
    let bound = MakeBound (MayLeave (F.was c.args.folder.now) (F.has c.args.folder.now)) c.args.last in
    let at_start = run_from F.was F.has F.moment F.left_since c.args.folder.now bound (g.met.F.Folder.only_now c.args.folder.now) (within_more _ _ _) in
    let made = run_on F.was F.has F.moment F.left_since c.args.folder.now c.args.folder.now c.make.new.self bound _ _ at_start c.make.ensures.crash c.make.ensures.time (λ n c there. inr there) in
    run_on F.was F.has F.moment F.left_since c.args.folder.now c.make.new.self c.settle_names.new.self bound _ _ made c.settle_names.ensures.crash c.settle_names.ensures.time (nothing_fits bound)
