use Rattle.std.proofs.Common.{subst}
use Rattle.checked_disk.specs.Stands.{StandsFrom}
use Rattle.checked_disk.specs.Safe.{entries_of}
use Rattle.table_folder.specs.Settling.{any_left}
use Rattle.table_folder.proofs.Closing.{run_closes}
use Rattle.table_folder.proofs.settling.sync_log.Goals as goal

pub returns-in-Err-clause-closed : goal.returns-in-Err-clause-closed
returns-in-Err-clause-closed g c = λ synced safe.
    let F = g.F.Folder in
    let L = g.F.Log.LogFiles in
    let old = c.args.folder.now in
    let files = c.into_files.result in
    let disk = c.args.disk in
    let then = c.sync.new.self.disk.files in
    let moments = (c.in-Err.ensures.sure synced safe).0 in
    run_closes F.was F.has F.moment F.left_since old c.close_log.new.self (StandsFrom disk.texts.base (entries_of disk.texts.base (L.contents disk.disk.files)) synced) c.args.begin (L.contents files)
    (L.mark files) (L.may_leave files) (F.seen c.close_log.new.self) (g.met.F.Folder.only_now old) c.close_log.ensures.closed c.close_log.ensures.time
    (λ x left. moments.each x (g.met.F.Log.LogFiles.counts_now then (L.moment disk.disk.files) x moments.later (subst (λ f. L.may_leave f x) c.into_files.ensures left)))

pub returns-in-Err-clause-closed_so : goal.returns-in-Err-clause-closed_so
returns-in-Err-clause-closed_so g c =
    let F = g.F.Folder in
    let L = g.F.Log.LogFiles in
    let old = c.args.folder.now in
    let files = c.into_files.result in
    run_closes F.was F.has F.moment F.left_since old c.close_log.new.self any_left c.args.begin (L.contents files) (L.mark files) (L.may_leave files) (F.seen c.close_log.new.self)
    (g.met.F.Folder.only_now old) c.close_log.ensures.closed c.close_log.ensures.time (λ x left. tt)
