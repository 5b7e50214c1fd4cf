use Rattle.std.proofs.Common.{◌≡◌, ℕ, List, Some, subst, sym, ◌∙◌}
use Rattle.checked_disk.specs.Resumed.{IsKeptOf}
use Rattle.checked_disk.specs.Stands.{WasSafe}
use Rattle.table_folder.specs.Opened.{bytes_in}
use Rattle.table_folder.specs.Settling.{MayOpen}
use Rattle.table_folder.proofs.Closing.{run_closes}
use Rattle.table_folder.proofs.settling.open_kept.Goals as goal

pub resume-requires-clause-kept : goal.resume-requires-clause-kept
resume-requires-clause-kept g c = λ bytes is.
    let opened = c.in-Ok.ensures in
    let seen = opened.known bytes is in
    let there = opened.log_bytes seen.0 seen.1 in
    let same : bytes_in seen.0 ≡ bytes = let e : Some (bytes_in seen.0) ≡ Some bytes = sym there ∙ is in cc in
    subst (λ (b : List ℕ). IsKeptOf b c.args.kept) same (c.requires seen.0 seen.1)

pub returns-in-Ok-resume-clause-start : goal.returns-in-Ok-resume-clause-start
returns-in-Ok-resume-clause-start g c = λ marks es next few was.
    let L = g.F.Log.LogFiles in
    let resumed = c.in-Ok-resume.ensures in
    resumed.start marks es next few (subst (λ f. WasSafe c.args.kept.base marks es (L.contents f) (L.may_leave f)) resumed.files was)

pub returns-in-Err-resume-clause-closed : goal.returns-in-Err-resume-clause-closed
returns-in-Err-resume-clause-closed g c =
    let F = g.F.Folder in
    let L = g.F.Log.LogFiles in
    let old = c.args.folder.now in
    let files = c.in-Err-resume.field-0.files in
    run_closes F.was F.has F.moment F.left_since old c.close_log.new.self (MayOpen (F.was old) (F.has old) c.args.begin) c.args.begin (L.contents files) (L.mark files) (L.may_leave files)
    (F.seen c.close_log.new.self) (g.met.F.Folder.only_now old) c.close_log.ensures.closed c.close_log.ensures.time
    (λ x left. c.in-Ok.ensures.left x (subst (λ f. L.may_leave f x) c.in-Err-resume.ensures.back left))
