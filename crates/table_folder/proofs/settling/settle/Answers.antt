use Rattle.std.proofs.Common.{◌+◌, Option, ℕ, length, inl, refl, ap, subst, sym, ◌∙◌}
use Rattle.std.proofs.lemmas.Result.{on_err_weaker}
use Rattle.checked_disk.specs.Safe.{IsSafeAt, KeepsSure, MakesSure, entries_of}
use Rattle.checked_disk.specs.Stands.{StandsFrom}
use Rattle.checked_disk.specs.declared.disk.Log.{Log as KeptLog}
use Rattle.checked_log.specs.declared.recovery.Link.{Link}
use Rattle.checked_disk.proofs.Moments.{weaker}
use Rattle.table_folder.specs.Base.{state_in}
use Rattle.table_folder.specs.Opened.{IsOpened}
use Rattle.table_folder.specs.Settling.{LeavesLines, MayOpen, any_left}
use Rattle.table_folder.specs.declared.name.FileName.TheVariants.{Log}
use Rattle.table_folder.proofs.Readying.{err_so, lines_left, made_and_closed, made_only, may_open, ok_more, opened_bytes, opened_safe, ready_few, ready_lines}
use Rattle.table_folder.proofs.settling.settle.Goals as goal

pub returns-in_err-make_files-clause-runs_err : goal.returns-in_err-make_files-clause-runs_err
returns-in_err-make_files-clause-runs_err g c =
    let F = g.F.Folder in
    let old = c.args.folder.now in
    err_so c.from_residual.result _
    (made_only F.was F.has F.moment F.left_since (F.seen old) c.state-begin.result (state_in c.args.about.now.base) c.state-begin.ensures old c.make_files.new.folder any_left
    c.in_err-make_files.ensures.runs)

pub returns-in_err-make_files-clause-closed : goal.returns-in_err-make_files-clause-closed
returns-in_err-make_files-clause-closed g c =
    let F = g.F.Folder in
    let old = c.args.folder.now in
    let about = c.args.about.now in
    err_so c.from_residual.result _
    (λ es ready. made_only F.was F.has F.moment F.left_since (F.seen old) c.state-begin.result (state_in about.base) c.state-begin.ensures old c.make_files.new.folder (LeavesLines about es ready.log)
    c.in_err-make_files.ensures.runs)

pub returns-in_err-disk-clause-runs_err : goal.returns-in_err-disk-clause-runs_err
returns-in_err-disk-clause-runs_err g c =
    let F = g.F.Folder in
    let old = c.args.folder.now in
    let mid = c.make_files.new.folder in
    let begin = c.state-begin.result in
    err_so c.from_residual-in_err-disk.result _
    (made_and_closed F.was F.has F.moment F.left_since (F.seen old) begin (state_in c.args.about.now.base) c.state-begin.ensures old mid mid c.open_kept.new.folder
    (MayOpen (F.was mid) (F.has mid) begin) any_left refl c.in_ok-make_files.ensures.runs c.in_err-disk.ensures.closed (λ x left. tt))

pub returns-in_err-disk-clause-closed : goal.returns-in_err-disk-clause-closed
returns-in_err-disk-clause-closed g c =
    let F = g.F.Folder in
    let old = c.args.folder.now in
    let mid = c.make_files.new.folder in
    let about = c.args.about.now in
    let begin = c.state-begin.result in
    let runs = c.in_ok-make_files.ensures.runs in
    err_so c.from_residual-in_err-disk.result _
    (λ es ready.
    made_and_closed F.was F.has F.moment F.left_since (F.seen old) begin (state_in about.base) c.state-begin.ensures old mid mid c.open_kept.new.folder
    (MayOpen (F.was mid) (F.has mid) begin) (LeavesLines about es ready.log) refl runs c.in_err-disk.ensures.closed
    (λ x left. ready_lines about es (F.seen old) (F.was old) (F.has old) ready x
    (may_open about es (F.seen old) (F.was old) (F.has old) ready (F.was mid) (F.has mid) begin c.state-begin.ensures runs.within x left)))

pub returns-clause-runs_err : goal.returns-clause-runs_err
returns-clause-runs_err g c =
    let F = g.F.Folder in
    let old = c.args.folder.now in
    on_err_weaker c.sync_log.result
    (λ closed.
    made_and_closed F.was F.has F.moment F.left_since (F.seen old) c.state-begin.result (state_in c.args.about.now.base) c.state-begin.ensures old c.make_files.new.folder c.open_kept.new.folder
    c.sync_log.new.folder any_left any_left c.in_ok-disk.ensures.same c.in_ok-make_files.ensures.runs closed (λ x left. tt)) c.sync_log.ensures.closed_so

pub returns-clause-closed : goal.returns-clause-closed
returns-clause-closed g c =
    let F = g.F.Folder in
    let L = g.F.Log.LogFiles in
    let old = c.args.folder.now in
    let about = c.args.about.now in
    let disk = c.in_ok-disk.disk in
    let named = c.make_files.new.folder in
    let within = c.in_ok-make_files.ensures.runs.within in
    let begin = c.state-begin.result in
    let found = c.in_ok-disk.ensures.opened in
    let seen_same = c.in_ok-make_files.ensures.same (Log begin) (inl refl) in
    on_err_weaker c.sync_log.result
    (λ closed es ready.
    let few = ready_few about es (F.seen old) (F.was old) (F.has old) ready in
    let was = opened_safe about es (F.seen old) (F.was old) (F.has old) ready (F.was named) (F.has named) begin c.state-begin.ensures within L.contents L.mark L.may_leave (F.seen named)
    (disk.disk.files, found.0) found.1 seen_same in
    let bytes = opened_bytes about es (F.seen old) (F.was old) (F.has old) ready (F.was named) (F.has named) begin c.state-begin.ensures within L.contents L.mark L.may_leave (F.seen named)
    (disk.disk.files, found.0) found.1 seen_same in
    let safe = c.in_ok-disk.ensures.start about.marks es (sym ready.known.next) few was in
    made_and_closed F.was F.has F.moment F.left_since (F.seen old) begin (state_in about.base) c.state-begin.ensures old named c.open_kept.new.folder c.sync_log.new.folder
    (StandsFrom disk.texts.base (entries_of disk.texts.base (L.contents disk.disk.files)) (about.kept.base.number + length es)) (LeavesLines about es ready.log) c.in_ok-disk.ensures.same
    c.in_ok-make_files.ensures.runs (closed (about.kept.base.number + length es) safe)
    (lines_left about es (F.seen old) (F.was old) (F.has old) ready disk.texts.base (L.contents disk.disk.files) c.in_ok-disk.ensures.base bytes)) c.sync_log.ensures.closed

pub returns-clause-safe : goal.returns-clause-safe
returns-clause-safe g c =
    let F = g.F.Folder in
    let L = g.F.Log.LogFiles in
    let old = c.args.folder.now in
    let about = c.args.about.now in
    let disk = c.in_ok-disk.disk in
    let named = c.make_files.new.folder in
    let begin = c.state-begin.result in
    let found = c.in_ok-disk.ensures.opened in
    ok_more c.sync_log.result (λ after. MakesSure disk after) _ _ c.sync_log.ensures.durable c.sync_log.ensures.same
    (λ after makes same es ready.
    let few = ready_few about es (F.seen old) (F.was old) (F.has old) ready in
    let was = opened_safe about es (F.seen old) (F.was old) (F.has old) ready (F.was named) (F.has named) begin c.state-begin.ensures c.in_ok-make_files.ensures.runs.within L.contents L.mark
    L.may_leave (F.seen named) (disk.disk.files, found.0) found.1 (c.in_ok-make_files.ensures.same (Log begin) (inl refl)) in
    subst (λ (n : ℕ). IsSafeAt n after) (ap (λ (l : KeptLog). l.last.number) c.in_ok-disk.ensures.log ∙ ap (λ (l : Link). l.number) ready.known.last)
    (makes (about.kept.base.number + length es) (c.in_ok-disk.ensures.start about.marks es (sym ready.known.next) few was)))

pub returns-clause-lines : goal.returns-clause-lines
returns-clause-lines g c =
    let F = g.F.Folder in
    let L = g.F.Log.LogFiles in
    let old = c.args.folder.now in
    let about = c.args.about.now in
    let disk = c.in_ok-disk.disk in
    let named = c.make_files.new.folder in
    let begin = c.state-begin.result in
    let within = c.in_ok-make_files.ensures.runs.within in
    let found = c.in_ok-disk.ensures.opened in
    let seen_same = c.in_ok-make_files.ensures.same (Log begin) (inl refl) in
    ok_more c.sync_log.result (λ after. KeepsSure disk after) _ _ c.sync_log.ensures.sure c.sync_log.ensures.same
    (λ after keeps same es ready.
    let few = ready_few about es (F.seen old) (F.was old) (F.has old) ready in
    let was = opened_safe about es (F.seen old) (F.was old) (F.has old) ready (F.was named) (F.has named) begin c.state-begin.ensures within L.contents L.mark L.may_leave (F.seen named) (disk.disk.files, found.0) found.1
    seen_same in
    let bytes = opened_bytes about es (F.seen old) (F.was old) (F.has old) ready (F.was named) (F.has named) begin c.state-begin.ensures within L.contents L.mark L.may_leave (F.seen named) (disk.disk.files, found.0) found.1
    seen_same in
    let safe = c.in_ok-disk.ensures.start about.marks es (sym ready.known.next) few was in
    record {
      found = (disk.disk.files, found.0);
      opened =
          subst (λ d. IsOpened L.contents L.mark L.may_leave (F.seen d) (F.was d) (F.has d) (state_in about.base) (disk.disk.files, found.0)) (sym (same ∙ c.in_ok-disk.ensures.same))
          (subst (λ (b : Option ℕ). IsOpened L.contents L.mark L.may_leave (F.seen named) (F.was named) (F.has named) b (disk.disk.files, found.0)) c.state-begin.ensures found.1);
      each =
          weaker L.may_leave L.moment L.left_since disk.disk.files after.disk.files _ (LeavesLines about es ready.log)
          (lines_left about es (F.seen old) (F.was old) (F.has old) ready disk.texts.base (L.contents disk.disk.files) c.in_ok-disk.ensures.base bytes)
          (keeps (about.kept.base.number + length es) safe).0;
    })
