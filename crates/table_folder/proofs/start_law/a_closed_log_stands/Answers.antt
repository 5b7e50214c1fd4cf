use Rattle.std.specs.Prelude.{◌+◌, length}
use Rattle.std.proofs.Common.{subst}
use Rattle.checked_disk.specs.Safe.{IsSafe, entries_of}
use Rattle.checked_log.specs.Whole.{ended}
use Rattle.checked_log.specs.declared.recovery.Link.{Link}
use Rattle.table_folder.proofs.Joining.{goes_on_all}
use Rattle.table_folder.proofs.Sure.{closed_stands, seen_stands}
use Rattle.table_folder.specs.Joined.{HasThese}
use Rattle.table_folder.specs.declared.name.FileName.TheVariants.{Log}
use Rattle.table_folder.proofs.start_law.a_closed_log_stands.Goals as goal

pub returns-clause-left : goal.returns-clause-left
returns-clause-left g c = λ begin files image sure safe around closed left.
    let disk = c.args.disk.now in
    let before = c.args.before.now in
    let after = c.args.after.now in
    closed_stands (g.F.Folder.was before) (g.F.Folder.has before) (g.F.Folder.was after) (g.F.Folder.has after) (g.F.Folder.seen after) (g.F.Log.LogFiles.contents disk.disk.files)
    (g.F.Log.LogFiles.mark disk.disk.files) (g.F.Log.LogFiles.may_leave disk.disk.files) begin files image around closed disk.texts.base disk.next disk.log.durable sure safe left

pub returns-clause-seen : goal.returns-clause-seen
returns-clause-seen g c = λ begin files then image sure now safe around closed sees log mark all each.
    let disk = c.args.disk.now in
    let before = c.args.before.now in
    let after = c.args.after.now in
    seen_stands (g.F.Folder.was before) (g.F.Folder.has before) (g.F.Folder.was after) (g.F.Folder.has after) (g.F.Folder.seen after) (g.F.Log.LogFiles.contents disk.disk.files)
    (g.F.Log.LogFiles.mark disk.disk.files) (g.F.Log.LogFiles.may_leave disk.disk.files) begin files image around closed disk.texts.base disk.next disk.log.durable sure safe
    then now sees log mark all each

pub returns-clause-due : goal.returns-clause-due
returns-clause-due g c = λ d from files then t now begins accepted same safe around closed sees log mark all these other image each.
    let disk = c.args.disk.now in
    let before = c.args.before.now in
    let after = c.args.after.now in
    let contents = g.F.Log.LogFiles.contents disk.disk.files in
    let may_leave = g.F.Log.LogFiles.may_leave disk.disk.files in
    let es = entries_of from.link contents in
    let sure = from.link.number + length es in
    let safe_from : IsSafe from.link contents disk.next disk.log.durable sure may_leave =
    subst (λ (base : Link). IsSafe base contents disk.next disk.log.durable sure may_leave) same safe in
    let stands = seen_stands (g.F.Folder.was before) (g.F.Folder.has before) (g.F.Folder.was after) (g.F.Folder.has after) (g.F.Folder.seen after) contents
    (g.F.Log.LogFiles.mark disk.disk.files) may_leave from.state files image around closed from.link disk.next disk.log.durable sure safe_from then now sees log mark all each in
    let of = subst (λ bytes. HasThese es (ended bytes)) stands.1.log (these (image (Log from.state)) (each (Log from.state))) in
    goes_on_all d from files image es t stands.0 begins accepted stands.2 of stands.1 other
