use Rattle.table_folder.proofs.Syncing.{open_synced}
use Rattle.table_folder.proofs.synced_law.what_is_synced_is_found.Goals as goal

pub returns : goal.returns
returns g c = λ d from files image bytes t sure left begins accepted same known safe leaves none joined.
    let disk = c.args.disk.now in
    open_synced d from files image bytes t sure left disk.texts.base (g.F.LogFiles.contents disk.disk.files) disk.next disk.log (g.F.LogFiles.may_leave disk.disk.files) begins accepted same known
    disk.sure safe leaves none joined
