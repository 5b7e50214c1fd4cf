use Rattle.std.proofs.Common.{◌∙◌, arith}
use Rattle.table_folder.proofs.Syncing.{fewer_synced, open_synced}
use Rattle.table_folder.proofs.synced_law.what_was_answered_is_found.Goals as goal

pub returns : goal.returns
returns g c = λ d from files image bytes sure left begins accepted same all synced known covered safe leaves none joined.
    let disk = c.args.disk.now in
    fewer_synced d from bytes disk.log.synced c.args.mark.bytes image (omega (arith, synced, covered))
    (open_synced d from files image bytes c.args.logged.now.table sure left disk.texts.base (g.F.LogFiles.contents disk.disk.files) disk.next disk.log (g.F.LogFiles.may_leave disk.disk.files) begins
    accepted same (all ∙ known) disk.sure safe leaves none joined)
