use Rattle.std.proofs.Common.{subst, arith}
use Rattle.checked_disk.specs.Safe.{entries_of}
use Rattle.checked_disk.specs.Stands.{Stands}
use Rattle.checked_log.specs.declared.recovery.Link.{Link}
use Rattle.table_folder.proofs.Joining.{goes_on_front}
use Rattle.table_folder.proofs.Sure.{safe_left}
use Rattle.table_folder.proofs.start_law.an_open_log_goes_on.Goals as goal

pub returns : goal.returns
returns g c = λ d from files image t sure left begins accepted same safe leaves none joined.
    let disk = c.args.disk.now in
    let contents = g.F.LogFiles.contents disk.disk.files in
    let stands : Stands from.link (entries_of from.link contents) sure left =
    subst (λ (base : Link). Stands base (entries_of base contents) sure left) same
    (safe_left disk.texts.base contents disk.next disk.log.durable sure (g.F.LogFiles.may_leave disk.disk.files) left safe leaves) in
    goes_on_front d from files image (entries_of from.link contents) t sure left begins accepted (sure, omega arith, stands) none joined
