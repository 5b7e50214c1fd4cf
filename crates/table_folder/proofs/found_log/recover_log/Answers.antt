use Rattle.std.proofs.Common.{ℕ, Option, ap, ◌∙◌}
use Rattle.table_folder.specs.Opened.{bytes_in}
use Rattle.table_folder.specs.declared.name.FileName.TheVariants.{Log}
use Rattle.table_folder.proofs.found_log.recover_log.Goals as goal

pub returns-in-Err-recover-clause-refused : goal.returns-in-Err-recover-clause-refused
returns-in-Err-recover-clause-refused g c x r is opens =
    let known = c.in-Ok.ensures.log_bytes x (ap (λ (b : Option ℕ). g.F.Folder.seen c.args.folder.now (Log b)) c.state-begin.ensures ∙ is) in
    c.of_recovery.ensures c.args.base.link c.args.marks.mark (bytes_in x) r (c.in-Err-recover.ensures.refused (bytes_in x) known) opens
