use Rattle.table_folder.proofs.Making.{made, none_found}
use Rattle.table_folder.proofs.settling.make_absent.Goals as goal

pub returns-in-Ok-clause-runs : goal.returns-in-Ok-clause-runs
returns-in-Ok-clause-runs g c =
    let F = g.F.Folder in
    let old = c.args.folder.now in
    made F.was F.has F.moment F.left_since (F.seen old) old c.make.new.self c.args.name (g.met.F.Folder.only_now old) c.make.ensures.crash c.make.ensures.time
    (λ n is. none_found g.F.File.LogFile.contents (F.seen old) c.args.name n c.in-Ok-None.field-0 c.in-Ok-None.field-0-is c.in-Ok-None.ensures.seen is)

pub returns-in-Err-make-clause-runs : goal.returns-in-Err-make-clause-runs
returns-in-Err-make-clause-runs g c =
    let F = g.F.Folder in
    let old = c.args.folder.now in
    made F.was F.has F.moment F.left_since (F.seen old) old c.make.new.self c.args.name (g.met.F.Folder.only_now old) c.make.ensures.crash c.make.ensures.time
    (λ n is. none_found g.F.File.LogFile.contents (F.seen old) c.args.name n c.in-Ok-None.field-0 c.in-Ok-None.field-0-is c.in-Ok-None.ensures.seen is)
