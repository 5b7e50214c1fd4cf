use Rattle.table_folder.proofs.Installed.{cleared_gone, cleared_seen}
use Rattle.table_folder.proofs.Readying.{ok_so}
use Rattle.table_folder.proofs.installing.clear.Goals as goal

pub returns-clause-seen : goal.returns-clause-seen
returns-clause-seen g c = ok_so c.settle_names.result _ (λ files sees lacks.
    let F = g.F.Folder in
    cleared_seen files (F.seen c.args.folder.now) (F.seen c.clear_logs.new.folder) (F.seen c.clear_name.new.folder) (F.seen c.clear_name-2.new.folder) (F.seen c.settle_names.new.folder)
    (F.has c.clear_logs.new.folder) (F.has c.clear_name.new.folder) (F.has c.clear_name-2.new.folder) (F.has c.settle_names.new.folder) sees
    c.clear_logs.ensures.others (c.in_ok-clear_logs.ensures.gone files sees lacks)
    c.clear_name.ensures.others c.clear_name.ensures.stays c.in_ok-clear_name.ensures.gone
    c.clear_name-2.ensures.others c.clear_name-2.ensures.stays c.in_ok-clear_name-2.ensures.gone
    c.settle_names.ensures.seen c.settle_names.ensures.left)

pub returns-clause-gone : goal.returns-clause-gone
returns-clause-gone g c = ok_so c.settle_names.result _ (λ files sees lacks.
    let F = g.F.Folder in
    cleared_gone files (F.seen c.args.folder.now) (F.seen c.clear_logs.new.folder) (F.seen c.clear_name.new.folder) (F.seen c.clear_name-2.new.folder) (F.seen c.settle_names.new.folder)
    (F.has c.clear_logs.new.folder) (F.has c.clear_name.new.folder) (F.has c.clear_name-2.new.folder) (F.has c.settle_names.new.folder) sees
    c.clear_logs.ensures.others (c.in_ok-clear_logs.ensures.gone files sees lacks)
    c.clear_name.ensures.others c.clear_name.ensures.stays c.in_ok-clear_name.ensures.gone
    c.clear_name-2.ensures.others c.clear_name-2.ensures.stays c.in_ok-clear_name-2.ensures.gone
    c.settle_names.ensures.seen c.settle_names.ensures.left)
